use Rattle.std.proofs.Common.{sym, ◌∙◌, subst, ℕ, drop}
use Rattle.cd_lex.specs.Bytes.{is_lower, is_upper}
use Rattle.cd_lex.specs.declared.TokenKind.TheVariants.{Lower, Upper, Dollar}
use Rattle.cd_lex.specs.Scans.{EndsQuoted}
use Rattle.cd_lex.proofs.WordLemmas.{word_at}
use Rattle.cd_lex.proofs.KindLemmas.{own_token, stray_dollar, quoted_token, object_token}
use Rattle.cd_lex.proofs.token_end.Goals as goal

pub returns-then-is_lower-clause-token : goal.returns-then-is_lower-clause-token
returns-then-is_lower-clause-token c =
    own_token Lower (λ e. cc) (λ e. cc) (drop c.args.at c.args.bytes.now) c.args.at c.word_end.result
    (word_at is_lower c.args.bytes.now c.args.at c.word_end.result c.requires.within (sym c.is_lower.ensures ∙ c.if-is_lower.true) c.word_end.ensures.run)

pub returns-then-is_upper-clause-token : goal.returns-then-is_upper-clause-token
returns-then-is_upper-clause-token c =
    own_token Upper (λ e. cc) (λ e. cc) (drop c.args.at c.args.bytes.now) c.args.at c.word_end-then-is_upper.result
    (word_at is_upper c.args.bytes.now c.args.at c.word_end-then-is_upper.result c.requires.within (sym c.is_upper.ensures ∙ c.if-is_upper.true) c.word_end-then-is_upper.ensures.run)

pub returns-in-Some-clause-token : goal.returns-in-Some-clause-token
returns-in-Some-clause-token c = own_token Dollar (λ e. cc) (λ e. cc) (drop c.args.at c.args.bytes.now) c.args.at c.in-Some.end c.in-Some.ensures.longest

pub returns-in-None-clause-token : goal.returns-in-None-clause-token
returns-in-None-clause-token c =
    stray_dollar c.args.bytes.now c.args.at c.requires.within c.requires.no_gap (sym c.is_dollar.ensures ∙ c.if-is_dollar.true) c.in-None.ensures.longest

pub returns-then-byte-eq39-clause-token : goal.returns-then-byte-eq39-clause-token
returns-then-byte-eq39-clause-token c =
    quoted_token (drop c.args.at c.args.bytes.now) c.args.at c.in_ok-end.end
    (subst (λ (q : ℕ). EndsQuoted q (drop c.args.at c.args.bytes.now) c.args.at c.in_ok-end.end) c.if-byte-eq39.true c.in_ok-end.ensures.quoted)

pub returns-then-byte-eq34-clause-token : goal.returns-then-byte-eq34-clause-token
returns-then-byte-eq34-clause-token c =
    object_token (drop c.args.at c.args.bytes.now) c.args.at c.in_ok-end-2.end
    (subst (λ (q : ℕ). EndsQuoted q (drop c.args.at c.args.bytes.now) c.args.at c.in_ok-end-2.end) c.if-byte-eq34.true c.in_ok-end-2.ensures.quoted)
