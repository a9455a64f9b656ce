use Rattle.std.proofs.Common.{sym, ◌∙◌, inl, inr, drop}
use Rattle.cd_lex.specs.declared.TokenKind.TheVariants.{Number}
use Rattle.cd_lex.proofs.KindLemmas.{own_token, unequal_token, no_unequal_at, sign_token, other_token, stray_byte}
use Rattle.cd_lex.proofs.short_end.Goals as goal
use Rattle.cd_lex.proofs.short_end.Goals.{else-byte-eq33-via-then-byte-eq33+then-at-bytes+else-bytes-at-eq61, else-byte-eq33-via-then-byte-eq33+else-at-bytes, else-byte-eq33-via-else-byte-eq33}

pub returns-in-Some-clause-token : goal.returns-in-Some-clause-token
returns-in-Some-clause-token c = own_token Number (λ e. cc) (λ e. cc) (drop c.args.at c.args.bytes.now) c.args.at c.in-Some.end c.in-Some.ensures.longest

pub returns-then-bytes-at-eq61-clause-token : goal.returns-then-bytes-at-eq61-clause-token
returns-then-bytes-at-eq61-clause-token c = unequal_token c.args.bytes.now c.args.at c.if-at-bytes.true c.if-byte-eq33.true c.if-bytes-at-eq61.true

pub returns-then-is_sign-clause-token : goal.returns-then-is_sign-clause-token
returns-then-is_sign-clause-token c =
    sign_token c.args.bytes.now c.args.at c.requires.within (sym c.is_sign.ensures ∙ c.if-is_sign.true) c.in_default.ensures.longest
    (no_unequal_at c.args.bytes.now c.args.at c.requires.within (elim c.else-byte-eq33.branch [
      | else-byte-eq33-via-then-byte-eq33+then-at-bytes+else-bytes-at-eq61 w ↦ inr (inr w.if-bytes-at-eq61.false)
      | else-byte-eq33-via-then-byte-eq33+else-at-bytes w ↦ inr (inl w.if-at-bytes.false)
      | else-byte-eq33-via-else-byte-eq33 w ↦ inl w.if-byte-eq33.false
    ]))

pub returns-then-is_other-clause-token : goal.returns-then-is_other-clause-token
returns-then-is_other-clause-token c =
    other_token c.args.bytes.now c.args.at c.requires.within (sym c.is_other.ensures ∙ c.if-is_other.true) c.in_default.ensures.longest
    (no_unequal_at c.args.bytes.now c.args.at c.requires.within (elim c.else-byte-eq33.branch [
      | else-byte-eq33-via-then-byte-eq33+then-at-bytes+else-bytes-at-eq61 w ↦ inr (inr w.if-bytes-at-eq61.false)
      | else-byte-eq33-via-then-byte-eq33+else-at-bytes w ↦ inr (inl w.if-at-bytes.false)
      | else-byte-eq33-via-else-byte-eq33 w ↦ inl w.if-byte-eq33.false
    ]))

pub returns-clause-token : goal.returns-clause-token
returns-clause-token c =
    stray_byte c.args.bytes.now c.args.at c.requires.within c.requires.no_gap c.requires.no_word (sym c.is_sign.ensures ∙ c.if-is_sign.false)
    (sym c.is_other.ensures ∙ c.if-is_other.false) c.in_default.ensures.longest
    (no_unequal_at c.args.bytes.now c.args.at c.requires.within (elim c.else-byte-eq33.branch [
      | else-byte-eq33-via-then-byte-eq33+then-at-bytes+else-bytes-at-eq61 w ↦ inr (inr w.if-bytes-at-eq61.false)
      | else-byte-eq33-via-then-byte-eq33+else-at-bytes w ↦ inr (inl w.if-at-bytes.false)
      | else-byte-eq33-via-else-byte-eq33 w ↦ inl w.if-byte-eq33.false
    ]))
