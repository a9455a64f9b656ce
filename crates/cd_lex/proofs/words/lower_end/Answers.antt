use Rattle.std.proofs.Common.{drop, sym, ◌∙◌}
use Rattle.cd_lex.specs.Bytes.{is_lower, is_word_byte}
use Rattle.cd_lex.specs.Tokens.{One, Many}
use Rattle.cd_lex.proofs.FormLemmas.{no_one, no_one_end, no_then}
use Rattle.cd_lex.proofs.WordLemmas.{word_at}
use Rattle.cd_lex.proofs.words.lower_end.Goals as goal
use Rattle.cd_lex.proofs.words.lower_end.Goals.{else-at-bytes-via-then-at-bytes+else-is_lower, else-at-bytes-via-else-at-bytes}

pub returns-then-is_lower-clause-longest : goal.returns-then-is_lower-clause-longest
returns-then-is_lower-clause-longest c =
    word_at is_lower c.args.bytes.now c.args.at c.word_end.result c.if-at-bytes.true (sym c.is_lower.ensures ∙ c.if-is_lower.true) c.word_end.ensures.run

pub returns-clause-longest : goal.returns-clause-longest
returns-clause-longest c =
    let bytes = c.args.bytes.now in
    let at = c.args.at in
    no_then (One is_lower) (Many is_word_byte) (drop at bytes) (elim c.else-at-bytes.branch [
      | else-at-bytes-via-then-at-bytes+else-is_lower w ↦ no_one is_lower bytes at w.if-at-bytes.true (sym w.is_lower.ensures ∙ w.if-is_lower.false)
      | else-at-bytes-via-else-at-bytes w ↦ no_one_end is_lower bytes at w.if-at-bytes.false
    ])
