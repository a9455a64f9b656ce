use Rattle.std.proofs.Common.{drop, sym, subst, ◌∙◌, ℕ}
use Rattle.cd_lex.specs.Bytes.{is_exponent_letter}
use Rattle.cd_lex.specs.Scans.{Ends}
use Rattle.cd_lex.specs.Tokens.{IsInteger, IsExponent, Optional}
use Rattle.cd_lex.proofs.FormLemmas.{no_one, no_one_end, part_some, part_none, no_part}
use Rattle.cd_lex.proofs.numbers.exponent_end.Goals as goal
use Rattle.cd_lex.proofs.numbers.exponent_end.Goals.{else-at-bytes-via-then-at-bytes+else-is_exponent_letter, else-at-bytes-via-else-at-bytes, in-Some, in-None}

pub returns-then-is_exponent_letter-clause-longest : goal.returns-then-is_exponent_letter-clause-longest
returns-then-is_exponent_letter-clause-longest c =
    let bytes = c.args.bytes.now in
    let at = c.args.at in
    let P = λ (end : ℕ). Ends (Optional IsExponent) (drop at bytes) at end in
    elim c.match-integer_end.branch [
      | in-Some w ↦ subst P (sym w.result-is) (part_some is_exponent_letter IsInteger bytes at w.in-Some.end c.if-at-bytes.true (sym c.is_exponent_letter.ensures ∙ c.if-is_exponent_letter.true) w.in-Some.ensures.longest)
      | in-None w ↦ subst P (sym w.result-is) (part_none is_exponent_letter IsInteger bytes at c.if-at-bytes.true w.in-None.ensures.longest)
    ]

pub returns-clause-longest : goal.returns-clause-longest
returns-clause-longest c =
    let bytes = c.args.bytes.now in
    let at = c.args.at in
    no_part is_exponent_letter IsInteger bytes at (elim c.else-at-bytes.branch [
      | else-at-bytes-via-then-at-bytes+else-is_exponent_letter w ↦ no_one is_exponent_letter bytes at w.if-at-bytes.true (sym w.is_exponent_letter.ensures ∙ w.if-is_exponent_letter.false)
      | else-at-bytes-via-else-at-bytes w ↦ no_one_end is_exponent_letter bytes at w.if-at-bytes.false
    ])
