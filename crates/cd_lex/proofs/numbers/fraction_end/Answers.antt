use Rattle.std.proofs.Common.{drop, sym, subst, ◌∙◌, ℕ}
use Rattle.cd_lex.specs.Bytes.{is_point}
use Rattle.cd_lex.specs.Scans.{Ends}
use Rattle.cd_lex.specs.Tokens.{IsDigits, IsFraction, Optional}
use Rattle.cd_lex.proofs.FormLemmas.{no_one, no_one_end, part_some, part_none, no_part}
use Rattle.cd_lex.proofs.numbers.fraction_end.Goals as goal
use Rattle.cd_lex.proofs.numbers.fraction_end.Goals.{else-at-bytes-via-then-at-bytes+else-is_point, else-at-bytes-via-else-at-bytes, in-Some, in-None}

pub returns-then-is_point-clause-longest : goal.returns-then-is_point-clause-longest
returns-then-is_point-clause-longest c =
    let bytes = c.args.bytes.now in
    let at = c.args.at in
    let P = λ (end : ℕ). Ends (Optional IsFraction) (drop at bytes) at end in
    elim c.match-digits_end.branch [
      | in-Some w ↦ subst P (sym w.result-is) (part_some is_point IsDigits bytes at w.in-Some.end c.if-at-bytes.true (sym c.is_point.ensures ∙ c.if-is_point.true) w.in-Some.ensures.longest)
      | in-None w ↦ subst P (sym w.result-is) (part_none is_point IsDigits bytes at c.if-at-bytes.true w.in-None.ensures.longest)
    ]

pub returns-clause-longest : goal.returns-clause-longest
returns-clause-longest c =
    let bytes = c.args.bytes.now in
    let at = c.args.at in
    no_part is_point IsDigits bytes at (elim c.else-at-bytes.branch [
      | else-at-bytes-via-then-at-bytes+else-is_point w ↦ no_one is_point bytes at w.if-at-bytes.true (sym w.is_point.ensures ∙ w.if-is_point.false)
      | else-at-bytes-via-else-at-bytes w ↦ no_one_end is_point bytes at w.if-at-bytes.false
    ])
