use Rattle.std.proofs.Common.{drop, sym, ◌∙◌, ◌+◌}
use Rattle.cd_lex.specs.Bytes.{is_plus_or_minus}
use Rattle.cd_lex.specs.Scans.{Ends}
use Rattle.cd_lex.specs.Tokens.{IsDigits, IsInteger, BeginsNo, One}
use Rattle.cd_lex.proofs.FormLemmas.{answer, no_one, no_one_end, mark_there, mark_absent, nothing_marked, nothing_unmarked}
use Rattle.cd_lex.proofs.NumberLemmas.{sign_apart}
use Rattle.cd_lex.proofs.numbers.integer_end.Goals as goal
use Rattle.cd_lex.proofs.numbers.integer_end.Goals.{else-at-bytes-via-then-at-bytes+else-is_plus_or_minus, else-at-bytes-via-else-at-bytes}

pub returns-then-is_plus_or_minus-clause-longest : goal.returns-then-is_plus_or_minus-clause-longest
returns-then-is_plus_or_minus-clause-longest c =
    let bytes = c.args.bytes.now in
    let at = c.args.at in
    let passes = sym c.is_plus_or_minus.ensures ∙ c.if-is_plus_or_minus.true in
    answer c.digits_end.result (BeginsNo IsDigits (drop (at + 1) bytes)) (BeginsNo IsInteger (drop at bytes)) (Ends IsDigits (drop (at + 1) bytes) (at + 1)) (Ends IsInteger (drop at bytes) at)
    (nothing_marked is_plus_or_minus IsDigits sign_apart bytes at c.if-at-bytes.true passes)
    (λ end r. mark_there is_plus_or_minus IsDigits sign_apart bytes at end c.if-at-bytes.true passes r)
    c.digits_end.ensures.longest

pub returns-clause-longest : goal.returns-clause-longest
returns-clause-longest c =
    let bytes = c.args.bytes.now in
    let at = c.args.at in
    let none : BeginsNo (One is_plus_or_minus) (drop at bytes) = elim c.else-at-bytes.branch [
      | else-at-bytes-via-then-at-bytes+else-is_plus_or_minus w ↦ no_one is_plus_or_minus bytes at w.if-at-bytes.true (sym w.is_plus_or_minus.ensures ∙ w.if-is_plus_or_minus.false)
      | else-at-bytes-via-else-at-bytes w ↦ no_one_end is_plus_or_minus bytes at w.if-at-bytes.false
    ] in
    answer c.digits_end-2.result (BeginsNo IsDigits (drop at bytes)) (BeginsNo IsInteger (drop at bytes)) (Ends IsDigits (drop at bytes) at) (Ends IsInteger (drop at bytes) at)
    (nothing_unmarked is_plus_or_minus IsDigits sign_apart bytes at none)
    (λ end r. mark_absent is_plus_or_minus IsDigits sign_apart bytes at end none r)
    c.digits_end-2.ensures.longest
