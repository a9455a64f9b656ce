use Rattle.std.proofs.Common.{drop, sym, ◌∙◌, ◌+◌}
use Rattle.cd_lex.specs.Bytes.{is_dollar}
use Rattle.cd_lex.specs.Scans.{Ends, IsMarked}
use Rattle.cd_lex.specs.Tokens.{IsLower, BeginsNo, One}
use Rattle.cd_lex.proofs.FormLemmas.{answer, no_one, no_one_end, mark_there, mark_absent, nothing_marked, nothing_unmarked}
use Rattle.cd_lex.proofs.WordLemmas.{dollar_apart}
use Rattle.cd_lex.proofs.words.marked_end.Goals as goal
use Rattle.cd_lex.proofs.words.marked_end.Goals.{else-at-bytes-via-then-at-bytes+else-is_dollar, else-at-bytes-via-else-at-bytes}

pub returns-then-is_dollar-clause-longest : goal.returns-then-is_dollar-clause-longest
returns-then-is_dollar-clause-longest c =
    let bytes = c.args.bytes.now in
    let at = c.args.at in
    let passes = sym c.is_dollar.ensures ∙ c.if-is_dollar.true in
    answer c.lower_end.result (BeginsNo IsLower (drop (at + 1) bytes)) (BeginsNo IsMarked (drop at bytes)) (Ends IsLower (drop (at + 1) bytes) (at + 1)) (Ends IsMarked (drop at bytes) at)
    (nothing_marked is_dollar IsLower dollar_apart bytes at c.if-at-bytes.true passes)
    (λ end r. mark_there is_dollar IsLower dollar_apart bytes at end c.if-at-bytes.true passes r)
    c.lower_end.ensures.longest

pub returns-clause-longest : goal.returns-clause-longest
returns-clause-longest c =
    let bytes = c.args.bytes.now in
    let at = c.args.at in
    let none : BeginsNo (One is_dollar) (drop at bytes) = elim c.else-at-bytes.branch [
      | else-at-bytes-via-then-at-bytes+else-is_dollar w ↦ no_one is_dollar bytes at w.if-at-bytes.true (sym w.is_dollar.ensures ∙ w.if-is_dollar.false)
      | else-at-bytes-via-else-at-bytes w ↦ no_one_end is_dollar bytes at w.if-at-bytes.false
    ] in
    answer c.lower_end-2.result (BeginsNo IsLower (drop at bytes)) (BeginsNo IsMarked (drop at bytes)) (Ends IsLower (drop at bytes) at) (Ends IsMarked (drop at bytes) at)
    (nothing_unmarked is_dollar IsLower dollar_apart bytes at none)
    (λ end r. mark_absent is_dollar IsLower dollar_apart bytes at end none r)
    c.lower_end-2.ensures.longest
