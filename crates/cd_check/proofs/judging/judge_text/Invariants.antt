use Rattle.std.proofs.Common.{◌≡◌, ◌+◌, ◌≤◌, [], length}
use Rattle.cd_check.specs.declared.verdict.Verdict.{Verdict}
use Rattle.cd_check.specs.Accepted.{lines_of}
use Rattle.cd_check.specs.Judged.{Judged}
use Rattle.cd_check.proofs.judging.judge_text.Given as goal

abbrev pub invariant-loop-rest : goal.invariant-loop-rest
invariant-loop-rest l = record {
  judged : (v : Verdict) → Judged l.problem l.clauses l.line (lines_of l.rest) v → Judged l.problem [] 0 (lines_of l.text) v;
  size : l.line + length l.rest ≤ length l.text;
  few : length l.clauses ≤ l.line;
}

abbrev pub decreases-loop-rest : goal.decreases-loop-rest
decreases-loop-rest l = length l.rest
