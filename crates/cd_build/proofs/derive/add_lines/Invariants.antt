use Rattle.std.proofs.Common.{drop}
use Rattle.cd_build.proofs.Adding.{IsJoining}
use Rattle.cd_build.proofs.derive.add_lines.Given as goal

abbrev pub invariant-loop-step : goal.invariant-loop-step
invariant-loop-step l = IsJoining l.problem l.known l.numbers l.steps l.initial.lines l.before (drop l.step-index l.steps) l.lines
