use Rattle.std.proofs.Common.{◌≡◌, drop}
use Rattle.cd_term.specs.Terms.{subterm}
use Rattle.cd_term.proofs.places.at_steps.Given as goal

abbrev pub invariant-loop-step : goal.invariant-loop-step
invariant-loop-step l = subterm (drop l.step-index l.path) l.here ≡ subterm l.path l.t
