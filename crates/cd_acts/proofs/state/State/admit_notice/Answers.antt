use Rattle.std.proofs.Common.{refl}
use Rattle.std.specs.Prelude.{None}
use Rattle.cd_acts.proofs.state.State.admit_notice.Goals as goal

pub returns-clause-does : goal.returns-clause-does
returns-clause-does c = λ o. record {
  forward = None;
  hit = λ e. None;
  hits = tt;
  effect = c.in_ok-lose.ensures.state;
  sends = rw (c.in_ok-lose.ensures.letters, c.new-letters.ensures) refl;
}
