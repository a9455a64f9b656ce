use Rattle.std.proofs.Common.{refl}
use Rattle.cd_acts.specs.View.{letter_of}
use Rattle.cd_acts.proofs.Lists.{map_remove}
use Rattle.cd_acts.proofs.state.State.take_letter.Goals as goal

pub returns-clause-state : goal.returns-clause-state
returns-clause-state c = rw (c.take.ensures.rest, map_remove letter_of c.args.self.now.waiting c.args.place) refl
