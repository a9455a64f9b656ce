use Rattle.cd_acts.specs.View.{local_of}
use Rattle.cd_peer.proofs.Firsts.{first_there}
use Rattle.cd_peer.proofs.Outlook.{no_letter, some_letter}
use Rattle.cd_peer.proofs.readiness.first_letter.Goals as goal

pub returns-in-None : goal.returns-in-None
returns-in-None c = no_letter (local_of c.args.state.now) c.in-None.ensures

pub letter_at-requires : goal.letter_at-requires
letter_at-requires c = (c.in-Some.ensures.letter, first_there (local_of c.args.state.now) c.in-Some.place c.in-Some.ensures)

pub returns-in-Some : goal.returns-in-Some
returns-in-Some c = some_letter (local_of c.args.state.now) c.in-Some.place c.in-Some.ensures c.letter_at.result.now c.letter_at.ensures
