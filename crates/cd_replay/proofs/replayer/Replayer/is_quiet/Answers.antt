use Rattle.std.proofs.lemmas.Bool.{false≢true}
use Rattle.cd_acts.specs.View.{local_of}
use Rattle.cd_replay.proofs.Searching.{some_ready}
use Rattle.cd_replay.proofs.replayer.Replayer.is_quiet.Goals as goal

pub returns-in-Some : goal.returns-in-Some
returns-in-Some c = (λ e. absurd (false≢true e), λ q. absurd (some_ready (local_of c.args.self.now.state) c.in-Some._place c.in-Some.ensures q.waiting))
