use Rattle.std.proofs.Common.{sym, ◌∙◌}
use Rattle.std.proofs.lemmas.Bool.{false≢true}
use Rattle.cd_replay.specs.Replayed.{replayed}
use Rattle.cd_replay.proofs.Choosing.{ends_of}
use Rattle.cd_replay.proofs.replayer.Replayer.end.Goals as goal

pub returns-then-not-ends : goal.returns-then-not-ends
returns-then-not-ends c = λ p time f h. false≢true (sym c.if-not-ends.true ∙ c.in_ok-ends.ensures.1 (ends_of c.args.order.now (replayed c.args.self.now) c.args.verdict h))
