use Rattle.std.proofs.Common.{Bool, refl, sym, subst}
use Rattle.std.specs.Prelude.{◌↔◌, IsTrue}
use Rattle.cd_acts.specs.View.{local_of}
use Rattle.cd_replay.specs.Ends.{ItemEnds}
use Rattle.cd_replay.specs.Replayed.{replayed}
use Rattle.cd_replay.proofs.Choosing.{prospect_ends}
use Rattle.cd_replay.proofs.replayer.Replayer.item_ends.Goals as goal

pub returns : goal.returns
returns c =
    subst (λ (b : Bool). IsTrue b ↔ ItemEnds c.args.order.now (replayed c.args.self.now) c.args.verdict c.args.item.now) (sym c.ends_by.ensures)
    (prospect_ends c.args.order.now (c.decisions_meet.ensures c.args.order.now) (replayed c.args.self.now) c.args.item.now (local_of c.args.self.now.state) refl c.in_ok-prospect.prospect c.in_ok-prospect.ensures c.args.verdict)
