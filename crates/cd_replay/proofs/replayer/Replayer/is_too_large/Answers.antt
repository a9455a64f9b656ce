use Rattle.std.proofs.Common.{Bool, sym, subst}
use Rattle.std.specs.Prelude.{◌↔◌, IsTrue}
use Rattle.cd_laws.specs.Turns.{IsTaskHere}
use Rattle.cd_list.proofs.Lists.{all_get}
use Rattle.cd_machine.specs.Turns.{TaskTooLarge}
use Rattle.cd_replay.specs.Replayed.{replayed}
use Rattle.cd_replay.proofs.Choosing.{task_ends}
use Rattle.cd_replay.proofs.replayer.Replayer.is_too_large.Goals as goal

pub returns : goal.returns
returns c =
    subst (λ (b : Bool). IsTrue b ↔ TaskTooLarge c.args.order.now (replayed c.args.self.now) c.args.task) (sym c.is_outside.ensures)
    (task_ends c.args.order.now (c.premises_meet.ensures c.args.order.now) (c.decisions_meet.ensures c.args.order.now) (replayed c.args.self.now) c.args.task
    (all_get (IsTaskHere c.args.self.now.state.known) c.args.self.now.owed c.requires.there.0 c.args.task c.requires.acts.ready.tasks c.requires.there.1) c.in_ok-concluded.concluded c.in_ok-concluded.ensures)
