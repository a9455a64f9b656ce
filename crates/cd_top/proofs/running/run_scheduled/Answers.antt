use Rattle.std.proofs.Common.{sym, subst}
use Rattle.cd_top.specs.Running.{AreStatesOf, HasRun}
use Rattle.cd_world.specs.Worlds.{world_of}
use Rattle.cd_top.proofs.Runs.{scheduled_run, starts_running}
use Rattle.cd_top.proofs.running.run_scheduled.Goals as goal

pub scheduled-requires-clause-running : goal.scheduled-requires-clause-running
scheduled-requires-clause-running c =
    starts_running c.args.problem.now c.args.options.now.policy (record { steps = c.args.options.now.steps }) (world_of c.in_ok-world.world.parts) (c.in_ok-world.ensures {u = tt}).starts

pub returns : goal.returns
returns c =
    let states = c.in_ok-states.states.items in
    subst (λ os. HasRun c.args.options.now c.args.problem.now states os) (sym c.into_parts-peers.ensures.order)
    (scheduled_run c.args.options.now c.args.problem.now c.args.seed c.in_ok-world.world c.scheduled.new.self states c.schedules_are_chosen.ensures c.requires.stated
    (c.in_ok-world.ensures {u = tt}) (c.in_ok-scheduled.ensures {u = tt}).ok
    (subst (λ ps. AreStatesOf c.args.problem.now ps states) c.into_parts-peers.ensures.peers (c.in_ok-states.ensures {u = tt})))
