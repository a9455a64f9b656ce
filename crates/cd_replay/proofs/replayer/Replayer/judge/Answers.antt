use Rattle.std.proofs.Common.{List, refl, subst}
use Rattle.std.specs.Prelude.{Option}
use Rattle.cd_ledger.specs.declared.letters.Letter.{Letter}
use Rattle.cd_replay.specs.Replayed.{IsDue, Judges, replayed}
use Rattle.cd_replay.proofs.Runs.{can_act, makes_step, stays_whole}
use Rattle.cd_replay.proofs.replayer.Replayer.judge.Goals as goal

pub act-requires : goal.act-requires
act-requires c = can_act c.usable.ensures c.args.order.now c.args.problem.now c.args.self.now c.requires

pub returns-in_ok-enter-in-Some : goal.returns-in_ok-enter-in-Some
returns-in_ok-enter-in-Some c =
    let now = c.if-not-is_due.ensures.0 refl in
    let due : IsDue (replayed c.args.self.now) c.args.event.now = record { running = now.running; own = now.own; time = now.time } in
    let done = subst (λ (o : Option (List Letter)). Judges c.args.order.now c.args.problem.now (replayed c.args.self.now) c.args.event.now.time c.args.event.now.act c.act.new.self o) c.in-Some.is c.in_ok-act.ensures in (
      makes_step c.args.order.now c.args.problem.now (replayed c.args.self.now) c.args.event.now due c.act.new.self c.enter.new.self c.in-Some.letters done c.in_ok-enter-in-Some.ensures.ok,
      stays_whole c.args.order.now c.args.problem.now (replayed c.args.self.now) c.args.event.now due c.act.new.self c.enter.new.self c.in-Some.letters done c.in_ok-enter-in-Some.ensures.ok
          (c.premises_meet.ensures c.args.order.now) (c.events_keep_going.ensures c.args.order.now) c.requires.going c.in_ok-enter-in-Some.ensures.drained,
    )
