use Rattle.std.proofs.Common.{◌+◌, Bool, refl, sym, ap, subst}
use Rattle.cd_peer.proofs.Plain.{plain_is}
use Rattle.cd_replay.specs.Replayed.{Decides, replayed}
use Rattle.cd_replay.specs.Replays.{LeadsTo}
use Rattle.cd_replay.proofs.Runs.{memory_alone, plain_never, plain_step, run_all, run_more, run_stops, starts_run, starts_whole}
use Rattle.cd_replay.proofs.replaying.replay.Goals as goal

pub loop-event-init : goal.loop-event-init
loop-event-init c = record {
  whole =
      starts_whole c.args.problem.now c.args.me c.args.peers c.args.policy c.args.limits (record { state = c.in_ok-state.state; owed = c.new.result }) c.in_ok-state.ensures.start c.new.ensures c.plain-order.result
      (c.premises_meet.ensures c.plain-order.result) (c.starts_go.ensures c.plain-order.result) c.requires.fit c.requires.some c.in_ok-state.ensures.indexed;
  run = starts_run c.args.problem.now c.args.me c.args.peers c.args.policy c.args.limits (record { state = c.in_ok-state.state; owed = c.new.result }) c.in_ok-state.ensures.start c.new.ensures;
  counted = refl;
}

pub returns-in_err-legal : goal.returns-in_err-legal
returns-in_err-legal c = memory_alone c.args.problem.now c.args.me c.args.peers c.args.policy c.args.limits c.args.journal.now c.from_residual-in_err-legal.result c.from_residual-in_err-legal.ensures.1

pub returns-then-not-legal : goal.returns-then-not-legal
returns-then-not-legal c =
    run_stops c.args.problem.now c.args.me c.args.peers c.args.policy c.args.limits c.args.journal.now c.loop-event.event-index c.event-item.result c.loop-event-test.true c.event-item.is (replayed c.loop-event.replayer)
    c.loop-event.invariant.run c.loop-event.index c.loop-event.invariant.counted
    (plain_never c.plain-order.result (plain_is c.plain-order.result c.plain-order.ensures.weights c.plain-order.ensures.ranks c.plain-order.ensures.select) c.args.problem.now (replayed c.loop-event.replayer) c.event-item.result
    (subst (λ (b : Bool). Decides c.plain-order.result c.args.problem.now (replayed c.loop-event.replayer) c.event-item.result c.judge.new.self b) c.if-not-legal.true c.in_ok-legal.ensures))

pub loop-event-preserved : goal.loop-event-preserved
loop-event-preserved c =
    let x = subst (λ (b : Bool). Decides c.plain-order.result c.args.problem.now (replayed c.loop-event.replayer) c.event-item.result c.judge.new.self b) c.if-not-legal.false c.in_ok-legal.ensures in
    record {
      whole = x.1;
      run =
          run_more c.args.problem.now c.args.me c.args.peers c.args.policy c.args.limits c.args.journal.now c.loop-event.event-index c.event-item.result c.loop-event-test.true c.event-item.is (replayed c.loop-event.replayer)
          c.loop-event.invariant.run (replayed c.judge.new.self)
          (plain_step c.plain-order.result (plain_is c.plain-order.result c.plain-order.ensures.weights c.plain-order.ensures.ranks c.plain-order.ensures.select) c.args.problem.now (replayed c.loop-event.replayer) c.event-item.result
          (replayed c.judge.new.self) x.0);
      counted = ap (λ n. n + 1) c.loop-event.invariant.counted;
    }

pub returns : goal.returns
returns c =
    subst (LeadsTo c.args.problem.now c.args.me c.args.peers c.args.policy c.args.limits c.args.journal.now) (sym c.in_ok-local.ensures)
    (run_all c.args.problem.now c.args.me c.args.peers c.args.policy c.args.limits c.args.journal.now c.loop-event.event-index (replayed c.loop-event.replayer) c.loop-event-test.false c.loop-event.invariant.run)
