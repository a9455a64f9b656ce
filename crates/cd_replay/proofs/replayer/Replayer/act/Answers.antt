use Rattle.std.proofs.Common.{sym, subst}
use Rattle.cd_ledger.specs.declared.events.Act.{Act}
use Rattle.cd_replay.specs.Replayed.{Judges, replayed}
use Rattle.cd_replay.proofs.replayer.Replayer.act.Goals as goal

pub returns-in_ok-letters-in-Rewrite : goal.returns-in_ok-letters-in-Rewrite
returns-in_ok-letters-in-Rewrite c =
    subst (λ (a : Act). Judges c.args.order.now c.args.problem.now (replayed c.args.self.now) c.args.time a c.rewrite.new.self c.in_ok-letters-in-Rewrite.letters) (sym c.in-Rewrite.is)
    (c.in_ok-letters-in-Rewrite.ensures c.args.problem.now c.args.time)

pub returns-in_ok-letters-in-Keep : goal.returns-in_ok-letters-in-Keep
returns-in_ok-letters-in-Keep c =
    subst (λ (a : Act). Judges c.args.order.now c.args.problem.now (replayed c.args.self.now) c.args.time a c.keep.new.self c.in_ok-letters-in-Keep.letters) (sym c.in-Keep.is)
    (c.in_ok-letters-in-Keep.ensures c.args.problem.now)

pub returns-in_ok-letters-in-Receive : goal.returns-in_ok-letters-in-Receive
returns-in_ok-letters-in-Receive c =
    subst (λ (a : Act). Judges c.args.order.now c.args.problem.now (replayed c.args.self.now) c.args.time a c.receive.new.self c.in_ok-letters-in-Receive.letters) (sym c.in-Receive.is)
    (c.in_ok-letters-in-Receive.ensures c.args.order.now c.args.problem.now c.args.time)

pub returns-in_ok-letters-in-Reject : goal.returns-in_ok-letters-in-Reject
returns-in_ok-letters-in-Reject c =
    subst (λ (a : Act). Judges c.args.order.now c.args.problem.now (replayed c.args.self.now) c.args.time a c.reject.new.self c.in_ok-letters-in-Reject.letters) (sym c.in-Reject.is)
    (c.in_ok-letters-in-Reject.ensures c.args.time)

pub returns-in_ok-letters-in-Work : goal.returns-in_ok-letters-in-Work
returns-in_ok-letters-in-Work c =
    subst (λ (a : Act). Judges c.args.order.now c.args.problem.now (replayed c.args.self.now) c.args.time a c.work.new.self c.in_ok-letters-in-Work.letters) (sym c.in-Work.is)
    (c.in_ok-letters-in-Work.ensures c.args.problem.now c.args.time)

pub returns-in_ok-letters-in-Pass : goal.returns-in_ok-letters-in-Pass
returns-in_ok-letters-in-Pass c =
    subst (λ (a : Act). Judges c.args.order.now c.args.problem.now (replayed c.args.self.now) c.args.time a c.pass.new.self c.in_ok-letters-in-Pass.letters) (sym c.in-Pass.is)
    (c.in_ok-letters-in-Pass.ensures c.args.order.now c.args.problem.now)

pub returns-in_ok-letters-in-End : goal.returns-in_ok-letters-in-End
returns-in_ok-letters-in-End c =
    subst (λ (a : Act). Judges c.args.order.now c.args.problem.now (replayed c.args.self.now) c.args.time a c.end.new.self c.in_ok-letters-in-End.letters) (sym c.in-End.is)
    (c.in_ok-letters-in-End.ensures c.args.problem.now c.args.time)

pub returns-in-Declare : goal.returns-in-Declare
returns-in-Declare c =
    subst (λ (a : Act). Judges c.args.order.now c.args.problem.now (replayed c.args.self.now) c.args.time a c.declare.new.self c.declare.result) (sym c.in-Declare.is)
    (c.declare.ensures c.args.order.now c.args.problem.now c.args.time)
