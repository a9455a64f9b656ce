use Rattle.std.proofs.Common.{arith, subst}
use Rattle.cd_acts.specs.Answers.{IsConcluded}
use Rattle.cd_acts.specs.View.{local_of}
use Rattle.cd_acts.specs.declared.rules.Concluded.{Concluded}
use Rattle.cd_laws.specs.Turns.{IsTaskHere}
use Rattle.cd_list.proofs.Lists.{all_get}
use Rattle.cd_machine.specs.Right.{registry_of}
use Rattle.cd_peer.proofs.Firsts.{conclusions_there, may_work, spent_task, task_bounds, task_known}
use Rattle.cd_peer.proofs.choosing.choose_task.Goals as goal

pub returns-then-state : goal.returns-then-state
returns-then-state c = λ p. spent_task c.args.order.now (local_of c.args.state.now) c.requires.none c.requires.pending c.args.task c.requires.there c.if-state.true

pub conclude-requires-clause-known : goal.conclude-requires-clause-known
conclude-requires-clause-known c =
    task_known c.args.state.now.known c.args.task (all_get (IsTaskHere c.args.state.now.known) (local_of c.args.state.now).owed 0 c.args.task c.requires.ready.tasks c.requires.there)

pub returns-in-Found : goal.returns-in-Found
returns-in-Found c = λ p.
    (let x = subst (λ (r : Concluded). IsConcluded c.args.order.now (registry_of (local_of c.args.state.now)) c.args.task r) c.in-Found.is c.in_ok-concluded.ensures in (
      c.requires.none,
      c.requires.pending,
      may_work c.args.order.now (local_of c.args.state.now) c.requires.none c.requires.pending c.args.task c.requires.there c.in-Found.found x.0 x.1 (omega (arith, c.requires.ready.units, c.if-state.false)),
    ))

pub returns-in-TooLarge : goal.returns-in-TooLarge
returns-in-TooLarge c = λ p.
    (let x = subst (λ (r : Concluded). IsConcluded c.args.order.now (registry_of (local_of c.args.state.now)) c.args.task r) c.in-TooLarge.is c.in_ok-concluded.ensures in
    let here = all_get (IsTaskHere c.args.state.now.known) (local_of c.args.state.now).owed 0 c.args.task c.requires.ready.tasks c.requires.there in
    let f = conclusions_there c.args.order.now (c.decisions_meet.ensures c.args.order.now) (local_of c.args.state.now) c.args.task here in
    task_bounds c.args.order.now (local_of c.args.state.now) c.requires.none c.requires.pending c.args.task c.requires.there f.0 f.1 (x f.0 f.1) (omega (arith, c.requires.ready.units, c.if-state.false)))
