use Rattle.std.proofs.Common.{refl, subst}
use Rattle.std.specs.Prelude.{Option}
use Rattle.cd_acts.specs.View.{local_of}
use Rattle.cd_peer.specs.Turns.{Makes}
use Rattle.cd_peer.specs.declared.making.Made.{Made}
use Rattle.cd_peer.proofs.Stamps.{turns}
use Rattle.cd_peer.proofs.Whole.{going_turned, sensible_of, whole_same}
use Rattle.cd_peer.proofs.turning.turn_by.Goals as goal

pub choose-requires-clause-sensible : goal.choose-requires-clause-sensible
choose-requires-clause-sensible c = sensible_of c.usable.ensures c.args.order.now c.args.problem.now (local_of c.args.state.now) c.requires.whole.going

pub make-requires-clause-sensible : goal.make-requires-clause-sensible
make-requires-clause-sensible c = sensible_of c.usable.ensures c.args.order.now c.args.problem.now (local_of c.args.state.now) c.requires.whole.going

pub make-requires-clause-choice : goal.make-requires-clause-choice
make-requires-clause-choice c = (c.args.problem.now, c.in_ok-choice.ensures)

pub returns-in-None-clause-ok : goal.returns-in-None-clause-ok
returns-in-None-clause-ok c =
    (let m = subst (λ (o : Option Made). Makes c.args.order.now c.args.problem.now (local_of c.args.state.now) c.saturating_add-time.result (local_of c.make.new.state) o) c.in-None.is (c.in_ok-make.ensures.ok c.args.problem.now c.in_ok-choice.ensures) in
    (m.0, m.1, refl))

pub returns-in-None-clause-whole : goal.returns-in-None-clause-whole
returns-in-None-clause-whole c =
    (let m = subst (λ (o : Option Made). Makes c.args.order.now c.args.problem.now (local_of c.args.state.now) c.saturating_add-time.result (local_of c.make.new.state) o) c.in-None.is (c.in_ok-make.ensures.ok c.args.problem.now c.in_ok-choice.ensures) in
    whole_same c.args.order.now c.args.problem.now c.args.state.now c.make.new.state c.in_ok-make.ensures.indexed m.1 c.requires.whole)

pub returns-in_ok-enter-in-Some-clause-ok : goal.returns-in_ok-enter-in-Some-clause-ok
returns-in_ok-enter-in-Some-clause-ok c = (
  c.in-Some.made.letters,
  turns c.args.order.now c.args.problem.now (local_of c.args.state.now) (local_of c.make.new.state) (local_of c.enter.new.state) c.saturating_add-time.result c.in-Some.made c.requires.running c.saturating_add-time.ensures
      (subst (λ (o : Option Made). Makes c.args.order.now c.args.problem.now (local_of c.args.state.now) c.saturating_add-time.result (local_of c.make.new.state) o) c.in-Some.is (c.in_ok-make.ensures.ok c.args.problem.now c.in_ok-choice.ensures))
      c.in_ok-enter-in-Some.ensures.ok,
  c.in_ok-enter-in-Some.ensures.out,
)

pub returns-in_ok-enter-in-Some-clause-whole : goal.returns-in_ok-enter-in-Some-clause-whole
returns-in_ok-enter-in-Some-clause-whole c = record {
  indexed = c.in_ok-enter-in-Some.ensures.indexed;
  going =
      going_turned c.args.order.now (c.premises_meet.ensures c.args.order.now) (c.events_keep_going.ensures c.args.order.now) c.args.problem.now (local_of c.args.state.now) (local_of c.enter.new.state) c.in-Some.made.letters
      (turns c.args.order.now c.args.problem.now (local_of c.args.state.now) (local_of c.make.new.state) (local_of c.enter.new.state) c.saturating_add-time.result c.in-Some.made c.requires.running c.saturating_add-time.ensures
      (subst (λ (o : Option Made). Makes c.args.order.now c.args.problem.now (local_of c.args.state.now) c.saturating_add-time.result (local_of c.make.new.state) o) c.in-Some.is (c.in_ok-make.ensures.ok c.args.problem.now c.in_ok-choice.ensures))
      c.in_ok-enter-in-Some.ensures.ok)
      c.requires.whole.going;
}
