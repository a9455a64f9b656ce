use Rattle.cd_rewrite.specs.Walks.{FallsFrom}
use Rattle.cd_rewrite.proofs.FirstPlaces.{none_in_truth, none_in_predicate, none_in_equation}
use Rattle.cd_rewrite.proofs.Idle.{some_in_predicate, some_in_left, some_in_right}
use Rattle.cd_rewrite.proofs.falling.falls_in_atom.Goals as goal

pub returns-in-Truth : goal.returns-in-Truth
returns-in-Truth c = (λ e. absurd (cc), λ _. none_in_truth (FallsFrom c.args.order.now c.args.from.now c.args.to.now) c.args.atom.now c.in-Truth.is)

pub returns-in_ok-found-in-Pred : goal.returns-in_ok-found-in-Pred
returns-in_ok-found-in-Pred c = (
  λ e. some_in_predicate (FallsFrom c.args.order.now c.args.from.now c.args.to.now) c.args.atom.now _ _ _ c.in-Pred.is c.as_slice.ensures (c.in_ok-found-in-Pred.ensures.0 e),
  λ e. none_in_predicate (FallsFrom c.args.order.now c.args.from.now c.args.to.now) c.args.atom.now _ _ _ c.in-Pred.is c.as_slice.ensures (c.in_ok-found-in-Pred.ensures.1 e),
)

pub returns-then-first : goal.returns-then-first
returns-then-first c = (
  λ _. some_in_left (FallsFrom c.args.order.now c.args.from.now c.args.to.now) c.args.atom.now _ _ c.in-Equal.is (c.in_ok-first-in-Equal.ensures.0 c.if-first.true),
  λ e. absurd (cc),
)

pub returns-in_ok-second-in-Equal : goal.returns-in_ok-second-in-Equal
returns-in_ok-second-in-Equal c = (
  λ e. some_in_right (FallsFrom c.args.order.now c.args.from.now c.args.to.now) c.args.atom.now _ _ c.in-Equal.is (c.in_ok-second-in-Equal.ensures.0 e),
  λ e. none_in_equation (FallsFrom c.args.order.now c.args.from.now c.args.to.now) c.args.atom.now _ _ c.in-Equal.is (c.in_ok-first-in-Equal.ensures.1 c.if-first.false)
      (c.in_ok-second-in-Equal.ensures.1 e),
)
