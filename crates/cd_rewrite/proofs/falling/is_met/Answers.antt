use Rattle.std.proofs.Common.{inl, inr}
use Rattle.cd_rewrite.proofs.falling.is_met.Goals as goal

pub returns-then-not-wanted : goal.returns-then-not-wanted
returns-then-not-wanted c = (λ e. absurd (cc), λ _. inl c.if-not-wanted.true)

pub returns-then-not-may_lower : goal.returns-then-not-may_lower
returns-then-not-may_lower c = (
  λ e. absurd (cc),
  λ _. inr (λ k l lt at path u there p. c.may_lower.ensures c.if-not-may_lower.true c.args.order.now u p.1.0 p.1.1),
)

pub returns : goal.returns
returns c = (λ e. c.in_ok-found.ensures.0 e, λ e. inr (c.in_ok-found.ensures.1 e))
