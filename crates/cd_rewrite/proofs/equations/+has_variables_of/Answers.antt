use Rattle.std.proofs.Common.{refl}
use Rattle.cd_rewrite.proofs.Sides.{variables_of_one, all_next, all_end, all_fails}
use Rattle.cd_rewrite.proofs.equations.+has_variables_of.Goals as goal

pub returns-then-not-has_variables_of : goal.returns-then-not-has_variables_of
returns-then-not-has_variables_of t c = (
  λ e. absurd (cc),
  λ all. absurd (all_fails c.args.from.now c.args.to.now _ _ _ _ _ _ c.in-App.is c.as_slice-arg-items.ensures c.loop-arg-test.true c.arg-item.is
      c.has_variables_of.ensures c.if-not-has_variables_of.true all),
)

pub loop-arg-preserved : goal.loop-arg-preserved
loop-arg-preserved t c =
    all_next c.args.from.now _ _ _ c.loop-arg-test.true c.arg-item.is c.loop-arg.invariant (c.has_variables_of.ensures.0 c.if-not-has_variables_of.false)

pub returns-in-Var : goal.returns-in-Var
returns-in-Var t c = variables_of_one c.args.from.now c.args.to.now _ _ c.in-Var.is c.occurs_in.ensures

pub returns-after-loop-arg : goal.returns-after-loop-arg
returns-after-loop-arg t c = (
  λ e. all_end c.args.from.now c.args.to.now _ _ _ _ c.in-App.is c.as_slice-arg-items.ensures c.loop-arg-test.false c.loop-arg.invariant,
  λ all. refl,
)
