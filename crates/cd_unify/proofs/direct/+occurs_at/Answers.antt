use Rattle.std.proofs.Common.{arith}
use Rattle.cd_unify.proofs.DirectLemmas.{inside_item, inside_symbol, inside_followed, inside_variable}
use Rattle.cd_unify.proofs.direct.+occurs_at.Goals as goal

pub returns-then-occurs_at : goal.returns-then-occurs_at
returns-then-occurs_at t c = λ _.
    inside_followed c.args.values.now c.args.x c.args.start c.followed-here.result c.followed-here.ensures
    (λ g solves. omega (
      arith,
      inside_symbol c.args.values.now c.args.x c.followed-here.result _ c.in-App.args c.as_slice-arg-items.result.now c.in-App.is c.as_slice-arg-items.ensures
          (inside_item c.args.values.now c.args.x c.followed-here.result.up c.as_slice-arg-items.result.now c.loop-arg.arg-index c.arg-item.result c.loop-arg-test.true c.arg-item.is
          (c.occurs_at.ensures c.if-occurs_at.true)) g solves,
    ))

pub returns-in-Var : goal.returns-in-Var
returns-in-Var t c = λ e.
    inside_variable c.args.values.now c.args.x c.args.start c.followed-here.result c.in-Var.k c.followed-here.ensures c.in-Var.is (grind (arith, e))
