use Rattle.std.proofs.Common.{ap, ◌∙◌, arith, map}
use Rattle.std.proofs.lemmas.List.{take_all}
use Rattle.cd_term.specs.Terms.{bound_of, greatest}
use Rattle.cd_term.proofs.Equations.{bound_of-App}
use Rattle.cd_term.proofs.Measures.{greatest-take}
use Rattle.cd_term.proofs.sizes.+variable_bound.Goals as goal

pub loop-arg-preserved : goal.loop-arg-preserved
loop-arg-preserved t c = omega (
  arith,
  greatest-take bound_of c.as_slice-arg-items.result.now c.loop-arg.arg-index c.arg-item.result c.loop-arg-test.true,
  ap bound_of c.arg-item.is,
  c.variable_bound.ensures,
  c.max-bound.ensures,
  c.loop-arg.invariant,
)

pub returns-after-loop-arg : goal.returns-after-loop-arg
returns-after-loop-arg t c =
    let all = ap (λ ts. greatest (map bound_of ts)) (take_all c.loop-arg.arg-index c.as_slice-arg-items.result.now c.loop-arg-test.false ∙ c.as_slice-arg-items.ensures) in
    omega (arith, all, ap bound_of c.in-App.is, bound_of-App c.in-App.field-0 c.in-App.args, c.loop-arg.invariant)
