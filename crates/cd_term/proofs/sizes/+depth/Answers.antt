use Rattle.std.proofs.Common.{ap, ◌∙◌, arith, map}
use Rattle.std.proofs.lemmas.List.{take_all}
use Rattle.cd_term.specs.Terms.{depth_of, greatest}
use Rattle.cd_term.proofs.Equations.{depth_of-App}
use Rattle.cd_term.proofs.Measures.{greatest-take}
use Rattle.cd_term.proofs.sizes.+depth.Goals as goal

pub loop-arg-preserved : goal.loop-arg-preserved
loop-arg-preserved t c = omega (
  arith,
  greatest-take depth_of c.as_slice-arg-items.result.now c.loop-arg.arg-index c.arg-item.result c.loop-arg-test.true,
  ap depth_of c.arg-item.is,
  c.depth.ensures,
  c.max-deepest.ensures,
  c.loop-arg.invariant,
)

pub returns-after-loop-arg : goal.returns-after-loop-arg
returns-after-loop-arg t c =
    let all = ap (λ ts. greatest (map depth_of ts)) (take_all c.loop-arg.arg-index c.as_slice-arg-items.result.now c.loop-arg-test.false ∙ c.as_slice-arg-items.ensures) in
    omega (arith, all, ap depth_of c.in-App.is, depth_of-App c.in-App.field-0 c.in-App.args, c.saturating_add.ensures, c.loop-arg.invariant)
