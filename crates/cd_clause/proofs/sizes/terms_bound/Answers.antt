use Rattle.std.proofs.Common.{ap, arith}
use Rattle.cd_term.specs.Terms.{bound_of}
use Rattle.cd_term.proofs.Measures.{greatest-take}
use Rattle.cd_clause.proofs.sizes.terms_bound.Goals as goal

pub loop-term-preserved : goal.loop-term-preserved
loop-term-preserved c = omega (
  arith,
  greatest-take bound_of c.args.terms.now c.loop-term.term-index c.term-item.result c.loop-term-test.true,
  ap bound_of c.term-item.is,
  c.variable_bound.ensures,
  c.max-bound.ensures,
  c.loop-term.invariant,
)
