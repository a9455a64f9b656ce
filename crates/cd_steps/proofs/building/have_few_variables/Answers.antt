use Rattle.std.proofs.Common.{arith, ap}
use Rattle.cd_term.specs.Terms.{bound_of}
use Rattle.cd_term.proofs.Measures.{greatest-le, greatest-take}
use Rattle.cd_steps.proofs.Stripping.{refused}
use Rattle.cd_steps.proofs.building.have_few_variables.Goals as goal

pub returns-then-variable_bound-gt65536 : goal.returns-then-variable_bound-gt65536
returns-then-variable_bound-gt65536 c = refused (λ few. omega (
  arith,
  greatest-le bound_of c.args.terms.now c.loop-term.term-index c.term-item.result c.loop-term-test.true,
  ap bound_of c.term-item.is,
  c.variable_bound.ensures,
  c.if-variable_bound-gt65536.true,
  few,
))

pub loop-term-preserved : goal.loop-term-preserved
loop-term-preserved c = omega (
  arith,
  greatest-take bound_of c.args.terms.now c.loop-term.term-index c.term-item.result c.loop-term-test.true,
  ap bound_of c.term-item.is,
  c.variable_bound.ensures,
  c.if-variable_bound-gt65536.false,
  c.loop-term.invariant,
)
