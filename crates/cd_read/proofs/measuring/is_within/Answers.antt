use Rattle.std.proofs.Common.{arith, true≢false, sym}
use Rattle.cd_parse.specs.declared.tree.TreeLiteral.{TreeLiteral}
use Rattle.cd_read.specs.Meaning.{atom_depth}
use Rattle.cd_parse.specs.Trees.{atom_size}
use Rattle.cd_read.proofs.Measures.{next_measured, outside_measured}
use Rattle.cd_read.proofs.measuring.is_within.Goals as goal

pub returns-in_default : goal.returns-in_default
returns-in_default c = (
  λ h. absurd (true≢false (sym h)),
  λ within. absurd (outside_measured (λ (x : TreeLiteral). atom_size x.atom) (λ (x : TreeLiteral). atom_depth x.atom) _ _ 0 _ 65535 1000 _
      c.loop-literal-test.true c.literal-item.is (omega (arith, c.loop-literal.invariant.total_is)) c.in_default.ensures
      (omega (arith, within.0), within.1)),
)

pub loop-literal-preserved : goal.loop-literal-preserved
loop-literal-preserved c =
    let next = next_measured (λ (x : TreeLiteral). atom_size x.atom) (λ (x : TreeLiteral). atom_depth x.atom) _ _ 0 _ 65535 1000 _ _
    c.loop-literal-test.true c.literal-item.is (omega (arith, c.loop-literal.invariant.total_is))
    c.loop-literal.invariant.few c.loop-literal.invariant.flat c.in-Some.ensures.0 c.in-Some.ensures.1.0 c.in-Some.ensures.1.1 in
    record { total_is = omega (arith, next.0); few = next.1; flat = next.2 }
