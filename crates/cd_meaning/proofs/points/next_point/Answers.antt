use Rattle.std.proofs.Common.{arith, refl}
use Rattle.std.proofs.Math.Nat.{pow-zero}
use Rattle.std.proofs.lemmas.Grind.{common_steps}
use Rattle.cd_meaning.proofs.Ranks.{set_elements, raised, carried, finished}
use Rattle.cd_meaning.proofs.points.next_point.Goals as goal

pub loop-i-init : goal.loop-i-init
loop-i-init c = record {
  same = grind arith;
  elements = c.requires.elements;
  carried = omega (arith, pow-zero c.args.size);
}

pub loop-i-preserved : goal.loop-i-preserved
loop-i-preserved c = record {
  same = grind (arith, common_steps);
  elements = set_elements c.args.size c.loop-i.point c.loop-i.i 0 c.requires.some c.loop-i.invariant.elements;
  carried = carried c.args.size c.args.point.now c.loop-i.point c.loop-i.i (omega (arith, c.loop-i-test.true, c.loop-i.invariant.same))
      (omega (arith, c.loop-i.invariant.elements c.loop-i.i, c.if-point-i.false)) c.loop-i.invariant.carried;
}

pub returns-then-point-i-clause-elements : goal.returns-then-point-i-clause-elements
returns-then-point-i-clause-elements c = set_elements c.args.size c.loop-i.point c.loop-i.i _ (omega (arith, c.if-point-i.true)) c.loop-i.invariant.elements

pub returns-then-point-i-clause-more : goal.returns-then-point-i-clause-more
returns-then-point-i-clause-more c = λ _. raised c.args.size c.args.point.now c.loop-i.point c.loop-i.i _ (omega (arith, c.loop-i-test.true, c.loop-i.invariant.same)) refl c.loop-i.invariant.carried

pub returns-clause-last : goal.returns-clause-last
returns-clause-last c = λ _. finished c.args.size c.args.point.now c.loop-i.point c.loop-i.i c.requires.some c.requires.elements (omega (arith, c.loop-i-test.false)) (omega (arith, c.loop-i.auto.i-end)) c.loop-i.invariant.carried
