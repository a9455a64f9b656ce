use Rattle.std.proofs.Common.{arith}
use Rattle.cd_term.proofs.MarkLemmas.{left_found, left_next, left_none}
use Rattle.cd_term.proofs.marks.beside_all.Goals as goal

pub returns-in-Some : goal.returns-in-Some
returns-in-Some c =
    left_found _ _ _ _ _ _ _ c.loop-i-test.true (omega (arith, c.loop-i.invariant.0, c.loop-i-test.true)) c.index-ts-i.is c.index-us-i.is
    c.in-Some.ensures c.loop-i.invariant.1

pub loop-i-preserved : goal.loop-i-preserved
loop-i-preserved c = (
  c.loop-i.invariant.0,
  left_next _ _ _ _ _ _ c.loop-i-test.true (omega (arith, c.loop-i.invariant.0, c.loop-i-test.true)) c.index-ts-i.is c.index-us-i.is
      c.in_default.ensures c.loop-i.invariant.1,
)

pub returns : goal.returns
returns c = left_none _ _ _ _ (omega (arith, c.loop-i.invariant.0, c.loop-i-test.false)) c.loop-i.invariant.1
