use Rattle.std.proofs.Common.{arith}
use Rattle.cd_term.proofs.MarkLemmas.{left_found, left_next, left_none, beside_apps_at}
use Rattle.cd_term.proofs.marks.+beside.Goals as goal

pub returns-in-Some : goal.returns-in-Some
returns-in-Some t c =
    beside_apps_at _ _ _ _ _ _ _ _ _ _ c.in-App-App.is-0 c.in-App-App.is-1 c.as_slice-args.ensures c.as_slice-others.ensures
    (left_found _ _ _ _ _ _ _ c.loop-i-test.true (omega (arith, c.loop-i.invariant.0, c.loop-i-test.true)) c.index-args-i.is c.index-others-i.is
    c.in-Some.ensures c.loop-i.invariant.1)

pub loop-i-preserved : goal.loop-i-preserved
loop-i-preserved t c = (
  c.loop-i.invariant.0,
  left_next _ _ _ _ _ _ c.loop-i-test.true (omega (arith, c.loop-i.invariant.0, c.loop-i-test.true)) c.index-args-i.is c.index-others-i.is
      c.in_default-beside.ensures c.loop-i.invariant.1,
)

pub returns-after-loop-i : goal.returns-after-loop-i
returns-after-loop-i t c =
    beside_apps_at _ _ _ _ _ _ _ _ _ _ c.in-App-App.is-0 c.in-App-App.is-1 c.as_slice-args.ensures c.as_slice-others.ensures
    (left_none _ _ _ _ (omega (arith, c.loop-i.invariant.0, c.loop-i-test.false)) c.loop-i.invariant.1)
