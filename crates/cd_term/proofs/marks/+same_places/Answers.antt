use Rattle.std.proofs.Common.{arith, refl}
use Rattle.std.proofs.lemmas.Bool.{false≢true}
use Rattle.cd_term.specs.Terms.{marked}
use Rattle.cd_term.proofs.MarkLemmas.{maps_length, maps_at, maps_more, maps_all, apps_refused, apps_same}
use Rattle.cd_term.proofs.marks.+same_places.Goals as goal

pub returns-then-args-others : goal.returns-then-args-others
returns-then-args-others t c =
    apps_refused _ _ _ _ _ _ _ _ _ _ c.in-App-App.is-0 c.in-App-App.is-1 c.as_slice-args.ensures c.as_slice-others.ensures
    (λ e. c.if-args-others.true (maps_length (marked c.args.k) (marked c.args.m) _ _ e))

pub returns-then-not-same_places : goal.returns-then-not-same_places
returns-then-not-same_places t c =
    apps_refused _ _ _ _ _ _ _ _ _ _ c.in-App-App.is-0 c.in-App-App.is-1 c.as_slice-args.ensures c.as_slice-others.ensures
    (λ e. false≢true (c.if-not-same_places.ensures.1
    (maps_at (marked c.args.k) (marked c.args.m) _ _ _ _ _ c.loop-i-test.true (omega (arith, c.loop-i.invariant.0, c.loop-i-test.true))
    c.index-args-i.is c.index-others-i.is e)))

pub loop-i-preserved : goal.loop-i-preserved
loop-i-preserved t c = (
  c.loop-i.invariant.0,
  maps_more (marked c.args.k) (marked c.args.m) _ _ _ _ _ c.loop-i-test.true (omega (arith, c.loop-i.invariant.0, c.loop-i-test.true))
      c.index-args-i.is c.index-others-i.is c.loop-i.invariant.1 (c.if-not-same_places.ensures.0 refl),
)

pub returns-after-loop-i : goal.returns-after-loop-i
returns-after-loop-i t c =
    apps_same _ _ _ _ _ _ _ _ _ _ c.in-App-App.is-0 c.in-App-App.is-1 c.as_slice-args.ensures c.as_slice-others.ensures c.if-f-g.false
    (maps_all (marked c.args.k) (marked c.args.m) _ _ _ c.loop-i-test.false (omega (arith, c.loop-i.invariant.0, c.loop-i-test.false)) c.loop-i.invariant.1)
