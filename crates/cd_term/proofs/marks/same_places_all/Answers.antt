use Rattle.std.proofs.Common.{arith, refl}
use Rattle.std.proofs.lemmas.Bool.{false≢true}
use Rattle.cd_term.specs.Terms.{marked}
use Rattle.cd_term.proofs.MarkLemmas.{maps_length, maps_at, maps_more, maps_all}
use Rattle.cd_term.proofs.marks.same_places_all.Goals as goal

pub returns-then-ts-us : goal.returns-then-ts-us
returns-then-ts-us c =
    (λ e. absurd (false≢true e), λ e. absurd (c.if-ts-us.true (maps_length (marked c.args.k) (marked c.args.m) _ _ e)))

pub returns-then-not-same_places : goal.returns-then-not-same_places
returns-then-not-same_places c = (
  (λ e. absurd (false≢true e)),
  (λ e. c.if-not-same_places.ensures.1
      (maps_at (marked c.args.k) (marked c.args.m) _ _ _ _ _ c.loop-i-test.true (omega (arith, c.loop-i.invariant.0, c.loop-i-test.true))
      c.index-ts-i.is c.index-us-i.is e)),
)

pub loop-i-preserved : goal.loop-i-preserved
loop-i-preserved c = (
  c.loop-i.invariant.0,
  maps_more (marked c.args.k) (marked c.args.m) _ _ _ _ _ c.loop-i-test.true (omega (arith, c.loop-i.invariant.0, c.loop-i-test.true))
      c.index-ts-i.is c.index-us-i.is c.loop-i.invariant.1 (c.if-not-same_places.ensures.0 refl),
)

pub returns : goal.returns
returns c = (
  (λ _. maps_all (marked c.args.k) (marked c.args.m) _ _ _ c.loop-i-test.false (omega (arith, c.loop-i.invariant.0, c.loop-i-test.false)) c.loop-i.invariant.1),
  (λ _. refl),
)
