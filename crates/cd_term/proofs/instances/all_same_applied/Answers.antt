use Rattle.std.proofs.Common.{arith, refl}
use Rattle.std.proofs.lemmas.Bool.{false≢true}
use Rattle.cd_term.specs.Terms.{applied}
use Rattle.cd_term.proofs.MarkLemmas.{maps_at, maps_more}
use Rattle.cd_term.proofs.instances.all_same_applied.Goals as goal

pub returns-then-not-same_applied : goal.returns-then-not-same_applied
returns-then-not-same_applied c = (
  (λ e. absurd (false≢true e)),
  (λ e. c.if-not-same_applied.ensures.1
      (maps_at (applied c.args.s.now) (applied c.args.r.now) _ _ _ _ _ c.loop-i-test.true (omega (arith, c.loop-i.invariant.0, c.loop-i-test.true))
      c.index-ts-i.is c.index-us-i.is e)),
)

pub loop-i-preserved : goal.loop-i-preserved
loop-i-preserved c = (
  c.loop-i.invariant.0,
  maps_more (applied c.args.s.now) (applied c.args.r.now) _ _ _ _ _ c.loop-i-test.true (omega (arith, c.loop-i.invariant.0, c.loop-i-test.true))
      c.index-ts-i.is c.index-us-i.is c.loop-i.invariant.1 (c.if-not-same_applied.ensures.0 refl),
)
