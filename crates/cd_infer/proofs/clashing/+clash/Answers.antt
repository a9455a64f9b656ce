use Rattle.std.proofs.Common.{arith, refl}
use Rattle.std.proofs.lemmas.Bool.{false≢true}
use Rattle.cd_term.specs.Terms.{substituted}
use Rattle.cd_term.proofs.MarkLemmas.{maps_length, maps_at}
use Rattle.cd_term.proofs.Comparing.{apps_refused}
use Rattle.cd_infer.proofs.Apart.{heads_differ}
use Rattle.cd_infer.proofs.clashing.+clash.Goals as goal

pub returns-then-f-g : goal.returns-then-f-g
returns-then-f-g t c = λ _ g h e. heads_differ g h _ _ _ _ _ _ c.in-App-App.is-0 c.in-App-App.is-1 c.if-f-g.true e

pub returns-then-args-others : goal.returns-then-args-others
returns-then-args-others t c = λ _ g h e.
    false≢true ((apps_refused g h _ _ _ _ _ _ _ _ c.in-App-App.is-0 c.in-App-App.is-1 c.as_slice-args.ensures c.as_slice-others.ensures
    (λ same. c.if-args-others.true (maps_length (substituted g) (substituted h) _ _ same))).1 e)

pub returns-then-clash : goal.returns-then-clash
returns-then-clash t c = λ _ g h e.
    false≢true ((apps_refused g h _ _ _ _ _ _ _ _ c.in-App-App.is-0 c.in-App-App.is-1 c.as_slice-args.ensures c.as_slice-others.ensures
    (λ same. c.if-clash.ensures refl g h (maps_at (substituted g) (substituted h) _ _ _ _ _ c.loop-i-test.true (omega (arith, c.loop-i.invariant, c.loop-i-test.true)) c.index-args-i.is c.index-others-i.is same))).1 e)
