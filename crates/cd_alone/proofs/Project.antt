-- Each peer of a world's run makes a run of its own.
use Rattle.std.proofs.Common.{◌≡◌, ◌≢◌, ℕ, ◌<◌, Bool, true, false, cond, eqb, List, [], ◌∷◌, length, refl, ap, sym, ◌∙◌, subst}
use Rattle.std.proofs.lemmas.Bool.{eqb-true}
use Rattle.cd_ledger.specs.declared.events.Event.{Event}
use Rattle.cd_ledger.specs.declared.local.Local.{Local}
use Rattle.cd_read.specs.declared.problem.Problem.{Problem}
use Rattle.cd_machine.specs.Events.{sent}
use Rattle.cd_machine.specs.World.{Run, World, at}
use Rattle.cd_laws.proofs.Steps.{at_other, at_same, step_length}
use Rattle.cd_laws.proofs.Truth.{eqb_false}
use Rattle.cd_alone.specs.Alone.{RunsAreAlone, Steps, events_of}
use Rattle.cd_kbo.specs.declared.order.Order.{Order}

run_length : (order : Order) → (p : Problem) (es : List Event) (w v : World) → Run order p w es v → length v.locals ≡ length w.locals
run_length order p [] w v r = ap (λ (u : World). length u.locals) r
run_length order p (e ∷ es) w v r = run_length order p es r.0 v r.2 ∙ step_length order p w e r.0 r.1

steps_of : (order : Order) → (p : Problem) (q : ℕ) (es : List Event) (w v : World) → Run order p w es v → Steps order p (at w q) (events_of q es) (at v q)
steps_of order p q [] w v r = ap (λ (u : World). at u q) r
steps_of order p q (e ∷ es) w v r = go (eqb e.peer q) refl (steps_of order p q es r.0 v r.2)
  where
    go : (b : Bool) → eqb e.peer q ≡ b → Steps order p (at r.0 q) (events_of q es) (at v q) → Steps order p (at w q) (cond b (e ∷ events_of q es) (events_of q es)) (at v q)
    go true is rest =
        let same : e.peer ≡ q = eqb-true e.peer q is in
        subst (λ (k : ℕ). (Steps order) p (at r.0 k) (events_of q es) (at v q) → Steps order p (at w k) (e ∷ events_of q es) (at v q)) same
        (λ more. (at r.0 e.peer, sent (at w e.peer) e r.1.found, record { found = r.1.found; legal = r.1.legal; effect = at_same order p w e r.0 r.1; sends = refl }, more)) rest
    go false is rest =
        let ne : q ≢ e.peer = (λ h. eqb_false e.peer q is (sym h)) in
        subst (λ (s : Local). (Steps order) p s (events_of q es) (at v q)) (at_other order p w e r.0 r.1 q ne) rest

pub runs_alone : (order : Order) → RunsAreAlone order
runs_alone order p policy limits start w es s r q l =
    let l' : q < length start.locals = subst (λ (n : ℕ). q < n) (run_length order p es start w r) l in
    let f = s.fresh q l' in
    record {
      starts = record { me = q; peers = length start.locals; policy = policy; limits = limits; items = f.0; fit = s.fit; in_range = l'; share = f.1; is = f.2 };
      steps = steps_of order p q es start w r;
    }
