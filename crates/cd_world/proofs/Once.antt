-- The stated schedule has one run.
use Rattle.std.proofs.Common.{◌≡◌, ℕ, ◌<◌, List, [], ◌∷◌, ◌++◌, length, set, refl, ap, sym, ◌∙◌, subst}
use Rattle.std.specs.Prelude.{Some, None}
use Rattle.cd_effects.proofs.Starts.{starts_once}
use Rattle.cd_effects.specs.Effects.{EffectsAt}
use Rattle.cd_kbo.specs.declared.order.Order.{Order}
use Rattle.cd_ledger.specs.declared.events.Act.{Act}
use Rattle.cd_ledger.specs.declared.events.Act.TheVariants.{Admit, Declare, End, Keep, Pass, Receive, Reject, Rewrite, Work}
use Rattle.cd_ledger.specs.declared.events.Event.{Event}
use Rattle.cd_ledger.specs.declared.letters.Letter.{Letter}
use Rattle.cd_ledger.specs.declared.local.Limits.{Limits}
use Rattle.cd_ledger.specs.declared.local.Local.{Local}
use Rattle.cd_machine.specs.Events.{after, clock_after, sent}
use Rattle.cd_machine.specs.Fits.{IsLegal}
use Rattle.cd_machine.specs.Turns.{IsTurning}
use Rattle.cd_machine.specs.World.{IsStart, Moves, Run, World, WorldStep, at}
use Rattle.cd_names.specs.declared.ownership.Policy.{Policy}
use Rattle.cd_premises.proofs.Runs.{runs_are_right}
use Rattle.cd_premises.proofs.Decisions.{singles_meet}
use Rattle.cd_read.specs.declared.problem.Problem.{Problem}
use Rattle.cd_world.specs.declared.moving.Choice.{Choice}
use Rattle.cd_world.specs.declared.moving.Choice.TheVariants.{Turn, Deliver}
use Rattle.cd_world.specs.Draws.{SchedulesAreOne}
use Rattle.cd_world.specs.Schedule.{Draws, HasVerdict, IsDraw, MakesEvent, Moment, Scheduled, counted_by}
use Rattle.cd_world.proofs.Draws.{draws_are_one}
use Rattle.cd_recorded.proofs.Runs.{run_more}
use Rattle.cd_world.proofs.Runs.{IsOwn, first_own}

moved_own : (a : Act) (b n x : List Letter) → IsOwn a → Moves a b n x → x ≡ b ++ n
moved_own (Rewrite k) b n x o h = h
moved_own (Keep k) b n x o h = h
moved_own (Receive l) b n x o h = absurd o
moved_own (Admit k) b n x o h = h
moved_own (Reject k) b n x o h = h
moved_own (Work t) b n x o h = h
moved_own Pass b n x o h = h
moved_own Declare b n x o h = h
moved_own (End v) b n x o h = h

abbrev event_of : ℕ → ℕ → Act → Event
event_of t q a = record { time = t; peer = q; act = a }

abbrev world_with : List Local → List Letter → World
world_with ss ls = record { locals = ss; travelling = ls }

abbrev moment_with : ℕ → ℕ → World → Moment
moment_with x c w = record { state = x; counter = c; world = w }

abbrev Turning : Order → Problem → World → Type 0
Turning order p w = (q : ℕ) → q < length w.locals → (at w q).verdict ≡ None → IsTurning order p (at w q)

module _ (order : Order) (p : Problem) where
  event_once : (w : World) (choice : Choice) (e f : Event) (v u : World) → Turning order p w → ((q : ℕ) → q < length w.locals → (at w q).verdict ≡ None)
      → WorldStep order p w e v → WorldStep order p w f u → MakesEvent order w choice e v → MakesEvent order w choice f u → e ≡ f
  event_once w (Turn q) e f v u t r h k (own, first) (own', first') =
      (t q (subst (λ (j : ℕ). j < length w.locals) own h.in_range) (r q (subst (λ (j : ℕ). j < length w.locals) own h.in_range))).once
      (record { event = e; first = first; found = h.found; legal = subst (λ (j : ℕ). IsLegal order p (at w j) e h.found) own h.legal })
      (record { event = f; first = first'; found = k.found; legal = subst (λ (j : ℕ). IsLegal order p (at w j) f k.found) own' k.legal })
  event_once w (Deliver k) e f v u t r h g (l, there, own, act, rest) (x, there', own', act', rest') =
      ap (λ z. event_of z e.peer e.act) times ∙ (ap (λ z. event_of f.time z e.act) peers ∙ ap (λ z. event_of f.time f.peer z) acts)
    where
      same : l ≡ x
      same = let y : Some l ≡ Some x = sym there ∙ there' in cc

      peers : e.peer ≡ f.peer
      peers = own ∙ (ap (λ z. z.to) same ∙ sym own')

      acts : e.act ≡ f.act
      acts = act ∙ (ap Receive same ∙ sym act')

      times : e.time ≡ f.time
      times = h.legal.time ∙ (ap (λ z. clock_after (at w z).clock e.act) peers ∙ (ap (λ z. clock_after (at w f.peer).clock z) acts ∙ sym g.legal.time))

  world_once : (w : World) → EffectsAt order p w → (choice : Choice) (e : Event) (v u : World) → WorldStep order p w e v → WorldStep order p w e u → MakesEvent order w choice e v → MakesEvent order w choice e u → v ≡ u
  world_once w once choice e v u h k m n = ap (λ ss. world_with ss v.travelling) locals ∙ ap (λ ls. world_with u.locals ls) (letters choice m n)
    where
      one : (after (at w e.peer) e h.found ≡ after (at w e.peer) e k.found) × (sent (at w e.peer) e h.found ≡ sent (at w e.peer) e k.found)
      one = once e h.found k.found h.in_range h.legal k.legal

      locals : v.locals ≡ u.locals
      locals = h.stepped ∙ (ap (λ s. set w.locals e.peer s) (one).0 ∙ sym k.stepped)

      letters : (c : Choice) → MakesEvent order w c e v → MakesEvent order w c e u → v.travelling ≡ u.travelling
      letters (Turn q) a b = let o = first_own order (at w q) e.act a.1 in
          moved_own e.act w.travelling (sent (at w e.peer) e h.found) v.travelling o h.moved
          ∙ (ap (λ ls. w.travelling ++ ls) (one).1 ∙ sym (moved_own e.act w.travelling (sent (at w e.peer) e k.found) u.travelling o k.moved))
      letters (Deliver j) a b = a.4 ∙ sym b.4

  draw_once : (m : Moment) → EffectsAt order p m.world → (e f : Event) (n o : Moment) → Turning order p m.world → IsDraw order p m e n → IsDraw order p m f o → (e ≡ f) × (n ≡ o)
  draw_once m once e f n o t d g = (
    same,
    ap (λ x. moment_with x n.counter n.world) (d.state ∙ sym g.state)
        ∙ (ap (λ c. moment_with o.state c n.world) (d.counter ∙ (ap (counted_by m) choice ∙ sym g.counter))
        ∙ ap (λ w. moment_with o.state o.counter w) (world_once m.world once d.choice e n.world o.world d.step (subst (λ (x : Event). WorldStep order p m.world x o.world) (sym same) g.step) d.makes
        (subst (λ (x : Event). MakesEvent order m.world d.choice x o.world) (sym same) makes))),
  )
    where
      choice : d.choice ≡ g.choice
      choice = draws_are_one order p m e f n o d g

      makes : MakesEvent order m.world d.choice f o.world
      makes = subst (λ (c : Choice). MakesEvent order m.world c f o.world) (sym choice) g.makes

      same : e ≡ f
      same = event_once m.world d.choice e f n.world o.world t d.running d.step g.step d.makes makes

  module _ (policy : Policy) (limits : Limits) (start : World) (s : IsStart p policy limits start) where
    draws_once : (es fs : List Event) (front : List Event) (m n o : Moment) → Run order p start front m.world → Draws order p m es n → Draws order p m fs o → HasVerdict n.world → HasVerdict o.world → (es ≡ fs) × (n ≡ o)
    draws_once [] [] front m n o r d g v u = (refl, d ∙ sym g)
    draws_once [] (f ∷ fs) front m n o r d g v u = absurd (v.2 (subst (λ (x : Moment). (at x.world v.0).verdict ≡ None) (sym d)
        (g.1.running v.0 (subst (λ (x : Moment). v.0 < length x.world.locals) d v.1))))
    draws_once (e ∷ es) [] front m n o r d g v u = absurd (u.2 (subst (λ (x : Moment). (at x.world u.0).verdict ≡ None) (sym g)
        (d.1.running u.0 (subst (λ (x : Moment). u.0 < length x.world.locals) g u.1))))
    draws_once (e ∷ es) (f ∷ fs) front m n o r d g v u =
        let right = runs_are_right order p policy limits start m.world front s r in
        let one = draw_once m right.effects e f d.0 g.0 right.turns d.1 g.1 in
        let rest = draws_once es fs (front ++ e ∷ []) d.0 n o (run_more order p front start m.world d.0.world e r d.1.step) d.2 (subst (λ (x : Moment). Draws order p x fs o) (sym one.1) g.2) v u in
        (ap (λ x. x ∷ es) one.0 ∙ ap (λ xs. f ∷ xs) rest.0, rest.1)

scheduled_once : (order : Order) (p : Problem) (policy : Policy) (limits : Limits) (start : World) (seed : ℕ) (es fs : List Event) (v u : World)
    → IsStart p policy limits start → Scheduled order p seed start es v → Scheduled order p seed start fs u → (es ≡ fs) × (v ≡ u)
scheduled_once order p policy limits start seed es fs v u s a b =
    let m : Moment = record { state = seed; counter = 0; world = start } in
    let d = draws_once order p policy limits start s es fs [] m a.last b.last refl a.draws b.draws
    (subst HasVerdict (sym a.ends) a.verdict) (subst HasVerdict (sym b.ends) b.verdict) in
    (d.0, sym a.ends ∙ (ap (λ (x : Moment). x.world) d.1 ∙ b.ends))

pub schedules_are_one : SchedulesAreOne
schedules_are_one order p policy limits start other seed es fs v u s t same a b =
    scheduled_once order p policy limits start seed es fs v u s a
    (subst (λ (w : World). Scheduled order p seed w fs u) (sym (starts_once order (singles_meet order) p policy limits start other s t same)) b)
