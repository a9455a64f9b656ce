-- The turns of a lone peer are a run of its world, and every turn brings it nearer to its end.
use Rattle.std.proofs.Common.{◌≡◌, ℕ, ◌+◌, ◌-◌, ◌<◌, ◌≤◌, ◌^◌, Bool, true, false, cond, List, [], ◌∷◌, ◌++◌, length, refl, ap, sym, ◌∙◌, subst, arith, inl, inr, ◌⊎◌}
use Rattle.std.specs.Prelude.{Option, Some, None, not, nat_lt, slice_set, ◌&&◌, ◌||◌}
use Rattle.std.proofs.lemmas.List.{length-append}
use Rattle.cd_kbo.specs.declared.order.Order.{Order}
use Rattle.cd_ledger.specs.declared.events.Act.{Act}
use Rattle.cd_ledger.specs.declared.events.Act.TheVariants.{Admit, Declare, End, Keep, Pass, Receive, Reject, Rewrite, Work}
use Rattle.cd_ledger.specs.declared.events.Event.{Event}
use Rattle.cd_ledger.specs.declared.letters.Letter.{Letter}
use Rattle.cd_ledger.specs.declared.local.Limits.{Limits}
use Rattle.cd_ledger.specs.declared.local.Local.{Local}
use Rattle.cd_machine.specs.Events.{after, clock_after, is_token, sent, tick}
use Rattle.cd_machine.specs.Fits.{IsLegal, LocalStep}
use Rattle.cd_machine.specs.Schedule.{IsChosen, IsOther, IsPick, first_letter, has_work, held_declares, held_passes, is_more, is_token_only, may_declare, more_by, only_by, token_choice}
use Rattle.cd_machine.specs.Turns.{IsFirstAct, IsTurn}
use Rattle.cd_machine.specs.World.{IsStart, Moves, Run, World, WorldStep, at}
use Rattle.cd_names.specs.declared.ownership.Policy.{Policy}
use Rattle.cd_names.specs.declared.waves.Count.{Count}
use Rattle.cd_names.specs.declared.waves.Token.{Token}
use Rattle.cd_read.specs.declared.problem.Problem.{Problem}
use Rattle.cd_laws.specs.Sound.{tokens_of}
use Rattle.cd_laws.specs.Measure.{Lower}
use Rattle.cd_laws.specs.Schedule.{IsSchedule, Same, Sinks, far, far_held, fresh, hops, room}
use Rattle.cd_laws.proofs.Steps.{acted_me}
use Rattle.cd_premises.specs.Runs.{AfterRun}
use Rattle.cd_premises.proofs.Runs.{runs_are_right}
use Rattle.cd_recorded.specs.Recorded.{ChosenRun}
use Rattle.cd_recorded.proofs.Runs.{chosen_more, run_more, run_of}
use Rattle.cd_search.specs.Search.{IsUnderway, alone}
use Rattle.cd_search.specs.Steps.{Nearer}

tick_most : (c : ℕ) → tick c ≤ c + 1
tick_most c = omega arith

tick_is : (c : ℕ) → c < 2 ^ 62 → tick c ≡ c + 1
tick_is c small = omega (arith, small)

module _ (order : Order) where
  -- what comes first receives nothing
  tick_of : (s : Local) (a : Act) → IsFirstAct order s a → clock_after s.clock a ≡ tick s.clock
  tick_of s (Rewrite k) h = refl
  tick_of s (Keep k) h = refl
  tick_of s (Receive l) h = absurd h
  tick_of s (Admit k) h = refl
  tick_of s (Reject k) h = refl
  tick_of s (Work t) h = refl
  tick_of s Pass h = refl
  tick_of s Declare h = refl
  tick_of s (End v) h = refl

  moves_of : (s : Local) (a : Act) (new : List Letter) → IsFirstAct order s a → Moves a [] new new
  moves_of s (Rewrite k) new h = refl
  moves_of s (Keep k) new h = refl
  moves_of s (Receive l) new h = absurd h
  moves_of s (Admit k) new h = refl
  moves_of s (Reject k) new h = refl
  moves_of s (Work t) new h = refl
  moves_of s Pass new h = refl
  moves_of s Declare new h = refl
  moves_of s (End v) new h = refl

  chosen_of : (s : Local) (a : Act) → IsFirstAct order s a → IsChosen order s a
  chosen_of s (Rewrite k) h = h
  chosen_of s (Keep k) h = h
  chosen_of s (Receive l) h = absurd h
  chosen_of s (Admit k) h = h
  chosen_of s (Reject k) h = h
  chosen_of s (Work t) h = h
  chosen_of s Pass h = h
  chosen_of s Declare h = h
  chosen_of s (End v) h = h

  only_of : (s : Local) (a : Act) → IsFirstAct order s a → token_choice s a ≡ is_token_only s
  only_of s (Rewrite k) h = refl
  only_of s (Keep k) h = refl
  only_of s (Receive l) h = absurd h
  only_of s (Admit k) h = refl
  only_of s (Reject k) h = refl
  only_of s (Work t) h = refl
  only_of s Pass h = refl
  only_of s Declare h = refl
  only_of s (End v) h = refl

-- a turn isn't both more than a move of the token and no more than that
not_both : (s : Local) → is_token_only s ≡ true → is_more s ≡ true → ⊥
not_both s only more = go (first_letter s) only more
  where
    false_true : false ≡ true → ⊥
    false_true h = cc

    quiet : (w d q : Bool) → (not w && q) ≡ true → (w || d) ≡ true → (d ≡ true → q ≡ true → ⊥) → ⊥
    quiet true d q o m apart = absurd (false_true o)
    quiet false d q o m apart = apart m o

    not_true_both : (b : Bool) → b ≡ true → not b ≡ true → ⊥
    not_true_both true d q = false_true q
    not_true_both false d q = false_true d

    held_apart : (o : Option Token) → held_declares s o ≡ true → held_passes s o ≡ true → ⊥
    held_apart None d q = false_true d
    held_apart (Some t) d q = not_true_both (may_declare s t) d q

    go : (o : Option Letter) → only_by s o ≡ true → more_by s o ≡ true → ⊥
    go (Some l) o m = not_true_both (is_token l) o m
    go None o m = quiet (has_work s) (held_declares s s.token) (held_passes s s.token) o m (held_apart s.token)

module _ (order : Order) (p : Problem) where
  -- a turn of a lone peer is a step of its world
  turn_step : (s next : Local) (e : Event) (letters : List Letter) → s.me ≡ 0 → s.clock < 2 ^ 62 → IsFirstAct order s e.act → LocalStep order p s e next letters
      → WorldStep order p (alone s) e (record { locals = next ∷ []; travelling = letters })
  turn_step s next e letters me small first step =
      let here : e.peer ≡ 0 = step.legal.own ∙ me in
      let time : e.time ≡ tick s.clock = step.legal.time ∙ tick_of order s e.act first in
      record {
        in_range = omega (arith, here);
        time = omega (arith, time, tick_most s.clock, small);
        found = step.found;
        legal = subst (λ (k : ℕ). IsLegal order p (at (alone s) k) e step.found) (sym here) step.legal;
        stepped = subst (λ (k : ℕ). next ∷ [] ≡ slice_set (s ∷ []) k (after (at (alone s) k) e step.found)) (sym here) (ap (λ (x : Local). x ∷ []) step.effect);
        moved = subst (λ (k : ℕ). Moves e.act [] (sent (at (alone s) k) e step.found) letters) (sym here)
            (subst (λ (new : List Letter). Moves e.act [] new letters) step.sends (moves_of order s e.act letters first));
      }

-- ---- one turn

-- how far the token of a lone peer is from a Declare, at most
hops_few : (cs : List Count) (t : Token) → hops 1 cs t ≤ 3
hops_few cs t =
    elim (nat_lt (length t.one) 1) as (λ b. cond b (((1 - length t.one) + 1) + cond (fresh cs t.one) 0 1) ((1 - length t.two) + cond (fresh cs t.two) (cond (fresh cs t.one) 0 1) (1 + 1)) ≤ 3) [
      | true ↦ elim (fresh cs t.one) as (λ b. ((1 - length t.one) + 1) + cond b 0 1 ≤ 3) [ true ↦ omega arith | false ↦ omega arith ]
      | false ↦ elim (fresh cs t.two) as (λ b. (1 - length t.two) + cond b (cond (fresh cs t.one) 0 1) (1 + 1) ≤ 3)
          [ true ↦ elim (fresh cs t.one) as (λ b. (1 - length t.two) + cond b 0 1 ≤ 3) [ true ↦ omega arith | false ↦ omega arith ] | false ↦ omega arith ]
    ]

held_few : (cs : List Count) (o : Option Token) → far_held 1 cs o ≤ 9
held_few cs None = omega arith
held_few cs (Some t) = omega (arith, hops_few cs t)

pub far_few : (s : Local) → s.waiting ≡ [] → far (alone s) ≤ 9
far_few s none = rw none (omega (arith, held_few (s.count ∷ []) s.token))

-- what a turn of a lone peer leads to
pub record Turned (order : Order) (p : Problem) (policy : Policy) (limits : Limits) (s next : Local) : Type 0 where
  pub underway : IsUnderway order p policy limits next
  pub nearer : Nearer s next

module _ (order : Order) (p : Problem) (policy : Policy) (limits : Limits) where
  after_run : (start : Local) (es : List Event) (v : World) → IsStart p policy limits (alone start) → Run order p (alone start) es v → AfterRun order p es v
  after_run start es v starts run = runs_are_right order p policy limits (alone start) v es starts run

  -- no letter waits
  pub nothing_waits : (s : Local) → IsUnderway order p policy limits s → s.waiting ≡ []
  nothing_waits s u = ((after_run u.start s.journal (alone s) u.starting.starts (run_of order p s.journal (alone u.start) (alone s) u.run)).laws.lone refl).1

  -- and the token is held
  pub has_token : (s : Local) → IsUnderway order p policy limits s → s.token ≡ None → ⊥
  has_token s u none =
      let one : tokens_of (s ∷ []) + 0 ≡ 1 = (after_run u.start s.journal (alone s) u.starting.starts (run_of order p s.journal (alone u.start) (alone s) u.run)).laws.token in
      let waits = nothing_waits s u in
      let zero_is : tokens_of (s ∷ []) ≡ 0 = rw (none, waits) refl in
      omega (arith, one, zero_is)

  -- a turn is a choice of a schedule whose counter is full, so that no token moves where anything else is left to be done
  pick_of : (s next : Local) (e : Event) → e.peer ≡ 0 → s.verdict ≡ None → IsFirstAct order s e.act → WorldStep order p (alone s) e (alone next)
      → IsPick order p 4 (alone s) e (cond (is_token_only s) 5 0) (alone next)
  pick_of s next e here running first step =
      let only : token_choice (at (alone s) e.peer) e.act ≡ is_token_only s = subst (λ (k : ℕ). token_choice (at (alone s) k) e.act ≡ is_token_only s) (sym here) (only_of order s e.act first) in
      record {
        running = λ q l. subst (λ (k : ℕ). (at (alone s) k).verdict ≡ None) (let z : 0 ≡ q = omega (arith, l) in z) running;
        step = step;
        chosen = subst (λ (k : ℕ). IsChosen order (at (alone s) k) e.act) (sym here) (chosen_of order s e.act first);
        left_out = λ tok few other. others_none (sym only ∙ tok) other;
        counter = ap (λ (b : Bool). cond b 5 0) (sym only);
      }
    where
      others_none : is_token_only s ≡ true → IsOther (alone s) → ⊥
      others_none tok (inl x) = not_both s tok (subst (λ (k : ℕ). is_more (at (alone s) k) ≡ true) (let z : x.0 ≡ 0 = omega (arith, x.1) in z) x.2)
      others_none tok (inr x) = omega (arith, x)

  -- with a full counter there is no room for more
  no_room : (d : ℕ) (v w : World) → length w.locals ≡ 1 → Sinks d v 4 w → Lower v w ⊎ (Same v w × (far v < far w))
  no_room d v w one (inl low) = inl low
  no_room d v w one (inr (same, inl less)) = absurd (let z : room 4 w ≡ 0 = omega (arith, one) in omega (arith, less, z))
  no_room d v w one (inr (same, inr x)) = inr (same, x.1)

  nearer_of : (s next : Local) (e : Event) (d : ℕ) → IsSchedule order p (alone s) → IsPick order p 4 (alone s) e d (alone next) → e.peer ≡ 0 → Nearer s next
  nearer_of s next e d h pick here = go (h.sinks 4 d e (alone next) pick)
    where
      go : ((at (alone next) e.peer).verdict ≡ None → ⊥) ⊎ Sinks d (alone next) 4 (alone s) → Nearer s next
      go (inl ended) = inl (subst (λ (k : ℕ). (at (alone next) k).verdict ≡ None → ⊥) here ended)
      go (inr x) = inr (no_room d (alone next) (alone s) refl x)

  pub turned : (s next : Local) (letters : List Letter) → IsUnderway order p policy limits s → length s.journal < 2 ^ 62 → s.verdict ≡ None → IsTurn order p s next letters → (letters ≡ []) × Turned order p policy limits s next
  turned s next letters u small running t =
      let e : Event = t.event in
      let step = turn_step order p s next e letters u.me (omega (arith, small, u.clock)) t.first t.step in
      let run : Run order p (alone u.start) s.journal (alone s) = run_of order p s.journal (alone u.start) (alone s) u.run in
      let wide : World = record { locals = next ∷ []; travelling = letters } in
      let none : letters ≡ [] = ((after_run u.start (s.journal ++ e ∷ []) wide u.starting.starts (run_more order p s.journal (alone u.start) (alone s) wide e run step)).laws.lone refl).0 in
      let here : e.peer ≡ 0 = t.step.legal.own ∙ u.me in
      let world : WorldStep order p (alone s) e (alone next) = subst (λ (ls : List Letter). WorldStep order p (alone s) e (record { locals = next ∷ []; travelling = ls })) none step in
      let all : AfterRun order p s.journal (alone s) = after_run u.start s.journal (alone s) u.starting.starts run in
      let pick = pick_of s next e here running t.first world in
      let effect : next ≡ after s e t.step.found = t.step.effect in
      let journal : next.journal ≡ s.journal ++ e ∷ [] = ap (λ (x : Local). x.journal) effect in
      let time : e.time ≡ tick s.clock = t.step.legal.time ∙ tick_of order s e.act t.first in
      let chosen : IsChosen order (at (alone s) e.peer) e.act = pick.chosen in (
        none,
        record {
          underway = record {
            start = u.start;
            starting = u.starting;
            run = subst (λ (es : List Event). ChosenRun order p (alone u.start) es (alone next)) (sym journal) (chosen_more order p s.journal (alone u.start) (alone s) (alone next) e u.run world chosen);
            me = ap (λ (x : Local). x.me) effect ∙ (acted_me s e.act t.step.found).0 ∙ u.me;
            clock = ap (λ (x : Local). x.clock) effect ∙ time ∙ tick_is s.clock (omega (arith, small, u.clock)) ∙ clock_of s.journal e s.clock u.clock ∙ ap length (sym journal);
          };
          nearer = nearer_of s next e (cond (is_token_only s) 5 0) (all.schedule pick.running) pick here;
        },
      )
    where
      clock_of : (es : List Event) (e : Event) (c : ℕ) → c ≡ length es → c + 1 ≡ length (es ++ e ∷ [])
      clock_of es e c h = omega (arith, h, length-append es (e ∷ []))
