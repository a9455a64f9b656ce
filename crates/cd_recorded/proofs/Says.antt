-- What the verdicts of peers say: at each moment of a run by choice, told from the events so far.
use Rattle.std.proofs.Common.{◌≡◌, ℕ, ◌+◌, ◌<◌, true, false, List, [], ◌∷◌, ◌++◌, length, refl, ap, sym, ◌∙◌, subst, arith}
use Rattle.std.specs.Prelude.{Option, Some, None, ◌||◌}
use Rattle.std.specs.List.{AllByRecursion as Each}
use Rattle.std.proofs.lemmas.List.{append_assoc, append-nil}
use Rattle.cd_kbo.specs.declared.order.Order.{Order}
use Rattle.cd_alone.specs.Alone.{Emptiness, EndsEmpty, IsNotEmpty, events_of}
use Rattle.cd_alone.proofs.Project.{runs_alone}
use Rattle.cd_ledger.specs.declared.events.Act.{Act}
use Rattle.cd_ledger.specs.declared.events.Act.TheVariants.{End}
use Rattle.cd_ledger.specs.declared.events.Event.{Event}
use Rattle.cd_ledger.specs.declared.events.Verdict.{Verdict}
use Rattle.cd_ledger.specs.declared.events.Verdict.TheVariants.{Limit, Refuted, Saturated, Spent}
use Rattle.cd_ledger.specs.declared.local.Limits.{Limits}
use Rattle.cd_ledger.specs.declared.local.Local.{Local}
use Rattle.cd_ledger.specs.declared.records.Known.{Known}
use Rattle.cd_laws.specs.Closing.{IsDeclared}
use Rattle.cd_laws.proofs.Steps.{at_each}
use Rattle.cd_machine.specs.Events.{acted, after}
use Rattle.cd_machine.specs.Rules.{is_empty}
use Rattle.cd_machine.specs.World.{IsStart, Run, World, WorldStep, at}
use Rattle.cd_names.specs.declared.ownership.Policy.{Policy}
use Rattle.cd_premises.specs.Runs.{AfterRun}
use Rattle.cd_premises.proofs.Runs.{alone_runs_are_right, runs_are_right}
use Rattle.cd_read.specs.declared.problem.Problem.{Problem}
use Rattle.cd_recorded.specs.Laws.{RunsSay, VerdictSays}
use Rattle.cd_recorded.specs.Recorded.{ChosenRun, EndsWith, MeetsBound, has_empty, unit_count, units_of}
use Rattle.cd_recorded.proofs.Acts.{EndedBy, count_push, ended_by, tells}
use Rattle.cd_recorded.proofs.Runs.{chosen_more, run_of}

-- ---- the empty clause among what is known

none_empty : (es : List Known) → Each IsNotEmpty es → has_empty es ≡ false
none_empty [] h = refl
none_empty (e ∷ es) h = rw (h.0, none_empty es h.1) refl

some_empty : (es : List Known) (e : Known) → is_empty e.entry.clause ≡ true → has_empty (es ++ e ∷ []) ≡ true
some_empty [] e h = rw h refl
some_empty (x ∷ es) e h = elim (is_empty x.entry.clause) as (λ b. (b || has_empty (es ++ e ∷ [])) ≡ true) [ true ↦ refl | false ↦ some_empty es e h ]

ends_empty : (es : List Known) → EndsEmpty es → has_empty es ≡ true
ends_empty es h = ap has_empty h.split ∙ some_empty h.front h.last h.empty

-- ---- causes of verdicts

-- what brought the verdict of peer q, in the world v after the events so far
abbrev pub Cause : Order → Problem → World → List Event → World → ℕ → Local → Option Verdict → Type 0
Cause order p start events v q s None = Unit {0}
Cause order p start events v q s (Some Refuted) = Unit {0}
Cause order p start events v q s (Some Saturated) = IsDeclared order p v
Cause order p start events v q s (Some Spent) = (s.units ≡ s.limits.steps) × EndsWith s.journal (End Spent)
Cause order p start events v q s (Some (Limit bound)) = MeetsBound order p start events q bound

-- the limits and units of peer q, and the cause of its verdict
pub record IsTold (order : Order) (p : Problem) (limits : Limits) (start : World) (events : List Event) (v : World) (q : ℕ) (s : Local) : Type 0 where
  pub limits_are : s.limits ≡ limits
  pub units : unit_count s.journal ≡ s.units
  pub cause : Cause order p start events v q s s.verdict

abbrev pub AllTold : Order → Problem → Limits → World → List Event → World → Type 0
AllTold order p limits start events v = (q : ℕ) → q < length v.locals → IsTold order p limits start events v q (at v q)

module _ (order : Order) (p : Problem) (policy : Policy) (limits : Limits) (start : World) (starts : IsStart p policy limits start) where
  told_start : AllTold order p limits start [] start
  told_start q l =
      let fresh = starts.fresh q l in
      subst (IsTold order p limits start [] start q) (sym fresh.2) (record { limits_are = refl; units = refl; cause = tt })

  -- ---- one more event

  module _ (front : List Event) (v : World) (run : ChosenRun order p start front v) (e : Event) (u : World) (h : WorldStep order p v e u) (told : AllTold order p limits start front v) where
    abbrev all : List Event
    all = front ++ e ∷ []

    right : AfterRun order p front v
    right = runs_are_right order p policy limits start v front starts (run_of order p front start v run)

    -- at another peer its cause stays: no event follows a Declare
    stays : (q : ℕ) (s : Local) (o : Option Verdict) → Cause order p start front v q s o → Cause order p start all u q s o
    stays q s None c = tt
    stays q s (Some Refuted) c = tt
    stays q s (Some Saturated) c = absurd (c.ends e u h)
    stays q s (Some Spent) c = c
    stays q s (Some (Limit b)) c = record {
      front = c.front;
      event = c.event;
      rest = c.rest ++ e ∷ [];
      split = ap (λ xs. xs ++ e ∷ []) c.split ∙ append_assoc c.front (c.event ∷ c.rest) (e ∷ []);
      own = c.own;
      act = c.act;
      world = c.world;
      run = c.run;
      reached = c.reached;
    }

    comes : (next : Local) → next.journal ≡ (at v e.peer).journal ++ e ∷ [] → next.units ≡ (at v e.peer).units + units_of e.act → next.limits ≡ (at v e.peer).limits
        → (o : Option Verdict) → ((w : Verdict) → o ≡ Some w → EndedBy order (at v e.peer) e.act w) → Cause order p start all u e.peer next o
    comes next journal units limits_are None by = tt
    comes next journal units limits_are (Some Refuted) by = tt
    comes next journal units limits_are (Some Saturated) by = right.declares e u h (by Saturated refl)
    comes next journal units limits_are (Some Spent) by =
        let x = by Spent refl in (
          units ∙ (let z : (at v e.peer).units + units_of e.act ≡ (at v e.peer).units + 0 = ap (λ (a : Act). (at v e.peer).units + units_of a) x.0 in z)
              ∙ (let z : (at v e.peer).units + 0 ≡ (at v e.peer).units = omega arith in z) ∙ x.1 ∙ sym (ap (λ (l : Limits). l.steps) limits_are),
          record { front = (at v e.peer).journal; event = e; split = journal; last = x.0 },
        )
    comes next journal units limits_are (Some (Limit b)) by =
        let x = by (Limit b) refl in record { front = front; event = e; rest = []; split = refl; own = refl; act = x.0; world = v; run = run; reached = x.1 }

    told_here : IsTold order p limits start all u e.peer (after (at v e.peer) e h.found)
    told_here =
        let s = at v e.peer in
        let old = told e.peer h.in_range in
        let t = tells s e.act h.found in
        record {
          limits_are = t.limits_are ∙ old.limits_are;
          units = count_push s.journal e ∙ ap (λ (n : ℕ). n + units_of e.act) old.units ∙ sym t.units_are;
          cause = comes (after s e h.found) refl t.units_are t.limits_are (acted s e.act h.found).verdict
              (λ w is. ended_by order p s h.legal.running e.act h.found h.legal.fits w is);
        }

    told_more : AllTold order p limits start all u
    told_more =
        at_each order p v e u h (IsTold order p limits start all u) told_here
        (λ q l ne. let old = told q l in record { limits_are = old.limits_are; units = old.units; cause = stays q (at v q) (at v q).verdict old.cause })

  -- ---- along a run

  told_along : (front es : List Event) (v w : World) → ChosenRun order p start front v → AllTold order p limits start front v → ChosenRun order p v es w → AllTold order p limits start (front ++ es) w
  told_along front [] v w run told r =
      subst (λ (xs : List Event). AllTold order p limits start xs w) (sym (append-nil front)) (subst (AllTold order p limits start front) (sym r) told)
  told_along front (e ∷ es) v w run told r =
      subst (λ (xs : List Event). AllTold order p limits start xs w) (append_assoc front (e ∷ []) es)
      (told_along (front ++ e ∷ []) es r.0 w (chosen_more order p front start v r.0 e run r.1 r.2) (told_more front v run e r.0 r.1 told) r.3)

  -- the empty clause is known where the verdict says so, and nowhere else
  emptiness : (es : List Event) (w : World) → Run order p start es w → (q : ℕ) → q < length w.locals → Emptiness (at w q).verdict (at w q).known
  emptiness es w run q l =
      (alone_runs_are_right order p (at start q) (at w q) (events_of q es) (runs_alone order p policy limits start w es starts run q l)).lawful.emptiness

  says : (events : List Event) (w : World) (q : ℕ) (o : Option Verdict) → Cause order p start events w q (at w q) o → Emptiness o (at w q).known → VerdictSays order p start events w q o
  says events w q None c e = none_empty (at w q).known e
  says events w q (Some Refuted) c e = ends_empty (at w q).known e
  says events w q (Some Saturated) c e = (none_empty (at w q).known e, c.closed)
  says events w q (Some Spent) c e = (none_empty (at w q).known e, c.0, c.1)
  says events w q (Some (Limit b)) c e = (none_empty (at w q).known e, c)

pub runs_say : RunsSay
runs_say order p policy limits start events w starts run q l =
    let told = told_along order p policy limits start starts [] events start w refl (told_start order p policy limits start starts) run q l in
    record {
      limits_are = told.limits_are;
      units = told.units;
      verdict = says order p policy limits start starts events w q (at w q).verdict told.cause (emptiness order p policy limits start starts events w (run_of order p events start w run) q l);
    }
