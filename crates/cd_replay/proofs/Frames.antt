-- The state of a replay, between and within events.
use Rattle.std.proofs.Common.{◌≡◌, ℕ, ◌+◌, ◌<◌, ◌≤◌, List, [], ◌∷◌, ◌++◌, length, refl, ap, sym, ◌∙◌, subst, arith}
use Rattle.std.specs.Prelude.{Some, insert, remove, slice_get}
use Rattle.std.specs.List.{AllByRecursion as Each}
use Rattle.std.proofs.lemmas.Option.{slice_get_within}
use Rattle.cd_acts.specs.Acts.{AddsItems, Does}
use Rattle.cd_acts.specs.Indexed.{IsIndexed, IsSensible}
use Rattle.cd_acts.specs.View.{local_of}
use Rattle.cd_acts.specs.declared.state.State.{State}
use Rattle.cd_alone.specs.Going.{EventsKeepReady}
use Rattle.cd_alone.specs.Ready.{AreOnce, IsReady}
use Rattle.cd_infer.specs.Conclusions.{IsUsable}
use Rattle.cd_infer.specs.declared.Conclusion.{Conclusion}
use Rattle.cd_kbo.specs.declared.order.Order.{Order}
use Rattle.cd_laws.specs.Turns.{IsForcedHere}
use Rattle.cd_ledger.specs.declared.events.Act.{Act}
use Rattle.cd_ledger.specs.declared.events.Act.TheVariants.{Admit, Keep, Pass, Reject, Rewrite, Work}
use Rattle.cd_ledger.specs.declared.items.Done.{Done}
use Rattle.cd_ledger.specs.declared.items.Item.{Item}
use Rattle.cd_ledger.specs.declared.letters.Letter.{Letter}
use Rattle.cd_ledger.specs.declared.local.Local.{Local}
use Rattle.cd_ledger.specs.declared.records.Known.{Known}
use Rattle.cd_list.proofs.Lists.{all_get, all_remove, length_remove}
use Rattle.cd_machine.specs.Acts.{Concludes, reworked}
use Rattle.cd_machine.specs.Fits.{IsQuiet}
use Rattle.cd_machine.specs.Right.{registry_of}
use Rattle.cd_machine.specs.Rules.{IsConclusionWithin}
use Rattle.cd_read.specs.declared.problem.Problem.{Problem}
use Rattle.cd_tasks.specs.declared.Task.{Task}
use Rattle.cd_replay.specs.Replayed.{CanAct, HasDone, IsBrought, IsDrained, IsLiving, rejoined, replayed}
use Rattle.cd_replay.specs.declared.replayer.Replayer.{Replayer}
use Rattle.cd_replay.proofs.Moving.{admit_fresh, admit_moves, bare, brought, keep_fresh, keep_moves, passed_owed, reject_moves, rewrite_moves, rewritten_first}

-- where nothing has to be known of the problem
pub no_problem : Problem
no_problem = record { name = []; symbols = []; inputs = [] }

-- the state itself owes nothing
pub bare_is : (r : Replayer) → IsDrained r → local_of r.state ≡ bare (replayed r)
bare_is r d = ap (λ (ts : List Task). record (local_of r.state) { owed = ts }) d.none

pub drained_by : (r : Replayer) (t : State) → IsDrained r → IsIndexed t → (local_of t).owed ≡ (local_of r.state).owed → (local_of t).known ≡ (local_of r.state).known → IsDrained (record { state = t; owed = r.owed })
drained_by r t d indexed owed known =
    record { indexed = indexed; none = owed ∙ d.none; living = subst (λ (es : List Known). Each (IsLiving es) r.owed) (sym known) d.living }

-- ---- what acts ask

pub bare_ready : (order : Order) (s : Local) → IsReady order s → IsReady order (bare s)
bare_ready order s h = record { places = h.places; units = h.units; once = h.once; own = h.own; tasks = tt; forced = h.forced }

pub brought_ready : (order : Order) (s : Local) (place : ℕ) (i : Item) → slice_get s.pending place ≡ Some i → IsReady order s → IsReady order (brought s place i)
brought_ready order s place i there h = record {
  places = h.places;
  units = h.units;
  once = h.once;
  own = h.own;
  tasks = tt;
  forced = (all_get (IsForcedHere order s.known) s.pending place i h.forced there, all_remove (IsForcedHere order s.known) s.pending place h.forced);
}

pub once_after : (order : Order) → EventsKeepReady order → (p : Problem) (s next : Local) (time : ℕ) (act : Act) (letters : List Letter) → Does order p s time act next letters → IsReady order s → AreOnce next.known
once_after order keeps p s next time act letters d ready =
    subst (λ (t : Local). AreOnce t.known) (sym d.effect) (keeps p s (record { time = time; peer = s.me; act = act }) d.found d.fits ready).once

-- ---- admit and reject

module _ (order : Order) (p : Problem) (r : Replayer) (t : State) (time place : ℕ) (letters : List Letter) (can : CanAct order r) where
  module _ (d : Does order p (local_of r.state) time (Admit place) (local_of t) letters) where
    admits_bare : Does order p (bare (replayed r)) time (Admit place) (local_of t) letters
    admits_bare = subst (λ (s : Local). Does order p s time (Admit place) (local_of t) letters) (bare_is r can.drained) d

    pub admit_once : EventsKeepReady order → AreOnce t.known
    admit_once keeps = once_after order keeps p (bare (replayed r)) (local_of t) time (Admit place) letters admits_bare (bare_ready order (replayed r) can.ready)

    pub admit_tasks : Each (IsLiving t.known) t.tasks.owed
    admit_tasks = admit_fresh (replayed r) place order p (local_of t) time letters admits_bare

    pub admit_done : EventsKeepReady order → (q : Replayer) → replayed q ≡ rejoined (local_of t) r.owed → IsDrained q → HasDone order p (replayed r) time (Admit place) q letters
    admit_done keeps q joined drained = record {
      does = subst (λ (s : Local). Does order p (replayed r) time (Admit place) s letters) (sym joined)
          (admit_moves (replayed r) place order p (local_of t) time letters admits_bare (admit_once keeps) can.drained.living);
      drained = drained;
    }

  pub reject_done : Does order p (local_of r.state) time (Reject place) (local_of t) letters → IsIndexed t → HasDone order p (replayed r) time (Reject place) (record { state = t; owed = r.owed }) letters
  reject_done d indexed = record {
    does = reject_moves (replayed r) place order p (local_of t) time letters (subst (λ (s : Local). Does order p s time (Reject place) (local_of t) letters) (bare_is r can.drained) d);
    drained = drained_by r t can.drained indexed (ap (λ (s : Local). s.owed) d.effect) (ap (λ (s : Local). s.known) d.effect);
  }

pub pass_done : (order : Order) (p : Problem) (r : Replayer) (t : State) (time : ℕ) (letters : List Letter) → IsDrained r → IsQuiet (replayed r) → Does order p (local_of r.state) time Pass (local_of t) letters → IsIndexed t
    → HasDone order p (replayed r) time Pass (record { state = t; owed = r.owed }) letters
pass_done order p r t time letters drained quiet d indexed =
    let owed : (local_of t).owed ≡ (local_of r.state).owed = ap (λ (s : Local). s.owed) d.effect ∙ (passed_owed (local_of r.state) d.found).0 in
    let known : (local_of t).known ≡ (local_of r.state).known = ap (λ (s : Local). s.known) d.effect ∙ (passed_owed (local_of r.state) d.found).1 in
    let before : local_of r.state ≡ replayed r = ap (λ (ts : List Task). record (local_of r.state) { owed = ts }) (drained.none ∙ sym quiet.owed) in
    let after : local_of t ≡ record (local_of t) { owed = r.owed } = ap (λ (ts : List Task). record (local_of t) { owed = ts }) (owed ∙ drained.none ∙ sym quiet.owed) in
    record {
      does = subst (λ (s : Local). Does order p s time Pass (record (local_of t) { owed = r.owed }) letters) before (subst (λ (s : Local). Does order p (local_of r.state) time Pass s letters) after d);
      drained = drained_by r t drained indexed owed known;
    }

-- ---- items

pub brought_sensible : (s : Local) (place : ℕ) (items : List Item) → IsBrought s.pending place items → IsSensible s → IsSensible (record s { pending = items })
brought_sensible s place items b h = record {
  places = h.places;
  once = h.once;
  own = h.own;
  usable = h.usable;
  items = subst (λ (is : List Item). Each (λ i. IsUsable i.clause) is) (sym b.2) (all_get (λ i. IsUsable i.clause) s.pending place b.0 h.items b.1, all_remove (λ i. IsUsable i.clause) s.pending place h.items);
}

module _ (order : Order) (p : Problem) (r : Replayer) (u t : State) (time place : ℕ) (letters : List Letter) (can : CanAct order r) (b : IsBrought r.state.pending.items place u.pending.items)
    (same : local_of u ≡ record (local_of r.state) { pending = u.pending.items }) where
  brought_is : local_of u ≡ brought (replayed r) place b.0
  brought_is =
      same ∙ ap (λ (is : List Item). record (local_of r.state) { pending = is }) b.2
      ∙ ap (λ (ts : List Task). record (local_of r.state) { pending = b.0 ∷ remove r.state.pending.items place; owed = ts }) can.drained.none

  module _ (d : Does order p (local_of u) time (Keep 0) (local_of t) letters) where
    keeps_brought : Does order p (brought (replayed r) place b.0) time (Keep 0) (local_of t) letters
    keeps_brought = subst (λ (s : Local). Does order p s time (Keep 0) (local_of t) letters) brought_is d

    pub keep_once : EventsKeepReady order → AreOnce t.known
    keep_once keeps = once_after order keeps p (brought (replayed r) place b.0) (local_of t) time (Keep 0) letters keeps_brought (brought_ready order (replayed r) place b.0 b.1 can.ready)

    pub keep_tasks : Each (IsLiving t.known) t.tasks.owed
    keep_tasks = keep_fresh (replayed r) place b.0 b.1 order p (local_of t) time letters keeps_brought

    pub keep_done : EventsKeepReady order → (q : Replayer) → replayed q ≡ rejoined (local_of t) r.owed → IsDrained q → HasDone order p (replayed r) time (Keep place) q letters
    keep_done keeps q joined drained = record {
      does = subst (λ (s : Local). Does order p (replayed r) time (Keep place) s letters) (sym joined)
          (keep_moves (replayed r) place b.0 b.1 order p (local_of t) time letters keeps_brought (keep_once keeps) can.drained.living);
      drained = drained;
    }

  module _ (d : Does order p (local_of u) time (Rewrite 0) (local_of t) letters) where
    pub rewrites_brought : Does order p (brought (replayed r) place b.0) time (Rewrite 0) (local_of t) letters
    rewrites_brought = subst (λ (s : Local). Does order p s time (Rewrite 0) (local_of t) letters) brought_is d

    pub rewrite_front : t.pending.items ≡ reworked rewrites_brought.found ∷ remove r.state.pending.items place
    rewrite_front = rewritten_first (replayed r) place b.0 b.1 order p (local_of t) time letters rewrites_brought

    -- the item stands in its place again
    pub rewrite_done : (w : State) → IsIndexed w → local_of w ≡ record (local_of t) { pending = w.pending.items }
        → w.pending.items ≡ insert (remove r.state.pending.items place) place (reworked rewrites_brought.found) → HasDone order p (replayed r) time (Rewrite place) (record { state = w; owed = r.owed }) letters
    rewrite_done w indexed is back = record {
      does = subst (λ (s : Local). Does order p (replayed r) time (Rewrite place) s letters)
          (ap (λ (x : List Item). record (local_of t) { pending = x; owed = r.owed }) (sym back) ∙ ap (λ (s : Local). record s { owed = r.owed }) (sym is))
          (rewrite_moves (replayed r) place b.0 b.1 order p (local_of t) time letters rewrites_brought);
      drained = drained_by r w can.drained indexed
          (ap (λ (s : Local). s.owed) is ∙ ap (λ (s : Local). s.owed) d.effect ∙ ap (λ (s : Local). s.owed) same)
          (ap (λ (s : Local). s.known) is ∙ ap (λ (s : Local). s.known) d.effect ∙ ap (λ (s : Local). s.known) same);
    }

-- ---- tasks

pub works_at : (order : Order) (p : Problem) (s : Local) (time place : ℕ) (task : Task) (found : List Conclusion) (pending : List Item) (owed : List Task) (done : List Done) (n units : ℕ) (letters : List Letter) → slice_get s.owed place ≡ Some task
    → Concludes order (registry_of s) task found → Each IsConclusionWithin found → s.units < s.limits.steps
    → AddsItems task found s.pending pending
    → owed ≡ remove s.owed place
    → done ≡ s.done ++ record { task = task; conclusions = n } ∷ []
    → n ≡ length found
    → units ≡ s.units + 1
    → letters ≡ []
    → Does order p s time (Work task) (record s { pending = pending; owed = owed; done = done; units = units }) letters
works_at order p s time place task found pending owed done n units letters there concludes within left adds ho hd hn hu hl = record {
  found = record { others = remove s.owed place; found = found; items = adds.items };
  fits = (left, record { takes = record { place = place; there = there; rest = refl }; concludes = concludes; within = within; items = adds.are });
  effect = rw (ho, hd, hn, hu, adds.added) refl;
  sends = hl;
}

pub place_within : {A : Type 0} (xs : List A) (k : ℕ) (x : A) → slice_get xs k ≡ Some x → k ≤ length (remove xs k)
place_within xs k x h = (let w = slice_get_within xs k x h in let l = length_remove xs k x h in omega (arith, w, l))
