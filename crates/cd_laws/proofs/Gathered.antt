-- The tasks of a new record, gathered from the known entries one after another.
use Rattle.std.proofs.Common.{◌≡◌, ◌∙◌, ℕ, ◌==◌, Bool, true, false, not, ◌&&◌, cond, if◌then◌else◌, List, [], ◌∷◌, ◌++◌, map, filter, refl}
use Rattle.std.specs.Prelude.{Option, Some, None, filter_map}
use Rattle.std.specs.List.{cons_option}
use Rattle.cd_names.specs.declared.names.Name.{Name}
use Rattle.cd_tasks.specs.declared.Task.{Task}
use Rattle.cd_tasks.specs.declared.Task.TheVariants.{Solo, Pair}
use Rattle.cd_tasks.specs.declared.Arrival.{Arrival}
use Rattle.cd_tasks.specs.Order.{is_live, is_home, names_of, seconds, firsts}
use Rattle.cd_ledger.specs.declared.records.Known.{Known}
use Rattle.cd_ledger.specs.declared.records.Record.{Record}
use Rattle.cd_ledger.specs.Statuses.{is_held}
use Rattle.cd_machine.specs.Arrivals.{arrival_of, tasks_of}

abbrev pub second_of : Name → Known → Option Task
second_of n e = if is_held e then Some (Pair e.entry.name n) else None

abbrev pub first_of : ℕ → Name → Known → Option Task
first_of me n e = if is_held e && (e.entry.owner == me) then Some (Pair n e.entry.name) else None

abbrev pub own_tasks : Name → List Known → List Task
own_tasks n es = Solo n ∷ (filter_map (second_of n) es ++ Pair n n ∷ [])

abbrev pub gathered_tasks : ℕ → Record → List Known → List Task
gathered_tasks me r es = (if r.owner == me then own_tasks r.name es else []) ++ filter_map (first_of me r.name) es

module _ (me : ℕ) (n : Name) where
  cons_seconds : (h : Bool) (x : Name) (es : List Arrival) (a : Arrival) (ts : List Task) → a.name ≡ x → map (λ (k : Name). Pair k n) (names_of is_live es) ≡ ts
      → map (λ (k : Name). Pair k n) (map (λ (b : Arrival). b.name) (cond (not (not h)) (a ∷ filter is_live es) (filter is_live es))) ≡ cond h (Pair x n ∷ ts) ts
  cons_seconds true x es a ts named e = λ i. Pair (named i) n ∷ e i
  cons_seconds false x es a ts named e = e

  same_seconds : (es : List Known) → seconds n (map (arrival_of me) es) ≡ filter_map (second_of n) es
  same_seconds [] = refl
  same_seconds (e ∷ es) =
      cons_seconds (is_held e) e.entry.name (map (arrival_of me) es) (arrival_of me e) (filter_map (second_of n) es) refl (same_seconds es) ∙ by (is_held e)
    where
      by : (h : Bool) → cond h (Pair e.entry.name n ∷ filter_map (second_of n) es) (filter_map (second_of n) es)
          ≡ cons_option (if h then Some (Pair e.entry.name n) else None) (filter_map (second_of n) es)
      by true = refl
      by false = refl

  cons_firsts : (h o : Bool) (x : Name) (es : List Arrival) (a : Arrival) (ts : List Task) → a.name ≡ x → map (λ (k : Name). Pair n k) (names_of is_home es) ≡ ts
      → map (λ (k : Name). Pair n k) (map (λ (b : Arrival). b.name) (cond (not (not h) && o) (a ∷ filter is_home es) (filter is_home es))) ≡ cons_option (if h && o then Some (Pair n x) else None) ts
  cons_firsts true true x es a ts named e = λ i. Pair n (named i) ∷ e i
  cons_firsts true false x es a ts named e = e
  cons_firsts false o x es a ts named e = e

  same_firsts : (es : List Known) → firsts n (map (arrival_of me) es) ≡ filter_map (first_of me n) es
  same_firsts [] = refl
  same_firsts (e ∷ es) =
      cons_firsts (is_held e) (e.entry.owner == me) e.entry.name (map (arrival_of me) es) (arrival_of me e) (filter_map (first_of me n) es) refl (same_firsts es)

pub same_tasks : (me : ℕ) (r : Record) (es : List Known) → tasks_of me r es ≡ gathered_tasks me r es
same_tasks me r es =
    λ i. (if r.owner == me then Solo r.name ∷ (same_seconds me r.name es i ++ Pair r.name r.name ∷ []) else []) ++ same_firsts me r.name es i
