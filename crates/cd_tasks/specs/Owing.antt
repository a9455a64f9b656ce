-- What a contract sees of the tasks: the arrivals, what is owed, and for how many arrivals there is room.
-- Beyond the headline: no clause of `prove` reaches Owing, IsNew, IsPlaceOf, put_in, arrived_covered, arrived,
--   cover_one, free_of, without, finished, roomy.
use Rattle.std.specs.Prelude.{true, ◌≡◌, Some, slice_get, ◌≢◌, ℕ, ◌-◌, Bool, false, not, ◌||◌, List, [], ◌∷◌, ◌++◌, map, filter, drop, max}
use Rattle.std.specs.List.{AllByRecursion}
use Rattle.std.specs.Option.{option_map}
use Rattle.cd_names.specs.declared.names.Name.{Name}
use Rattle.cd_names.specs.Names.{name_eq}
use Rattle.cd_tasks.specs.declared.Task.{Task}
use Rattle.cd_tasks.specs.declared.Task.TheVariants.{Solo, Pair}
use Rattle.cd_tasks.specs.declared.Arrival.{Arrival}
use Rattle.cd_tasks.specs.Order.{new_tasks, tasks_at}

pub record Owing : Type 0 where
  pub arrivals : List Arrival
  pub owed : List Task
  pub spare : ℕ

-- a task with a name of which the test holds
abbrev pub touches : (Name → Bool) → Task → Bool
touches test (Solo a) = test a
touches test (Pair a b) = test a || test b

-- the name hasn't arrived
abbrev pub IsNew : Name → List Arrival → Type 0
IsNew n es = AllByRecursion (λ a. a.name ≢ n) es

-- the name is that of the arrival in a place
abbrev pub IsPlaceOf : Name → List Arrival → ℕ → Type 0
IsPlaceOf n es place = option_map (λ a. a.name) (slice_get es place) ≡ Some n

-- an arrival more
abbrev pub put_in : Owing → Arrival → Owing
put_in t a = record { arrivals = t.arrivals ++ a ∷ []; owed = t.owed ++ tasks_at a t.arrivals; spare = t.spare - 1 }

-- a name arrives and is covered at once: it has no tasks
abbrev pub arrived_covered : Owing → Name → Bool → Owing
arrived_covered t n resident = record {
  arrivals = t.arrivals ++ record { name = n; resident = resident; covered = true } ∷ [];
  owed = t.owed;
  spare = t.spare - 1;
}

-- the name arrives: its tasks are owed behind the others
abbrev pub arrived : Owing → Name → Bool → Owing
arrived t n resident = record {
  arrivals = t.arrivals ++ record { name = n; resident = resident; covered = false } ∷ [];
  owed = t.owed ++ new_tasks n resident t.arrivals;
  spare = t.spare - 1;
}

abbrev pub cover_one : Name → Arrival → Arrival
cover_one n a = record a { covered = name_eq a.name n || a.covered }

abbrev pub free_of : Name → Task → Bool
free_of n t = not (touches (λ m. name_eq m n) t)

-- the name is covered: no task with it is owed
abbrev pub without : Owing → Name → Owing
without t n = record t { arrivals = map (cover_one n) t.arrivals; owed = filter (free_of n) t.owed }

-- the first owed task is taken out
abbrev pub finished : Owing → Owing
finished t = record t { owed = drop 1 t.owed }

-- room for n arrivals at least
abbrev pub roomy : Owing → ℕ → Owing
roomy t n = record t { spare = max t.spare n }
