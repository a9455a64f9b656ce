-- Links from arrival to arrival, which pass over what isn't asked for.
-- Beyond the headline: no clause of `prove` reaches this file.
use Rattle.std.specs.Prelude.{◌≡◌, ℕ, zero, suc, ◌+◌, ◌<◌, ◌≤◌, ◌⊎◌, ◌==◌, if◌then◌else◌, Bool, true, false, List, [], ◌∷◌, length, slice_index}
use Rattle.cd_tasks.specs.declared.Arrival.{Arrival}
use Rattle.cd_tasks.specs.declared.cursor.Stage.{Stage}
use Rattle.cd_tasks.specs.declared.cursor.Stage.TheVariants.{Alone, Second, First}
use Rattle.cd_tasks.specs.Order.{is_live, is_home}

-- the arrival in a place passes
abbrev pub passes_at : (Arrival → Bool) → List Arrival → ℕ → Bool
passes_at test [] k = false
passes_at test (a ∷ es) zero = test a
passes_at test (a ∷ es) (suc k) = passes_at test es k

-- none passes from a place up to another
unfoldable pub NonePass : (Arrival → Bool) → List Arrival → ℕ → ℕ → Type 0
NonePass test es from to = (k : ℕ) → from ≤ k → k < to → passes_at test es k ≡ false

-- each link leads up, over arrivals none of which passes
pub record AreLinks (test : Arrival → Bool) (es : List Arrival) (links : List ℕ) : Type 0 where
  pub same_length : length links ≡ length es
  pub up : (k : ℕ) → k < length es → k < slice_index links k
  pub within : (k : ℕ) → k < length es → slice_index links k ≤ length es
  pub over : (k : ℕ) → k < length es → NonePass test es (k + 1) (slice_index links k)

-- a stage of the arrival in a place doesn't go beyond the arrival
abbrev pub IsReached : ℕ → Stage → Type 0
IsReached turn Alone = Unit {0}
IsReached turn (Second k) = k ≤ turn
IsReached turn (First k) = k ≤ turn

-- a stage is that of a task of the arrival
abbrev pub IsWithin : ℕ → Stage → Type 0
IsWithin turn Alone = Unit {0}
IsWithin turn (Second k) = k ≤ turn
IsWithin turn (First k) = k < turn

-- the stage behind that of a task
abbrev pub after : ℕ → Stage → Stage
after turn Alone = Second 0
after turn (Second k) = if k == turn then First 0 else Second (k + 1)
after turn (First k) = First (k + 1)

-- the task at a stage is owed
abbrev pub IsDue : List Arrival → ℕ → Stage → Type 0
IsDue es turn Alone = passes_at is_home es turn ≡ true
IsDue es turn (Second k) = (k ≤ turn) × (passes_at is_live es k ≡ true) × (passes_at is_live es turn ≡ true)
IsDue es turn (First k) = (k < turn) × (passes_at is_home es k ≡ true) × (passes_at is_live es turn ≡ true)

-- the place in the order is that of an owed task, or the end
abbrev pub IsSettled : List Arrival → ℕ → Stage → Type 0
IsSettled es turn stage = ((turn ≡ length es) × (stage ≡ Alone)) ⊎ ((turn < length es) × IsDue es turn stage)
