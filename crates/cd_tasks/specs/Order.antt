-- The order of tasks, the tasks of a new name, and what is left of the order at a place in it.
-- Beyond the headline: no clause of `prove` reaches due, tasks_at, order, task_order, rest_at, at_hand, owed_at,
--   owed_of, IsBackOf.
use Rattle.std.specs.Prelude.{◌≡◌, ℕ, Bool, not, ◌&&◌, if◌then◌else◌, List, [], ◌∷◌, ◌++◌, map, filter, take, drop}
use Rattle.cd_names.specs.declared.names.Name.{Name}
use Rattle.cd_tasks.specs.declared.Task.{Task}
use Rattle.cd_tasks.specs.declared.Task.TheVariants.{Solo, Pair}
use Rattle.cd_tasks.specs.declared.Arrival.{Arrival}
use Rattle.cd_tasks.specs.declared.links.Side.{Side}
use Rattle.cd_tasks.specs.declared.links.Side.TheVariants.{Live, Home}
use Rattle.cd_tasks.specs.declared.cursor.Stage.{Stage}
use Rattle.cd_tasks.specs.declared.cursor.Stage.TheVariants.{Alone, Second, First}

-- not covered
abbrev pub is_live : Arrival → Bool
is_live a = not a.covered

-- not covered, and owned here
abbrev pub is_home : Arrival → Bool
is_home a = not a.covered && a.resident

abbrev pub due : Side → Arrival → Bool
due Live a = is_live a
due Home a = is_home a

abbrev pub names_of : (Arrival → Bool) → List Arrival → List Name
names_of test es = map (λ a. a.name) (filter test es)

-- each name that isn't covered, with n as the second
abbrev pub seconds : Name → List Arrival → List Task
seconds n es = map (λ k. Pair k n) (names_of is_live es)

-- n as the first, with each name that isn't covered and is owned here
abbrev pub firsts : Name → List Arrival → List Task
firsts n es = map (λ k. Pair n k) (names_of is_home es)

-- the tasks of a name in their order, behind those that arrived before it: where it is owned here, alone, each
-- earlier name with it, and it with itself; then it with each earlier name that is owned here
abbrev pub new_tasks : Name → Bool → List Arrival → List Task
new_tasks n resident before =
    (if resident then Solo n ∷ (seconds n before ++ Pair n n ∷ []) else []) ++ firsts n before

-- a covered name has none
abbrev pub tasks_at : Arrival → List Arrival → List Task
tasks_at a before = if is_live a then new_tasks a.name a.resident before else []

-- the tasks of the later arrivals, one arrival after another
abbrev pub order : List Arrival → List Arrival → List Task
order before [] = []
order before (a ∷ later) = tasks_at a before ++ order (before ++ a ∷ []) later

-- all tasks in their order, covered names passed over
abbrev pub task_order : List Arrival → List Task
task_order es = order [] es

-- ---- what is left of the order at a place in it

-- of the tasks of one arrival, from a stage on
abbrev pub rest_at : Stage → Arrival → List Arrival → List Task
rest_at Alone a before = new_tasks a.name a.resident before
rest_at (Second k) a before = seconds a.name (drop k before) ++ (Pair a.name a.name ∷ firsts a.name before)
rest_at (First k) a before = firsts a.name (drop k before)

abbrev pub at_hand : Stage → Arrival → List Arrival → List Task
at_hand stage a before = if is_live a then rest_at stage a before else []

abbrev pub owed_at : Stage → List Arrival → List Arrival → List Task
owed_at stage before [] = []
owed_at stage before (a ∷ later) = at_hand stage a before ++ order (before ++ a ∷ []) later

-- of all tasks, from a stage of the arrival in a place on
unfoldable pub owed_of : List Arrival → ℕ → Stage → List Task
owed_of es turn stage = owed_at stage (take turn es) (drop turn es)

-- what is owed is the order without a front of it
abbrev pub IsBackOf : List Task → List Task → Type 0
IsBackOf owed all = (front : List Task) × (all ≡ front ++ owed)
