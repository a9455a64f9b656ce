-- The search for picks: the literals that have theirs, and what was tried before.
-- Beyond the headline: no clause of `prove` reaches this file.
use Rattle.std.specs.Prelude.{true, ℕ, ◌≡◌, ◌≢◌, ◌+◌, ◌-◌, ◌*◌, ◌^◌, ◌<◌, ◌≤◌, ◌↔◌, IsTrue, Bool, List, [], ◌∷◌, ◌++◌, length, map, sum_by, nat_eq, nat_lt, Option, Some, slice_get, if◌then◌else◌}
use Rattle.cd_term.specs.declared.Term.{Term}
use Rattle.cd_clause.specs.declared.Literal.{Literal}
use Rattle.cd_term.specs.Terms.{bound_of, greatest}
use Rattle.cd_clause.specs.Clauses.{terms_of}
use Rattle.cd_unify.specs.Unifiers.{Fits}
use Rattle.cd_unify.specs.Bindings.{IsTrail, Binds, values_in, room_in, trail_in}
use Rattle.cd_subsume.specs.declared.picks.Pick.{Pick}
use Rattle.cd_subsume.specs.declared.partners.Goal.{Goal}
use Rattle.cd_subsume.specs.declared.search.Chosen.{Chosen}
use Rattle.cd_subsume.specs.declared.search.Search.{Search}
use Rattle.cd_subsume.specs.Picks.{code_of}
use Rattle.cd_subsume.specs.Subsumption.{IsPicked, ArePicked}

-- how often a literal is a goal, and how many goals are no literals below a number
abbrev pub times : ℕ → List Goal → ℕ
times k goals = sum_by (λ goal. if nat_eq goal.literal k then 1 else 0) goals

abbrev pub strays : ℕ → List Goal → ℕ
strays n goals = sum_by (λ goal. if nat_lt goal.literal n then 0 else 1) goals

-- each literal below a number is a goal once
pub record AreGoals (n : ℕ) (goals : List Goal) : Type 0 where
  pub as_many : length goals ≡ n
  pub inside : strays n goals ≡ 0
  pub once : (k : ℕ) → k < n → times k goals ≡ 1

-- picks have those that are chosen
abbrev pub Agrees : List Pick → List Chosen → Type 0
Agrees picks chosen = (i : ℕ) (c : Chosen) → slice_get chosen i ≡ Some c → slice_get picks c.literal ≡ Some c.pick

-- no picks that have those that are chosen have an earlier one for a literal
abbrev pub Tried : List Literal → List Literal → List Chosen → ℕ → Pick → Type 0
Tried ls ms chosen literal next = (g : ℕ → Term) (picks : List Pick) (p : Pick) → ArePicked g ls ms picks →
    Agrees picks chosen → slice_get picks literal ≡ Some p → code_of next ≤ code_of p

-- the literals that were taken one after another have their picks, the values are those that make them instances, the
-- trail leads back to the values before each of them, and earlier picks were tried in vain
pub data Stack (ls ms : List Literal) : List (Option Term) → List ℕ → List Chosen → Type 0 where
  bottom : (vs : List (Option Term)) → ((g : ℕ → Term) → Fits g vs) → Stack ls ms vs [] []
  push : (vs ws : List (Option Term)) (before after : List ℕ) (chosen : List Chosen) (l : Literal) (c : Chosen) →
      Stack ls ms vs before chosen → slice_get ls c.literal ≡ Some l →
      Binds (λ g. IsPicked g l ms c.pick) vs ws true →
      ((i : ℕ) (b : Chosen) → slice_get chosen i ≡ Some b → b.pick.place ≢ c.pick.place) →
      Tried ls ms chosen c.literal c.pick →
      c.pick.place < length ms → c.mark ≡ length before → IsTrail vs before ws after →
      Stack ls ms ws after (chosen ++ c ∷ [])

-- some pick has a place
abbrev pub HasPlace : List Chosen → ℕ → Type 0
HasPlace chosen place = (i : ℕ) × (c : Chosen) × (slice_get chosen i ≡ Some c) × (c.pick.place ≡ place)

-- the places that are taken are those of the picks
pub record AreTaken (ms : List Literal) (chosen : List Chosen) (taken : List Bool) : Type 0 where
  pub covers : length taken ≡ length ms
  pub each : (place : ℕ) (b : Bool) → slice_get taken place ≡ Some b → (IsTrue b ↔ HasPlace chosen place)

-- the picks so far, and the one that is tried next
abbrev pub front_of : List Chosen → Pick → List Pick
front_of chosen next = map (λ c. c.pick) chosen ++ next ∷ []

-- how much of the search is left: a number with a digit for each literal
abbrev pub digit : ℕ → Pick → ℕ
digit places p = 2 * places + 1 - code_of p

abbrev pub number : ℕ → ℕ → List Pick → ℕ
number places n [] = n
number places n (p ∷ ps) = number places (n * (2 * places + 3) + digit places p) ps

abbrev pub left_of : ℕ → ℕ → List Chosen → Pick → ℕ
left_of literals places chosen next =
    (number places 0 (front_of chosen next) + 1) * (2 * places + 3) ^ (literals - length chosen)

-- each variable of the literals has a place
abbrev pub AreBounded : List Literal → ℕ → Type 0
AreBounded ls n = (i : ℕ) (l : Literal) → slice_get ls i ≡ Some l → greatest (map bound_of (terms_of l.atom)) ≤ n

-- where a search stands: the first goals have their picks, in their order, and the next pick is tried for the goal
-- behind them
pub record IsSearch (ls ms : List Literal) (room : ℕ) (values : List (Option Term)) (trail : List ℕ) (goals : List Goal) (chosen : List Chosen)
    (marks : List Bool) (next : Pick) : Type 0 where
  pub bounded : AreBounded ls room
  pub order : AreGoals (length ls) goals
  pub stack : Stack ls ms values trail chosen
  pub begun : (i : ℕ) (c : Chosen) → slice_get chosen i ≡ Some c → (goal : Goal) × (slice_get goals i ≡ Some goal) × (goal.literal ≡ c.literal)
  pub taken : AreTaken ms chosen marks
  pub tried : (goal : Goal) → slice_get goals (length chosen) ≡ Some goal → Tried ls ms chosen goal.literal next
  pub near : code_of next ≤ 2 * length ms

abbrev pub Searches : List Literal → List Literal → Search → Type 0
Searches ls ms s = IsSearch ls ms (room_in s.bindings) (values_in s.bindings) (trail_in s.bindings) s.goals.items s.chosen.items s.taken.items s.next
