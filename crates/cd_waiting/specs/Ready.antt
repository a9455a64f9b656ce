-- Letters that wait for names, and which of them is the first that is ready.
-- Beyond the headline: no clause of `prove` reaches this file.
use Rattle.std.specs.Prelude.{◌≡◌, ◌⊎◌, ℕ, Bool, true, false, List, [], ◌∷◌, Option, Some, None, if◌then◌else◌, suc, take, slice_get}
use Rattle.std.specs.List.{AllByRecursion, list_all}
use Rattle.std.specs.Option.{option_map}
use Rattle.cd_names.specs.declared.names.Name.{Name}
use Rattle.cd_waiting.specs.declared.waiting.Waiter.{Waiter}

abbrev pub waiter : {T : Type 0} → T → List Name → Waiter T
waiter letter needs = record { letter = letter; needs = needs }

-- P of some name
abbrev pub SomeName : (Name → Type 0) → List Name → Type 0
SomeName P [] = ⊥
SomeName P (n ∷ ns) = P n ⊎ SomeName P ns

-- each need of the letter is answered by yes
abbrev pub IsReady : {T : Type 0} → (Name → Bool → Type 0) → Waiter T → Type 0
IsReady answers w = AllByRecursion (λ n. answers n true) w.needs

-- some need of the letter is answered by no
abbrev pub IsHeldUp : {T : Type 0} → (Name → Bool → Type 0) → Waiter T → Type 0
IsHeldUp answers w = SomeName (λ n. answers n false) w.needs

-- the letter in a place is ready, and each before it is held up
pub record IsFirstReady {T : Type 0} (answers : Name → Bool → Type 0) (ws : List (Waiter T)) (place : ℕ) : Type 0 where
  pub first : Waiter T
  pub there : slice_get ws place ≡ Some first
  pub ready : IsReady answers first
  pub before : AllByRecursion (IsHeldUp answers) (take place ws)

-- the first place of a letter all of whose needs pass
abbrev pub first_ready : {T : Type 0} → (Name → Bool) → List (Waiter T) → Option ℕ
first_ready test [] = None
first_ready test (w ∷ ws) = if list_all test w.needs then Some 0 else option_map suc (first_ready test ws)

-- the answers are those of a test
abbrev pub AreOf : (Name → Bool → Type 0) → (Name → Bool) → Type 0
AreOf answers test = (n : Name) (b : Bool) → answers n b → b ≡ test n
