-- Values bound to variables one after another, and taken back.
-- Beyond the headline: no clause of `prove` reaches this file.
use Rattle.std.specs.Prelude.{ℕ, ◌≡◌, Bool, List, [], ◌∷◌, ◌++◌, length, map, Option, None, slice_set, IsTrue, ◌↔◌}
use Rattle.std.specs.Option.{option_copied}
use Rattle.cd_term.specs.declared.Term.{Term}
use Rattle.cd_term.specs.Terms.{substituted}
use Rattle.cd_unify.specs.declared.bindings.Bindings.{Bindings}
use Rattle.cd_unify.specs.Unifiers.{Fits}

-- the values of the variables
abbrev pub values_in : Bindings → List (Option Term)
values_in b = map option_copied b.values.items

-- how many variables have a place for a value: those below this number
abbrev pub room_in : Bindings → ℕ
room_in b = length b.values.items

-- the variables that have values, in the order in which they got them
abbrev pub trail_in : Bindings → List ℕ
trail_in b = b.trail.items

-- the values without those of some variables, the last ones taken back first
abbrev pub unbound : List ℕ → List (Option Term) → List (Option Term)
unbound [] vs = vs
unbound (k ∷ ks) vs = slice_set (unbound ks vs) k None

-- the variables that got their values since are noted on a trail
pub record IsTrail (old : List (Option Term)) (before : List ℕ) (new : List (Option Term)) (after : List ℕ) : Type 0 where
  pub more : List ℕ
  pub longer : after ≡ before ++ more
  pub back : unbound more new ≡ old

abbrev pub IsNoted : Bindings → Bindings → Type 0
IsNoted old new = IsTrail (values_in old) (trail_in old) (values_in new) (trail_in new)

-- what a test that binds variables makes of the values: a substitution that fits the old ones and passes the test
-- fits the new ones, and the other way round; there is none where the test fails
abbrev pub Binds : ((ℕ → Term) → Type 0) → List (Option Term) → List (Option Term) → Bool → Type 0
Binds P old new answer = (g : ℕ → Term) → ((Fits g old × P g) ↔ (IsTrue answer × Fits g new))

-- a substitution makes a term equal to another one, and several terms to several others
abbrev pub TermBinds : Term → Term → (ℕ → Term) → Type 0
TermBinds t u g = substituted g t ≡ u

abbrev pub ListBinds : List Term → List Term → (ℕ → Term) → Type 0
ListBinds ts us g = map (substituted g) ts ≡ us
