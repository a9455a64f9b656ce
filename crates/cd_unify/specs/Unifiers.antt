-- Unifiers and matches of two lists of terms, over all substitutions: functions from variables to terms.
-- Beyond the headline: no clause of `prove` reaches raised, HaveNoUnifier, Absorbs, IsUnifierOrNone, Matches,
--   HaveNoMatch, IsMatch, Fits, ItemFits, PrefixFits, IsMatchOrNone.
use Rattle.std.specs.Prelude.{ℕ, ◌≡◌, ◌+◌, ◌<◌, List, length, map, Option, None, slice_index_or, take, IfSome, Bool, IsTrue, ◌↔◌, MatchOption}
use Rattle.std.specs.List.{flat_map}
use Rattle.cd_term.specs.declared.Term.{Term}
use Rattle.cd_term.specs.declared.Term.TheVariants.{Var}
use Rattle.cd_term.specs.Terms.{substituted, applied, value_of, variables_of, IsNumberedFrom}

-- a term with its variables moved up
abbrev pub raised : ℕ → Term → Term
raised n = substituted (λ k. Var (n + k))

-- a substitution that makes two lists of terms equal
abbrev pub Unifies : (ℕ → Term) → List Term → List Term → Type 0
Unifies g left right = map (substituted g) left ≡ map (substituted g) right

pub record HaveNoUnifier (left right : List Term) : Type 0 where
  pub none : (g : ℕ → Term) → Unifies g left right → ⊥

-- the most general unifier in its normal form: a unifier of which every unifier is an instance on the
-- variables below a number, and whose own variables are numbered in the order of first occurrence
pub record IsMgu (vars : ℕ) (left right s : List Term) : Type 0 where
  pub covers : length s ≡ vars
  pub unifies : map (applied s) left ≡ map (applied s) right
  pub general : (g : ℕ → Term) → Unifies g left right →
      (r : ℕ → Term) × ((k : ℕ) → k < vars → g k ≡ substituted r (value_of s k))
  pub normal : IsNumberedFrom 0 (flat_map variables_of s)

-- a unifier that every unifier absorbs
pub record Absorbs (vars : ℕ) (left right s : List Term) : Type 0 where
  pub covers : length s ≡ vars
  pub unifies : map (applied s) left ≡ map (applied s) right
  pub general : (g : ℕ → Term) → Unifies g left right → (k : ℕ) → k < vars → substituted g (value_of s k) ≡ g k

-- what a search for the most general unifier answers
abbrev pub IsUnifierOrNone : ℕ → List Term → List Term → Option (List Term) → Type 0
IsUnifierOrNone vars left right answer =
    MatchOption answer (HaveNoUnifier left right) (IsMgu vars left right)

-- a substitution that makes a list of terms equal to another, whose variables stay as they are
abbrev pub Matches : (ℕ → Term) → List Term → List Term → Type 0
Matches g general special = map (substituted g) general ≡ special

pub record HaveNoMatch (general special : List Term) : Type 0 where
  pub none : (g : ℕ → Term) → Matches g general special → ⊥

pub record IsMatch (vars : ℕ) (general special s : List Term) : Type 0 where
  pub covers : length s ≡ vars
  pub matches : map (applied s) general ≡ special

-- a substitution gives each bound variable its value; a variable without one may have any
abbrev pub Fits : (ℕ → Term) → List (Option Term) → Type 0
Fits g values = (k : ℕ) → IfSome (slice_index_or values k None) (λ u. g k ≡ u)

-- what a test of one term against another makes of the values: a substitution that fits the old ones and
-- makes the one term equal to the other fits the new ones, and the other way round; there is none where the
-- test fails
abbrev pub ItemFits : List (Option Term) → List (Option Term) → Term → Term → Bool → Type 0
ItemFits old new t u answer = (g : ℕ → Term) →
    ((Fits g old × (substituted g t ≡ u)) ↔ (IsTrue answer × Fits g new))

-- the same of the first items of two lists
abbrev pub PrefixFits : List (Option Term) → List (Option Term) → List Term → List Term → ℕ → Type 0
PrefixFits old new ts us i = (g : ℕ → Term) →
    ((Fits g old × (map (substituted g) (take i ts) ≡ take i us)) ↔ Fits g new)

-- what a search for a match answers
abbrev pub IsMatchOrNone : ℕ → List Term → List Term → Option (List Term) → Type 0
IsMatchOrNone vars general special answer =
    MatchOption answer (HaveNoMatch general special) (IsMatch vars general special)
