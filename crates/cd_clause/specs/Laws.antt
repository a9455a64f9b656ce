-- The laws of clauses that other crates build on. Each is the contract of a function of the module `laws`.
-- Beyond the headline: no clause of `prove` reaches this file.
use Rattle.std.specs.List.{list_any, flat_map}
use Rattle.std.specs.Prelude.{ℕ, ◌≡◌, ◌<◌, ◌↔◌, IsTrue}
use Rattle.cd_list.specs.Decisions.{Decided}
use Rattle.cd_term.specs.declared.Term.{Term}
use Rattle.cd_term.specs.declared.Term.TheVariants.{Var}
use Rattle.cd_term.specs.Terms.{occurs, variables_of, IsNumberedFrom}
use Rattle.cd_clause.specs.declared.Atom.{Atom}
use Rattle.cd_clause.specs.declared.Clause.{Clause}
use Rattle.cd_clause.specs.Clauses.{clause_terms, variable_bound_of, instance, renumbered_literals, IsWithinBounds, IsSameAtom, IsTautology, IsTidied}
use Rattle.cd_clause.specs.Truth.{Interp, IsInterp, Holds}

-- a clause that holds, holds under every substitution
abbrev pub InstancesHold : Type 0
InstancesHold = (interp : Interp) (g : ℕ → Term) (c : Clause) → IsInterp interp → Holds interp c → Holds interp (instance g c)

-- a tautology holds in every interpretation
abbrev pub TautologiesHold : Type 0
TautologiesHold = (interp : Interp) (c : Clause) → IsTautology c → Holds interp c

-- two atoms are the same up to the exchange of an equation's sides, or they aren't
abbrev pub AtomsDecide : Type 0
AtomsDecide = (a b : Atom) → Decided (IsSameAtom a b)

-- a clause is a tautology, or it isn't
abbrev pub TautologiesDecide : Type 0
TautologiesDecide = (c : Clause) → Decided (IsTautology c)

-- a clause is within bounds, or it isn't
abbrev pub BoundsDecide : Type 0
BoundsDecide = (c : Clause) → Decided (IsWithinBounds c)

-- a clause and its tidy form hold in the same interpretations
abbrev pub TidyKeepsModels : Type 0
TidyKeepsModels = (interp : Interp) (c d : Clause) → IsInterp interp → IsTidied c d →
    (Holds interp c → Holds interp d) × (Holds interp d → Holds interp c)

-- a clause has one tidy form
abbrev pub TidyFormsAgree : Type 0
TidyFormsAgree = (c d e : Clause) → IsTidied c d → IsTidied c e → d ≡ e

-- a variable occurs in a clause
abbrev pub OccursIn : ℕ → Clause → Type 0
OccursIn k c = IsTrue (list_any (occurs k) (clause_terms c.literals))

-- one renaming makes the first clause the second, another makes the second the first, and each undoes the other
-- on the variables that occur: so each takes different variables to different ones
pub record AreVariants (c d : Clause) (there back : ℕ → ℕ) : Type 0 where
  pub renamed : instance (λ k. Var (there k)) c ≡ d
  pub renamed_back : instance (λ n. Var (back n)) d ≡ c
  pub undone : (k : ℕ) → OccursIn k c → back (there k) ≡ k
  pub redone : (n : ℕ) → OccursIn n d → there (back n) ≡ n

-- a clause and its renumbered clause differ by a renaming that has an inverse, and the variables of the
-- renumbered one are exactly the numbers below its bound
abbrev pub RenumberingIsOneToOne : Type 0
RenumberingIsOneToOne = (c d : Clause) → d.literals ≡ renumbered_literals c.literals →
    ((there : ℕ → ℕ) × (back : ℕ → ℕ) × AreVariants c d there back)
    × ((n : ℕ) → OccursIn n d ↔ (n < variable_bound_of d))

-- the variables of a renumbered clause stand in the order of first occurrence
abbrev pub RenumberedInOrder : Type 0
RenumberedInOrder = (c d : Clause) → d.literals ≡ renumbered_literals c.literals →
    IsNumberedFrom 0 (flat_map variables_of (clause_terms d.literals))
