-- The laws of subsumption that other crates build on. Each is the contract of a function of the module `laws`.
-- Beyond the headline: no clause of `prove` reaches this file.
use Rattle.std.specs.Prelude.{◌≡◌, ℕ, ◌≤◌, Bool, sum_by}
use Rattle.cd_list.specs.Decisions.{Decided}
use Rattle.cd_term.specs.declared.Term.{Term}
use Rattle.cd_term.specs.Terms.{substituted}
use Rattle.cd_clause.specs.declared.Literal.{Literal}
use Rattle.cd_clause.specs.declared.Clause.{Clause}
use Rattle.cd_clause.specs.Clauses.{atom_changed, literal_size, IsTidied}
use Rattle.cd_clause.specs.Truth.{Interp, IsInterp, Holds}
use Rattle.cd_subsume.specs.Subsumption.{IsTurned, Subsumes}

-- what subsumes a clause implies it
abbrev pub SubsumersImply : Type 0
SubsumersImply = (interp : Interp) (d c : Clause) → IsInterp interp → Subsumes d c → Holds interp d → Holds interp c

-- one clause subsumes another one, or it doesn't
abbrev pub SubsumptionDecides : Type 0
SubsumptionDecides = (d c : Clause) → Decided (Subsumes d c)

-- a tidy form subsumes its clause
abbrev pub TidyFormsSubsume : Type 0
TidyFormsSubsume = (c d : Clause) → IsTidied c d → Subsumes d c

-- a number of a literal of which no instance has less, sides exchanged or not
pub record NeverFalls (h : Literal → ℕ) : Type 0 where
  pub at_each : (g : ℕ → Term) (l m : Literal) (is_exchanged : Bool) → l.positive ≡ m.positive →
      IsTurned is_exchanged (atom_changed (substituted g) l.atom) m.atom → h l ≤ h m

-- a subsumer has no more of it over all of its literals
abbrev pub SubsumersHaveNoMore : Type 0
SubsumersHaveNoMore = (h : Literal → ℕ) → NeverFalls h → (d c : Clause) → Subsumes d c → sum_by h d.literals ≤ sum_by h c.literals

-- the sign of a literal never falls, whatever number it counts as, and neither does the size
abbrev pub SignsNeverFall : Type 0
SignsNeverFall = (f : Bool → ℕ) → NeverFalls (λ l. f l.positive)

abbrev pub SizesNeverFall : Type 0
SizesNeverFall = NeverFalls literal_size
