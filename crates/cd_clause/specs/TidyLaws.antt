-- The laws of tidy forms that other crates build on. Each is the contract of a function of the module `laws`.
-- Beyond the headline: no clause of `prove` reaches this file.
use Rattle.cd_list.specs.Decisions.{Decided}
use Rattle.cd_term.specs.Symbols.{Symbols}
use Rattle.cd_clause.specs.declared.Clause.{Clause}
use Rattle.cd_clause.specs.Clauses.{IsTidied, IsWithinBounds}
use Rattle.cd_clause.specs.Over.{LiteralsOver}

-- each clause has a tidy form
abbrev pub TidyFormsExist : Type 0
TidyFormsExist = (c : Clause) → (d : Clause) × IsTidied c d

-- one clause is the tidy form of another, or it isn't
abbrev pub TidyFormsDecide : Type 0
TidyFormsDecide = (c d : Clause) → Decided (IsTidied c d)

-- a tidy form is its own
abbrev pub TidyFormsAreTidy : Type 0
TidyFormsAreTidy = (c d : Clause) → IsTidied c d → IsTidied d d

-- the tidy form of a clause within bounds is within bounds
abbrev pub TidyFormsAreSmall : Type 0
TidyFormsAreSmall = (c d : Clause) → IsTidied c d → IsWithinBounds c → IsWithinBounds d

-- the tidy form has no other symbols
abbrev pub TidyFormsAreOver : Type 0
TidyFormsAreOver = (y : Symbols) (c d : Clause) → IsTidied c d → LiteralsOver y c.literals → LiteralsOver y d.literals
