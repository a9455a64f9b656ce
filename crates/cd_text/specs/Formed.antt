-- The form of a derivation line.
-- Beyond the headline: no clause of `prove` reaches ArePrintable, IsLine.
use Rattle.std.specs.Prelude.{◌≡◌, ℕ, ◌<◌, List, length}
use Rattle.std.specs.List.{AllByRecursion}
use Rattle.cd_term.specs.declared.Term.{Term}
use Rattle.cd_term.specs.Terms.{AreWithin}
use Rattle.cd_clause.specs.Clauses.{IsWithinBounds}
use Rattle.cd_steps.specs.declared.Step.{Step}
use Rattle.cd_steps.specs.declared.Step.TheVariants.{Input, Copy, Resolve, Factor, Refl, EqFac, Para, Rewrite, Tidy}
use Rattle.cd_symbols.specs.Symbol.{Symbol}
use Rattle.cd_read.specs.Formed.{IsPrintable, AreTermsFormed, IsClauseFormed, IsLabelFormed}
use Rattle.cd_text.specs.declared.line.Line.{Line}
use Rattle.cd_text.specs.declared.line.LineRole.{LineRole}
use Rattle.cd_text.specs.declared.line.LineRole.TheVariants.{Given, Plain}
use Rattle.cd_text.specs.declared.line.LineSource.{LineSource}
use Rattle.cd_text.specs.declared.line.LineSource.TheVariants.{File, Inference}
use Rattle.cd_text.specs.Texts.{line_text}

-- the texts of symbols have bytes 32 to 126 alone
abbrev pub ArePrintable : List Symbol → Type 0
ArePrintable symbols = AllByRecursion (λ s. IsPrintable s.text) symbols

-- the terms of a substitution are over the symbols of the table, and together within the bounds of a clause
pub record IsSubstFormed (symbols : List Symbol) (subst : List Term) : Type 0 where
  pub terms : AreTermsFormed symbols subst
  pub bounds : AreWithin 65535 1000 subst

-- a path has a place or more
abbrev pub IsPathFormed : List ℕ → Type 0
IsPathFormed at = (0 < length at) × AllByRecursion (λ k. k < 65536) at

-- the rule has so many parents; places are below 65,536, and sides are 0 or 1. Inputs and copies have no rule
abbrev pub IsStepFormed : List Symbol → ℕ → Step → Type 0
IsStepFormed symbols parents (Input index) = ⊥
IsStepFormed symbols parents (Copy of) = ⊥
IsStepFormed symbols parents (Resolve pos i neg j subst) = (parents ≡ 2) × (i < 65536) × (j < 65536) × IsSubstFormed symbols subst
IsStepFormed symbols parents (Factor of i j subst) = (parents ≡ 1) × (i < 65536) × (j < 65536) × IsSubstFormed symbols subst
IsStepFormed symbols parents (Refl of i subst) = (parents ≡ 1) × (i < 65536) × IsSubstFormed symbols subst
IsStepFormed symbols parents (EqFac of i s j z subst) =
    (parents ≡ 1) × (i < 65536) × (s < 2) × (j < 65536) × (z < 2) × IsSubstFormed symbols subst
IsStepFormed symbols parents (Para giver i s taker j at subst) =
    (parents ≡ 2) × (i < 65536) × (s < 2) × (j < 65536) × IsPathFormed at × IsSubstFormed symbols subst
IsStepFormed symbols parents (Rewrite by s j at subst) = (parents ≡ 2) × (s < 2) × (j < 65536) × IsPathFormed at × IsSubstFormed symbols subst
IsStepFormed symbols parents Tidy = parents ≡ 1

-- a line that takes an input has an input's role, any other is plain and names a rule; line numbers begin with 1
abbrev pub IsSourceFormed : List Symbol → LineRole → LineSource → Type 0
IsSourceFormed symbols (Given role) (File path label) = IsLabelFormed label
IsSourceFormed symbols Plain (File path label) = ⊥
IsSourceFormed symbols (Given role) (Inference step parents) = ⊥
IsSourceFormed symbols Plain (Inference step parents) = IsStepFormed symbols (length parents) step × AllByRecursion (λ n. 0 < n) parents

-- a number of any size from 1 on, and a clause within bounds over the symbols of the table
pub record IsLineFormed (symbols : List Symbol) (l : Line) : Type 0 where
  pub number : 0 < l.number
  pub clause : IsClauseFormed symbols l.clause
  pub bounds : IsWithinBounds l.clause
  pub source : IsSourceFormed symbols l.role l.source

-- the piece is byte for byte this line
pub record IsLine (symbols : List Symbol) (l : Line) (piece : List ℕ) : Type 0 where
  pub formed : IsLineFormed symbols l
  pub text : piece ≡ line_text symbols l
