-- The conclusion of one inference.
-- Beyond the headline: no clause of `prove` reaches this file.
use Rattle.std.specs.Prelude.{◌≡◌, ◌+◌, ◌<◌, ◌^◌, ℕ, List, Option, Some, None, Result, Ok, Err, map}
use Rattle.cd_term.specs.declared.Term.{Term}
use Rattle.cd_term.specs.declared.TermFault.{TermFault}
use Rattle.cd_term.specs.declared.TermFault.TheVariants.{OutOfBounds, Memory}
use Rattle.cd_term.specs.Terms.{applied, substituted}
use Rattle.cd_clause.specs.declared.Clause.{Clause}
use Rattle.cd_clause.specs.Clauses.{literals_changed}
use Rattle.cd_unify.specs.Unifiers.{IsMgu}
use Rattle.cd_steps.specs.declared.drafts.Draft.{Draft}
use Rattle.cd_steps.specs.Bounds.{IsStepWithin}
use Rattle.cd_steps.specs.Drafts.{IsBelow}
use Rattle.cd_steps.specs.Rules.{Inference}
use Rattle.cd_infer.specs.declared.concluding.Concluded.{Concluded}

-- the variables of an inference are few, and those of its terms are among them
pub record IsBounded (d : Draft) : Type 0 where
  pub few : d.up + d.more < 2 ^ 32
  pub below : IsBelow (d.up + d.more) d.more d

-- the most general unifier of an inference, in normal form
abbrev pub IsUnifier : Inference → List Term → Type 0
IsUnifier inference s = IsMgu inference.variables inference.left inference.right s

-- the most general unifier, and the clause that follows with it, within bounds
pub record HasConcluded (inference : Inference) (c : Concluded) : Type 0 where
  pub unifier : IsUnifier inference c.subst
  pub clause_is : c.clause.literals ≡ literals_changed (applied c.subst) inference.conclusion
  pub within : IsStepWithin c.subst c.clause

-- there is a most general unifier, and it or what follows with it is out of bounds
pub record IsOutside (inference : Inference) : Type 0 where
  pub subst : List Term
  pub clause : Clause
  pub unifier : IsUnifier inference subst
  pub clause_is : clause.literals ≡ literals_changed (applied subst) inference.conclusion
  pub outside : IsStepWithin subst clause → ⊥

-- no substitution makes the terms equal
abbrev pub HasNone : Inference → Type 0
HasNone inference = (tau : ℕ → Term) → map (substituted tau) inference.left ≡ map (substituted tau) inference.right → ⊥

-- what a search for the conclusion of an inference answers
abbrev pub IsConcluded : Inference → Result (Option Concluded) TermFault → Type 0
IsConcluded inference (Ok None) = HasNone inference
IsConcluded inference (Ok (Some c)) = HasConcluded inference c
IsConcluded inference (Err OutOfBounds) = IsOutside inference
IsConcluded inference (Err Memory) = Unit {0}

-- no two substitutions make two terms equal, or two lists of terms
abbrev pub AreApart : Term → Term → Type 0
AreApart t u = (g h : ℕ → Term) → substituted g t ≡ substituted h u → ⊥

abbrev pub AreAllApart : List Term → List Term → Type 0
AreAllApart ts us = (g h : ℕ → Term) → map (substituted g) ts ≡ map (substituted h) us → ⊥
