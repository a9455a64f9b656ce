-- Steps that lead, one behind the other, from what names stand for to a clause.
use Rattle.std.specs.Prelude.{◌≡◌, ◌⊎◌, List, [], ◌∷◌, Option, Some, slice_get}
use Rattle.std.specs.Option.{option_map}
use Rattle.cd_clause.specs.declared.Clause.{Clause}
use Rattle.cd_ledger.specs.declared.local.Local.{Local}
use Rattle.cd_ledger.specs.Records.{Registry, recorded}
use Rattle.cd_read.specs.declared.problem.Problem.{Problem}
use Rattle.cd_steps.specs.Bounds.{subst_of}
use Rattle.cd_steps.specs.Premises.{IsRightOver}
use Rattle.cd_steps.specs.declared.Premise.{Premise}
use Rattle.cd_steps.specs.declared.Premise.TheVariants.{Before, Given, Named}
use Rattle.cd_steps.specs.declared.Step.{Step}
use Rattle.cd_steps.specs.declared.Step.TheVariants as step
use Rattle.cd_machine.specs.Rules.{clauses_of, IsFit, IsSubstFit, IsTidied}

-- the records that a peer knows
abbrev pub registry_of : Local → Registry
registry_of s n = recorded n s.known

-- what a premise of a step stands for: the clause before it, an input, or the clause of a record
abbrev pub standing : Problem → Registry → Option Clause → Premise → Option Clause
standing p R current Before = current
standing p R current (Given k) = slice_get (clauses_of p) k
standing p R current (Named n) = option_map (λ r. r.clause) (R n)

-- a step is right from what its premises stand for, and its substitution and its clause are within bounds and over the
-- symbols of the problem
pub record IsReplayed (p : Problem) (R : Registry) (current : Option Clause) (s : Step) (c : Clause) : Type 0 where
  pub right : IsRightOver (standing p R current) s c
  pub fit : IsFit p c
  pub subst : IsSubstFit p (subst_of s)

-- the steps are right one after another, behind the clause before them, and lead to the clause
abbrev pub Lead : Problem → Registry → Option Clause → List Step → Clause → Type 0
Lead p R current [] c = current ≡ Some c
Lead p R current (s ∷ ss) c = (d : Clause) × IsReplayed p R current s d × Lead p R (Some d) ss c

-- a step, and `Tidy` behind it where its clause isn't tidy
abbrev pub IsTidyStep : Step → Clause → List Step → Clause → Type 0
IsTidyStep s c steps d = (IsTidied c c × (steps ≡ s ∷ []) × (d ≡ c)) ⊎ ((¬ IsTidied c c) × IsTidied c d × (steps ≡ s ∷ step.Tidy ∷ []))
