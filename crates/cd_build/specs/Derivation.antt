-- The derivation of a peer that is refuted, as printed lines.
use Rattle.std.specs.Prelude.{◌≡◌, ℕ, List, [], ◌∷◌, map, Option, None, Some, slice_get}
use Rattle.cd_alone.specs.Derived as derived
use Rattle.cd_ledger.specs.declared.local.Local.{Local}
use Rattle.cd_parse.specs.declared.label.Label.TheVariants.{Word}
use Rattle.cd_read.specs.declared.problem.Input.{Input}
use Rattle.cd_read.specs.declared.problem.Problem.{Problem}
use Rattle.cd_steps.specs.Premises.{premises}
use Rattle.cd_steps.specs.declared.Premise.{Premise}
use Rattle.cd_steps.specs.declared.Premise.TheVariants as premise
use Rattle.cd_steps.specs.declared.Step.{Step}
use Rattle.cd_text.specs.declared.line.Line.{Line}
use Rattle.cd_text.specs.declared.line.LineRole.{LineRole}
use Rattle.cd_text.specs.declared.line.LineRole.TheVariants.{Given, Plain}
use Rattle.cd_text.specs.declared.line.LineSource.{LineSource}
use Rattle.cd_text.specs.declared.line.LineSource.TheVariants.{File, Inference}

abbrev pub input_role : Option Input → LineRole
input_role None = Plain
input_role (Some i) = Given i.role

abbrev pub input_source : Option Input → LineSource
input_source None = File [] (Word [])
input_source (Some i) = File i.file i.label

-- a step that takes an input has the input's role; any other makes a plain consequence
abbrev pub role_for : Problem → List Premise → LineRole
role_for p [] = Plain
role_for p (premise.Before ∷ qs) = Plain
role_for p (premise.Given k ∷ qs) = input_role (slice_get p.inputs k)
role_for p (premise.Named n ∷ qs) = Plain

abbrev pub role_of : Problem → Step → LineRole
role_of p s = role_for p (premises s)

-- a step that takes an input comes from the input's file, where it has its label; any other is an inference from its parents
abbrev pub source_for : Problem → Step → List ℕ → List Premise → LineSource
source_for p s parents [] = Inference s parents
source_for p s parents (premise.Before ∷ qs) = Inference s parents
source_for p s parents (premise.Given k ∷ qs) = input_source (slice_get p.inputs k)
source_for p s parents (premise.Named n ∷ qs) = Inference s parents

abbrev pub source_of : Problem → Step → List ℕ → LineSource
source_of p s parents = source_for p s parents (premises s)

-- a line of a derivation as it is printed, with its role and its source
abbrev pub printed : Problem → derived.Line → Line
printed p l = record { number = l.number; role = role_of p l.step; clause = l.clause; source = source_of p l.step l.parents }

-- these are the lines of the derivation of a peer, as they are printed
abbrev pub IsDerivation : Problem → Local → List Line → Type 0
IsDerivation p s lines = (plain : List derived.Line) × derived.IsDerivation p s plain × (lines ≡ map (printed p) plain)
