-- Whether a line takes an input, by its printed body.
-- Beyond the headline: no clause of `prove` reaches this file.
use Rattle.std.specs.Prelude.{◌≡◌, ℕ, ◌||◌, Bool, true, false, List, bytes_eq}
use Rattle.std.specs.List.{list_any}
use Rattle.cd_clause.specs.declared.Clause.{Clause}
use Rattle.cd_symbols.specs.Symbol.{Symbol}
use Rattle.cd_read.specs.declared.problem.Problem.{Problem}
use Rattle.cd_read.specs.declared.problem.Input.{Input}
use Rattle.cd_parse.specs.declared.label.Label.{Label}
use Rattle.cd_parse.specs.declared.label.Role.{Role}
use Rattle.cd_text.specs.declared.line.Line.{Line}
use Rattle.cd_text.specs.declared.line.LineRole.{LineRole}
use Rattle.cd_text.specs.declared.line.LineRole.TheVariants.{Given, Plain}
use Rattle.cd_text.specs.declared.line.LineSource.{LineSource}
use Rattle.cd_text.specs.declared.line.LineSource.TheVariants as sources
use Rattle.cd_line.specs.declared.reading.Body.{Body}
use Rattle.cd_line.specs.declared.reading.Origin.TheVariants.{File, Rule}
use Rattle.cd_read.specs.Formed.{IsFormed, IsBounded}
use Rattle.cd_line.specs.Lines.{body_text}
use Rattle.cd_check.specs.Bodies.{is_there}

abbrev pub file_body : Role → Clause → List ℕ → Label → Body
file_body role c path label = record { clause = c; origin = File role path label }

-- the body of the line that takes an input
unfoldable pub input_text : List Symbol → Input → List ℕ
input_text symbols i = body_text symbols (file_body i.role i.clause i.file i.label)

abbrev pub is_among : List Symbol → List Input → List ℕ → Bool
is_among symbols inputs wanted = list_any (λ i. bytes_eq wanted (input_text symbols i)) inputs

abbrev pub from_input : Problem → Clause → LineRole → LineSource → Bool
from_input p c (Given role) (sources.File path label) = is_among p.symbols p.inputs (body_text p.symbols (file_body role c path label))
from_input p c Plain (sources.File path label) = false
from_input p c role (sources.Inference step parents) = true

-- a problem is formed and within bounds
pub record IsProblemFit (p : Problem) : Type 0 where
  pub formed : IsFormed p
  pub bounded : IsBounded p

-- these texts are the bodies of the problem's inputs
abbrev pub IsIndexOf : Problem → List (List ℕ) → Type 0
IsIndexOf p bodies = (w : List ℕ) → is_there bodies w ≡ is_among p.symbols p.inputs w

-- these texts and the bodies of these inputs
abbrev pub AreAdded : List Symbol → List Input → List (List ℕ) → List (List ℕ) → Type 0
AreAdded symbols inputs old new = (w : List ℕ) → is_there new w ≡ (is_among symbols inputs w || is_there old w)
