-- The text of each answer.
-- Beyond the headline: no clause of `prove` reaches this file.
use Rattle.std.specs.Prelude.{ℕ, List, [], ◌∷◌, ◌++◌, codes}
use Rattle.cd_text.specs.Numerals.{numeral}
use Rattle.cd_report.specs.Texts as report
use Rattle.cd_check.specs.declared.verdict.Why.{Why}
use Rattle.cd_check.specs.declared.verdict.Why.TheVariants as why
use Rattle.cd_checktop.specs.declared.answer.CheckAnswer.{CheckAnswer}
use Rattle.cd_checktop.specs.declared.answer.CheckAnswer.TheVariants.{Accepted, Refused, Usage, Problem, LibraryFault, SinkFault, Memory}

abbrev pub why_text : Why → List ℕ
why_text why.Form = codes "form"
why_text why.Number = codes "number"
why_text why.Parent = codes "parent"
why_text why.Input = codes "input"
why_text why.Step = codes "step"
why_text why.End = codes "end"

unfoldable pub accepted_text : ℕ → List ℕ
accepted_text lines = codes "% aquarius check accepted, lines " ++ (numeral lines ++ 10 ∷ [])

unfoldable pub refused_text : ℕ → Why → List ℕ
refused_text line w = codes "% aquarius check refused, line " ++ (numeral line ++ (codes ", " ++ (why_text w ++ 10 ∷ [])))

-- with want of memory nothing is written; the text where the sink failed is that of the answer before it
abbrev pub answer_text : CheckAnswer → List ℕ
answer_text (Accepted lines) = accepted_text lines
answer_text (Refused line w) = refused_text line w
answer_text Usage = report.usage_text
answer_text (Problem w) = report.refused_text w
answer_text (LibraryFault path) = report.unread_text path
answer_text SinkFault = []
answer_text Memory = []
