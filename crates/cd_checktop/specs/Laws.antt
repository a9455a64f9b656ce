-- What a call of the checker answers where the text is known to be accepted. It is the contract of a function of the module `laws`.
-- Beyond the headline: no clause of `prove` reaches this file.
use Rattle.std.specs.Prelude.{◌≡◌, ◌≢◌, ◌≤◌, ℕ, List, Some, Ok, length}
use Rattle.cd_read.specs.declared.problem.Problem.{Problem}
use Rattle.cd_read.specs.Fetched.{Holds, Told}
use Rattle.cd_read.specs.Files.{File, Reads}
use Rattle.cd_read.specs.Laws.{AreHeld}
use Rattle.cd_check.specs.Accepted.{AcceptedText}
use Rattle.cd_checktop.specs.declared.answer.CheckAnswer.{CheckAnswer}
use Rattle.cd_checktop.specs.declared.answer.CheckAnswer.TheVariants.{Accepted, Memory}
use Rattle.cd_checktop.specs.Checked.{IsAnswerTo, IsChecked, IsSettled}

-- the library holds the files of a problem and, within the cap, a text that is accepted of it: then a call with their paths, in which nothing
-- failed and memory didn't run out, answers that it is accepted
abbrev pub AcceptedTextsPass : Type 0
AcceptedTextsPass =
    (holds : Holds) (path derivation text : List ℕ) (files : List File) (p : Problem) (before now : Told) (made answer : CheckAnswer)
    → AreHeld holds files → Reads files path (Ok p) → AcceptedText p text → holds derivation ≡ Some text → length text ≤ 67108864
    → IsChecked holds (Some (path, derivation)) before now made → IsAnswerTo made answer → IsSettled answer → answer ≢ Memory
    → (lines : ℕ) × (answer ≡ Accepted lines)
