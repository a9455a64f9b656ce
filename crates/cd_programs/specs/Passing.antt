-- What the checker answers to a refutation that the prover printed.
-- Beyond the headline: no clause of `prove` reaches this file.
use Rattle.std.specs.Prelude.{◌≡◌, ◌≢◌, ◌≤◌, ℕ, List, Some, length}
use Rattle.cd_options.specs.declared.options.Options.{Options}
use Rattle.cd_options.specs.declared.options.Origins.TheVariants as origin
use Rattle.cd_read.specs.Fetched.{GaveWhole, Holds, Told}
use Rattle.cd_read.specs.Files.{File}
use Rattle.cd_read.specs.Laws.{AreHeld}
use Rattle.cd_top.specs.declared.answer.Account.{Account}
use Rattle.cd_top.specs.declared.answer.Answer.TheVariants.{Refuted}
use Rattle.cd_top.specs.Headline.{IsRead, RunEnds}
use Rattle.cd_checktop.specs.declared.answer.CheckAnswer.{CheckAnswer}
use Rattle.cd_checktop.specs.declared.answer.CheckAnswer.TheVariants.{Accepted, Memory}
use Rattle.cd_checktop.specs.Checked.{IsAnswerTo, IsChecked, IsSettled}

-- what a call of the prover says that was asked for the file with this path and answered `Refuted`
pub record Printed (path : List ℕ) (holds : Holds) (before now : Told) (account : Account) (peer : ℕ) : Type 0 where
  pub options : Options
  pub asked : account.asked ≡ Some options
  pub source : options.source ≡ origin.File path
  pub read : IsRead account.asked holds before now (Refuted peer) account.problem
  pub run : RunEnds account (Refuted peer) account.problem

-- the library holds the files that the prover was told, and the printed text within the cap: then a call with their paths, in which nothing
-- failed and memory didn't run out, answers that the text is accepted
pub record Passes (path text : List ℕ) (holds : Holds) (before now : Told) : Type 0 where
  pub files : List File
  pub told : GaveWhole holds before now files
  pub passes : (shelf : Holds) (derivation : List ℕ) (since later : Told) (made answer : CheckAnswer)
      → AreHeld shelf files → shelf derivation ≡ Some text → length text ≤ 67108864
      → IsChecked shelf (Some (path, derivation)) since later made → IsAnswerTo made answer → IsSettled answer → answer ≢ Memory
      → (lines : ℕ) × (answer ≡ Accepted lines)

abbrev pub RefutationsPass : Type 0
RefutationsPass =
    (path : List ℕ) (holds : Holds) (before now : Told) (account : Account) (peer : ℕ) → Printed path holds before now account peer
    → Passes path account.text holds before now
