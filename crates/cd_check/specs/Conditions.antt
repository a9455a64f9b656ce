-- The conditions of a line as the code holds it: its numbers up to the greatest of 64 bits.
-- Beyond the headline: no clause of `prove` reaches this file.
use Rattle.std.specs.Prelude.{◌≡◌, ◌+◌, true, false, List, length}
use Rattle.cd_clause.specs.declared.Clause.{Clause}
use Rattle.cd_read.specs.declared.problem.Problem.{Problem}
use Rattle.cd_text.specs.declared.line.Line.{Line}
use Rattle.cd_check.specs.declared.verdict.Why.{Why}
use Rattle.cd_check.specs.declared.verdict.Why.TheVariants as why
use Rattle.cd_check.specs.declared.judging.Judgement.{Judgement}
use Rattle.cd_check.specs.declared.judging.Judgement.TheVariants.{Right, Wrong}
use Rattle.cd_check.specs.Inputs.{from_input}
use Rattle.cd_check.specs.Accepted.{AreEarlier, IsInferred}

-- what is found of a line that is formed: whether it takes an input is a test of its printed body
abbrev pub FailsLine : Problem → List Clause → Line → Why → Type 0
FailsLine p before l why.Form = ⊥
FailsLine p before l why.Number = l.number ≡ length before + 1 → ⊥
FailsLine p before l why.Parent = (l.number ≡ length before + 1) × (AreEarlier before l.source → ⊥)
FailsLine p before l why.Input = (l.number ≡ length before + 1) × AreEarlier before l.source × (from_input p l.clause l.role l.source ≡ false)
FailsLine p before l why.Step =
    (l.number ≡ length before + 1) × AreEarlier before l.source × (from_input p l.clause l.role l.source ≡ true)
    × (IsInferred before l.clause l.source → ⊥)
FailsLine p before l why.End = ⊥

pub record IsLineRight (p : Problem) (before : List Clause) (l : Line) (c : Clause) : Type 0 where
  pub number : l.number ≡ length before + 1
  pub parents : AreEarlier before l.source
  pub input : from_input p l.clause l.role l.source ≡ true
  pub step : IsInferred before l.clause l.source
  pub clause_is : l.clause ≡ c

abbrev pub JudgesLine : Problem → List Clause → Line → Judgement → Type 0
JudgesLine p before l (Right c) = IsLineRight p before l c
JudgesLine p before l (Wrong w) = FailsLine p before l w
