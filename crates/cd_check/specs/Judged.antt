-- Pieces judged one after another: what the code finds, from which the verdict follows.
-- Beyond the headline: no clause of `prove` reaches this file.
use Rattle.std.specs.Prelude.{◌≡◌, ℕ, ◌+◌, Bool, true, false, List, [], ◌∷◌, ◌++◌, length, ◌⊎◌, suc, ◌==◌, if◌then◌else◌}
use Rattle.cd_clause.specs.declared.Clause.{Clause}
use Rattle.cd_text.specs.declared.line.Line.{Line}
use Rattle.cd_read.specs.declared.problem.Problem.{Problem}
use Rattle.cd_check.specs.declared.verdict.Why.{Why}
use Rattle.cd_check.specs.declared.verdict.Why.TheVariants as why
use Rattle.cd_check.specs.declared.verdict.Verdict.{Verdict}
use Rattle.cd_check.specs.declared.verdict.Verdict.TheVariants.{Accepted, Refused}
use Rattle.cd_check.specs.declared.judging.Judgement.{Judgement}
use Rattle.cd_check.specs.declared.judging.Judgement.TheVariants.{Right, Wrong}
use Rattle.cd_text.specs.Formed.{IsLine}
use Rattle.cd_check.specs.Accepted.{is_taken, IsLineOk, EndsEmpty}
use Rattle.cd_check.specs.Verdicts.{Fails}

-- the place of the first line feed, or the length
abbrev pub feed_at : List ℕ → ℕ
feed_at [] = 0
feed_at (b ∷ bs) = if b == 10 then 0 else suc (feed_at bs)

-- what stands behind a line feed
abbrev pub skipped : List ℕ → List ℕ
skipped [] = []
skipped (b ∷ bs) = bs

-- the piece is a right line with this clause
pub record IsRight (p : Problem) (before : List Clause) (piece : List ℕ) (c : Clause) : Type 0 where
  pub line : Line
  pub is : IsLine p.symbols line piece
  pub ok : IsLineOk p before line
  pub clause_is : line.clause ≡ c

-- what is found of one piece
abbrev pub JudgesPiece : Problem → List Clause → List ℕ → Judgement → Type 0
JudgesPiece p before piece (Right c) = IsRight p before piece c
JudgesPiece p before piece (Wrong w) = Fails p before piece w

-- the end of a text
abbrev pub EndSays : List Clause → ℕ → Verdict → Type 0
EndSays before passed v = (EndsEmpty before × (v ≡ Accepted (length before))) ⊎ ((EndsEmpty before → ⊥) × (v ≡ Refused (passed + 1) why.End))

-- the verdict on pieces behind the clauses of the right lines before them, where so many lines were passed: by the test of the first piece
-- and by what is said of the others
abbrev pub JudgedBy : Bool → Problem → List Clause → ℕ → List ℕ → Verdict → (List Clause → Type 0) → Type 0
JudgedBy true p before passed piece v others =
    ((c : Clause) × IsRight p before piece c × others (before ++ c ∷ [])) ⊎ ((w : Why) × Fails p before piece w × (v ≡ Refused (passed + 1) w))
JudgedBy false p before passed piece v others = others before

abbrev pub Judged : Problem → List Clause → ℕ → List (List ℕ) → Verdict → Type 0
Judged p before passed [] v = EndSays before passed v
Judged p before passed (piece ∷ pieces) v = JudgedBy (is_taken piece) p before passed piece v (λ cs. Judged p cs (passed + 1) pieces v)
