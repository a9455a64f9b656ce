-- The conditions of a line that the code holds are those of the line.
use Rattle.std.proofs.Common.{◌≡◌, ℕ, zero, suc, ◌+◌, ◌-◌, ◌^◌, ◌<◌, ◌≤◌, Bool, true, false, List, [], ◌∷◌, length, map, refl, sym, ap, ap₂, ◌∙◌, subst, arith, Option, Some, None, ◌⊎◌, inl, inr, slice_get}
use Rattle.std.proofs.lemmas.Bool.{cases_lt}
use Rattle.std.proofs.lemmas.Option.{slice_get_past}
use Rattle.cd_clause.specs.declared.Clause.{Clause}
use Rattle.cd_symbols.specs.Symbol.{Symbol, AreDistinct}
use Rattle.cd_steps.specs.declared.Step.{Step}
use Rattle.cd_steps.specs.Premises.{IsRightWith}
use Rattle.cd_read.specs.declared.problem.Problem.{Problem}
use Rattle.cd_text.specs.declared.line.Line.{Line}
use Rattle.cd_text.specs.declared.line.LineRole.{LineRole}
use Rattle.cd_text.specs.declared.line.LineRole.TheVariants.{Given, Plain}
use Rattle.cd_text.specs.declared.line.LineSource.{LineSource}
use Rattle.cd_text.specs.declared.line.LineSource.TheVariants as sources
use Rattle.cd_text.specs.Formed.{IsLineFormed, IsLine}
use Rattle.cd_line.specs.Held.{cap, capped_source, capped_line, IsHeld}
use Rattle.cd_line.proofs.Symbols.{printed}
use Rattle.cd_line.proofs.Clauses.{Table}
use Rattle.cd_check.specs.declared.verdict.Why.{Why}
use Rattle.cd_check.specs.declared.verdict.Why.TheVariants as why
use Rattle.cd_check.specs.declared.judging.Judgement.{Judgement}
use Rattle.cd_check.specs.declared.judging.Judgement.TheVariants.{Right, Wrong}
use Rattle.cd_check.specs.Inputs.{from_input, IsProblemFit}
use Rattle.cd_check.specs.Accepted.{clause_of_line, are_earlier, AreEarlier, IsFromInput, IsInferred, IsLineOk}
use Rattle.cd_check.specs.Verdicts.{Fails}
use Rattle.cd_check.specs.Judged.{IsRight, JudgesPiece}
use Rattle.cd_check.specs.Conditions.{FailsLine, IsLineRight, JudgesLine}
use Rattle.cd_check.proofs.Inputs.{takes, taken}

-- ---- the conditions of a line that is held so

clause_none : (before : List Clause) (n : ℕ) → length before < n → clause_of_line before n ≡ None
clause_none before zero big = absurd (omega (arith, big))
clause_none before (suc n) big = slice_get_past before n (omega (arith, big))

clause_capped : (before : List Clause) (n : ℕ) → length before < 2 ^ 32 → clause_of_line before (cap n) ≡ clause_of_line before n
clause_capped before n few = elim (cases_lt (2 ^ 64 - 1) n) [
  | inl big ↦ clause_none before (cap n) (omega (arith, few, big)) ∙ sym (clause_none before n (omega (arith, few, big)))
  | inr small ↦ ap (clause_of_line before) (let e : cap n ≡ n = omega (arith, small) in e)
]

stands_capped : (before : List Clause) (ps : List ℕ) → length before < 2 ^ 32 → map (clause_of_line before) (map cap ps) ≡ map (clause_of_line before) ps
stands_capped before [] few = refl
stands_capped before (p ∷ ps) few =
    ap₂ (λ (o : Option Clause) (os : List (Option Clause)). o ∷ os) (clause_capped before p few) (stands_capped before ps few)

parents_capped_too : (before : List Clause) (ps : List ℕ) → length before < 2 ^ 32 → are_earlier before (map cap ps) ≡ are_earlier before ps
parents_capped_too before [] few = refl
parents_capped_too before (p ∷ ps) few = rw (clause_capped before p few, parents_capped_too before ps few) refl

earlier_from : (before : List Clause) (s : LineSource) → length before < 2 ^ 32 → AreEarlier before (capped_source s) → AreEarlier before s
earlier_from before (sources.File path label) few h = h
earlier_from before (sources.Inference step ps) few h = sym (parents_capped_too before ps few) ∙ h

earlier_to : (before : List Clause) (s : LineSource) → length before < 2 ^ 32 → AreEarlier before s → AreEarlier before (capped_source s)
earlier_to before (sources.File path label) few h = h
earlier_to before (sources.Inference step ps) few h = parents_capped_too before ps few ∙ h

input_capped : (p : Problem) (c : Clause) (role : LineRole) (s : LineSource) → from_input p c role (capped_source s) ≡ from_input p c role s
input_capped p c (Given role) (sources.File path label) = refl
input_capped p c Plain (sources.File path label) = refl
input_capped p c (Given role) (sources.Inference step ps) = refl
input_capped p c Plain (sources.Inference step ps) = refl

input_from : (p : Problem) (l : Line) → Table p.symbols → IsProblemFit p → IsLineFormed p.symbols l → from_input p l.clause l.role (capped_source l.source) ≡ true → IsFromInput p l l.source
input_from p l table formed ok h = takes p l l.role l.source table formed ok.clause ok.bounds ok.source refl (sym (input_capped p l.clause l.role l.source) ∙ h)

input_not : (p : Problem) (l : Line) → from_input p l.clause l.role (capped_source l.source) ≡ false → IsFromInput p l l.source → ⊥
input_not p l none h = absurd (let e : true ≡ false = sym (taken p l l.role l.source refl h) ∙ sym (input_capped p l.clause l.role l.source) ∙ none in cc)

inferred_from : (before : List Clause) (c : Clause) (s : LineSource) → length before < 2 ^ 32 → IsInferred before c (capped_source s) → IsInferred before c s
inferred_from before c (sources.File path label) few h = h
inferred_from before c (sources.Inference step ps) few h = subst (λ (os : List (Option Clause)). IsRightWith os step c) (stands_capped before ps few) h

inferred_to : (before : List Clause) (c : Clause) (s : LineSource) → length before < 2 ^ 32 → IsInferred before c s → IsInferred before c (capped_source s)
inferred_to before c (sources.File path label) few h = h
inferred_to before c (sources.Inference step ps) few h = subst (λ (os : List (Option Clause)). IsRightWith os step c) (sym (stands_capped before ps few)) h

number_from : (n count : ℕ) → count < 2 ^ 32 → cap n ≡ count + 1 → n ≡ count + 1
number_from n count few e = omega (arith, few, e)

number_to : (n count : ℕ) → count < 2 ^ 32 → n ≡ count + 1 → cap n ≡ count + 1
number_to n count few e = omega (arith, few, e)

ok_from : (p : Problem) (before : List Clause) (l : Line) (c : Clause) → Table p.symbols → IsProblemFit p → IsLineFormed p.symbols l → length before < 2 ^ 32 → IsLineRight p before (capped_line l) c → IsLineOk p before l
ok_from p before l c table formed ok few h =
    record {
      number = number_from l.number (length before) few h.number;
      parents = earlier_from before l.source few h.parents;
      input = input_from p l table formed ok h.input;
      step = inferred_from before l.clause l.source few h.step;
    }

fails_from : (p : Problem) (before : List Clause) (piece : List ℕ) (l : Line) (w : Why) → Table p.symbols → IsProblemFit p → length before < 2 ^ 32 → IsLine p.symbols l piece → FailsLine p before (capped_line l) w → Fails p before piece w
fails_from p before piece l why.Form table formed few is f = absurd f
fails_from p before piece l why.Number table formed few is f = (l, is, λ h. f (number_to l.number (length before) few h))
fails_from p before piece l why.Parent table formed few is f = (l, is, number_from l.number (length before) few f.0, λ h. f.1 (earlier_to before l.source few h))
fails_from p before piece l why.Input table formed few is f =
    (l, is, number_from l.number (length before) few f.0, earlier_from before l.source few f.1, input_not p l f.2)
fails_from p before piece l why.Step table formed few is f =
    (l, is, number_from l.number (length before) few f.0, earlier_from before l.source few f.1, input_from p l table formed is.formed f.2, λ h. f.3 (inferred_to before l.clause l.source few h))
fails_from p before piece l why.End table formed few is f = absurd f

judged_by : (p : Problem) (before : List Clause) (piece : List ℕ) (l : Line) (j : Judgement) → Table p.symbols → IsProblemFit p → length before < 2 ^ 32 → IsLine p.symbols l piece → JudgesLine p before (capped_line l) j → JudgesPiece p before piece j
judged_by p before piece l (Right c) table formed few is j = record { line = l; is = is; ok = ok_from p before l c table formed is.formed few j; clause_is = j.clause_is }
judged_by p before piece l (Wrong w) table formed few is j = fails_from p before piece l w table formed few is j

-- what is found of the line that the code holds is found of the piece
pub judged : (p : Problem) (before : List Clause) (piece : List ℕ) (held : Line) (j : Judgement) → AreDistinct p.symbols → IsProblemFit p → length before < 2 ^ 32 → IsHeld p.symbols piece held → JudgesLine p before held j → JudgesPiece p before piece j
judged p before piece held j distinct formed few h f =
    judged_by p before piece h.line j (record { distinct = distinct; printable = printed p.symbols formed.formed.texts }) formed few h.is (subst (λ (x : Line). JudgesLine p before x j) (sym h.held_is) f)
