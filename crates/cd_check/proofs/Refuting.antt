-- The clause of every line of a refutation holds wherever the inputs hold, and the last one holds nowhere.
use Rattle.std.proofs.Common.{◌≡◌, ℕ, zero, suc, List, [], ◌∷◌, ◌++◌, map, subst, Some, slice_get}
use Rattle.std.specs.Prelude.{IsTrue}
use Rattle.std.specs.List.{list_any, AllByRecursion}
use Rattle.cd_clause.specs.declared.Literal.{Literal}
use Rattle.cd_clause.specs.declared.Clause.{Clause}
use Rattle.cd_clause.specs.Truth.{Interp, IsInterp, Point, Holds, Models, literal_true}
use Rattle.cd_steps.proofs.Registries.{right_from_holds}
use Rattle.cd_read.specs.declared.problem.Problem.{Problem}
use Rattle.cd_read.specs.declared.problem.Input.{Input as ProblemInput}
use Rattle.cd_text.specs.declared.line.Line.{Line}
use Rattle.cd_text.specs.declared.line.LineSource.{LineSource}
use Rattle.cd_text.specs.declared.line.LineSource.TheVariants.{File, Inference}
use Rattle.cd_check.specs.Accepted.{clause_of_line, clause_of, IsFromInput, IsInferred, AreLinesOk, EndsEmpty, AcceptedTextsRefute, input_clauses}

-- each clause holds
Hold : Interp → List Clause → Type 0
Hold interp cs = AllByRecursion (Holds interp) cs

input_holds : (interp : Interp) (is : List ProblemInput) (place : ℕ) (i : ProblemInput) → Models interp (input_clauses is) → slice_get is place ≡ Some i → Holds interp i.clause
input_holds interp [] place i hold there = absurd cc
input_holds interp (j ∷ is) zero i hold there =
    let e : j ≡ i = cc in
    subst (λ (x : ProblemInput). Holds interp x.clause) e hold.0
input_holds interp (j ∷ is) (suc place) i hold there = input_holds interp is place i hold.1 there

place_holds : (interp : Interp) (cs : List Clause) (k : ℕ) (c : Clause) → Hold interp cs → slice_get cs k ≡ Some c → Holds interp c
unfolding Hold
place_holds interp [] k c hold there = absurd cc
place_holds interp (d ∷ cs) zero c hold there = let e : d ≡ c = cc in subst (Holds interp) e hold.0
place_holds interp (d ∷ cs) (suc k) c hold there = place_holds interp cs k c hold.1 there

found_holds : (interp : Interp) (before : List Clause) (number : ℕ) (c : Clause) → Hold interp before → clause_of_line before number ≡ Some c → Holds interp c
found_holds interp before zero c hold there = absurd cc
found_holds interp before (suc n) c hold there = place_holds interp before n c hold there

found_hold : (interp : Interp) (before : List Clause) (numbers : List ℕ) (cs : List Clause) → Hold interp before → map (clause_of_line before) numbers ≡ map Some cs → AllByRecursion (Holds interp) cs
found_hold interp before numbers [] hold is = tt
found_hold interp before [] (c ∷ cs) hold is = absurd cc
found_hold interp before (n ∷ numbers) (c ∷ cs) hold is =
    let here : clause_of_line before n ≡ Some c = cc in
    let there : map (clause_of_line before) numbers ≡ map Some cs = cc in
    (found_holds interp before n c hold here, found_hold interp before numbers cs hold there)

source_holds : (p : Problem) (interp : Interp) (before : List Clause) (l : Line) (source : LineSource) → IsInterp interp → Models interp (input_clauses p.inputs) → Hold interp before → IsFromInput p l source → IsInferred before l.clause source → Holds interp l.clause
source_holds p interp before l (File path label) is inputs hold from step =
    subst (Holds interp) from.clause_is (input_holds interp p.inputs from.place from.input inputs from.there)
source_holds p interp before l (Inference step parents) is inputs hold from right =
    right_from_holds interp step right.clauses l.clause is (found_hold interp before parents right.clauses hold right.are) right.right

push : (interp : Interp) (cs : List Clause) (c : Clause) → Hold interp cs → Holds interp c → Hold interp (cs ++ c ∷ [])
unfolding Hold
push interp [] c hold here = (here, tt)
push interp (d ∷ cs) c hold here = (hold.0, push interp cs c hold.1 here)

-- wherever the inputs hold, so do the clauses of right lines
lines_hold : (p : Problem) (interp : Interp) (before : List Clause) (ls : List Line) → IsInterp interp → Models interp (input_clauses p.inputs) → Hold interp before → AreLinesOk p before ls → Hold interp (map clause_of ls)
unfolding Hold
lines_hold p interp before [] is inputs hold ok = tt
lines_hold p interp before (l ∷ ls) is inputs hold ok =
    let here = source_holds p interp before l l.source is inputs hold ok.0.input ok.0.step in
    (here, lines_hold p interp (before ++ l.clause ∷ []) ls is inputs (push interp before l.clause hold here) ok.1)

-- the empty clause holds in no interpretation, since there is a point
pub empty_fails : (interp : Interp) (c : Clause) → IsInterp interp → c.literals ≡ [] → Holds interp c → ⊥
empty_fails interp c is empty holds =
    let point : Point = λ (k : ℕ). 0 in
    let here : IsTrue (list_any (literal_true interp point) c.literals) = holds.at_each point (λ k. is.inhabited) in
    let gone : IsTrue (list_any (literal_true interp point) []) = subst (λ (ls : List Literal). IsTrue (list_any (literal_true interp point) ls)) empty here in
    cc

end_fails : (interp : Interp) (cs : List Clause) → IsInterp interp → Hold interp cs → EndsEmpty cs → ⊥
unfolding Hold
end_fails interp [] is hold ends = ends
end_fails interp (c ∷ []) is hold ends = empty_fails interp c is ends hold.0
end_fails interp (c ∷ d ∷ cs) is hold ends = end_fails interp (d ∷ cs) is hold.1 ends

pub accepted_texts_refute : AcceptedTextsRefute
unfolding Hold
accepted_texts_refute p text accepted interp is inputs =
    end_fails interp (map clause_of accepted.lines) is (lines_hold p interp [] accepted.lines is inputs tt accepted.refutes.right) accepted.refutes.end
