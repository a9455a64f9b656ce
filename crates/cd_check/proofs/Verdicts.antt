-- Pieces judged one after another, and what is said of the whole.
use Rattle.std.proofs.Common.{◌≡◌, ℕ, zero, suc, ◌+◌, ◌<◌, ◌≤◌, Bool, true, false, cond, List, [], ◌∷◌, ◌++◌, length, map, refl, sym, ap, ◌∙◌, subst, arith, append_assoc, append-nil, length-append, Option, Some, None, ◌⊎◌, inl, inr}
use Rattle.std.specs.List.{filter, AllByRecursion}
use Rattle.cd_clause.specs.declared.Clause.{Clause}
use Rattle.cd_steps.specs.Premises.{IsRightFrom}
use Rattle.cd_symbols.specs.Symbol.{Symbol}
use Rattle.cd_steps.specs.declared.Step.{Step}
use Rattle.cd_steps.specs.declared.Step.TheVariants.{Input, Copy, Resolve, Factor, Refl, EqFac, Para, Rewrite, Tidy}
use Rattle.cd_read.specs.declared.problem.Problem.{Problem}
use Rattle.cd_parse.specs.declared.label.Label.{Label}
use Rattle.cd_text.specs.declared.line.Line.{Line}
use Rattle.cd_text.specs.declared.line.LineSource.{LineSource}
use Rattle.cd_text.specs.declared.line.LineSource.TheVariants.{File, Inference}
use Rattle.cd_text.specs.Texts.{quoted, shown, label_text, line_text}
use Rattle.cd_check.specs.declared.verdict.Why.{Why}
use Rattle.cd_check.specs.declared.verdict.Why.TheVariants as why
use Rattle.cd_check.specs.declared.verdict.Verdict.{Verdict}
use Rattle.cd_check.specs.declared.verdict.Verdict.TheVariants.{Accepted, Refused}
use Rattle.cd_text.specs.Formed.{IsLineFormed, IsLine}
use Rattle.cd_line.specs.Lines.{plain_step, plain_label, plain_source, plain, exact, line_read}
use Rattle.cd_check.specs.Accepted.{lines_of, is_taken, AreEarlier, IsInput, IsFromInput, IsInferred, IsLineOk, AreLinesOk, clause_of, EndsEmpty, AcceptedText}
use Rattle.cd_check.specs.Verdicts.{Derives, Fails, WrongAt, NoEnd, FirstWrong, Judges, VerdictsAreOne}
use Rattle.cd_check.specs.Judged.{IsRight, EndSays, JudgedBy, Judged}
use Rattle.cd_line.proofs.Symbols.{printed}
use Rattle.cd_line.proofs.Clauses.{Table}
use Rattle.cd_line.proofs.Plain.{quoted_shown, label_plain}
use Rattle.cd_line.proofs.Lines.{line_again}

-- ---- a piece is one line, but for what isn't printed of it

pub only_line : (symbols : List Symbol) (l m : Line) (piece : List ℕ) → Table symbols → IsLine symbols l piece → IsLine symbols m piece → plain l ≡ plain m
only_line symbols l m piece table a b =
    let e : Some (plain l) ≡ Some (plain m) =
    sym (line_again symbols 999 l table (omega arith) a.formed) ∙ ap (line_read exact symbols 999) (sym a.text ∙ b.text) ∙ line_again symbols 999 m table (omega arith) b.formed in
    cc

-- ---- the conditions don't look at what isn't printed

earlier_to : (before : List Clause) (s : LineSource) → AreEarlier before s → AreEarlier before (plain_source s)
earlier_to before (File path label) h = h
earlier_to before (Inference step parents) h = h

earlier_from : (before : List Clause) (s : LineSource) → AreEarlier before (plain_source s) → AreEarlier before s
earlier_from before (File path label) h = h
earlier_from before (Inference step parents) h = h

abbrev Alike : Line → Line → Type 0
Alike l m = plain l ≡ plain m

pub earlier_alike : (before : List Clause) (l m : Line) → Alike l m → AreEarlier before l.source → AreEarlier before m.source
earlier_alike before l m same h = earlier_from before m.source (subst (λ (x : Line). AreEarlier before x.source) same (earlier_to before l.source h))

pub input_with : (p : Problem) (l m : Line) (path other : List ℕ) (label another : Label) → l.role ≡ m.role → l.clause ≡ m.clause → quoted path ≡ quoted other → label_text label ≡ label_text another → IsInput p l path label → IsInput p m other another
input_with p l m path other label another role clause paths labels h =
    record { place = h.place; input = h.input; there = h.there; role = sym role ∙ h.role; path_is = h.path_is ∙ paths; label_is = h.label_is ∙ labels; clause_is = h.clause_is ∙ clause }

input_to : (p : Problem) (l : Line) (s : LineSource) → IsFromInput p l s → IsFromInput p (plain l) (plain_source s)
input_to p l (File path label) h = input_with p l (plain l) path (shown path) label (plain_label label) refl refl (sym (quoted_shown path)) (sym (label_plain label)) h
input_to p l (Inference step parents) h = h

input_from : (p : Problem) (l : Line) (s : LineSource) → IsFromInput p (plain l) (plain_source s) → IsFromInput p l s
input_from p l (File path label) h = input_with p (plain l) l (shown path) path (plain_label label) label refl refl (quoted_shown path) (label_plain label) h
input_from p l (Inference step parents) h = h

pub input_alike : (p : Problem) (l m : Line) → Alike l m → IsFromInput p l l.source → IsFromInput p m m.source
input_alike p l m same h = input_from p m m.source (subst (λ (x : Line). IsFromInput p x x.source) same (input_to p l l.source h))

right_to : (s : Step) (cs : List Clause) (c : Clause) → IsRightFrom s cs c → IsRightFrom (plain_step s) cs c
right_to (Input index) cs c h = h
right_to (Copy of) cs c h = h
right_to (Resolve pos i neg j s) cs c h = h
right_to (Factor of i j s) cs c h = h
right_to (Refl of i s) cs c h = h
right_to (EqFac of i x j z s) cs c h = h
right_to (Para giver i x taker j at s) cs c h = h
right_to (Rewrite by x j at s) cs c h = h
right_to Tidy cs c h = h

right_back : (s : Step) (cs : List Clause) (c : Clause) → IsRightFrom (plain_step s) cs c → IsRightFrom s cs c
right_back (Input index) cs c h = h
right_back (Copy of) cs c h = h
right_back (Resolve pos i neg j s) cs c h = h
right_back (Factor of i j s) cs c h = h
right_back (Refl of i s) cs c h = h
right_back (EqFac of i x j z s) cs c h = h
right_back (Para giver i x taker j at s) cs c h = h
right_back (Rewrite by x j at s) cs c h = h
right_back Tidy cs c h = h

inferred_to : (before : List Clause) (c : Clause) (s : LineSource) → IsInferred before c s → IsInferred before c (plain_source s)
inferred_to before c (File path label) h = h
inferred_to before c (Inference step parents) h = record { clauses = h.clauses; are = h.are; right = right_to step h.clauses c h.right }

inferred_from : (before : List Clause) (c : Clause) (s : LineSource) → IsInferred before c (plain_source s) → IsInferred before c s
inferred_from before c (File path label) h = h
inferred_from before c (Inference step parents) h = record { clauses = h.clauses; are = h.are; right = right_back step h.clauses c h.right }

pub inferred_alike : (before : List Clause) (l m : Line) → Alike l m → IsInferred before l.clause l.source → IsInferred before m.clause m.source
inferred_alike before l m same h = inferred_from before m.clause m.source (subst (λ (x : Line). IsInferred before x.clause x.source) same (inferred_to before l.clause l.source h))

number_alike : (l m : Line) → Alike l m → l.number ≡ m.number
number_alike l m same = ap (λ (x : Line). x.number) same

clause_alike : (l m : Line) → Alike l m → l.clause ≡ m.clause
clause_alike l m same = ap (λ (x : Line). x.clause) same

-- ---- a condition that fails holds of no line that the piece is

number_not : (p : Problem) (before : List Clause) (piece : List ℕ) → Table p.symbols → Fails p before piece why.Number → (l : Line) → IsLine p.symbols l piece → l.number ≡ length before + 1 → ⊥
number_not p before piece table f l is h = f.2 (number_alike f.0 l (only_line p.symbols f.0 l piece table f.1 is) ∙ h)

parent_not : (p : Problem) (before : List Clause) (piece : List ℕ) → Table p.symbols → Fails p before piece why.Parent → (l : Line) → IsLine p.symbols l piece → AreEarlier before l.source → ⊥
parent_not p before piece table f l is h = f.3 (earlier_alike before l f.0 (only_line p.symbols l f.0 piece table is f.1) h)

input_not : (p : Problem) (before : List Clause) (piece : List ℕ) → Table p.symbols → Fails p before piece why.Input → (l : Line) → IsLine p.symbols l piece → IsFromInput p l l.source → ⊥
input_not p before piece table f l is h = f.4 (input_alike p l f.0 (only_line p.symbols l f.0 piece table is f.1) h)

step_not : (p : Problem) (before : List Clause) (piece : List ℕ) → Table p.symbols → Fails p before piece why.Step → (l : Line) → IsLine p.symbols l piece → IsInferred before l.clause l.source → ⊥
step_not p before piece table f l is h = f.5 (inferred_alike before l f.0 (only_line p.symbols l f.0 piece table is f.1) h)

right_not : (p : Problem) (before : List Clause) (piece : List ℕ) (c : Clause) (w : Why) → Table p.symbols → IsRight p before piece c → Fails p before piece w → ⊥
right_not p before piece c why.Form table r f = f r.line r.is
right_not p before piece c why.Number table r f = number_not p before piece table f r.line r.is r.ok.number
right_not p before piece c why.Parent table r f = parent_not p before piece table f r.line r.is r.ok.parents
right_not p before piece c why.Input table r f = input_not p before piece table f r.line r.is r.ok.input
right_not p before piece c why.Step table r f = step_not p before piece table f r.line r.is r.ok.step
right_not p before piece c why.End table r f = f

-- so one condition alone is the first that fails
one_reason : (p : Problem) (before : List Clause) (piece : List ℕ) (v w : Why) → Table p.symbols → Fails p before piece v → Fails p before piece w → v ≡ w
one_reason p before piece why.Form why.Form table f g = refl
one_reason p before piece why.Form why.Number table f g = absurd (f g.0 g.1)
one_reason p before piece why.Form why.Parent table f g = absurd (f g.0 g.1)
one_reason p before piece why.Form why.Input table f g = absurd (f g.0 g.1)
one_reason p before piece why.Form why.Step table f g = absurd (f g.0 g.1)
one_reason p before piece why.Number why.Form table f g = absurd (g f.0 f.1)
one_reason p before piece why.Number why.Number table f g = refl
one_reason p before piece why.Number why.Parent table f g = absurd (number_not p before piece table f g.0 g.1 g.2)
one_reason p before piece why.Number why.Input table f g = absurd (number_not p before piece table f g.0 g.1 g.2)
one_reason p before piece why.Number why.Step table f g = absurd (number_not p before piece table f g.0 g.1 g.2)
one_reason p before piece why.Parent why.Form table f g = absurd (g f.0 f.1)
one_reason p before piece why.Parent why.Number table f g = absurd (number_not p before piece table g f.0 f.1 f.2)
one_reason p before piece why.Parent why.Parent table f g = refl
one_reason p before piece why.Parent why.Input table f g = absurd (parent_not p before piece table f g.0 g.1 g.3)
one_reason p before piece why.Parent why.Step table f g = absurd (parent_not p before piece table f g.0 g.1 g.3)
one_reason p before piece why.Input why.Form table f g = absurd (g f.0 f.1)
one_reason p before piece why.Input why.Number table f g = absurd (number_not p before piece table g f.0 f.1 f.2)
one_reason p before piece why.Input why.Parent table f g = absurd (parent_not p before piece table g f.0 f.1 f.3)
one_reason p before piece why.Input why.Input table f g = refl
one_reason p before piece why.Input why.Step table f g = absurd (input_not p before piece table f g.0 g.1 g.4)
one_reason p before piece why.Step why.Form table f g = absurd (g f.0 f.1)
one_reason p before piece why.Step why.Number table f g = absurd (number_not p before piece table g f.0 f.1 f.2)
one_reason p before piece why.Step why.Parent table f g = absurd (parent_not p before piece table g f.0 f.1 f.3)
one_reason p before piece why.Step why.Input table f g = absurd (input_not p before piece table g f.0 f.1 f.4)
one_reason p before piece why.Step why.Step table f g = refl
one_reason p before piece why.End w table f g = absurd f
one_reason p before piece v why.End table f g = absurd g

one_clause : (p : Problem) (before : List Clause) (piece : List ℕ) (c d : Clause) → Table p.symbols → IsRight p before piece c → IsRight p before piece d → c ≡ d
one_clause p before piece c d table a b = sym a.clause_is ∙ clause_alike a.line b.line (only_line p.symbols a.line b.line piece table a.is b.is) ∙ b.clause_is

-- ---- pieces are judged in one way

end_one : (before : List Clause) (passed : ℕ) (v w : Verdict) → EndSays before passed v → EndSays before passed w → v ≡ w
end_one before passed v w a b = elim a [
  | inl x ↦ elim b [ inl y ↦ x.1 ∙ sym y.1 | inr y ↦ absurd (y.0 x.0) ]
  | inr x ↦ elim b [ inl y ↦ absurd (x.0 y.0) | inr y ↦ x.1 ∙ sym y.1 ]
]

abbrev OneOf : Problem → ℕ → List (List ℕ) → Verdict → Verdict → Type 0
OneOf p passed pieces v w = (before : List Clause) → Judged p before passed pieces v → Judged p before passed pieces w → v ≡ w

one_by : (t : Bool) (p : Problem) (before : List Clause) (passed : ℕ) (piece : List ℕ) (pieces : List (List ℕ)) (v w : Verdict) → Table p.symbols → OneOf p (passed + 1) pieces v w
    → JudgedBy t p before passed piece v (λ cs. Judged p cs (passed + 1) pieces v) → JudgedBy t p before passed piece w (λ cs. Judged p cs (passed + 1) pieces w) → v ≡ w
one_by true p before passed piece pieces v w table others a b = elim a [
  | inl x ↦ elim b [
    | inl y ↦ others (before ++ x.0 ∷ []) x.2 (subst (λ (c : Clause). Judged p (before ++ c ∷ []) (passed + 1) pieces w) (one_clause p before piece y.0 x.0 table y.1 x.1) y.2)
    | inr y ↦ absurd (right_not p before piece x.0 y.0 table x.1 y.1)
  ]
  | inr x ↦ elim b [
    | inl y ↦ absurd (right_not p before piece y.0 x.0 table y.1 x.1)
    | inr y ↦ x.2 ∙ ap (λ (r : Why). Refused (passed + 1) r) (one_reason p before piece x.0 y.0 table x.1 y.1) ∙ sym y.2
  ]
]
one_by false p before passed piece pieces v w table others a b = others before a b

pub judged_one : (p : Problem) (passed : ℕ) (pieces : List (List ℕ)) (v w : Verdict) → Table p.symbols → OneOf p passed pieces v w
judged_one p passed [] v w table before a b = end_one before passed v w a b
judged_one p passed (piece ∷ pieces) v w table before a b = one_by (is_taken piece) p before passed piece pieces v w table (judged_one p (passed + 1) pieces v w table) a b

-- ---- right lines in front

filter_taken : (piece : List ℕ) (pieces : List (List ℕ)) → is_taken piece ≡ true → filter is_taken (piece ∷ pieces) ≡ piece ∷ filter is_taken pieces
filter_taken piece pieces h = rw h refl

filter_passed : (piece : List ℕ) (pieces : List (List ℕ)) → is_taken piece ≡ false → filter is_taken (piece ∷ pieces) ≡ filter is_taken pieces
filter_passed piece pieces h = rw h refl

-- what is judged of the others is judged behind right lines
abbrev Walks : Problem → ℕ → List (List ℕ) → List (List ℕ) → Verdict → Type 0
Walks p passed front rest v = (before : List Clause) (lines : List Line) → Derives p before front lines → Judged p (before ++ map clause_of lines) (passed + length front) rest v → Judged p before passed (front ++ rest) v

count_more : (p : Problem) (before : List Clause) (passed : ℕ) (front rest : List (List ℕ)) (piece : List ℕ) (v : Verdict) → Judged p before (passed + length (piece ∷ front)) rest v → Judged p before (passed + 1 + length front) rest v
count_more p before passed front rest piece v j = subst (λ (n : ℕ). Judged p before n rest v) (omega arith) j

walk_taken : (p : Problem) (before : List Clause) (passed : ℕ) (piece : List ℕ) (front rest : List (List ℕ)) (v : Verdict) (lines : List Line) → is_taken piece ≡ true → Walks p (passed + 1) front rest v
    → Derives p before (piece ∷ front) lines → Judged p (before ++ map clause_of lines) (passed + length (piece ∷ front)) rest v → JudgedBy true p before passed piece v (λ cs. Judged p cs (passed + 1) (front ++ rest) v)
walk_taken p before passed piece front rest v [] taken others d j = absurd (let e : piece ∷ filter is_taken front ≡ [] = sym (filter_taken piece front taken) ∙ d.form in cc)
walk_taken p before passed piece front rest v (l ∷ ls) taken others d j =
    let e : piece ∷ filter is_taken front ≡ line_text p.symbols l ∷ map (line_text p.symbols) ls = sym (filter_taken piece front taken) ∙ d.form in
    let here : IsRight p before piece l.clause = record { line = l; is = record { formed = d.formed.0; text = cc }; ok = d.right.0; clause_is = refl } in
    let behind : Derives p (before ++ l.clause ∷ []) front ls = record { form = cc; formed = d.formed.1; right = d.right.1 } in
    let same : before ++ l.clause ∷ map clause_of ls ≡ (before ++ l.clause ∷ []) ++ map clause_of ls = sym (append_assoc before (l.clause ∷ []) (map clause_of ls)) in
    inl (l.clause, here, others (before ++ l.clause ∷ []) ls behind (count_more p ((before ++ l.clause ∷ []) ++ map clause_of ls) passed front rest piece v (subst (λ (cs : List Clause). Judged p cs (passed + length (piece ∷ front)) rest v) same j)))

walk_by : (t : Bool) (p : Problem) (before : List Clause) (passed : ℕ) (piece : List ℕ) (front rest : List (List ℕ)) (v : Verdict) (lines : List Line) → is_taken piece ≡ t → Walks p (passed + 1) front rest v
    → Derives p before (piece ∷ front) lines → Judged p (before ++ map clause_of lines) (passed + length (piece ∷ front)) rest v → JudgedBy t p before passed piece v (λ cs. Judged p cs (passed + 1) (front ++ rest) v)
walk_by true p before passed piece front rest v lines taken others d j = walk_taken p before passed piece front rest v lines taken others d j
walk_by false p before passed piece front rest v lines none others d j =
    others before lines (record { form = sym (filter_passed piece front none) ∙ d.form; formed = d.formed; right = d.right }) (count_more p (before ++ map clause_of lines) passed front rest piece v j)

walk_none : (p : Problem) (before : List Clause) (passed : ℕ) (rest : List (List ℕ)) (v : Verdict) (lines : List Line) → Derives p before [] lines → Judged p (before ++ map clause_of lines) (passed + 0) rest v → Judged p before passed rest v
walk_none p before passed rest v [] d j =
    subst (λ (n : ℕ). Judged p before n rest v) (omega arith) (subst (λ (cs : List Clause). Judged p cs (passed + 0) rest v) (append-nil before) j)
walk_none p before passed rest v (l ∷ ls) d j = absurd (let e = d.form in cc)

walk : (p : Problem) (passed : ℕ) (front rest : List (List ℕ)) (v : Verdict) → Walks p passed front rest v
walk p passed [] rest v before lines d j = walk_none p before passed rest v lines d j
walk p passed (piece ∷ front) rest v before lines d j = walk_by (is_taken piece) p before passed piece front rest v lines refl (walk p (passed + 1) front rest v) d j

-- ---- from what is said of the whole

length_clauses : (ls : List Line) → length (map clause_of ls) ≡ length ls
length_clauses [] = refl
length_clauses (l ∷ ls) = ap suc (length_clauses ls)

accepted_judged : (p : Problem) (pieces : List (List ℕ)) (lines : List Line) → Derives p [] pieces lines → EndsEmpty (map clause_of lines) → Judged p [] 0 pieces (Accepted (length lines))
accepted_judged p pieces lines d ends =
    subst (λ (ps : List (List ℕ)). Judged p [] 0 ps (Accepted (length lines))) (append-nil pieces)
    (walk p 0 pieces [] (Accepted (length lines)) [] lines d (inl (ends, ap Accepted (sym (length_clauses lines)))))

no_end_judged : (p : Problem) (pieces : List (List ℕ)) (line : ℕ) → NoEnd p [] 0 pieces line → Judged p [] 0 pieces (Refused line why.End)
no_end_judged p pieces line h =
    subst (λ (ps : List (List ℕ)). Judged p [] 0 ps (Refused line why.End)) (append-nil pieces)
    (walk p 0 pieces [] (Refused line why.End) [] h.lines h.derives (inr (h.ends, ap (λ (n : ℕ). Refused n why.End) h.place)))

fails_judged : (t : Bool) (p : Problem) (before : List Clause) (passed : ℕ) (piece : List ℕ) (back : List (List ℕ)) (w : Why) → t ≡ true → Fails p before piece w
    → JudgedBy t p before passed piece (Refused (passed + 1) w) (λ cs. Judged p cs (passed + 1) back (Refused (passed + 1) w))
fails_judged true p before passed piece back w taken f = inr (w, f, refl)
fails_judged false p before passed piece back w taken f = absurd cc

wrong_judged : (p : Problem) (pieces : List (List ℕ)) (line : ℕ) (w : Why) → WrongAt p [] 0 pieces line w → Judged p [] 0 pieces (Refused line w)
wrong_judged p pieces line w h =
    let here = fails_judged (is_taken h.piece) p (map clause_of h.lines) (0 + length h.front) h.piece h.back w h.taken h.fails in
    subst (λ (n : ℕ). Judged p [] 0 pieces (Refused n w)) (sym h.place)
    (subst (λ (ps : List (List ℕ)). Judged p [] 0 ps (Refused (0 + length h.front + 1) w)) (sym h.split)
    (walk p 0 h.front (h.piece ∷ h.back) (Refused (0 + length h.front + 1) w) [] h.lines h.derives here))

pub judges_judged : (p : Problem) (text : List ℕ) (v : Verdict) → Judges p text v → Judged p [] 0 (lines_of text) v
judges_judged p text (Accepted n) j =
    subst (λ (m : ℕ). Judged p [] 0 (lines_of text) (Accepted m)) (sym j.1) (accepted_judged p (lines_of text) j.0.lines (record { form = j.0.form; formed = j.0.refutes.formed; right = j.0.refutes.right }) j.0.refutes.end)
judges_judged p text (Refused line w) j = elim j [
  | inl h ↦ wrong_judged p (lines_of text) line w h
  | inr h ↦ subst (λ (r : Why). Judged p [] 0 (lines_of text) (Refused line r)) (sym h.0) (no_end_judged p (lines_of text) line h.1)
]

pub verdicts_are_one : VerdictsAreOne
verdicts_are_one p text v w distinct printable a b =
    judged_one p 0 (lines_of text) v w (record { distinct = distinct; printable = printed p.symbols printable }) [] (judges_judged p text v a) (judges_judged p text w b)

-- ---- to what is said of the whole

abbrev Says : Problem → List Clause → ℕ → List (List ℕ) → Verdict → Type 0
Says p before passed pieces (Accepted n) = (lines : List Line) × Derives p before pieces lines × EndsEmpty (before ++ map clause_of lines) × (n ≡ length before + length lines)
Says p before passed pieces (Refused line w) = WrongAt p before passed pieces line w ⊎ ((w ≡ why.End) × NoEnd p before passed pieces line)

says_end : (p : Problem) (before : List Clause) (passed : ℕ) (v : Verdict) → EndSays before passed v → Says p before passed [] v
says_end p before passed (Accepted n) e = elim e [
  | inl h ↦ ([], record { form = refl; formed = tt; right = tt }, subst EndsEmpty (sym (append-nil before)) h.0, (let k : n ≡ length before = cc in omega (arith, k)))
  | inr h ↦ absurd (let k = h.1 in cc)
]
says_end p before passed (Refused line w) e = elim e [
  | inl h ↦ absurd (let k = h.1 in cc)
  | inr h ↦
      let line_is : line ≡ passed + 1 = cc in
      let why_is : w ≡ why.End = cc in
      inr (why_is, record { lines = []; derives = record { form = refl; formed = tt; right = tt }; place = (omega (arith, line_is)); ends = λ x. h.0 (subst EndsEmpty (append-nil before) x) })
]

derives_more : (p : Problem) (before : List Clause) (piece : List ℕ) (pieces : List (List ℕ)) (c : Clause) (lines : List Line) (r : IsRight p before piece c) → is_taken piece ≡ true → Derives p (before ++ c ∷ []) pieces lines → Derives p before (piece ∷ pieces) (r.line ∷ lines)
derives_more p before piece pieces c lines r taken d =
    record {
      form = filter_taken piece pieces taken ∙ (λ i. r.is.text i ∷ d.form i);
      formed = (r.is.formed, d.formed);
      right = (r.ok, subst (λ (x : Clause). AreLinesOk p (before ++ x ∷ []) lines) (sym r.clause_is) d.right);
    }

clauses_more : (p : Problem) (before : List Clause) (piece : List ℕ) (c : Clause) (lines : List Line) (r : IsRight p before piece c) → (before ++ c ∷ []) ++ map clause_of lines ≡ before ++ map clause_of (r.line ∷ lines)
clauses_more p before piece c lines r = append_assoc before (c ∷ []) (map clause_of lines) ∙ ap (λ (x : Clause). before ++ x ∷ map clause_of lines) (sym r.clause_is)

says_right : (p : Problem) (before : List Clause) (passed : ℕ) (piece : List ℕ) (pieces : List (List ℕ)) (c : Clause) (v : Verdict) → is_taken piece ≡ true → IsRight p before piece c → Says p (before ++ c ∷ []) (passed + 1) pieces v → Says p before passed (piece ∷ pieces) v
says_right p before passed piece pieces c (Accepted n) taken r s =
    (r.line ∷ s.0, derives_more p before piece pieces c s.0 r taken s.1, subst EndsEmpty (clauses_more p before piece c s.0 r) s.2, omega (arith, s.3, length-append before (c ∷ [])))
says_right p before passed piece pieces c (Refused line w) taken r s = elim s [
  | inl h ↦ inl (record {
    front = piece ∷ h.front;
    piece = h.piece;
    back = h.back;
    lines = r.line ∷ h.lines;
    split = ap (λ (ps : List (List ℕ)). piece ∷ ps) h.split;
    derives = derives_more p before piece h.front c h.lines r taken h.derives;
    taken = h.taken;
    place = omega (arith, h.place);
    fails = subst (λ (cs : List Clause). Fails p cs h.piece w) (clauses_more p before piece c h.lines r) h.fails;
  })
  | inr h ↦ inr (
    h.0,
    record {
      lines = r.line ∷ h.1.lines;
      derives = derives_more p before piece pieces c h.1.lines r taken h.1.derives;
      place = omega (arith, h.1.place);
      ends = λ x. h.1.ends (subst EndsEmpty (sym (clauses_more p before piece c h.1.lines r)) x);
    },
  )
]

derives_pass : (p : Problem) (before : List Clause) (piece : List ℕ) (pieces : List (List ℕ)) (lines : List Line) → is_taken piece ≡ false → Derives p before pieces lines → Derives p before (piece ∷ pieces) lines
derives_pass p before piece pieces lines none d = record { form = filter_passed piece pieces none ∙ d.form; formed = d.formed; right = d.right }

says_pass : (p : Problem) (before : List Clause) (passed : ℕ) (piece : List ℕ) (pieces : List (List ℕ)) (v : Verdict) → is_taken piece ≡ false → Says p before (passed + 1) pieces v → Says p before passed (piece ∷ pieces) v
says_pass p before passed piece pieces (Accepted n) none s = (s.0, derives_pass p before piece pieces s.0 none s.1, s.2, s.3)
says_pass p before passed piece pieces (Refused line w) none s = elim s [
  | inl h ↦ inl (record {
    front = piece ∷ h.front;
    piece = h.piece;
    back = h.back;
    lines = h.lines;
    split = ap (λ (ps : List (List ℕ)). piece ∷ ps) h.split;
    derives = derives_pass p before piece h.front h.lines none h.derives;
    taken = h.taken;
    place = omega (arith, h.place);
    fails = h.fails;
  })
  | inr h ↦ inr (h.0, record { lines = h.1.lines; derives = derives_pass p before piece pieces h.1.lines none h.1.derives; place = omega (arith, h.1.place); ends = h.1.ends })
]

says_wrong : (p : Problem) (before : List Clause) (passed : ℕ) (piece : List ℕ) (pieces : List (List ℕ)) (w : Why) (v : Verdict) → is_taken piece ≡ true → Fails p before piece w → v ≡ Refused (passed + 1) w → Says p before passed (piece ∷ pieces) v
says_wrong p before passed piece pieces w v taken f e =
    let here : WrongAt p before passed (piece ∷ pieces) (passed + 1) w = record {
      front = [];
      piece = piece;
      back = pieces;
      lines = [];
      split = refl;
      derives = record { form = refl; formed = tt; right = tt };
      taken = taken;
      place = omega arith;
      fails = subst (λ (cs : List Clause). Fails p cs piece w) (sym (append-nil before)) f;
    } in
    subst (Says p before passed (piece ∷ pieces)) (sym e) (inl here)

says_by : (t : Bool) (p : Problem) (before : List Clause) (passed : ℕ) (piece : List ℕ) (pieces : List (List ℕ)) (v : Verdict) → is_taken piece ≡ t → ((cs : List Clause) → Judged p cs (passed + 1) pieces v → Says p cs (passed + 1) pieces v)
    → JudgedBy t p before passed piece v (λ cs. Judged p cs (passed + 1) pieces v) → Says p before passed (piece ∷ pieces) v
says_by true p before passed piece pieces v taken others j = elim j [
  | inl x ↦ says_right p before passed piece pieces x.0 v taken x.1 (others (before ++ x.0 ∷ []) x.2)
  | inr x ↦ says_wrong p before passed piece pieces x.0 v taken x.1 x.2
]
says_by false p before passed piece pieces v none others j = says_pass p before passed piece pieces v none (others before j)

judged_says : (p : Problem) (before : List Clause) (passed : ℕ) (pieces : List (List ℕ)) (v : Verdict) → Judged p before passed pieces v → Says p before passed pieces v
judged_says p before passed [] v j = says_end p before passed v j
judged_says p before passed (piece ∷ pieces) v j = says_by (is_taken piece) p before passed piece pieces v refl (λ cs k. judged_says p cs (passed + 1) pieces v k) j

pub judged_judges : (p : Problem) (text : List ℕ) (v : Verdict) → Judged p [] 0 (lines_of text) v → Judges p text v
judged_judges p text (Accepted n) j = let s = judged_says p [] 0 (lines_of text) (Accepted n) j in (record { lines = s.0; form = s.1.form; refutes = record { formed = s.1.formed; right = s.1.right; end = s.2 } }, omega (arith, s.3))
judged_judges p text (Refused line w) j = judged_says p [] 0 (lines_of text) (Refused line w) j
