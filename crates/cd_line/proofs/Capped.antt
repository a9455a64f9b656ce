-- A line is read up to the greatest number of 64 bits as the code does it.
use Rattle.std.proofs.Common.{◌≡◌, ℕ, zero, suc, ◌+◌, ◌-◌, ◌*◌, ◌^◌, ◌<◌, ◌≤◌, ◌&&◌, min, Bool, true, false, cond, leb, List, [], ◌∷◌, length, map, codes, refl, sym, ap, ◌∙◌, subst, arith, Option, Some, None, ◌⊎◌, inl, inr, slice_get}
use Rattle.std.specs.Prelude.{option_map, option_and_then}
use Rattle.std.specs.List.{AllByRecursion}
use Rattle.std.proofs.lemmas.Bool.{and_parts, leb-true, cases_lt}
use Rattle.std.proofs.lemmas.Option.{slice_get_past}
use Rattle.cd_term.specs.Terms.{AreWithin}
use Rattle.cd_clause.specs.declared.Clause.{Clause}
use Rattle.cd_clause.specs.Clauses.{IsWithinBounds}
use Rattle.cd_steps.specs.Bounds.{subst_of}
use Rattle.cd_symbols.specs.Symbol.{Symbol, AreDistinct}
use Rattle.cd_steps.specs.declared.Step.{Step}
use Rattle.cd_steps.specs.declared.Step.TheVariants.{Input, Copy, Resolve, Factor, Refl, EqFac, Para, Rewrite, Tidy}
use Rattle.cd_read.specs.declared.problem.Problem.{Problem}
use Rattle.cd_parse.specs.declared.label.Label.{Label}
use Rattle.cd_parse.specs.declared.label.Role.{Role}
use Rattle.cd_text.specs.declared.line.Line.{Line}
use Rattle.cd_text.specs.declared.line.LineRole.{LineRole}
use Rattle.cd_text.specs.declared.line.LineRole.TheVariants.{Given, Plain}
use Rattle.cd_text.specs.declared.line.LineSource.{LineSource}
use Rattle.cd_text.specs.declared.line.LineSource.TheVariants as sources
use Rattle.cd_lex.specs.Bytes.{is_digit}
use Rattle.cd_text.specs.Texts.{line_text}
use Rattle.cd_line.specs.declared.reading.Body.{Body}
use Rattle.cd_line.specs.declared.reading.Origin.{Origin}
use Rattle.cd_line.specs.declared.reading.Origin.TheVariants.{File, Rule}
use Rattle.cd_text.specs.Formed.{ArePrintable, IsStepFormed, IsSourceFormed, IsLineFormed, IsLine}
use Rattle.cd_line.specs.Reading.{◌>>=◌, stripped, body_read}
use Rattle.cd_line.specs.Lines.{plain_step, plain_source, plain, exact, capped, digits_from, numeral_read, name_read, has_two, second_read, parents_read, is_end, file_end, rule_end, origin_end, exactly, body_text, line_read, source_subst}
use Rattle.cd_line.specs.Held.{cap, capped_source, capped_line, IsHeld, IsWithin}
use Rattle.cd_line.specs.Laws.{LinesAreReadAgain, PrintedLinesAreOne}
use Rattle.cd_line.proofs.Symbols.{printed}
use Rattle.cd_line.proofs.Lines.{line_again}
use Rattle.cd_line.proofs.Sound.{Sound, line_sound}

-- ---- parts of a reading

-- behind the same value
map_bind : {A B C : Type 0} (g : B → C) (o : Option A) (f : A → Option C) (k : A → Option B) → ((x : A) → f x ≡ option_map g (k x)) → (o >>= f) ≡ option_map g (o >>= k)
map_bind g None f k h = refl
map_bind g (Some x) f k h = h x

-- behind a value that is held otherwise
mapped_bind : {A B C D : Type 0} (e : A → D) (g : B → C) (o : Option A) (f : D → Option C) (k : A → Option B) → ((x : A) → f (e x) ≡ option_map g (k x)) → (option_map e o >>= f) ≡ option_map g (o >>= k)
mapped_bind e g None f k h = refl
mapped_bind e g (Some x) f k h = h x

-- ---- numbers

abbrev cap_number : ℕ × List ℕ → ℕ × List ℕ
cap_number x = (cap x.0, x.1)

abbrev cap_numbers : List ℕ × List ℕ → List ℕ × List ℕ
cap_numbers x = (map cap x.0, x.1)

cap_on : (n d : ℕ) → capped (cap n) d ≡ cap (exact n d)
cap_on n d = omega arith

digits_by : (t : Bool) (n b : ℕ) (bs : List ℕ) → ((m : ℕ) → digits_from capped (cap m) bs ≡ cap_number (digits_from exact m bs))
    → cond t (digits_from capped (capped (cap n) (b - 48)) bs) (cap n, b ∷ bs) ≡ cap_number (cond t (digits_from exact (exact n (b - 48)) bs) (n, b ∷ bs))
digits_by true n b bs others = ap (λ (m : ℕ). digits_from capped m bs) (cap_on n (b - 48)) ∙ others (exact n (b - 48))
digits_by false n b bs others = refl

digits_capped : (n : ℕ) (text : List ℕ) → digits_from capped (cap n) text ≡ cap_number (digits_from exact n text)
digits_capped n [] = refl
digits_capped n (b ∷ bs) = digits_by (is_digit b) n b bs (λ m. digits_capped m bs)

first_small : (b : ℕ) → b ≤ 57 → b - 48 ≡ cap (b - 48)
first_small b h = omega (arith, h)

numeral_by : (t : Bool) (b : ℕ) (bs : List ℕ) → (leb 49 b && leb b 57) ≡ t → cond t (Some (digits_from capped (b - 48) bs)) None ≡ option_map cap_number (cond t (Some (digits_from exact (b - 48) bs)) None)
numeral_by true b bs is =
    let high = leb-true b 57 (and_parts (leb 49 b) (leb b 57) is).1 in
    ap (λ (x : ℕ × List ℕ). Some x) (ap (λ (m : ℕ). digits_from capped m bs) (first_small b high) ∙ digits_capped (b - 48) bs)
numeral_by false b bs is = refl

numeral_capped : (text : List ℕ) → numeral_read capped text ≡ option_map cap_number (numeral_read exact text)
numeral_capped [] = refl
numeral_capped (b ∷ bs) = numeral_by (leb 49 b && leb b 57) b bs refl

name_capped : (text : List ℕ) → name_read capped text ≡ option_map cap_number (name_read exact text)
unfolding name_read
name_capped text = map_bind cap_number (stripped (codes "c") text) (λ rest. numeral_read capped rest) (λ rest. numeral_read exact rest) numeral_capped

second_capped : (first : ℕ) (text : List ℕ) → second_read capped (cap first) text ≡ option_map cap_numbers (second_read exact first text)
unfolding second_read
second_capped first text =
    map_bind cap_numbers (stripped (codes ",") text) (λ rest. name_read capped rest >>= λ n. Some (cap first ∷ n.0 ∷ [], n.1)) (λ rest. name_read exact rest >>= λ n. Some (first ∷ n.0 ∷ [], n.1))
    (λ rest. ap (λ o. o >>= λ n. Some (cap first ∷ n.0 ∷ [], n.1)) (name_capped rest)
    ∙ mapped_bind cap_number cap_numbers (name_read exact rest) (λ n. Some (cap first ∷ n.0 ∷ [], n.1)) (λ n. Some (first ∷ n.0 ∷ [], n.1)) (λ n. refl))

parents_by : (two : Bool) (n : ℕ × List ℕ) → cond two (second_read capped (cap n.0) n.1) (Some (cap n.0 ∷ [], n.1)) ≡ option_map cap_numbers (cond two (second_read exact n.0 n.1) (Some (n.0 ∷ [], n.1)))
parents_by true n = second_capped n.0 n.1
parents_by false n = refl

parents_capped : (two : Bool) (text : List ℕ) → parents_read capped two text ≡ option_map cap_numbers (parents_read exact two text)
unfolding parents_read
parents_capped two text =
    ap (λ o. o >>= λ n. cond two (second_read capped n.0 n.1) (Some (n.0 ∷ [], n.1))) (name_capped text)
    ∙ mapped_bind cap_number cap_numbers (name_read exact text) (λ n. cond two (second_read capped n.0 n.1) (Some (n.0 ∷ [], n.1))) (λ n. cond two (second_read exact n.0 n.1) (Some (n.0 ∷ [], n.1))) (parents_by two)

-- ---- lines

file_capped : (n : ℕ) (c : Clause) (role : Role) (path : List ℕ) (label : Label) (text : List ℕ) → file_end (cap n) c role path label text ≡ option_map capped_line (file_end n c role path label text)
unfolding file_end
file_capped n c role path label text =
    let held : Line = record { number = cap n; role = Given role; clause = c; source = sources.File path label } in
    let line : Line = record { number = n; role = Given role; clause = c; source = sources.File path label } in
    map_bind capped_line (stripped (codes ").") text) (λ rest. is_end rest >>= λ _. Some held) (λ rest. is_end rest >>= λ _. Some line)
    (λ rest. map_bind capped_line (is_end rest) (λ _. Some held) (λ _. Some line) (λ _. refl))

rule_capped : (n : ℕ) (c : Clause) (step : Step) (text : List ℕ) → rule_end capped (cap n) c step text ≡ option_map capped_line (rule_end exact n c step text)
unfolding rule_end
rule_capped n c step text =
    let held : List ℕ → Line = λ ps. record { number = cap n; role = Plain; clause = c; source = sources.Inference step ps } in
    let line : List ℕ → Line = λ ps. record { number = n; role = Plain; clause = c; source = sources.Inference step ps } in
    ap (λ o. o >>= λ ps. stripped (codes "])).") ps.1 >>= λ rest. is_end rest >>= λ _. Some (held ps.0)) (parents_capped (has_two step) text)
    ∙ mapped_bind cap_numbers capped_line (parents_read exact (has_two step) text) (λ ps. stripped (codes "])).") ps.1 >>= λ rest. is_end rest >>= λ _. Some (held ps.0))
    (λ ps. stripped (codes "])).") ps.1 >>= λ rest. is_end rest >>= λ _. Some (line ps.0))
    (λ ps. map_bind capped_line (stripped (codes "])).") ps.1) (λ rest. is_end rest >>= λ _. Some (held (map cap ps.0))) (λ rest. is_end rest >>= λ _. Some (line ps.0))
    (λ rest. map_bind capped_line (is_end rest) (λ _. Some (held (map cap ps.0))) (λ _. Some (line ps.0)) (λ _. refl)))

end_capped : (n : ℕ) (c : Clause) (o : Origin) (text : List ℕ) → origin_end capped (cap n) c o text ≡ option_map capped_line (origin_end exact n c o text)
end_capped n c (File role path label) text = file_capped n c role path label text
end_capped n c (Rule step) text = rule_capped n c step text

pub line_capped : (symbols : List Symbol) (levels : ℕ) (piece : List ℕ) → line_read capped symbols levels piece ≡ option_map capped_line (line_read exact symbols levels piece)
unfolding line_read
line_capped symbols levels piece =
    let last : (ℕ → ℕ → ℕ) → ℕ → Body × List ℕ → Option Line = λ grow n b. origin_end grow n b.0.clause b.0.origin b.1 in
    let body : List ℕ → Option (Body × List ℕ) = λ text. exactly (body_text symbols) text (body_read symbols levels text) in
    map_bind capped_line (stripped (codes "cnf(") piece)
    (λ a. name_read capped a >>= λ n. stripped (codes ",") n.1 >>= λ text. body text >>= last capped n.0)
    (λ a. name_read exact a >>= λ n. stripped (codes ",") n.1 >>= λ text. body text >>= last exact n.0)
    (λ a. ap (λ o. o >>= λ n. stripped (codes ",") n.1 >>= λ text. body text >>= last capped n.0) (name_capped a)
    ∙ mapped_bind cap_number capped_line (name_read exact a) (λ n. stripped (codes ",") n.1 >>= λ text. body text >>= last capped n.0) (λ n. stripped (codes ",") n.1 >>= λ text. body text >>= last exact n.0)
    (λ n. map_bind capped_line (stripped (codes ",") n.1) (λ text. body text >>= last capped (cap n.0)) (λ text. body text >>= last exact n.0)
    (λ text. map_bind capped_line (body text) (last capped (cap n.0)) (last exact n.0) (λ b. end_capped n.0 b.0.clause b.0.origin b.1))))

-- ---- exactly the lines

held_some : (o : Option Line) (held : Line) → option_map capped_line o ≡ Some held → (l : Line) × (o ≡ Some l) × (capped_line l ≡ held)
held_some None held e = absurd cc
held_some (Some l) held e = (l, refl, cc)

held_none : (o : Option Line) → option_map capped_line o ≡ None → o ≡ None
held_none None e = refl
held_none (Some l) e = absurd cc

subst_capped : (s : LineSource) → source_subst (capped_source s) ≡ source_subst s
subst_capped (sources.File path label) = refl
subst_capped (sources.Inference step ps) = refl

within_of : (l held : Line) → capped_line l ≡ held → IsWithin held → IsWithin l
within_of l held is w =
    let v : IsWithin (capped_line l) = subst IsWithin (sym is) w in
    (v.0, subst (AreWithin 65535 1000) (subst_capped l.source) v.1)

-- what was read within bounds is the line
pub held_is : (symbols : List Symbol) (piece : List ℕ) (held : Line) → line_read capped symbols 999 piece ≡ Some held → IsWithin held → IsHeld symbols piece held
held_is symbols piece held read w =
    let h = held_some (line_read exact symbols 999 piece) held (sym (line_capped symbols 999 piece) ∙ read) in
    let s = line_sound symbols 999 piece h.0 h.1 in
    let v = within_of h.0 held h.2 w in
    record { line = h.0; is = record { formed = record { number = s.number; clause = s.clause; bounds = v.0; source = s.source v.1 }; text = s.text }; held_is = h.2 }

-- where nothing was read there is no line
pub none_read : (symbols : List Symbol) (piece : List ℕ) → AreDistinct symbols → ArePrintable symbols → line_read capped symbols 999 piece ≡ None → (l : Line) → IsLine symbols l piece → ⊥
none_read symbols piece distinct printable read l is =
    let e : Some (plain l) ≡ None = sym (ap (line_read exact symbols 999) is.text ∙ line_again symbols 999 l (record { distinct = distinct; printable = printed symbols printable }) (omega arith) is.formed) ∙ held_none (line_read exact symbols 999 piece) (sym (line_capped symbols 999 piece) ∙ read) in
    absurd cc

-- the bounds of a formed line
step_within : (symbols : List Symbol) (parents : ℕ) (s : Step) → IsStepFormed symbols parents s → AreWithin 65535 1000 (subst_of s)
step_within symbols parents (Input index) ok = absurd ok
step_within symbols parents (Copy of) ok = absurd ok
step_within symbols parents (Resolve pos i neg j s) ok = ok.3.bounds
step_within symbols parents (Factor of i j s) ok = ok.3.bounds
step_within symbols parents (Refl of i s) ok = ok.2.bounds
step_within symbols parents (EqFac of i x j z s) ok = ok.5.bounds
step_within symbols parents (Para giver i x taker j at s) ok = ok.5.bounds
step_within symbols parents (Rewrite by x j at s) ok = ok.4.bounds
step_within symbols parents Tidy ok = (omega arith, omega arith)

source_within : (symbols : List Symbol) (role : LineRole) (s : LineSource) → IsSourceFormed symbols role s → AreWithin 65535 1000 (source_subst s)
source_within symbols role (sources.File path label) ok = (omega arith, omega arith)
source_within symbols Plain (sources.Inference step ps) ok = step_within symbols (length ps) step ok.0
source_within symbols (Given role) (sources.Inference step ps) ok = absurd ok

subst_plain : (s : Step) → subst_of (plain_step s) ≡ subst_of s
subst_plain (Input index) = refl
subst_plain (Copy of) = refl
subst_plain (Resolve pos i neg j s) = refl
subst_plain (Factor of i j s) = refl
subst_plain (Refl of i s) = refl
subst_plain (EqFac of i x j z s) = refl
subst_plain (Para giver i x taker j at s) = refl
subst_plain (Rewrite by x j at s) = refl
subst_plain Tidy = refl

source_subst_plain : (s : LineSource) → source_subst (plain_source s) ≡ source_subst s
source_subst_plain (sources.File path label) = refl
source_subst_plain (sources.Inference step ps) = subst_plain step

pub none_within : (symbols : List Symbol) (piece : List ℕ) (held : Line) → AreDistinct symbols → ArePrintable symbols → line_read capped symbols 999 piece ≡ Some held → (IsWithin held → ⊥) → (l : Line) → IsLine symbols l piece → ⊥
none_within symbols piece held distinct printable read outside l is =
    let again : line_read exact symbols 999 piece ≡ Some (plain l) = ap (line_read exact symbols 999) is.text ∙ line_again symbols 999 l (record { distinct = distinct; printable = printed symbols printable }) (omega arith) is.formed in
    let e : Some held ≡ Some (capped_line (plain l)) = sym read ∙ line_capped symbols 999 piece ∙ ap (option_map capped_line) again in
    let k : held ≡ capped_line (plain l) = cc in
    let v : AreWithin 65535 1000 (source_subst (capped_source (plain_source l.source))) = subst (AreWithin 65535 1000) (sym (subst_capped (plain_source l.source) ∙ source_subst_plain l.source)) (source_within symbols l.role l.source is.formed.source) in
    outside (subst IsWithin (sym k) (is.formed.bounds, v))

-- ---- laws

pub lines_are_read_again : LinesAreReadAgain
lines_are_read_again symbols l piece distinct printable is =
    ap (line_read exact symbols 999) is.text ∙ line_again symbols 999 l (record { distinct = distinct; printable = printed symbols printable }) (omega arith) is.formed

pub printed_lines_are_one : PrintedLinesAreOne
printed_lines_are_one symbols l m piece distinct printable is also =
    let e : Some (plain l) ≡ Some (plain m) = sym (lines_are_read_again symbols l piece distinct printable is) ∙ lines_are_read_again symbols m piece distinct printable also in
    cc
