-- A printed body is an input's exactly where the input is the line's.
use Rattle.std.proofs.Common.{◌≡◌, ℕ, zero, suc, ◌+◌, ◌<◌, ◌≤◌, ◌||◌, Bool, true, false, cond, List, [], ◌∷◌, ◌++◌, codes, refl, sym, ap, ◌∙◌, subst, arith, append-nil, Option, Some, None, slice_get}
use Rattle.std.specs.Prelude.{IsTrue, bytes_eq}
use Rattle.std.specs.List.{list_any, AllByRecursion}
use Rattle.std.proofs.lemmas.Slice.Eq.{bytes_eq-Decides}
use Rattle.cd_clause.specs.declared.Clause.{Clause}
use Rattle.cd_clause.specs.Clauses.{IsWithinBounds}
use Rattle.cd_symbols.specs.Symbol.{Symbol}
use Rattle.cd_read.specs.declared.problem.Problem.{Problem}
use Rattle.cd_read.specs.declared.problem.Input.{Input}
use Rattle.cd_parse.specs.declared.label.Label.{Label}
use Rattle.cd_parse.specs.declared.label.Role.{Role}
use Rattle.cd_text.specs.declared.line.Line.{Line}
use Rattle.cd_text.specs.declared.line.LineRole.{LineRole}
use Rattle.cd_text.specs.declared.line.LineRole.TheVariants.{Given, Plain}
use Rattle.cd_text.specs.declared.line.LineSource.{LineSource}
use Rattle.cd_text.specs.declared.line.LineSource.TheVariants as sources
use Rattle.cd_text.specs.Texts.{quoted, shown, label_text, given_text, clause_text, source_text}
use Rattle.cd_line.specs.declared.reading.Body.{Body}
use Rattle.cd_line.specs.declared.reading.Origin.{Origin}
use Rattle.cd_line.specs.declared.reading.Origin.TheVariants.{File, Rule}
use Rattle.cd_read.specs.Formed.{IsLabelFormed, IsClauseFormed, IsInputFormed}
use Rattle.cd_text.specs.Formed.{IsSourceFormed, IsLineFormed}
use Rattle.cd_line.specs.Reading.{body_read}
use Rattle.cd_line.specs.Lines.{plain_label, body_text}
use Rattle.cd_check.specs.Inputs.{file_body, input_text, is_among, from_input, IsProblemFit}
use Rattle.cd_check.specs.Accepted.{IsInput, IsFromInput}
use Rattle.cd_line.proofs.Clauses.{Table}
use Rattle.cd_line.proofs.Plain.{quoted_shown, label_plain}
use Rattle.cd_line.proofs.Lines.{plain_body, body_again}

-- ---- a body and its text

abbrev whole_again : (symbols : List Symbol) (b : Body) → Type 0
whole_again symbols b = body_read symbols 999 (body_text symbols b) ≡ Some (plain_body b, [])

file_again : (symbols : List Symbol) (role : Role) (c : Clause) (path : List ℕ) (label : Label) → Table symbols → IsClauseFormed symbols c → IsWithinBounds c → IsLabelFormed label → whole_again symbols (file_body role c path label)
file_again symbols role c path label table clause bounds ok =
    ap (body_read symbols 999) (sym (append-nil (body_text symbols (file_body role c path label)))) ∙ body_again symbols 999 0 (file_body role c path label) [] table (omega arith) clause bounds ok

abbrev role_of_origin : Origin → Role → Role
role_of_origin (File role path label) other = role
role_of_origin (Rule step) other = other

abbrev path_of_origin : Origin → List ℕ
path_of_origin (File role path label) = path
path_of_origin (Rule step) = []

abbrev label_of_origin : Origin → Label → Label
label_of_origin (File role path label) other = label
label_of_origin (Rule step) other = other

-- over plain variables, since these pairs compute far
same_first : {A B : Type 0} (x y : A × B) → Some x ≡ Some y → x.0 ≡ y.0
same_first {A} {B} x y e = let k : x ≡ y = cc in ap (λ (z : A × B). z.0) k

record SameBody (r s : Role) (c d : Clause) (p q : List ℕ) (l m : Label) : Type 0 where
  role : r ≡ s
  clause : c ≡ d
  path : quoted p ≡ quoted q
  label : label_text l ≡ label_text m

-- equal texts are of equal bodies, but for what isn't printed
same_body : (symbols : List Symbol) (r s : Role) (c d : Clause) (p q : List ℕ) (l m : Label) → Table symbols → IsClauseFormed symbols c → IsWithinBounds c → IsLabelFormed l → IsClauseFormed symbols d → IsWithinBounds d → IsLabelFormed m
    → body_text symbols (file_body r c p l) ≡ body_text symbols (file_body s d q m) → SameBody r s c d p q l m
same_body symbols r s c d p q l m table cf cb lf df db mf e =
    let a = plain_body (file_body r c p l) in
    let b = plain_body (file_body s d q m) in
    let x : Body × List ℕ = (a, []) in
    let y : Body × List ℕ = (b, []) in
    let both : Some x ≡ Some y = sym (file_again symbols r c p l table cf cb lf) ∙ ap (body_read symbols 999) e ∙ file_again symbols s d q m table df db mf in
    let k : a ≡ b = same_first x y both in
    let o : a.origin ≡ b.origin = ap (λ (x : Body). x.origin) k in
    record {
      role = ap (λ (x : Origin). role_of_origin x r) o;
      clause = ap (λ (x : Body). x.clause) k;
      path = sym (quoted_shown p) ∙ ap (λ (x : Origin). quoted (path_of_origin x)) o ∙ quoted_shown q;
      label = sym (label_plain l) ∙ ap (λ (x : Origin). label_text (label_of_origin x l)) o ∙ label_plain m;
    }

equal_text : (symbols : List Symbol) (r s : Role) (c d : Clause) (p q : List ℕ) (l m : Label) → r ≡ s → c ≡ d → quoted p ≡ quoted q → label_text l ≡ label_text m → body_text symbols (file_body r c p l) ≡ body_text symbols (file_body s d q m)
unfolding body_text source_text
equal_text symbols r s c d p q l m a b e f = rw (a, b, e, f) refl

-- ---- among the inputs

-- an input that is formed and within bounds
record IsGood (symbols : List Symbol) (i : Input) : Type 0 where
  label : IsLabelFormed i.label
  clause : IsClauseFormed symbols i.clause
  bounds : IsWithinBounds i.clause

all_good : (symbols : List Symbol) (inputs : List Input) → AllByRecursion (IsInputFormed symbols) inputs → AllByRecursion (λ (i : Input). IsWithinBounds i.clause) inputs → AllByRecursion (IsGood symbols) inputs
all_good symbols [] formed within = tt
all_good symbols (i ∷ inputs) formed within = (record { label = formed.0.0; clause = formed.0.1; bounds = within.0 }, all_good symbols inputs formed.1 within.1)

abbrev Wanted : Problem → Role → Clause → List ℕ → Label → List ℕ
Wanted p role c path label = body_text p.symbols (file_body role c path label)

-- some input of a list at a place
record Place (inputs : List Input) (role : Role) (c : Clause) (path : List ℕ) (label : Label) : Type 0 where
  place : ℕ
  input : Input
  there : slice_get inputs place ≡ Some input
  same : SameBody input.role role input.clause c input.file path input.label label

place_by : (t : Bool) (symbols : List Symbol) (i : Input) (inputs : List Input) (role : Role) (c : Clause) (path : List ℕ) (label : Label) → Table symbols → IsClauseFormed symbols c → IsWithinBounds c → IsLabelFormed label
    → IsGood symbols i → bytes_eq (body_text symbols (file_body role c path label)) (input_text symbols i) ≡ t → (is_among symbols inputs (body_text symbols (file_body role c path label)) ≡ true → Place inputs role c path label)
    → (t || is_among symbols inputs (body_text symbols (file_body role c path label))) ≡ true → Place (i ∷ inputs) role c path label
unfolding input_text
place_by true symbols i inputs role c path label table cf cb lf ok is others e =
    let same = sym ((bytes_eq-Decides (body_text symbols (file_body role c path label)) (body_text symbols (file_body i.role i.clause i.file i.label))).0 is) in
    record { place = 0; input = i; there = refl; same = same_body symbols i.role role i.clause c i.file path i.label label table ok.clause ok.bounds ok.label cf cb lf same }
place_by false symbols i inputs role c path label table cf cb lf ok is others e =
    let h = others e in
    record { place = suc h.place; input = h.input; there = h.there; same = h.same }

place_of : (symbols : List Symbol) (inputs : List Input) (role : Role) (c : Clause) (path : List ℕ) (label : Label) → Table symbols → IsClauseFormed symbols c → IsWithinBounds c → IsLabelFormed label → AllByRecursion (IsGood symbols) inputs
    → is_among symbols inputs (body_text symbols (file_body role c path label)) ≡ true → Place inputs role c path label
place_of symbols [] role c path label table cf cb lf each e = absurd cc
place_of symbols (i ∷ inputs) role c path label table cf cb lf each e =
    place_by (bytes_eq (body_text symbols (file_body role c path label)) (input_text symbols i)) symbols i inputs role c path label table cf cb lf each.0 refl (place_of symbols inputs role c path label table cf cb lf each.1) e

or_left : (a b : Bool) → a ≡ true → (a || b) ≡ true
or_left true b e = refl
or_left false b e = absurd cc

or_right : (a b : Bool) → b ≡ true → (a || b) ≡ true
or_right true b e = refl
or_right false b e = e

among_at : (symbols : List Symbol) (inputs : List Input) (k : ℕ) (i : Input) (wanted : List ℕ) → slice_get inputs k ≡ Some i → input_text symbols i ≡ wanted → is_among symbols inputs wanted ≡ true
among_at symbols [] k i wanted at e = absurd cc
among_at symbols (j ∷ inputs) zero i wanted at e =
    let same : j ≡ i = cc in
    or_left (bytes_eq wanted (input_text symbols j)) (is_among symbols inputs wanted) ((bytes_eq-Decides wanted (input_text symbols j)).1 (sym (ap (input_text symbols) same ∙ e)))
among_at symbols (j ∷ inputs) (suc k) i wanted at e = or_right (bytes_eq wanted (input_text symbols j)) (is_among symbols inputs wanted) (among_at symbols inputs k i wanted at e)

given_is : (r s : Role) → Given r ≡ Given s → r ≡ s
given_is r s e = cc

-- ---- a line that is formed takes an input exactly where the test says so

pub takes : (p : Problem) (l : Line) (role : LineRole) (s : LineSource) → Table p.symbols → IsProblemFit p → IsClauseFormed p.symbols l.clause → IsWithinBounds l.clause → IsSourceFormed p.symbols role s → l.role ≡ role
    → from_input p l.clause role s ≡ true → IsFromInput p l s
takes p l (Given role) (sources.File path label) table formed cf cb ok is e =
    let h = place_of p.symbols p.inputs role l.clause path label table cf cb ok (all_good p.symbols p.inputs formed.formed.inputs formed.bounded.within) e in
    record { place = h.place; input = h.input; there = h.there; role = is ∙ ap Given (sym h.same.role); path_is = h.same.path; label_is = h.same.label; clause_is = h.same.clause }
takes p l Plain (sources.File path label) table formed cf cb ok is e = absurd ok
takes p l (Given role) (sources.Inference step ps) table formed cf cb ok is e = tt
takes p l Plain (sources.Inference step ps) table formed cf cb ok is e = tt

pub taken : (p : Problem) (l : Line) (role : LineRole) (s : LineSource) → l.role ≡ role → IsFromInput p l s → from_input p l.clause role s ≡ true
unfolding input_text
taken p l (Given role) (sources.File path label) is h =
    let r : h.input.role ≡ role = given_is h.input.role role (sym h.role ∙ is) in
    among_at p.symbols p.inputs h.place h.input (body_text p.symbols (file_body role l.clause path label)) h.there
    (equal_text p.symbols h.input.role role h.input.clause l.clause h.input.file path h.input.label label r h.clause_is h.path_is h.label_is)
taken p l Plain (sources.File path label) is h = absurd (let e : Plain ≡ Given h.input.role = sym is ∙ h.role in cc)
taken p l (Given role) (sources.Inference step ps) is h = refl
taken p l Plain (sources.Inference step ps) is h = refl
