-- A printed line is read again.
use Rattle.std.proofs.Common.{◌≡◌, ℕ, zero, suc, ◌+◌, ◌<◌, ◌≤◌, Bool, true, false, cond, List, [], ◌∷◌, ◌++◌, length, map, codes, refl, sym, ap, ◌∙◌, subst, arith, append_assoc, append-nil, Option, Some, None}
use Rattle.std.specs.List.{AllByRecursion}
use Rattle.cd_clause.specs.declared.Clause.{Clause}
use Rattle.cd_clause.specs.Clauses.{IsWithinBounds}
use Rattle.cd_symbols.specs.Symbol.{Symbol}
use Rattle.cd_steps.specs.declared.Step.{Step}
use Rattle.cd_steps.specs.declared.Step.TheVariants.{Input, Copy, Resolve, Factor, Refl, EqFac, Para, Rewrite, Tidy}
use Rattle.cd_parse.specs.declared.label.Label.{Label}
use Rattle.cd_parse.specs.declared.label.Role.{Role}
use Rattle.cd_parse.specs.declared.label.Role.TheVariants as roles
use Rattle.cd_text.specs.declared.line.Line.{Line}
use Rattle.cd_text.specs.declared.line.LineRole.{LineRole}
use Rattle.cd_text.specs.declared.line.LineRole.TheVariants.{Given, Plain}
use Rattle.cd_text.specs.declared.line.LineSource.{LineSource}
use Rattle.cd_text.specs.declared.line.LineSource.TheVariants as sources
use Rattle.cd_text.specs.Numerals.{numeral}
use Rattle.cd_lex.specs.Bytes.{is_digit}
use Rattle.cd_text.specs.Texts.{shown, quoted, separated, label_text, given_text, role_text, name_text, clause_text, rule_text, source_text, line_text}
use Rattle.cd_read.specs.Formed.{IsLabelFormed, IsClauseFormed}
use Rattle.cd_text.specs.Formed.{IsStepFormed, IsSourceFormed, IsLineFormed}
use Rattle.cd_line.specs.declared.reading.Body.{Body}
use Rattle.cd_line.specs.declared.reading.Origin.{Origin}
use Rattle.cd_line.specs.declared.reading.Origin.TheVariants.{File, Rule}
use Rattle.cd_line.specs.Reading.{◌>>=◌, either, stripped, role_read, file_read, inference_read, origin_read, body_read}
use Rattle.cd_line.specs.Lines.{plain_step, plain_label, plain_source, plain, origin_role, origin_text, body_text, exactly, exact, name_read, has_two, second_read, parents_read, is_end, file_end, rule_end, origin_end, line_read}
use Rattle.cd_line.proofs.Words.{Stops, stripped_again, quoted_again, label_again}
use Rattle.cd_line.proofs.Clauses.{Table, clause_again}
use Rattle.cd_line.proofs.Rules.{rule_again}
use Rattle.cd_line.proofs.Numbers.{name_again}
use Rattle.cd_line.proofs.Plain.{quoted_shown, label_plain, rule_plain}

-- ---- the body

role_again : (role : Role) (rest : List ℕ) → role_read (given_text role ++ rest) ≡ Some (role, rest)
unfolding role_read
role_again roles.Axiom rest = refl
role_again roles.Hypothesis rest = refl
role_again roles.Definition rest = refl
role_again roles.Assumption rest = refl
role_again roles.Lemma rest = refl
role_again roles.Theorem rest = refl
role_again roles.Corollary rest = refl
role_again roles.NegatedConjecture rest = refl
role_again roles.Plain rest = refl

-- the role that is read of a body
abbrev read_role_of : Origin → Role
read_role_of (File role path label) = role
read_role_of (Rule step) = roles.Plain

origin_role_again : (o : Origin) (rest : List ℕ) → role_read (origin_role o ++ rest) ≡ Some (read_role_of o, rest)
origin_role_again (File role path label) rest = role_again role rest
origin_role_again (Rule step) rest = role_again roles.Plain rest

abbrev pub plain_origin : Origin → Origin
plain_origin (File role path label) = File role (shown path) (plain_label label)
plain_origin (Rule step) = Rule (plain_step step)

abbrev pub plain_body : Body → Body
plain_body b = record { clause = b.clause; origin = plain_origin b.origin }

abbrev pub IsOriginFormed : List Symbol → ℕ → Origin → Type 0
IsOriginFormed symbols parents (File role path label) = IsLabelFormed label
IsOriginFormed symbols parents (Rule step) = IsStepFormed symbols parents step

file_parts : (path label rest : List ℕ) → (path ++ (44 ∷ (label ++ 41 ∷ []))) ++ rest ≡ path ++ (44 ∷ (label ++ (41 ∷ rest)))
file_parts path label rest = append_assoc path (44 ∷ (label ++ 41 ∷ [])) rest ∙ ap (λ (t : List ℕ). path ++ (44 ∷ t)) (append_assoc label (41 ∷ []) rest)

file_again : (role : Role) (path : List ℕ) (label : Label) (rest : List ℕ) → IsLabelFormed label → file_read role ((quoted path ++ (44 ∷ (label_text label ++ 41 ∷ []))) ++ rest) ≡ Some (File role (shown path) (plain_label label), rest)
unfolding file_read
file_again role path label rest ok =
    ap (file_read role) (file_parts (quoted path) (label_text label) rest)
    ∙ rw (quoted_again path (44 ∷ (label_text label ++ 41 ∷ rest)), label_again label (41 ∷ rest) ok refl refl) refl

inference_again : (symbols : List Symbol) (levels parents : ℕ) (step : Step) (rest : List ℕ) → Table symbols → 1000 ≤ levels → IsStepFormed symbols parents step
    → inference_read symbols levels ((codes "inference(" ++ (rule_text symbols step ++ codes ",[")) ++ rest) ≡ Some (Rule (plain_step step), rest)
unfolding inference_read
inference_again symbols levels parents step rest table enough ok =
    ap (λ (t : List ℕ). inference_read symbols levels (codes "inference(" ++ t)) (append_assoc (rule_text symbols step) (codes ",[") rest)
    ∙ rw (rule_again symbols levels parents step (codes ",[" ++ rest) table enough ok) refl

origin_again : (symbols : List Symbol) (levels parents : ℕ) (o : Origin) (rest : List ℕ) → Table symbols → 1000 ≤ levels → IsOriginFormed symbols parents o
    → origin_read symbols levels (read_role_of o) (origin_text symbols o ++ rest) ≡ Some (plain_origin o, rest)
unfolding origin_read source_text
origin_again symbols levels parents (File role path label) rest table enough ok = file_again role path label rest ok
origin_again symbols levels parents (Rule step) rest table enough ok = inference_again symbols levels parents step rest table enough ok

body_parts : (role clause origin rest : List ℕ) → (role ++ (44 ∷ (clause ++ (44 ∷ origin)))) ++ rest ≡ role ++ (44 ∷ (clause ++ (44 ∷ (origin ++ rest))))
body_parts role clause origin rest = append_assoc role (44 ∷ (clause ++ (44 ∷ origin))) rest ∙ ap (λ (t : List ℕ). role ++ (44 ∷ t)) (append_assoc clause (44 ∷ origin) rest)

pub body_again : (symbols : List Symbol) (levels parents : ℕ) (b : Body) (rest : List ℕ) → Table symbols → 999 ≤ levels → IsClauseFormed symbols b.clause → IsWithinBounds b.clause → IsOriginFormed symbols parents b.origin
    → body_read symbols levels (body_text symbols b ++ rest) ≡ Some (plain_body b, rest)
unfolding body_read body_text
body_again symbols levels parents b rest table enough clause bounds origin =
    let at_origin = origin_text symbols b.origin ++ rest in
    let at_clause = clause_text symbols b.clause ++ (44 ∷ at_origin) in
    ap (body_read symbols levels) (body_parts (origin_role b.origin) (clause_text symbols b.clause) (origin_text symbols b.origin) rest)
    ∙ rw (
      origin_role_again b.origin (44 ∷ at_clause),
      clause_again symbols levels b.clause (44 ∷ at_origin) table clause bounds.0 (omega (arith, bounds.1, enough)),
      origin_again symbols (suc levels) parents b.origin rest table (omega (arith, enough)) origin,
    ) refl

-- ---- what isn't printed of a body

origin_role_plain : (o : Origin) → origin_role (plain_origin o) ≡ origin_role o
origin_role_plain (File role path label) = refl
origin_role_plain (Rule step) = refl

origin_text_plain : (symbols : List Symbol) (o : Origin) → origin_text symbols (plain_origin o) ≡ origin_text symbols o
unfolding source_text
origin_text_plain symbols (File role path label) = rw (quoted_shown path, label_plain label) refl
origin_text_plain symbols (Rule step) = rw (rule_plain symbols step) refl

body_plain : (symbols : List Symbol) (b : Body) → body_text symbols (plain_body b) ≡ body_text symbols b
unfolding body_text
body_plain symbols b = rw (origin_role_plain b.origin, origin_text_plain symbols b.origin) refl

exactly_again : (symbols : List Symbol) (levels parents : ℕ) (b : Body) (rest : List ℕ) → Table symbols → 999 ≤ levels → IsClauseFormed symbols b.clause → IsWithinBounds b.clause → IsOriginFormed symbols parents b.origin
    → exactly (body_text symbols) (body_text symbols b ++ rest) (body_read symbols levels (body_text symbols b ++ rest)) ≡ Some (plain_body b, rest)
exactly_again symbols levels parents b rest table enough clause bounds origin =
    ap (exactly (body_text symbols) (body_text symbols b ++ rest)) (body_again symbols levels parents b rest table enough clause bounds origin)
    ∙ ap (λ (t : List ℕ). stripped t (body_text symbols b ++ rest) >>= λ r. Some (plain_body b, r)) (body_plain symbols b)
    ∙ ap (λ (o : Option (List ℕ)). o >>= λ r. Some (plain_body b, r)) (stripped_again (body_text symbols b) rest)

-- ---- the names of parents

abbrev pub names_text : List ℕ → List ℕ
names_text ps = separated (codes ",") name_text ps

one_again : (p : ℕ) (rest : List ℕ) → 0 < p → Stops is_digit rest → parents_read exact false (names_text (p ∷ []) ++ rest) ≡ Some (p ∷ [], rest)
unfolding parents_read
one_again p rest some stops = rw (name_again p rest some stops) refl

two_again : (p q : ℕ) (rest : List ℕ) → 0 < p → 0 < q → Stops is_digit rest → parents_read exact true (names_text (p ∷ q ∷ []) ++ rest) ≡ Some (p ∷ q ∷ [], rest)
unfolding parents_read second_read
two_again p q rest some more stops =
    ap (parents_read exact true) (append_assoc (name_text p) (codes "," ++ name_text q) rest)
    ∙ rw (name_again p (codes "," ++ (name_text q ++ rest)) some refl, name_again q rest more stops) refl

counted : (symbols : List Symbol) (parents : ℕ) (s : Step) → IsStepFormed symbols parents s → parents ≡ cond (has_two s) 2 1
counted symbols parents (Input index) ok = absurd ok
counted symbols parents (Copy of) ok = absurd ok
counted symbols parents (Resolve pos i neg j s) ok = ok.0
counted symbols parents (Factor of i j s) ok = ok.0
counted symbols parents (Refl of i s) ok = ok.0
counted symbols parents (EqFac of i x j z s) ok = ok.0
counted symbols parents (Para giver i x taker j at s) ok = ok.0
counted symbols parents (Rewrite by x j at s) ok = ok.0
counted symbols parents Tidy ok = ok

has_two_plain : (s : Step) → has_two (plain_step s) ≡ has_two s
has_two_plain (Input index) = refl
has_two_plain (Copy of) = refl
has_two_plain (Resolve pos i neg j s) = refl
has_two_plain (Factor of i j s) = refl
has_two_plain (Refl of i s) = refl
has_two_plain (EqFac of i x j z s) = refl
has_two_plain (Para giver i x taker j at s) = refl
has_two_plain (Rewrite by x j at s) = refl
has_two_plain Tidy = refl

parents_by : (two : Bool) (ps : List ℕ) (rest : List ℕ) → length ps ≡ cond two 2 1 → AllByRecursion (λ n. 0 < n) ps → Stops is_digit rest → parents_read exact two (names_text ps ++ rest) ≡ Some (ps, rest)
parents_by true (p ∷ q ∷ []) rest count some stops = two_again p q rest some.0 some.1.0 stops
parents_by true [] rest count some stops = absurd cc
parents_by true (p ∷ []) rest count some stops = absurd cc
parents_by true (p ∷ q ∷ r ∷ ps) rest count some stops = absurd (omega (arith, count))
parents_by false (p ∷ []) rest count some stops = one_again p rest some.0 stops
parents_by false [] rest count some stops = absurd cc
parents_by false (p ∷ q ∷ ps) rest count some stops = absurd (omega (arith, count))

-- ---- the line

abbrev made : ℕ → LineRole → Clause → LineSource → Line
made n role c s = record { number = n; role = role; clause = c; source = s }

file_end_again : (n : ℕ) (c : Clause) (role : Role) (path : List ℕ) (label : Label) → file_end n c role path label (codes ").") ≡ Some (made n (Given role) c (sources.File path label))
unfolding file_end
file_end_again n c role path label = refl

rule_end_again : (symbols : List Symbol) (n : ℕ) (c : Clause) (step : Step) (ps : List ℕ) → IsStepFormed symbols (length ps) step → AllByRecursion (λ p. 0 < p) ps
    → rule_end exact n c (plain_step step) (names_text ps ++ codes "])).") ≡ Some (made n Plain c (sources.Inference (plain_step step) ps))
unfolding rule_end
rule_end_again symbols n c step ps ok some =
    let count : length ps ≡ cond (has_two (plain_step step)) 2 1 = counted symbols (length ps) step ok ∙ ap (λ (t : Bool). cond t 2 1) (sym (has_two_plain step)) in
    rw (parents_by (has_two (plain_step step)) ps (codes "])).") count some refl) refl

abbrev body_of : Clause → Origin → Body
body_of c o = record { clause = c; origin = o }

-- a line is its number, its body and its end
pub file_line : (symbols : List Symbol) (n : ℕ) (role : Role) (c : Clause) (path : List ℕ) (label : Label)
    → line_text symbols (made n (Given role) c (sources.File path label)) ≡ codes "cnf(" ++ (name_text n ++ (codes "," ++ (body_text symbols (body_of c (File role path label)) ++ codes ").")))
unfolding line_text body_text
file_line symbols n role c path label =
    ap (λ (t : List ℕ). codes "cnf(" ++ (name_text n ++ (codes "," ++ t))) (sym (body_parts (given_text role) (clause_text symbols c) (source_text symbols (sources.File path label)) (codes ").")))

rule_parts : (rule names : List ℕ) → (codes "inference(" ++ (rule ++ (codes ",[" ++ (names ++ codes "])")))) ++ codes ")." ≡ (codes "inference(" ++ (rule ++ codes ",[")) ++ (names ++ codes "])).")
rule_parts rule names =
    ap (λ (t : List ℕ). codes "inference(" ++ t)
    (append_assoc rule (codes ",[" ++ (names ++ codes "])")) (codes ").") ∙ ap (λ (t : List ℕ). rule ++ (codes ",[" ++ t)) (append_assoc names (codes "])") (codes ").")) ∙ sym (append_assoc rule (codes ",[") (names ++ codes "])).")))

pub rule_line : (symbols : List Symbol) (n : ℕ) (c : Clause) (step : Step) (ps : List ℕ)
    → line_text symbols (made n Plain c (sources.Inference step ps)) ≡ codes "cnf(" ++ (name_text n ++ (codes "," ++ (body_text symbols (body_of c (Rule step)) ++ (names_text ps ++ codes "]))."))))
unfolding line_text body_text source_text
rule_line symbols n c step ps =
    let clause = clause_text symbols c in
    ap (λ (t : List ℕ). codes "cnf(" ++ (name_text n ++ (codes "," ++ (codes "plain" ++ (codes "," ++ (clause ++ (codes "," ++ t))))))) (rule_parts (rule_text symbols step) (names_text ps))
    ∙ ap (λ (t : List ℕ). codes "cnf(" ++ (name_text n ++ (codes "," ++ t))) (sym (body_parts (codes "plain") clause (codes "inference(" ++ (rule_text symbols step ++ codes ",[")) (names_text ps ++ codes "])).")))

-- how a line is read where its parts are
line_by : (symbols : List Symbol) (levels parents n : ℕ) (b : Body) (end : List ℕ) (l : Line) → Table symbols → 999 ≤ levels → 0 < n → IsClauseFormed symbols b.clause → IsWithinBounds b.clause → IsOriginFormed symbols parents b.origin
    → origin_end exact n b.clause (plain_origin b.origin) end ≡ Some l → line_read exact symbols levels (codes "cnf(" ++ (name_text n ++ (codes "," ++ (body_text symbols b ++ end)))) ≡ Some l
unfolding line_read
line_by symbols levels parents n b end l table enough some clause bounds origin ends =
    rw (name_again n (codes "," ++ (body_text symbols b ++ end)) some refl, exactly_again symbols levels parents b end table enough clause bounds origin) ends

line_of : (symbols : List Symbol) (levels n : ℕ) (role : LineRole) (c : Clause) (s : LineSource) → Table symbols → 999 ≤ levels → 0 < n → IsClauseFormed symbols c → IsWithinBounds c → IsSourceFormed symbols role s
    → line_read exact symbols levels (line_text symbols (made n role c s)) ≡ Some (made n role c (plain_source s))
line_of symbols levels n (Given role) c (sources.File path label) table enough some clause bounds ok =
    ap (line_read exact symbols levels) (file_line symbols n role c path label)
    ∙ line_by symbols levels 0 n (body_of c (File role path label)) (codes ").") (made n (Given role) c (plain_source (sources.File path label))) table enough some clause bounds ok (file_end_again n c role (shown path) (plain_label label))
line_of symbols levels n Plain c (sources.File path label) table enough some clause bounds ok = absurd ok
line_of symbols levels n (Given role) c (sources.Inference step ps) table enough some clause bounds ok = absurd ok
line_of symbols levels n Plain c (sources.Inference step ps) table enough some clause bounds ok =
    ap (line_read exact symbols levels) (rule_line symbols n c step ps)
    ∙ line_by symbols levels (length ps) n (body_of c (Rule step)) (names_text ps ++ codes "])).") (made n Plain c (plain_source (sources.Inference step ps))) table enough some clause bounds ok.0 (rule_end_again symbols n c step ps ok.0 ok.1)

-- a printed line is read, but for what isn't printed of it
pub line_again : (symbols : List Symbol) (levels : ℕ) (l : Line) → Table symbols → 999 ≤ levels → IsLineFormed symbols l → line_read exact symbols levels (line_text symbols l) ≡ Some (plain l)
line_again symbols levels l table enough ok = line_of symbols levels l.number l.role l.clause l.source table enough ok.number ok.clause ok.bounds ok.source
