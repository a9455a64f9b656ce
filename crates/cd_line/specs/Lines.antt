-- A derivation line, read exactly.
-- Beyond the headline: no clause of `prove` reaches this file.
use Rattle.std.specs.Prelude.{◌≡◌, ℕ, ◌+◌, ◌-◌, ◌*◌, ◌^◌, min, Bool, true, false, ◌&&◌, ◌==◌, nat_le, if◌then◌else◌, List, [], ◌∷◌, ◌++◌, length, codes, Option, None, Some}
use Rattle.cd_names.specs.declared.names.Name.{Name}
use Rattle.cd_term.specs.declared.Term.{Term}
use Rattle.cd_clause.specs.declared.Clause.{Clause}
use Rattle.cd_steps.specs.Premises.{premises}
use Rattle.cd_steps.specs.Bounds.{subst_of}
use Rattle.cd_symbols.specs.Symbol.{Symbol}
use Rattle.cd_steps.specs.declared.Step.{Step}
use Rattle.cd_steps.specs.declared.Step.TheVariants.{Input, Copy, Resolve, Factor, Refl, EqFac, Para, Rewrite, Tidy}
use Rattle.cd_parse.specs.declared.label.Label.{Label}
use Rattle.cd_parse.specs.declared.label.Label.TheVariants.{Word, Integer}
use Rattle.cd_parse.specs.declared.label.Role.{Role}
use Rattle.cd_text.specs.declared.line.Line.{Line}
use Rattle.cd_text.specs.declared.line.LineRole.{LineRole}
use Rattle.cd_text.specs.declared.line.LineRole.TheVariants.{Given, Plain}
use Rattle.cd_text.specs.declared.line.LineSource.{LineSource}
use Rattle.cd_text.specs.declared.line.LineSource.TheVariants as sources
use Rattle.cd_lex.specs.Bytes.{is_digit}
use Rattle.cd_text.specs.Texts.{shown, clause_text, given_text, rule_text, source_text}
use Rattle.cd_line.specs.declared.reading.Body.{Body}
use Rattle.cd_line.specs.declared.reading.Origin.{Origin}
use Rattle.cd_line.specs.declared.reading.Origin.TheVariants.{File, Rule}
use Rattle.cd_line.specs.Reading.{◌>>=◌, stripped, no_name, body_read}

-- ---- what is not printed of a line: the names in a step, and bytes that are shown as question marks

abbrev pub plain_step : Step → Step
plain_step (Input index) = Input 0
plain_step (Copy of) = Copy no_name
plain_step (Resolve pos i neg j subst) = Resolve no_name i no_name j subst
plain_step (Factor of i j subst) = Factor no_name i j subst
plain_step (Refl of i subst) = Refl no_name i subst
plain_step (EqFac of i s j z subst) = EqFac no_name i s j z subst
plain_step (Para giver i s taker j at subst) = Para no_name i s no_name j at subst
plain_step (Rewrite by s j at subst) = Rewrite no_name s j at subst
plain_step Tidy = Tidy

abbrev pub plain_label : Label → Label
plain_label (Word w) = Word (shown w)
plain_label (Integer ds) = Integer ds

abbrev pub plain_source : LineSource → LineSource
plain_source (sources.File path label) = sources.File (shown path) (plain_label label)
plain_source (sources.Inference step parents) = sources.Inference (plain_step step) parents

-- the line as it is read back
abbrev pub plain : Line → Line
plain l = record { number = l.number; role = l.role; clause = l.clause; source = plain_source l.source }

-- ---- the body of a line: what stands between its number and the names of its parents

abbrev pub origin_role : Origin → List ℕ
origin_role (File role path label) = given_text role
origin_role (Rule step) = codes "plain"

abbrev pub origin_text : List Symbol → Origin → List ℕ
origin_text symbols (File role path label) = source_text symbols (sources.File path label)
origin_text symbols (Rule step) = codes "inference(" ++ (rule_text symbols step ++ codes ",[")

unfoldable pub body_text : List Symbol → Body → List ℕ
body_text symbols b = origin_role b.origin ++ (codes "," ++ (clause_text symbols b.clause ++ (codes "," ++ origin_text symbols b.origin)))

-- ---- reading exactly

-- what is read is printed again, and has to stand there
abbrev pub exactly : {A : Type 0} → (A → List ℕ) → List ℕ → Option (A × List ℕ) → Option (A × List ℕ)
exactly print text read = read >>= λ x. stripped (print x.0) text >>= λ rest. Some (x.0, rest)

-- how digits make a number: exactly, or up to the greatest number of 64 bits
abbrev pub exact : ℕ → ℕ → ℕ
exact n d = n * 10 + d

abbrev pub capped : ℕ → ℕ → ℕ
capped n d = min (n * 10 + d) (2 ^ 64 - 1)

-- digits go on
abbrev pub digits_from : (ℕ → ℕ → ℕ) → ℕ → List ℕ → ℕ × List ℕ
digits_from grow n [] = (n, [])
digits_from grow n (b ∷ bs) = if is_digit b then digits_from grow (grow n (b - 48)) bs else (n, b ∷ bs)

-- the number of a name: digits of which the first isn't 0
abbrev pub numeral_read : (ℕ → ℕ → ℕ) → List ℕ → Option (ℕ × List ℕ)
numeral_read grow [] = None
numeral_read grow (b ∷ bs) = if nat_le 49 b && nat_le b 57 then Some (digits_from grow (b - 48) bs) else None

unfoldable pub name_read : (ℕ → ℕ → ℕ) → List ℕ → Option (ℕ × List ℕ)
name_read grow text = stripped (codes "c") text >>= λ rest. numeral_read grow rest

-- whether a rule has two parents; else it has one
abbrev pub has_two : Step → Bool
has_two step = length (premises step) == 2

unfoldable pub second_read : (ℕ → ℕ → ℕ) → ℕ → List ℕ → Option (List ℕ × List ℕ)
second_read grow first text = stripped (codes ",") text >>= λ rest. name_read grow rest >>= λ n. Some (first ∷ n.0 ∷ [], n.1)

unfoldable pub parents_read : (ℕ → ℕ → ℕ) → Bool → List ℕ → Option (List ℕ × List ℕ)
parents_read grow two text = name_read grow text >>= λ n. if two then second_read grow n.0 n.1 else Some (n.0 ∷ [], n.1)

-- nothing is left behind an end
abbrev pub is_end : List ℕ → Option (Unit {0})
is_end [] = Some tt
is_end (b ∷ bs) = None

unfoldable pub file_end : ℕ → Clause → Role → List ℕ → Label → List ℕ → Option Line
file_end number clause role path label text =
    stripped (codes ").") text >>= λ rest. is_end rest >>= λ _. Some (record { number = number; role = Given role; clause = clause; source = sources.File path label })

unfoldable pub rule_end : (ℕ → ℕ → ℕ) → ℕ → Clause → Step → List ℕ → Option Line
rule_end grow number clause step text =
    parents_read grow (has_two step) text >>= λ ps. stripped (codes "])).") ps.1 >>= λ rest. is_end rest >>= λ _.
    Some (record { number = number; role = Plain; clause = clause; source = sources.Inference step ps.0 })

abbrev pub origin_end : (ℕ → ℕ → ℕ) → ℕ → Clause → Origin → List ℕ → Option Line
origin_end grow number clause (File role path label) text = file_end number clause role path label text
origin_end grow number clause (Rule step) text = rule_end grow number clause step text

-- the line that a piece is; the bounds of its clause and its substitution are left to be looked at
unfoldable pub line_read : (ℕ → ℕ → ℕ) → List Symbol → ℕ → List ℕ → Option Line
line_read grow symbols levels piece =
    stripped (codes "cnf(") piece >>= λ a. name_read grow a >>= λ n. stripped (codes ",") n.1 >>= λ text.
    exactly (body_text symbols) text (body_read symbols levels text) >>= λ b. origin_end grow n.0 b.0.clause b.0.origin b.1

-- ---- the bounds that are left to be looked at

abbrev pub source_subst : LineSource → List Term
source_subst (sources.File path label) = []
source_subst (sources.Inference step parents) = subst_of step
