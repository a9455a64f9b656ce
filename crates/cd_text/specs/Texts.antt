-- The printed texts of words, clauses and derivation lines.
use Rattle.std.specs.Prelude.{ℕ, Bool, ◌&&◌, ◌||◌, ◌==◌, true, false, nat_le, if◌then◌else◌, List, [], ◌∷◌, ◌++◌, map, codes, Option, None, Some, slice_get}
use Rattle.std.specs.List.{flat_map}
use Rattle.cd_term.specs.declared.Term.{Term, fold-Term}
use Rattle.cd_term.specs.declared.Term.TheOpen.{Term-F}
use Rattle.cd_term.specs.declared.Term.TheOpen as layer
use Rattle.cd_clause.specs.declared.Atom.{Atom}
use Rattle.cd_clause.specs.declared.Atom.TheVariants.{Truth, Pred, Equal}
use Rattle.cd_clause.specs.declared.Literal.{Literal}
use Rattle.cd_clause.specs.declared.Clause.{Clause}
use Rattle.cd_steps.specs.declared.Step.{Step}
use Rattle.cd_steps.specs.declared.Step.TheVariants.{Input, Copy, Resolve, Factor, Refl, EqFac, Para, Rewrite, Tidy}
use Rattle.cd_symbols.specs.Symbol.{Symbol}
use Rattle.cd_parse.specs.declared.label.Label.{Label}
use Rattle.cd_parse.specs.declared.label.Label.TheVariants.{Word, Integer}
use Rattle.cd_parse.specs.declared.label.Role.{Role}
use Rattle.cd_parse.specs.declared.label.Role.TheVariants as roles
use Rattle.cd_text.specs.declared.line.Line.{Line}
use Rattle.cd_text.specs.declared.line.LineRole.{LineRole}
use Rattle.cd_text.specs.declared.line.LineRole.TheVariants.{Given, Plain}
use Rattle.cd_text.specs.declared.line.LineSource.{LineSource}
use Rattle.cd_text.specs.declared.line.LineSource.TheVariants.{File, Inference}
use Rattle.cd_text.specs.Numerals.{numeral}
use Rattle.cd_text.specs.Words.{is_word}

-- ---- words

abbrev pub is_printable : ℕ → Bool
is_printable b = nat_le 32 b && nat_le b 126

-- a byte outside 32 to 126 is printed as a question mark
abbrev pub shown_byte : ℕ → ℕ
shown_byte b = if is_printable b then b else 63

abbrev pub shown : List ℕ → List ℕ
shown text = map shown_byte text

-- a quote or a backslash has a backslash before it
abbrev pub quoted_byte : ℕ → List ℕ
quoted_byte b = if b == 39 || b == 92 then 92 ∷ b ∷ [] else shown_byte b ∷ []

unfoldable pub quoted : List ℕ → List ℕ
quoted text = codes "'" ++ (flat_map quoted_byte text ++ codes "'")

-- a lower word is printed bare, any other text between quotes
abbrev pub word_text : List ℕ → List ℕ
word_text text = if is_word text then text else quoted text

-- items with something between two
abbrev pub separated : {A : Type 0} → List ℕ → (A → List ℕ) → List A → List ℕ
separated between text [] = []
separated between text (x ∷ []) = text x
separated between text (x ∷ y ∷ ys) = text x ++ (between ++ separated between text (y ∷ ys))

-- ---- clauses

abbrev pub symbol_text : Option Symbol → List ℕ
symbol_text (Some s) = word_text s.text
symbol_text None = []

-- the texts of arguments between parentheses, with commas; a constant has none
abbrev pub arguments_text : List (List ℕ) → List ℕ
arguments_text [] = []
arguments_text (t ∷ ts) = codes "(" ++ (separated (codes ",") (λ text. text) (t ∷ ts) ++ codes ")")

-- a variable is X and its number, a symbol its word and its arguments
abbrev pub term_step : List Symbol → Term-F (List ℕ) → List ℕ
term_step symbols (layer.Var n) = codes "X" ++ numeral n
term_step symbols (layer.App f texts) = symbol_text (slice_get symbols f) ++ arguments_text texts

abbrev pub term_text : List Symbol → Term → List ℕ
term_text symbols = fold-Term (List ℕ) (term_step symbols)

-- a literal by its sign and its atom
abbrev pub signed_text : List Symbol → Bool → Atom → List ℕ
signed_text symbols true Truth = codes "$true"
signed_text symbols false Truth = codes "$false"
signed_text symbols true (Pred p args) = symbol_text (slice_get symbols p) ++ arguments_text (map (term_text symbols) args)
signed_text symbols false (Pred p args) = codes "~" ++ (symbol_text (slice_get symbols p) ++ arguments_text (map (term_text symbols) args))
signed_text symbols true (Equal s t) = term_text symbols s ++ (codes " = " ++ term_text symbols t)
signed_text symbols false (Equal s t) = term_text symbols s ++ (codes " != " ++ term_text symbols t)

abbrev pub literal_text : List Symbol → Literal → List ℕ
literal_text symbols l = signed_text symbols l.positive l.atom

abbrev pub literals_text : List Symbol → List Literal → List ℕ
literals_text symbols [] = codes "$false"
literals_text symbols (l ∷ ls) = codes "(" ++ (separated (codes " | ") (literal_text symbols) (l ∷ ls) ++ codes ")")

unfoldable pub clause_text : List Symbol → Clause → List ℕ
clause_text symbols c = literals_text symbols c.literals

-- ---- derivation lines

abbrev pub given_text : Role → List ℕ
given_text roles.Axiom = codes "axiom"
given_text roles.Hypothesis = codes "hypothesis"
given_text roles.Definition = codes "definition"
given_text roles.Assumption = codes "assumption"
given_text roles.Lemma = codes "lemma"
given_text roles.Theorem = codes "theorem"
given_text roles.Corollary = codes "corollary"
given_text roles.NegatedConjecture = codes "negated_conjecture"
given_text roles.Plain = codes "plain"

abbrev pub role_text : LineRole → List ℕ
role_text (Given role) = given_text role
role_text Plain = codes "plain"

-- an integer is its digits, as they stand in the file
abbrev pub label_text : Label → List ℕ
label_text (Word word) = word_text word
label_text (Integer digits) = digits

-- a line's name
abbrev pub name_text : ℕ → List ℕ
name_text number = codes "c" ++ numeral number

abbrev pub numbers_text : List ℕ → List ℕ
numbers_text ns = separated (codes ",") numeral ns

-- a path behind the numbers before it
abbrev pub path_text : List ℕ → List ℕ
path_text path = codes ",[" ++ (numbers_text path ++ codes "]")

-- a rule's word, its places and its substitution
abbrev pub entries_text : List Symbol → List ℕ → List ℕ → List Term → List ℕ
entries_text symbols word at subst =
    word ++ (codes ",[status(thm),at(" ++ (at ++ (codes "),subst([" ++ (separated (codes ",") (term_text symbols) subst ++ codes "])]"))))

-- the rule of a step and its entries, one case a rule. A line that takes an input names no rule, and a copy has no
-- line of its own
unfoldable pub rule_text : List Symbol → Step → List ℕ
rule_text symbols (Input index) = []
rule_text symbols (Copy of) = []
rule_text symbols (Resolve pos i neg j subst) = entries_text symbols (codes "resolve") (numbers_text (i ∷ j ∷ [])) subst
rule_text symbols (Factor of i j subst) = entries_text symbols (codes "factor") (numbers_text (i ∷ j ∷ [])) subst
rule_text symbols (Refl of i subst) = entries_text symbols (codes "refl") (numbers_text (i ∷ [])) subst
rule_text symbols (EqFac of i s j z subst) = entries_text symbols (codes "eqfac") (numbers_text (i ∷ s ∷ j ∷ z ∷ [])) subst
rule_text symbols (Para giver i s taker j at subst) =
    entries_text symbols (codes "para") (numbers_text (i ∷ s ∷ j ∷ []) ++ path_text at) subst
rule_text symbols (Rewrite by s j at subst) = entries_text symbols (codes "rewrite") (numbers_text (s ∷ j ∷ []) ++ path_text at) subst
rule_text symbols Tidy = codes "tidy,[status(thm)]"

unfoldable pub source_text : List Symbol → LineSource → List ℕ
source_text symbols (File path label) = codes "file(" ++ (quoted path ++ (codes "," ++ (label_text label ++ codes ")")))
source_text symbols (Inference step parents) = codes "inference(" ++ (rule_text symbols step ++ (codes ",[" ++ (separated (codes ",") name_text parents ++ codes "])")))

-- a derivation line, without its line feed
unfoldable pub line_text : List Symbol → Line → List ℕ
line_text symbols l =
    codes "cnf(" ++ (name_text l.number ++ (codes "," ++ (role_text l.role ++ (codes "," ++ (clause_text symbols l.clause ++ (codes "," ++ (source_text symbols l.source ++ codes ").")))))))
