-- What is printed has no line feed.
use Rattle.std.proofs.Common.{◌≡◌, ℕ, ◌+◌, ◌%◌, ◌==◌, Bool, true, false, not, ◌&&◌, ◌||◌, cond, List, [], ◌∷◌, ◌++◌, codes, map, refl, ap, ◌∙◌, arith, Option, Some, None, slice_get}
use Rattle.std.specs.List.{flat_map, list_all, AllByRecursion}
use Rattle.std.proofs.lemmas.Bool.Decides.{nat_tests}
use Rattle.std.proofs.lemmas.List.Concat.{flat_map-cons}
use Rattle.std.proofs.lemmas.Bool.{and_parts}
use Rattle.cd_term.specs.declared.Term.{Term}
use Rattle.cd_term.specs.declared.Term.TheVariants.{Var, App}
use Rattle.cd_term.proofs.TermInduction.{ind, Each}
use Rattle.cd_clause.specs.declared.Atom.{Atom}
use Rattle.cd_clause.specs.declared.Atom.TheVariants.{Truth, Pred, Equal}
use Rattle.cd_clause.specs.declared.Literal.{Literal}
use Rattle.cd_symbols.specs.Symbol.{Symbol}
use Rattle.cd_steps.specs.declared.Step.{Step}
use Rattle.cd_steps.specs.declared.Step.TheVariants.{Input, Copy, Resolve, Factor, Refl, EqFac, Para, Rewrite, Tidy}
use Rattle.cd_parse.specs.declared.label.Label.TheVariants.{Word, Integer}
use Rattle.cd_parse.specs.declared.label.Role.{Role}
use Rattle.cd_parse.specs.declared.label.Role.TheVariants as roles
use Rattle.cd_text.specs.declared.line.LineRole.{LineRole}
use Rattle.cd_text.specs.declared.line.LineRole.TheVariants.{Given, Plain}
use Rattle.cd_text.specs.declared.line.LineSource.{LineSource}
use Rattle.cd_text.specs.declared.line.LineSource.TheVariants.{File, Inference}
use Rattle.cd_text.specs.Numerals.{numeral}
use Rattle.cd_lex.specs.Bytes.{is_lower, is_digit, is_word_byte}
use Rattle.cd_text.specs.Words.{is_word}
use Rattle.cd_text.specs.Texts.{is_printable, shown, shown_byte, quoted, quoted_byte, word_text, separated, symbol_text, arguments_text, signed_text, literal_text, literals_text, clause_text, term_text, given_text, role_text, name_text, numbers_text, path_text, entries_text, rule_text, source_text, line_text}
use Rattle.cd_text.specs.Feeds.{feedless, SourceFits, PrintedWordsHaveNoFeed, PrintedLabelsHaveNoFeed, PrintedClausesHaveNoFeed, PrintedLinesHaveNoFeed}
use Rattle.cd_text.proofs.Numerals.{by_digits}
use Rattle.cd_text.proofs.TermTexts.{variable_text, application_text}

step : (b c d e : Bool) → e ≡ (c && d) → (b && e) ≡ ((b && c) && d)
step true c d e h = h
step false c d e h = refl

pub feedless-append : (xs ys : List ℕ) → feedless (xs ++ ys) ≡ (feedless xs && feedless ys)
feedless-append [] ys = refl
feedless-append (x ∷ xs) ys = step (not (x == 10)) (feedless xs) (feedless ys) (feedless (xs ++ ys)) (feedless-append xs ys)

-- ---- numbers and words

digit_apart : (d : ℕ) → ((48 + d) == 10) ≡ false
digit_apart d = grind (arith, nat_tests)

pub numeral_feedless : (n : ℕ) → feedless (numeral n) ≡ true
numeral_feedless = by_digits (λ n ds. feedless ds ≡ true) (λ n small. rw (digit_apart n) refl) (λ n ds big more. feedless-append ds ((48 + n % 10) ∷ []) ∙ rw (more, digit_apart (n % 10)) refl)

printable_apart : (b : ℕ) → is_printable b ≡ true → (b == 10) ≡ false
printable_apart b h = grind (arith, nat_tests)

word_byte_apart : (b : ℕ) → is_word_byte b ≡ true → (b == 10) ≡ false
word_byte_apart b h = grind (arith, nat_tests)

-- bytes that pass a test that no line feed passes
all_feedless : (test : ℕ → Bool) → ((b : ℕ) → test b ≡ true → (b == 10) ≡ false) → (w : List ℕ) → list_all test w ≡ true → feedless w ≡ true
all_feedless test apart [] h = refl
all_feedless test apart (b ∷ bs) h =
    let p = and_parts (test b) (list_all test bs) h in
    rw (apart b p.0) (all_feedless test apart bs p.1)

shown_by : (t : Bool) (b : ℕ) → is_printable b ≡ t → (cond t b 63 == 10) ≡ false
shown_by true b h = printable_apart b h
shown_by false b h = refl

pub shown_feedless : (xs : List ℕ) → feedless (shown xs) ≡ true
shown_feedless [] = refl
shown_feedless (x ∷ xs) = rw (shown_by (is_printable x) x refl) (shown_feedless xs)

special : (b : ℕ) → (b == 39 || b == 92) ≡ true → (b == 10) ≡ false
special b h = grind (arith, nat_tests)

quoted_by : (t : Bool) (b : ℕ) → (b == 39 || b == 92) ≡ t → feedless (cond t (92 ∷ b ∷ []) (shown_byte b ∷ [])) ≡ true
quoted_by true b h = rw (special b h) refl
quoted_by false b h = rw (shown_by (is_printable b) b refl) refl

inside_feedless : (xs : List ℕ) → feedless (flat_map quoted_byte xs) ≡ true
inside_feedless [] = refl
inside_feedless (x ∷ xs) = ap feedless (flat_map-cons quoted_byte x xs) ∙ feedless-append (quoted_byte x) (flat_map quoted_byte xs) ∙ rw (quoted_by (x == 39 || x == 92) x refl, inside_feedless xs) refl

pub quoted_feedless : (xs : List ℕ) → feedless (quoted xs) ≡ true
unfolding quoted
quoted_feedless xs = feedless-append (flat_map quoted_byte xs) (39 ∷ []) ∙ rw (inside_feedless xs) refl

lower_is : (b : ℕ) → is_lower b ≡ true → is_word_byte b ≡ true
lower_is b h = rw h refl

word_all : (w : List ℕ) → is_word w ≡ true → list_all is_word_byte w ≡ true
word_all [] h = absurd cc
word_all (b ∷ bs) h = let p = and_parts (is_lower b) (list_all is_word_byte bs) h in rw (lower_is b p.0) p.1

word_by : (t : Bool) (w : List ℕ) → is_word w ≡ t → feedless (cond t w (quoted w)) ≡ true
word_by true w h = all_feedless is_word_byte word_byte_apart w (word_all w h)
word_by false w h = quoted_feedless w

pub word_feedless : (w : List ℕ) → feedless (word_text w) ≡ true
word_feedless w = word_by (is_word w) w refl

pub words_feedless : PrintedWordsHaveNoFeed
words_feedless text = (shown_feedless text, quoted_feedless text, word_feedless text)

digit_is_apart : (b : ℕ) → is_digit b ≡ true → (b == 10) ≡ false
digit_is_apart b h = grind (arith, nat_tests)

pub label_feedless : PrintedLabelsHaveNoFeed
label_feedless (Word word) ok = word_feedless word
label_feedless (Integer digits) ok = all_feedless is_digit digit_is_apart digits ok.1

-- ---- joined items

pub separated_feedless : {A : Type 0} (between : List ℕ) (text : A → List ℕ) (xs : List A) → feedless between ≡ true → AllByRecursion (λ x. feedless (text x) ≡ true) xs → feedless (separated between text xs) ≡ true
separated_feedless between text [] b each = refl
separated_feedless between text (x ∷ []) b each = each.0
separated_feedless between text (x ∷ y ∷ ys) b each = simp (feedless-append, each.0, b, separated_feedless between text (y ∷ ys) b each.1)

each_of : {A : Type 0} (P : A → Type 0) → ((x : A) → P x) → (xs : List A) → AllByRecursion P xs
each_of P all [] = tt
each_of P all (x ∷ xs) = (all x, each_of P all xs)

-- ---- terms

symbol_feedless : (s : Option Symbol) → feedless (symbol_text s) ≡ true
symbol_feedless (Some s) = word_feedless s.text
symbol_feedless None = refl

arguments_feedless : (texts : List (List ℕ)) → AllByRecursion (λ x. feedless x ≡ true) texts → feedless (arguments_text texts) ≡ true
arguments_feedless [] each = refl
arguments_feedless (t ∷ ts) each = simp (feedless-append, separated_feedless (codes ",") (λ text. text) (t ∷ ts) refl each)

abbrev IsFeedless : List Symbol → Term → Type 0
IsFeedless symbols t = feedless (term_text symbols t) ≡ true

each_argument : (symbols : List Symbol) (ts : List Term) → Each (IsFeedless symbols) ts → AllByRecursion (λ x. feedless x ≡ true) (map (term_text symbols) ts)
each_argument symbols [] each = tt
each_argument symbols (t ∷ ts) each = (each.0, each_argument symbols ts each.1)

variable_feedless : (symbols : List Symbol) (n : ℕ) → IsFeedless symbols (Var n)
variable_feedless symbols n = ap feedless (variable_text symbols n) ∙ numeral_feedless n

application_feedless : (symbols : List Symbol) (f : ℕ) (ts : List Term) → Each (IsFeedless symbols) ts → IsFeedless symbols (App f ts)
application_feedless symbols f ts each =
    let args = map (term_text symbols) ts in
    let word = symbol_text (slice_get symbols f) in
    ap feedless (application_text symbols f ts) ∙ feedless-append word (arguments_text args)
    ∙ rw (symbol_feedless (slice_get symbols f), arguments_feedless args (each_argument symbols ts each)) refl

pub term_feedless : (symbols : List Symbol) (t : Term) → feedless (term_text symbols t) ≡ true
term_feedless symbols = ind (IsFeedless symbols) (variable_feedless symbols) (application_feedless symbols)

terms_feedless : (symbols : List Symbol) (ts : List Term) → feedless (separated (codes ",") (term_text symbols) ts) ≡ true
terms_feedless symbols ts = separated_feedless (codes ",") (term_text symbols) ts refl (each_of (λ t. feedless (term_text symbols t) ≡ true) (term_feedless symbols) ts)

each_text : (symbols : List Symbol) (ts : List Term) → AllByRecursion (λ x. feedless x ≡ true) (map (term_text symbols) ts)
each_text symbols [] = tt
each_text symbols (t ∷ ts) = (term_feedless symbols t, each_text symbols ts)

-- ---- clauses

predicate_feedless : (symbols : List Symbol) (p : ℕ) (args : List Term) → feedless (symbol_text (slice_get symbols p) ++ arguments_text (map (term_text symbols) args)) ≡ true
predicate_feedless symbols p args =
    let texts = map (term_text symbols) args in
    feedless-append (symbol_text (slice_get symbols p)) (arguments_text texts)
    ∙ rw (symbol_feedless (slice_get symbols p), arguments_feedless texts (each_text symbols args)) refl

equation_feedless : (between left right : List ℕ) → feedless between ≡ true → feedless left ≡ true → feedless right ≡ true → feedless (left ++ (between ++ right)) ≡ true
equation_feedless between left right b l r = simp (feedless-append, b, l, r)

signed_feedless : (symbols : List Symbol) (positive : Bool) (a : Atom) → feedless (signed_text symbols positive a) ≡ true
signed_feedless symbols true Truth = refl
signed_feedless symbols false Truth = refl
signed_feedless symbols true (Pred p args) = predicate_feedless symbols p args
signed_feedless symbols false (Pred p args) = predicate_feedless symbols p args
signed_feedless symbols true (Equal s t) = equation_feedless (codes " = ") (term_text symbols s) (term_text symbols t) refl (term_feedless symbols s) (term_feedless symbols t)
signed_feedless symbols false (Equal s t) = equation_feedless (codes " != ") (term_text symbols s) (term_text symbols t) refl (term_feedless symbols s) (term_feedless symbols t)

literal_feedless : (symbols : List Symbol) (l : Literal) → feedless (literal_text symbols l) ≡ true
literal_feedless symbols l = signed_feedless symbols l.positive l.atom

literals_feedless : (symbols : List Symbol) (ls : List Literal) → feedless (literals_text symbols ls) ≡ true
literals_feedless symbols [] = refl
literals_feedless symbols (l ∷ ls) =
    simp (feedless-append, separated_feedless (codes " | ") (literal_text symbols) (l ∷ ls) refl (each_of (λ m. feedless (literal_text symbols m) ≡ true) (literal_feedless symbols) (l ∷ ls)))

pub clause_feedless : PrintedClausesHaveNoFeed
unfolding clause_text
clause_feedless symbols c = literals_feedless symbols c.literals

-- ---- lines

given_feedless : (role : Role) → feedless (given_text role) ≡ true
given_feedless roles.Axiom = refl
given_feedless roles.Hypothesis = refl
given_feedless roles.Definition = refl
given_feedless roles.Assumption = refl
given_feedless roles.Lemma = refl
given_feedless roles.Theorem = refl
given_feedless roles.Corollary = refl
given_feedless roles.NegatedConjecture = refl
given_feedless roles.Plain = refl

role_feedless : (role : LineRole) → feedless (role_text role) ≡ true
role_feedless (Given role) = given_feedless role
role_feedless Plain = refl

numbers_feedless : (ns : List ℕ) → feedless (numbers_text ns) ≡ true
numbers_feedless ns = separated_feedless (codes ",") numeral ns refl (each_of (λ n. feedless (numeral n) ≡ true) numeral_feedless ns)

-- a rule's entries, whatever stands before the substitution
entries_feedless : (symbols : List Symbol) (word at : List ℕ) (ts : List Term) → feedless word ≡ true → feedless at ≡ true → feedless (entries_text symbols word at ts) ≡ true
entries_feedless symbols word at ts w a = simp (feedless-append, w, a, terms_feedless symbols ts)

path_feedless : (numbers path : List ℕ) → feedless numbers ≡ true → feedless (numbers ++ path_text path) ≡ true
path_feedless numbers path n = simp (feedless-append, n, numbers_feedless path)

rule_feedless : (symbols : List Symbol) (s : Step) → feedless (rule_text symbols s) ≡ true
unfolding rule_text
rule_feedless symbols (Input index) = refl
rule_feedless symbols (Copy of) = refl
rule_feedless symbols (Resolve pos i neg j ts) = entries_feedless symbols (codes "resolve") (numbers_text (i ∷ j ∷ [])) ts refl (numbers_feedless (i ∷ j ∷ []))
rule_feedless symbols (Factor of i j ts) = entries_feedless symbols (codes "factor") (numbers_text (i ∷ j ∷ [])) ts refl (numbers_feedless (i ∷ j ∷ []))
rule_feedless symbols (Refl of i ts) = entries_feedless symbols (codes "refl") (numbers_text (i ∷ [])) ts refl (numbers_feedless (i ∷ []))
rule_feedless symbols (EqFac of i s j z ts) = entries_feedless symbols (codes "eqfac") (numbers_text (i ∷ s ∷ j ∷ z ∷ [])) ts refl (numbers_feedless (i ∷ s ∷ j ∷ z ∷ []))
rule_feedless symbols (Para giver i s taker j at ts) =
    entries_feedless symbols (codes "para") (numbers_text (i ∷ s ∷ j ∷ []) ++ path_text at) ts refl (path_feedless (numbers_text (i ∷ s ∷ j ∷ [])) at (numbers_feedless (i ∷ s ∷ j ∷ [])))
rule_feedless symbols (Rewrite by s j at ts) =
    entries_feedless symbols (codes "rewrite") (numbers_text (s ∷ j ∷ []) ++ path_text at) ts refl (path_feedless (numbers_text (s ∷ j ∷ [])) at (numbers_feedless (s ∷ j ∷ [])))
rule_feedless symbols Tidy = refl

source_feedless : (symbols : List Symbol) (s : LineSource) → SourceFits s → feedless (source_text symbols s) ≡ true
unfolding source_text
source_feedless symbols (File path label) fits = simp (feedless-append, quoted_feedless path, label_feedless label fits)
source_feedless symbols (Inference step parents) fits =
    simp (feedless-append, rule_feedless symbols step, separated_feedless (codes ",") name_text parents refl (each_of (λ n. feedless (name_text n) ≡ true) numeral_feedless parents))

pub line_feedless : PrintedLinesHaveNoFeed
unfolding line_text
line_feedless symbols l fits =
    simp (feedless-append, numeral_feedless l.number, role_feedless l.role, clause_feedless symbols l.clause, source_feedless symbols l.source fits)
