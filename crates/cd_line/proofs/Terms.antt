-- Printed terms and literals are read again.
use Rattle.std.proofs.Common.{◌≡◌, ℕ, zero, suc, ◌+◌, ◌<◌, ◌≤◌, ◌==◌, ◌&&◌, ◌||◌, max, Bool, true, false, cond, List, [], ◌∷◌, ◌++◌, length, map, sum_by, codes, refl, sym, ap, ◌∙◌, subst, arith, append_assoc, append-nil, Option, Some, None, slice_get}
use Rattle.std.specs.Prelude.{IsTrue, nat_lt}
use Rattle.std.specs.List.{flat_map, list_all, AllByRecursion}
use Rattle.std.proofs.lemmas.Bool.Decides.{nat_tests}
use Rattle.std.proofs.lemmas.Bool.{eqb-true, ltb-true, and_parts}
use Rattle.std.proofs.lemmas.List.{length-map}
use Rattle.std.proofs.lemmas.List.Sums.{sum_by-cons}
use Rattle.cd_term.specs.declared.Term.{Term, fold-Term}
use Rattle.cd_term.specs.declared.Term.TheVariants.{Var, App}
use Rattle.cd_term.specs.Terms.{depth_of, size_of, greatest}
use Rattle.cd_term.proofs.TermInduction.{Each, ind}
use Rattle.cd_term.proofs.Equations.{fold-Var, fold-App, depth_of-Var, depth_of-App, size_of-Var, size_of-App}
use Rattle.cd_symbols.specs.Symbol.{Symbol, symbol_of, AreDistinct}
use Rattle.cd_symbols.specs.declared.Kind.{Kind}
use Rattle.cd_symbols.specs.declared.Kind.TheVariants.{Function, Predicate}
use Rattle.cd_text.specs.Numerals.{numeral}
use Rattle.cd_lex.specs.Bytes.{is_lower, is_upper, is_digit, is_word_byte}
use Rattle.cd_text.specs.Texts.{is_printable, shown, word_text, separated, symbol_text, arguments_text, term_text}
use Rattle.cd_text.proofs.TermTexts.{variable_text, application_text}
use Rattle.cd_text.proofs.Separated.{separated_map}
use Rattle.cd_read.specs.Formed.{formed_step, is_term_formed, AreTermsFormed}
use Rattle.cd_line.proofs.Symbols.{is_symbol, kind_of, Printed}
use Rattle.cd_line.specs.declared.reading.Applied.{Applied}
use Rattle.cd_line.specs.Reading.{◌>>=◌, either, stripped, number_read, word_read, joined_read, kind_eq, symbol_found, variable_read, arguments_read, applied_read, made_term, applied_term_read, term_read}
use Rattle.cd_line.proofs.Symbols.{found_there, kind_is}
use Rattle.cd_line.proofs.Words.{Stops, number_again, word_again, word_apart, shown_printable}
use Rattle.cd_line.proofs.Items.{ReadsAgain, joined_again}

-- what may stand behind a term: nothing that goes on with a word, and no arguments
pub record Follows (rest : List ℕ) : Type 0 where
  pub stops : Stops is_word_byte rest
  pub closed : stripped (codes "(") rest ≡ None

third : (a b c d : Bool) → (a || (b || (c || d))) ≡ false → c ≡ false
third true b c d e = absurd cc
third false true c d e = absurd cc
third false false true d e = absurd cc
third false false false d e = refl

pub digits_stop : (rest : List ℕ) → Stops is_word_byte rest → Stops is_digit rest
digits_stop [] f = tt
digits_stop (b ∷ bs) f = third (is_lower b) (is_upper b) (is_digit b) (b == 95) f

-- the symbol of a printed word with so many arguments
pub record Stands (symbols : List Symbol) (kind : Kind) (count f : ℕ) : Type 0 where
  pub symbol : Symbol
  pub there : slice_get symbols f ≡ Some symbol
  pub printable : list_all is_printable symbol.text ≡ true
  pub found : symbol_found symbols kind symbol.text count ≡ Some f

alike : (s : Symbol) (count : ℕ) (kind : Kind) → s.arity ≡ count → s.kind ≡ kind → s ≡ symbol_of s.text count kind
alike s count kind a k = λ i. symbol_of s.text (a i) (k i)

stands_by : (symbols : List Symbol) (kind : Kind) (count f : ℕ) (o : Option Symbol) → slice_get symbols f ≡ o → AreDistinct symbols → Printed symbols → count ≤ 65535 → is_symbol kind count o ≡ true → Stands symbols kind count f
stands_by symbols Function count f None at distinct printable few is = absurd cc
stands_by symbols Predicate count f None at distinct printable few is = absurd cc
stands_by symbols kind count f (Some s) at distinct printable few is =
    let p = kind_of kind s.kind s.text s.arity count is in
    let same : s ≡ symbol_of s.text count kind = alike s count kind p.0 p.1 in
    record { symbol = s; there = at; printable = printable f s at; found = found_there symbols s.text count kind f distinct few (at ∙ ap (λ (x : Symbol). Some x) same) }

pub stands : (symbols : List Symbol) (kind : Kind) (count f : ℕ) → AreDistinct symbols → Printed symbols → count ≤ 65535 → is_symbol kind count (slice_get symbols f) ≡ true → Stands symbols kind count f
stands symbols kind count f distinct printable few is = stands_by symbols kind count f (slice_get symbols f) refl distinct printable few is

-- ---- a word and its arguments

-- the reading fact of a term at so many levels
abbrev pub ReadsAt : List Symbol → ℕ → Term → Type 0
ReadsAt symbols levels t = (rest : List ℕ) → Follows rest → term_read symbols levels (term_text symbols t ++ rest) ≡ Some (t, rest)

comma_follows : (rest : List ℕ) → Follows (codes "," ++ rest)
comma_follows rest = record { stops = refl; closed = refl }

-- terms with commas between them
pub terms_again : (symbols : List Symbol) (levels : ℕ) (t : Term) (ts : List Term) (rest : List ℕ) → AllByRecursion (ReadsAt symbols levels) (t ∷ ts) → Follows rest → stripped (codes ",") rest ≡ None
    → joined_read (codes ",") (λ x. term_read symbols levels x) (separated (codes ",") (term_text symbols) (t ∷ ts) ++ rest) ≡ Some (t ∷ ts, rest)
terms_again symbols levels t ts rest each follows none =
    joined_again (ReadsAt symbols levels) Follows (λ x. term_read symbols levels x) (term_text symbols) (codes ",") t ts rest
    (λ x behind ok after. ok behind after) comma_follows (omega arith) each follows none

abbrev pub applied_text : List Symbol → List ℕ → List Term → List ℕ
applied_text symbols word ts = word_text word ++ arguments_text (map (term_text symbols) ts)

abbrev pub applied : List ℕ → List Term → Applied
applied word ts = record { word = word; args = ts }

word_is : (word : List ℕ) (rest : List ℕ) → list_all is_printable word ≡ true → Stops is_word_byte rest → word_read (word_text word ++ rest) ≡ Some (word, rest)
word_is word rest printable stops = word_again word rest stops ∙ ap (λ (w : List ℕ). Some (w, rest)) (shown_printable word printable)

regroup : (w inner rest : List ℕ) → (w ++ (40 ∷ (inner ++ 41 ∷ []))) ++ rest ≡ w ++ 40 ∷ (inner ++ 41 ∷ rest)
regroup w inner rest = append_assoc w (40 ∷ (inner ++ 41 ∷ [])) rest ∙ ap (λ (l : List ℕ). w ++ 40 ∷ l) (append_assoc inner (41 ∷ []) rest)

pub applied_again : (symbols : List Symbol) (levels : ℕ) (word : List ℕ) (ts : List Term) (rest : List ℕ) → list_all is_printable word ≡ true → AllByRecursion (ReadsAt symbols levels) ts → Follows rest
    → applied_read (λ x. term_read symbols levels x) (applied_text symbols word ts ++ rest) ≡ Some (applied word ts, rest)
applied_again symbols levels word [] rest printable each follows =
    ap (λ (l : List ℕ). applied_read (λ x. term_read symbols levels x) (l ++ rest)) (append-nil (word_text word))
    ∙ rw (word_is word rest printable follows.stops) (rw follows.closed refl)
applied_again symbols levels word (t ∷ ts) rest printable each follows =
    let inner = separated (codes ",") (term_text symbols) (t ∷ ts) in
    let read : List ℕ → Option (Applied × List ℕ) = λ l. applied_read (λ x. term_read symbols levels x) l in
    let whole = terms_again symbols levels t ts (41 ∷ rest) each (record { stops = refl; closed = refl }) refl in
    ap (λ (l : List ℕ). read ((word_text word ++ 40 ∷ (l ++ 41 ∷ [])) ++ rest)) (separated_map (codes ",") (term_text symbols) t ts)
    ∙ ap read (regroup (word_text word) inner rest)
    ∙ rw (word_is word (40 ∷ (inner ++ 41 ∷ rest)) printable refl) (rw whole refl)

-- ---- terms

pub length_sizes : (ts : List Term) → length ts ≤ sum_by size_of ts
length_sizes [] = omega arith
length_sizes (t ∷ ts) = omega (arith, length_sizes ts, some_size t, sum_by-cons size_of t ts)
  where
    some_size : (u : Term) → 1 ≤ size_of u
    some_size = ind (λ u. 1 ≤ size_of u) (λ n. omega (arith, size_of-Var n)) (λ f us each. omega (arith, size_of-App f us))

abbrev Reads : List Symbol → Term → Type 0
Reads symbols t = (levels : ℕ) → is_term_formed symbols t ≡ true → depth_of t ≤ levels → size_of t ≤ 65535 → ReadsAt symbols levels t

each_at : (symbols : List Symbol) (levels : ℕ) (ts : List Term) → Each (Reads symbols) ts → list_all (λ b. b) (map (is_term_formed symbols) ts) ≡ true
    → greatest (map depth_of ts) ≤ levels → sum_by size_of ts ≤ 65535 → AllByRecursion (ReadsAt symbols levels) ts
each_at symbols levels [] each ok d s = tt
each_at symbols levels (t ∷ ts) each ok d s =
    let h = and_parts (is_term_formed symbols t) (list_all (λ b. b) (map (is_term_formed symbols) ts)) ok in
    (each.0 levels h.0 (omega (arith, d)) (omega (arith, s, sum_by-cons size_of t ts)), each_at symbols levels ts each.1 h.1 (omega (arith, d)) (omega (arith, s, sum_by-cons size_of t ts)))

variable_case : (symbols : List Symbol) (n : ℕ) → Reads symbols (Var n)
variable_case symbols n zero ok d s rest follows = absurd (omega (arith, d, depth_of-Var n))
variable_case symbols n (suc levels) ok d s rest follows =
    let small : n < 65536 = ltb-true n 65536 (sym (fold-Var Bool (formed_step symbols) n) ∙ ok) in
    ap (λ (l : List ℕ). term_read symbols (suc levels) (l ++ rest)) (variable_text symbols n)
    ∙ rw (number_again n rest small (digits_stop rest follows.stops)) refl

made_again : (symbols : List Symbol) (levels f : ℕ) (ts : List Term) (rest : List ℕ) (h : Stands symbols Function (length ts) f) → AllByRecursion (ReadsAt symbols levels) ts → Follows rest
    → term_read symbols (suc levels) (applied_text symbols h.symbol.text ts ++ rest) ≡ Some (App f ts, rest)
made_again symbols levels f ts rest h each follows =
    let word = h.symbol.text in
    let args = arguments_text (map (term_text symbols) ts) in
    let apart : stripped (codes "X") (applied_text symbols word ts ++ rest) ≡ None =
    ap (stripped (codes "X")) (append_assoc (word_text word) args rest) ∙ word_apart 88 word (args ++ rest) refl refl in
    rw (apart, applied_again symbols levels word ts rest h.printable each follows) (rw h.found refl)

application_case : (symbols : List Symbol) → AreDistinct symbols → Printed symbols → (f : ℕ) (ts : List Term) → Each (Reads symbols) ts → Reads symbols (App f ts)
application_case symbols distinct printable f ts each zero ok d s rest follows = absurd (omega (arith, d, depth_of-App f ts))
application_case symbols distinct printable f ts each (suc levels) ok d s rest follows =
    let k : (is_symbol Function (length (map (is_term_formed symbols) ts)) (slice_get symbols f) && list_all (λ b. b) (map (is_term_formed symbols) ts)) ≡ true =
    sym (fold-App Bool (formed_step symbols) f ts) ∙ ok in
    let h = and_parts (is_symbol Function (length (map (is_term_formed symbols) ts)) (slice_get symbols f)) (list_all (λ b. b) (map (is_term_formed symbols) ts)) k in
    let is : is_symbol Function (length ts) (slice_get symbols f) ≡ true = ap (λ (n : ℕ). is_symbol Function n (slice_get symbols f)) (sym (length-map ts (is_term_formed symbols))) ∙ h.0 in
    let few : length ts ≤ 65535 = omega (arith, length_sizes ts, size_of-App f ts, s) in
    let st = stands symbols Function (length ts) f distinct printable few is in
    ap (λ (l : List ℕ). term_read symbols (suc levels) (l ++ rest)) (application_text symbols f ts ∙ ap (λ (o : Option Symbol). symbol_text o ++ arguments_text (map (term_text symbols) ts)) st.there)
    ∙ made_again symbols levels f ts rest st (each_at symbols levels ts each h.1 (omega (arith, d, depth_of-App f ts)) (omega (arith, s, size_of-App f ts))) follows

pub term_again : (symbols : List Symbol) → AreDistinct symbols → Printed symbols → (t : Term) (levels : ℕ) → is_term_formed symbols t ≡ true → depth_of t ≤ levels → size_of t ≤ 65535 → ReadsAt symbols levels t
term_again symbols distinct printable = ind (Reads symbols) (variable_case symbols) (application_case symbols distinct printable)

pub each_again : (symbols : List Symbol) → AreDistinct symbols → Printed symbols → (ts : List Term) (levels : ℕ) → AreTermsFormed symbols ts → greatest (map depth_of ts) ≤ levels → sum_by size_of ts ≤ 65535 → AllByRecursion (ReadsAt symbols levels) ts
each_again symbols distinct printable [] levels ok d s = tt
each_again symbols distinct printable (t ∷ ts) levels ok d s =
    (term_again symbols distinct printable t levels ok.0 (omega (arith, d)) (omega (arith, s, sum_by-cons size_of t ts)), each_again symbols distinct printable ts levels ok.1 (omega (arith, d)) (omega (arith, s, sum_by-cons size_of t ts)))

-- the parts of a formed term
all_of : (symbols : List Symbol) (ts : List Term) → list_all (λ b. b) (map (is_term_formed symbols) ts) ≡ true → AreTermsFormed symbols ts
all_of symbols [] h = tt
all_of symbols (t ∷ ts) h = let p = and_parts (is_term_formed symbols t) (list_all (λ b. b) (map (is_term_formed symbols) ts)) h in (p.0, all_of symbols ts p.1)

pub application_parts : (symbols : List Symbol) (f : ℕ) (ts : List Term) → is_term_formed symbols (App f ts) ≡ true → (is_symbol Function (length ts) (slice_get symbols f) ≡ true) × AreTermsFormed symbols ts
application_parts symbols f ts ok =
    let k : (is_symbol Function (length (map (is_term_formed symbols) ts)) (slice_get symbols f) && list_all (λ b. b) (map (is_term_formed symbols) ts)) ≡ true =
    sym (fold-App Bool (formed_step symbols) f ts) ∙ ok in
    let h = and_parts (is_symbol Function (length (map (is_term_formed symbols) ts)) (slice_get symbols f)) (list_all (λ b. b) (map (is_term_formed symbols) ts)) k in
    (ap (λ (n : ℕ). is_symbol Function n (slice_get symbols f)) (sym (length-map ts (is_term_formed symbols))) ∙ h.0, all_of symbols ts h.1)

pub variable_small : (symbols : List Symbol) (n : ℕ) → is_term_formed symbols (Var n) ≡ true → n < 65536
variable_small symbols n ok = ltb-true n 65536 (sym (fold-Var Bool (formed_step symbols) n) ∙ ok)

-- no printed term begins with such a byte
Apart : List Symbol → ℕ → Term → Type 0
Apart symbols k t = is_term_formed symbols t ≡ true → size_of t ≤ 65535 → (rest : List ℕ) → stripped (k ∷ []) (term_text symbols t ++ rest) ≡ None

variable_apart : (symbols : List Symbol) (k n : ℕ) → (88 == k) ≡ false → Apart symbols k (Var n)
unfolding Apart
variable_apart symbols k n other ok s rest = ap (λ (l : List ℕ). stripped (k ∷ []) (l ++ rest)) (variable_text symbols n) ∙ rw other refl

pub symbol_apart : (symbols : List Symbol) (kind : Kind) (k f : ℕ) (ts : List Term) (rest : List ℕ) → Stands symbols kind (length ts) f → is_lower k ≡ false → (39 == k) ≡ false
    → stripped (k ∷ []) ((symbol_text (slice_get symbols f) ++ arguments_text (map (term_text symbols) ts)) ++ rest) ≡ None
symbol_apart symbols kind k f ts rest st low quote =
    let args = arguments_text (map (term_text symbols) ts) in
    ap (λ (o : Option Symbol). stripped (k ∷ []) ((symbol_text o ++ args) ++ rest)) st.there
    ∙ ap (stripped (k ∷ [])) (append_assoc (word_text st.symbol.text) args rest) ∙ word_apart k st.symbol.text (args ++ rest) low quote

application_apart : (symbols : List Symbol) (k : ℕ) → AreDistinct symbols → Printed symbols → is_lower k ≡ false → (39 == k) ≡ false → (f : ℕ) (ts : List Term) → Each (Apart symbols k) ts → Apart symbols k (App f ts)
unfolding Apart
application_apart symbols k distinct printable low quote f ts each ok s rest =
    let few : length ts ≤ 65535 = omega (arith, length_sizes ts, size_of-App f ts, s) in
    ap (λ (l : List ℕ). stripped (k ∷ []) (l ++ rest)) (application_text symbols f ts)
    ∙ symbol_apart symbols Function k f ts rest (stands symbols Function (length ts) f distinct printable few (application_parts symbols f ts ok).0) low quote

pub term_apart : (symbols : List Symbol) (k : ℕ) → AreDistinct symbols → Printed symbols → is_lower k ≡ false → (39 == k) ≡ false → (88 == k) ≡ false
    → (t : Term) → is_term_formed symbols t ≡ true → size_of t ≤ 65535 → (rest : List ℕ) → stripped (k ∷ []) (term_text symbols t ++ rest) ≡ None
unfolding Apart
term_apart symbols k distinct printable low quote other = ind (Apart symbols k) (λ n. variable_apart symbols k n other) (application_apart symbols k distinct printable low quote)
