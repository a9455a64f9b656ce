-- Printed numbers, words and labels are read again.
use Rattle.std.proofs.Common.{◌≡◌, ◌≢◌, ℕ, zero, suc, ◌+◌, ◌-◌, ◌*◌, ◌/◌, ◌%◌, ◌<◌, ◌≤◌, ◌^◌, ◌==◌, ◌&&◌, ◌||◌, Bool, true, false, not, cond, ltb, leb, List, [], ◌∷◌, ◌++◌, map, length, refl, sym, ap, ◌∙◌, arith, append_assoc, Option, Some, None, subst, codes}
use Rattle.std.specs.Prelude.{IsTrue}
use Rattle.std.specs.List.{flat_map, list_all}
use Rattle.std.proofs.lemmas.Bool.{le-ltb, lt-ltb, eqb-true, and_parts}
use Rattle.std.proofs.lemmas.Bool.Decides.{nat_tests}
use Rattle.std.proofs.lemmas.List.Concat.{flat_map-cons}
use Rattle.cd_parse.specs.declared.label.Label.{Label}
use Rattle.cd_parse.specs.declared.label.Label.TheVariants.{Word, Integer}
use Rattle.cd_text.specs.Numerals.{numeral}
use Rattle.cd_lex.specs.Bytes.{is_lower, is_upper, is_digit, is_word_byte}
use Rattle.cd_text.specs.Words.{is_word}
use Rattle.cd_text.specs.Texts.{is_printable, shown_byte, shown, quoted_byte, quoted, word_text, label_text}
use Rattle.cd_text.proofs.Numerals.{by_digits}
use Rattle.cd_read.specs.Formed.{IsLabelFormed}
use Rattle.cd_line.specs.Lines.{plain_label}
use Rattle.cd_line.specs.Reading.{◌>>=◌, stripped, number_from, number_read, with_first, run_read, inside_read, quoted_read, word_read, label_read}

same : (b : ℕ) → (b == b) ≡ true
same b = grind (arith, nat_tests)

-- a front is stripped
pub stripped_again : (front rest : List ℕ) → stripped front (front ++ rest) ≡ Some rest
stripped_again [] rest = refl
stripped_again (p ∷ ps) rest = ap (λ (t : Bool). cond t (stripped ps (ps ++ rest)) None) (same p) ∙ stripped_again ps rest

-- what stops a run
abbrev pub Stops : (ℕ → Bool) → List ℕ → Type 0
Stops test [] = Unit {0}
Stops test (b ∷ bs) = test b ≡ false

-- ---- numbers

number_stops : (n : ℕ) (rest : List ℕ) → Stops is_digit rest → number_from n rest ≡ Some (n, rest)
number_stops n [] stops = refl
number_stops n (b ∷ bs) stops = ap (λ (t : Bool). cond t (cond (ltb (n * 10 + (b - 48)) (2 ^ 16)) (number_from (n * 10 + (b - 48)) bs) None) (Some (n, b ∷ bs))) stops

digit_is : (d : ℕ) → d < 10 → is_digit (48 + d) ≡ true
digit_is d h = grind (arith, nat_tests)

digit_step : (m d n : ℕ) (rest : List ℕ) → d < 10 → m * 10 + d ≡ n → n < 65536 → number_from m ((48 + d) ∷ rest) ≡ number_from n rest
digit_step m d n rest small is fits =
    let value : m * 10 + ((48 + d) - 48) ≡ n = omega (arith, is) in
    let low : ltb (m * 10 + ((48 + d) - 48)) (2 ^ 16) ≡ true = lt-ltb _ _ (omega (arith, is, fits)) in
    ap (λ (t : Bool). cond t (cond (ltb (m * 10 + ((48 + d) - 48)) (2 ^ 16)) (number_from (m * 10 + ((48 + d) - 48)) rest) None) (Some (m, (48 + d) ∷ rest))) (digit_is d small)
    ∙ ap (λ (t : Bool). cond t (number_from (m * 10 + ((48 + d) - 48)) rest) None) low
    ∙ ap (λ (v : ℕ). number_from v rest) value

abbrev Continues : ℕ → List ℕ → Type 0
Continues n ds = (rest : List ℕ) → n < 65536 → number_from 0 (ds ++ rest) ≡ number_from n rest

number_onto : (n : ℕ) → Continues n (numeral n)
number_onto = by_digits Continues
    (λ n small rest fits. digit_step 0 n n rest small (omega arith) fits)
    (λ n ds big more rest fits.
    ap (λ (l : List ℕ). number_from 0 l) (append_assoc ds ((48 + n % 10) ∷ []) rest)
    ∙ more ((48 + n % 10) ∷ rest) (omega (arith, fits))
    ∙ digit_step (n / 10) (n % 10) n rest (omega arith) (omega arith) fits)

-- a printed number is read
pub number_again : (n : ℕ) (rest : List ℕ) → n < 65536 → Stops is_digit rest → number_read (numeral n ++ rest) ≡ Some (n, rest)
unfolding number_read
number_again n rest fits stops = number_onto n rest fits ∙ number_stops n rest stops

-- ---- runs and words

run_stops : (test : ℕ → Bool) (rest : List ℕ) → Stops test rest → run_read test rest ≡ Some ([], rest)
run_stops test [] stops = refl
run_stops test (b ∷ bs) stops = ap (λ (t : Bool). cond t (with_first b (run_read test bs)) (Some ([], b ∷ bs))) stops

pub run_again : (test : ℕ → Bool) (word rest : List ℕ) → list_all test word ≡ true → Stops test rest → run_read test (word ++ rest) ≡ Some (word, rest)
run_again test [] rest pass stops = run_stops test rest stops
run_again test (b ∷ bs) rest pass stops =
    let h = and_parts (test b) (list_all test bs) pass in
    ap (λ (t : Bool). cond t (with_first b (run_read test (bs ++ rest))) (Some ([], b ∷ (bs ++ rest)))) h.0
    ∙ ap (with_first b) (run_again test bs rest h.1 stops)

printable_small : (b : ℕ) → is_printable b ≡ true → ltb b 128 ≡ true
printable_small b h = grind (arith, nat_tests)

-- one byte inside quotes: what is shown of it is read
plain_byte : (b : ℕ) (rest : List ℕ) (p : Bool) → is_printable b ≡ p → (b == 39) ≡ false → (b == 92) ≡ false
    → inside_read false (cond p b 63 ∷ rest) ≡ with_first (cond p b 63) (inside_read false rest)
plain_byte b rest true is q s = rw (q, s, printable_small b is) refl
plain_byte b rest false is q s = refl

inside_byte : (b : ℕ) (rest : List ℕ) (quote slash : Bool) → (b == 39) ≡ quote → (b == 92) ≡ slash
    → inside_read false (cond (quote || slash) (92 ∷ b ∷ []) (shown_byte b ∷ []) ++ rest) ≡ with_first (shown_byte b) (inside_read false rest)
inside_byte b rest true slash q s = let e : b ≡ 39 = eqb-true b 39 q in subst (λ (x : ℕ). inside_read false (92 ∷ x ∷ rest) ≡ with_first (shown_byte x) (inside_read false rest)) (sym e) refl
inside_byte b rest false true q s = let e : b ≡ 92 = eqb-true b 92 s in subst (λ (x : ℕ). inside_read false (92 ∷ x ∷ rest) ≡ with_first (shown_byte x) (inside_read false rest)) (sym e) refl
inside_byte b rest false false q s = plain_byte b rest (is_printable b) refl q s

pub inside_again : (word rest : List ℕ) → inside_read false (flat_map quoted_byte word ++ 39 ∷ rest) ≡ Some (shown word, rest)
inside_again [] rest = refl
inside_again (b ∷ bs) rest =
    let step : inside_read false (flat_map quoted_byte (b ∷ bs) ++ 39 ∷ rest) ≡ inside_read false (quoted_byte b ++ (flat_map quoted_byte bs ++ 39 ∷ rest)) =
    ap (λ (l : List ℕ). inside_read false (l ++ 39 ∷ rest)) (flat_map-cons quoted_byte b bs) ∙ ap (inside_read false) (append_assoc (quoted_byte b) (flat_map quoted_byte bs) (39 ∷ rest)) in
    step ∙ inside_byte b (flat_map quoted_byte bs ++ 39 ∷ rest) (b == 39) (b == 92) refl refl ∙ ap (with_first (shown_byte b)) (inside_again bs rest)

-- of a quoted text, what is shown of it is read
pub quoted_again : (word rest : List ℕ) → quoted_read (quoted word ++ rest) ≡ Some (shown word, rest)
unfolding quoted quoted_read
quoted_again word rest = ap (inside_read false) (append_assoc (flat_map quoted_byte word) (39 ∷ []) rest) ∙ inside_again word rest

-- of printable bytes all is shown
shown_by : (b : ℕ) (bs : List ℕ) → is_printable b ≡ true → shown bs ≡ bs → shown (b ∷ bs) ≡ b ∷ bs
shown_by b bs h others = rw (h, others) refl

pub shown_printable : (word : List ℕ) → list_all is_printable word ≡ true → shown word ≡ word
shown_printable [] h = refl
shown_printable (b ∷ bs) h = let p = and_parts (is_printable b) (list_all is_printable bs) h in shown_by b bs p.0 (shown_printable bs p.1)

word_byte_printable : (b : ℕ) → is_word_byte b ≡ true → is_printable b ≡ true
word_byte_printable b h = grind (arith, nat_tests)

pub word_shown : (word : List ℕ) → list_all is_word_byte word ≡ true → shown word ≡ word
word_shown [] h = refl
word_shown (b ∷ bs) h = let p = and_parts (is_word_byte b) (list_all is_word_byte bs) h in shown_by b bs (word_byte_printable b p.0) (word_shown bs p.1)

lower_word : (b : ℕ) → is_lower b ≡ true → is_word_byte b ≡ true
lower_word b h = rw h refl

pub lower_apart : (b k : ℕ) → is_lower b ≡ true → k < 97 → (b == k) ≡ false
lower_apart b k h small = grind (arith, nat_tests)

lower_digit : (b : ℕ) → is_lower b ≡ true → is_digit b ≡ false
lower_digit b h = grind (arith, nat_tests)

whole_word : (b : ℕ) (bs : List ℕ) → is_lower b ≡ true → list_all is_word_byte bs ≡ true → list_all is_word_byte (b ∷ bs) ≡ true
whole_word b bs l h = rw (lower_word b l) h

-- a bare word begins with a small letter, and any other text with a quote
bare_again : (word rest : List ℕ) → is_word word ≡ true → Stops is_word_byte rest → word_read (word ++ rest) ≡ Some (shown word, rest)
unfolding word_read
bare_again [] rest is stops = absurd cc
bare_again (b ∷ bs) rest is stops =
    let h = and_parts (is_lower b) (list_all is_word_byte bs) is in
    let all = whole_word b bs h.0 h.1 in
    rw (lower_apart b 39 h.0 (omega arith)) (run_again is_word_byte (b ∷ bs) rest all stops ∙ ap (λ (w : List ℕ). Some (w, rest)) (sym (word_shown (b ∷ bs) all)))

quote_again : (word rest : List ℕ) → word_read (quoted word ++ rest) ≡ Some (shown word, rest)
unfolding word_read quoted
quote_again word rest = ap (inside_read false) (append_assoc (flat_map quoted_byte word) (39 ∷ []) rest) ∙ inside_again word rest

word_by : (b : Bool) (word rest : List ℕ) → is_word word ≡ b → Stops is_word_byte rest → word_read (cond b word (quoted word) ++ rest) ≡ Some (shown word, rest)
word_by true word rest is stops = bare_again word rest is stops
word_by false word rest is stops = quote_again word rest

pub word_again : (word rest : List ℕ) → Stops is_word_byte rest → word_read (word_text word ++ rest) ≡ Some (shown word, rest)
word_again word rest stops = word_by (is_word word) word rest refl stops

-- no word begins with a byte that is neither a small letter nor a quote
lower_not : (b k : ℕ) (t : Bool) → (b == k) ≡ t → is_lower b ≡ true → is_lower k ≡ false → (b == k) ≡ false
lower_not b k true is low other = absurd (let e : is_lower b ≡ is_lower k = ap is_lower (eqb-true b k is) in let f : true ≡ false = sym low ∙ e ∙ other in cc)
lower_not b k false is low other = is

apart_by : (t : Bool) (k : ℕ) (word rest : List ℕ) → is_word word ≡ t → is_lower k ≡ false → (39 == k) ≡ false → stripped (k ∷ []) (cond t word (quoted word) ++ rest) ≡ None
unfolding quoted
apart_by true k [] rest is other quote = absurd cc
apart_by true k (b ∷ bs) rest is other quote = rw (lower_not b k (b == k) refl (and_parts (is_lower b) (list_all is_word_byte bs) is).0 other) refl
apart_by false k word rest is other quote = rw quote refl

pub word_apart : (k : ℕ) (word rest : List ℕ) → is_lower k ≡ false → (39 == k) ≡ false → stripped (k ∷ []) (word_text word ++ rest) ≡ None
word_apart k word rest other quote = apart_by (is_word word) k word rest refl other quote

-- where the first byte of a front isn't there, the front isn't
longer_by : (t : Bool) (k b : ℕ) (ks bs : List ℕ) → (b == k) ≡ t → stripped (k ∷ []) (b ∷ bs) ≡ None → stripped (k ∷ ks) (b ∷ bs) ≡ None
longer_by true k b ks bs is none = absurd (let f : Some bs ≡ None = sym (rw is refl) ∙ none in cc)
longer_by false k b ks bs is none = rw is refl

pub longer_apart : (k : ℕ) (ks text : List ℕ) → stripped (k ∷ []) text ≡ None → stripped (k ∷ ks) text ≡ None
longer_apart k ks [] none = refl
longer_apart k ks (b ∷ bs) none = longer_by (b == k) k b ks bs refl none

-- ---- labels

bare_label : (word rest : List ℕ) → is_word word ≡ true → Stops is_word_byte rest → label_read (word ++ rest) ≡ Some (Word (shown word), rest)
unfolding label_read
bare_label [] rest is stops = absurd cc
bare_label (b ∷ bs) rest is stops =
    rw (lower_digit b (and_parts (is_lower b) (list_all is_word_byte bs) is).0) (rw (bare_again (b ∷ bs) rest is stops) refl)

quoted_label : (word rest : List ℕ) → label_read (quoted word ++ rest) ≡ Some (Word (shown word), rest)
unfolding label_read quoted
quoted_label word rest = ap (λ (r : Option (List ℕ × List ℕ)). r >>= λ x. Some (Word x.0, x.1)) (quote_again word rest)

label_by : (b : Bool) (word rest : List ℕ) → is_word word ≡ b → Stops is_word_byte rest → label_read (cond b word (quoted word) ++ rest) ≡ Some (Word (shown word), rest)
label_by true word rest is stops = bare_label word rest is stops
label_by false word rest is stops = quoted_label word rest

integer_again : (ds rest : List ℕ) → ds ≢ [] → list_all is_digit ds ≡ true → Stops is_digit rest → label_read (ds ++ rest) ≡ Some (Integer ds, rest)
unfolding label_read
integer_again [] rest some pass end = absurd (some refl)
integer_again (d ∷ ds) rest some pass end =
    ap (λ (t : Bool). cond t (run_read is_digit (d ∷ (ds ++ rest)) >>= λ x. Some (Integer x.0, x.1)) (word_read (d ∷ (ds ++ rest)) >>= λ x. Some (Word x.0, x.1))) (and_parts (is_digit d) (list_all is_digit ds) pass).0
    ∙ ap (λ (r : Option (List ℕ × List ℕ)). r >>= λ x. Some (Integer x.0, x.1)) (run_again is_digit (d ∷ ds) rest pass end)

pub label_again : (l : Label) (rest : List ℕ) → IsLabelFormed l → Stops is_word_byte rest → Stops is_digit rest → label_read (label_text l ++ rest) ≡ Some (plain_label l, rest)
label_again (Word w) rest ok stops end = label_by (is_word w) w rest refl stops
label_again (Integer ds) rest ok stops end = integer_again ds rest ok.0 ok.1 end
