-- What isn't printed of a line makes no difference to its text.
use Rattle.std.proofs.Common.{◌≡◌, ℕ, ◌==◌, ◌&&◌, ◌||◌, Bool, true, false, cond, List, [], ◌∷◌, ◌++◌, map, codes, refl, sym, ap, ◌∙◌, subst, arith}
use Rattle.std.specs.List.{flat_map, list_all}
use Rattle.std.proofs.lemmas.Bool.{and_parts}
use Rattle.std.proofs.lemmas.Bool.Decides.{nat_tests}
use Rattle.std.proofs.lemmas.List.Concat.{flat_map-cons}
use Rattle.cd_symbols.specs.Symbol.{Symbol}
use Rattle.cd_steps.specs.declared.Step.{Step}
use Rattle.cd_steps.specs.declared.Step.TheVariants.{Input, Copy, Resolve, Factor, Refl, EqFac, Para, Rewrite, Tidy}
use Rattle.cd_parse.specs.declared.label.Label.{Label}
use Rattle.cd_parse.specs.declared.label.Label.TheVariants.{Word, Integer}
use Rattle.cd_text.specs.declared.line.Line.{Line}
use Rattle.cd_text.specs.declared.line.LineSource.{LineSource}
use Rattle.cd_text.specs.declared.line.LineSource.TheVariants.{File, Inference}
use Rattle.cd_lex.specs.Bytes.{is_lower, is_word_byte}
use Rattle.cd_text.specs.Words.{is_word}
use Rattle.cd_text.specs.Texts.{is_printable, shown_byte, shown, quoted_byte, quoted, word_text, label_text, rule_text, source_text, line_text}
use Rattle.cd_line.specs.Lines.{plain_step, plain_label, plain_source, plain}
use Rattle.cd_line.proofs.Words.{word_shown}

plain_special : (b : ℕ) → is_printable b ≡ false → (b == 39 || b == 92) ≡ false
plain_special b h = grind (arith, nat_tests)

again_by : (t : Bool) (b : ℕ) → is_printable b ≡ t → quoted_byte (cond t b 63) ≡ quoted_byte b
again_by true b h = refl
again_by false b h = rw (plain_special b h, h) refl

again_inside : (xs : List ℕ) → flat_map quoted_byte (map shown_byte xs) ≡ flat_map quoted_byte xs
again_inside [] = refl
again_inside (x ∷ xs) = flat_map-cons quoted_byte (shown_byte x) (map shown_byte xs) ∙ rw (again_by (is_printable x) x refl, again_inside xs) (sym (flat_map-cons quoted_byte x xs))

pub quoted_shown : (xs : List ℕ) → quoted (shown xs) ≡ quoted xs
unfolding quoted
quoted_shown xs = rw (again_inside xs) refl

-- what is shown is a word only where it is the text itself
byte_by : (t : Bool) (b : ℕ) → is_printable b ≡ t → is_word_byte (cond t b 63) ≡ true → is_word_byte b ≡ true
byte_by true b h w = w
byte_by false b h w = absurd cc

bytes_shown : (xs : List ℕ) → list_all is_word_byte (shown xs) ≡ true → list_all is_word_byte xs ≡ true
bytes_shown [] h = refl
bytes_shown (x ∷ xs) h =
    let p = and_parts (is_word_byte (shown_byte x)) (list_all is_word_byte (shown xs)) h in
    rw (byte_by (is_printable x) x refl p.0) (bytes_shown xs p.1)

lower_is : (b : ℕ) → is_lower b ≡ true → is_word_byte b ≡ true
lower_is b h = rw h refl

word_is : (xs : List ℕ) → is_word xs ≡ true → list_all is_word_byte xs ≡ true
word_is [] h = absurd cc
word_is (b ∷ bs) h = let p = and_parts (is_lower b) (list_all is_word_byte bs) h in rw (lower_is b p.0) p.1

same_by : (t u : Bool) (xs : List ℕ) → is_word xs ≡ t → is_word (shown xs) ≡ u → cond u (shown xs) (quoted (shown xs)) ≡ cond t xs (quoted xs)
same_by true true xs h g = word_shown xs (word_is xs h)
same_by true false xs h g = absurd (let e : is_word (shown xs) ≡ is_word xs = ap is_word (word_shown xs (word_is xs h)) in let f : true ≡ false = sym h ∙ sym e ∙ g in cc)
same_by false true xs h g = absurd (let e : is_word (shown xs) ≡ is_word xs = ap is_word (word_shown xs (bytes_shown xs (word_is (shown xs) g))) in let f : true ≡ false = sym g ∙ e ∙ h in cc)
same_by false false xs h g = quoted_shown xs

pub word_text_shown : (xs : List ℕ) → word_text (shown xs) ≡ word_text xs
word_text_shown xs = same_by (is_word xs) (is_word (shown xs)) xs refl refl

pub label_plain : (l : Label) → label_text (plain_label l) ≡ label_text l
label_plain (Word w) = word_text_shown w
label_plain (Integer ds) = refl

pub rule_plain : (symbols : List Symbol) (s : Step) → rule_text symbols (plain_step s) ≡ rule_text symbols s
unfolding rule_text
rule_plain symbols (Input index) = refl
rule_plain symbols (Copy of) = refl
rule_plain symbols (Resolve pos i neg j s) = refl
rule_plain symbols (Factor of i j s) = refl
rule_plain symbols (Refl of i s) = refl
rule_plain symbols (EqFac of i x j z s) = refl
rule_plain symbols (Para giver i x taker j at s) = refl
rule_plain symbols (Rewrite by x j at s) = refl
rule_plain symbols Tidy = refl

pub source_plain : (symbols : List Symbol) (s : LineSource) → source_text symbols (plain_source s) ≡ source_text symbols s
unfolding source_text
source_plain symbols (File path label) = rw (quoted_shown path, label_plain label) refl
source_plain symbols (Inference step parents) = rw (rule_plain symbols step) refl

pub line_plain : (symbols : List Symbol) (l : Line) → line_text symbols (plain l) ≡ line_text symbols l
unfolding line_text
line_plain symbols l = rw (source_plain symbols l.source) refl
