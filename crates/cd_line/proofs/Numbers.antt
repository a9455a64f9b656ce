-- Names of lines are read exactly.
use Rattle.std.proofs.Common.{◌≡◌, ℕ, zero, suc, ◌+◌, ◌-◌, ◌*◌, ◌/◌, ◌%◌, ◌<◌, ◌≤◌, ◌&&◌, Bool, true, false, cond, leb, List, [], ◌∷◌, ◌++◌, length, codes, refl, sym, ap, ◌∙◌, subst, arith, append_assoc, Option, Some, None}
use Rattle.std.proofs.lemmas.Bool.{and_parts, leb-true}
use Rattle.std.proofs.lemmas.Bool.Decides.{nat_tests}
use Rattle.cd_text.specs.Numerals.{numeral}
use Rattle.cd_lex.specs.Bytes.{is_digit}
use Rattle.cd_text.specs.Texts.{name_text}
use Rattle.cd_text.proofs.Numerals.{by_digits, numeral_more, numeral_digit}
use Rattle.cd_line.specs.Reading.{◌>>=◌, stripped}
use Rattle.cd_line.specs.Lines.{exact, digits_from, numeral_read, name_read}
use Rattle.cd_line.proofs.Words.{Stops}

-- ---- what is printed is read

digits_stop : (n : ℕ) (rest : List ℕ) → Stops is_digit rest → digits_from exact n rest ≡ (n, rest)
digits_stop n [] stops = refl
digits_stop n (b ∷ bs) stops = ap (λ (t : Bool). cond t (digits_from exact (n * 10 + (b - 48)) bs) (n, b ∷ bs)) stops

digit_is : (d : ℕ) → d < 10 → is_digit (48 + d) ≡ true
digit_is d h = grind (arith, nat_tests)

digit_on : (m d : ℕ) (rest : List ℕ) → d < 10 → digits_from exact m ((48 + d) ∷ rest) ≡ digits_from exact (m * 10 + d) rest
digit_on m d rest small =
    let value : m * 10 + ((48 + d) - 48) ≡ m * 10 + d = omega arith in
    ap (λ (t : Bool). cond t (digits_from exact (m * 10 + ((48 + d) - 48)) rest) (m, (48 + d) ∷ rest)) (digit_is d small) ∙ ap (λ (v : ℕ). digits_from exact v rest) value

first_is : (n : ℕ) → 0 < n → n < 10 → (leb 49 (48 + n) && leb (48 + n) 57) ≡ true
first_is n some small = grind (arith, nat_tests)

abbrev Onto : ℕ → List ℕ → Type 0
Onto n ds = 0 < n → (rest : List ℕ) → numeral_read exact (ds ++ rest) ≡ Some (digits_from exact n rest)

onto_one : (n : ℕ) → n < 10 → Onto n ((48 + n) ∷ [])
onto_one n small some rest =
    let value : (48 + n) - 48 ≡ n = omega arith in
    ap (λ (t : Bool). cond t (Some (digits_from exact ((48 + n) - 48) rest)) None) (first_is n some small) ∙ ap (λ (v : ℕ). Some (digits_from exact v rest)) value

onto_more : (n : ℕ) (ds : List ℕ) → 10 ≤ n → Onto (n / 10) ds → Onto n (ds ++ ((48 + n % 10) ∷ []))
onto_more n ds big more some rest =
    let tenth : 0 < n / 10 = omega (arith, big) in
    let value : n / 10 * 10 + n % 10 ≡ n = omega arith in
    ap (numeral_read exact) (append_assoc ds ((48 + n % 10) ∷ []) rest) ∙ more tenth ((48 + n % 10) ∷ rest)
    ∙ ap (λ (x : ℕ × List ℕ). Some x) (digit_on (n / 10) (n % 10) rest (omega arith)) ∙ ap (λ (v : ℕ). Some (digits_from exact v rest)) value

pub numeral_again : (n : ℕ) (rest : List ℕ) → 0 < n → Stops is_digit rest → numeral_read exact (numeral n ++ rest) ≡ Some (n, rest)
numeral_again n rest some stops = by_digits Onto onto_one onto_more n some rest ∙ ap (λ (x : ℕ × List ℕ). Some x) (digits_stop n rest stops)

pub name_again : (n : ℕ) (rest : List ℕ) → 0 < n → Stops is_digit rest → name_read exact (name_text n ++ rest) ≡ Some (n, rest)
unfolding name_read
name_again n rest some stops = numeral_again n rest some stops

-- ---- what is read was printed

abbrev Spelled : ℕ → List ℕ → ℕ × List ℕ → Type 0
Spelled n text x = (0 < x.0) × (numeral n ++ text ≡ numeral x.0 ++ x.1)

digit_shown : (b : ℕ) → is_digit b ≡ true → 48 + (b - 48) ≡ b
digit_shown b h = let p = and_parts (leb 48 b) (leb b 57) h in let l : 48 ≤ b = leb-true 48 b p.0 in omega (arith, l)

digit_small : (b : ℕ) → is_digit b ≡ true → b - 48 < 10
digit_small b h = let p = and_parts (leb 48 b) (leb b 57) h in let l : b ≤ 57 = leb-true b 57 p.1 in omega (arith, l)

digits_by : (t : Bool) (n b : ℕ) (bs : List ℕ) → is_digit b ≡ t → 0 < n → ((m : ℕ) → 0 < m → Spelled m bs (digits_from exact m bs)) → Spelled n (b ∷ bs) (cond t (digits_from exact (n * 10 + (b - 48)) bs) (n, b ∷ bs))
digits_by true n b bs is some others =
    let m = n * 10 + (b - 48) in
    let h = others m (omega (arith, some)) in
    let glyph : (48 + (b - 48)) ∷ [] ≡ b ∷ [] = ap (λ (x : ℕ). x ∷ []) (digit_shown b is) in
    (h.0, sym (append_assoc (numeral n) (b ∷ []) bs) ∙ ap (λ (l : List ℕ). (numeral n ++ l) ++ bs) (sym glyph) ∙ ap (λ (l : List ℕ). l ++ bs) (sym (numeral_more n (b - 48) some (digit_small b is))) ∙ h.1)
digits_by false n b bs is some others = (some, refl)

spelled : (n : ℕ) (text : List ℕ) → 0 < n → Spelled n text (digits_from exact n text)
spelled n [] some = (some, refl)
spelled n (b ∷ bs) some = digits_by (is_digit b) n b bs refl some (λ m positive. spelled m bs positive)

pub record IsNumeral (text : List ℕ) (x : ℕ × List ℕ) : Type 0 where
  pub positive : 0 < x.0
  pub text_is : text ≡ numeral x.0 ++ x.1

numeral_by : (t : Bool) (b : ℕ) (bs : List ℕ) (x : ℕ × List ℕ) → (leb 49 b && leb b 57) ≡ t → cond t (Some (digits_from exact (b - 48) bs)) None ≡ Some x → IsNumeral (b ∷ bs) x
numeral_by true b bs x is e =
    let p = and_parts (leb 49 b) (leb b 57) is in
    let low : 49 ≤ b = leb-true 49 b p.0 in
    let high : b ≤ 57 = leb-true b 57 p.1 in
    let h = spelled (b - 48) bs (omega (arith, low)) in
    let one : numeral (b - 48) ≡ b ∷ [] = numeral_digit (b - 48) (omega (arith, high)) ∙ ap (λ (k : ℕ). k ∷ []) (omega (arith, low)) in
    let same : digits_from exact (b - 48) bs ≡ x = cc in
    let both : Spelled (b - 48) bs x = subst (Spelled (b - 48) bs) same h in
    record { positive = both.0; text_is = ap (λ (l : List ℕ). l ++ bs) (sym one) ∙ both.1 }
numeral_by false b bs x is e = absurd cc

pub numeral_sound : (text : List ℕ) (x : ℕ × List ℕ) → numeral_read exact text ≡ Some x → IsNumeral text x
numeral_sound [] x e = absurd cc
numeral_sound (b ∷ bs) x e = numeral_by (leb 49 b && leb b 57) b bs x refl e

pub record IsName (text : List ℕ) (x : ℕ × List ℕ) : Type 0 where
  pub positive : 0 < x.0
  pub text_is : text ≡ name_text x.0 ++ x.1
