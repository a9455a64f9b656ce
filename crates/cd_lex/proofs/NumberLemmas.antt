-- Numbers and their parts.
use Rattle.std.proofs.Common.{◌≡◌, ◌∙◌, ◌||◌, ◌==◌, ◌++◌, ◌∷◌, [], ℕ, Bool, true, false, not, codes, drop, refl, sym, ap, subst, inl, inr, true≢false, eqb-true}
use Rattle.std.specs.List.{list_all}
use Rattle.std.proofs.lemmas.Bool.{and_parts}
use Rattle.cd_lex.specs.Bytes.{Bytes, is_among, is_digit, is_plus_or_minus, is_point, is_exponent_letter}
use Rattle.cd_lex.specs.Scans.{Ends}
use Rattle.cd_lex.specs.Tokens.{Then, Optional, BeginsNo, IsDigits, IsInteger, IsFraction, IsExponent, IsNumber}
use Rattle.cd_lex.proofs.FormLemmas.{Joins, Apart, first_then, first_passes, then_ends, no_then}

-- what holds of each byte of a list holds of one among them
pub among : (f : ℕ → Bool) (bytes : Bytes) (b : ℕ) → list_all f bytes ≡ true → is_among bytes b ≡ true → f b ≡ true
among f [] b all is = absurd (true≢false (sym is))
among f (x ∷ bytes) b all is = by (x == b) refl is (among f bytes b (and_parts (f x) (list_all f bytes) all).1)
  where
    by : (t : Bool) → (x == b) ≡ t → (t || is_among bytes b) ≡ true → (is_among bytes b ≡ true → f b ≡ true) → f b ≡ true
    by true e h rest = ap f (sym (eqb-true x b e)) ∙ (and_parts (f x) (list_all f bytes) all).0
    by false e h rest = rest h

-- the test fails of a byte among others
pub not_among : (f : ℕ → Bool) (bytes : Bytes) (b : ℕ) → list_all (λ x. not (f x)) bytes ≡ true → is_among bytes b ≡ true → f b ≡ true → ⊥
not_among f bytes b none is passes = true≢false (sym (among (λ x. not (f x)) bytes b none is) ∙ ap not passes)

-- what holds of all bytes holds of one in their middle
pub all_middle : (f : ℕ → Bool) (front more : Bytes) (b : ℕ) → list_all f (front ++ b ∷ more) ≡ true → f b ≡ true
all_middle f [] more b all = (and_parts (f b) (list_all f more) all).0
all_middle f (x ∷ front) more b all = all_middle f front more b (and_parts (f x) (list_all f (front ++ b ∷ more)) all).1

pub first_digit : (b : ℕ) (text : Bytes) → IsDigits (b ∷ text) → is_digit b ≡ true
first_digit b text is = (and_parts (is_digit b) (list_all is_digit text) is.1).0

-- a sign is no digit
pub sign_apart : Apart is_plus_or_minus IsDigits
sign_apart = record { some = λ is. is.0 refl; first = λ b text is passes. not_among is_digit (codes "+-") b refl passes (first_digit b text is) }

-- an integer is one byte and digits
pub record Tailed (text : Bytes) : Type 0 where
  pub byte : ℕ
  pub digits : Bytes
  pub is : text ≡ byte ∷ digits
  pub all : list_all is_digit digits ≡ true

integer_tail : (text : Bytes) → IsInteger text → Tailed text
integer_tail text (s, [], sign, digits, e) = absurd (digits.0 refl)
integer_tail text (s, d ∷ ds, inl none, digits, e) =
    record { byte = d; digits = ds; is = e ∙ ap (λ (l : Bytes). l ++ d ∷ ds) none; all = (and_parts (is_digit d) (list_all is_digit ds) digits.1).1 }
integer_tail text (s, d ∷ ds, inr (c, passes, one), digits, e) =
    record { byte = c; digits = d ∷ ds; is = e ∙ ap (λ (l : Bytes). l ++ d ∷ ds) one; all = digits.1 }

fraction_tail : (text : Bytes) → IsFraction text → Tailed text
fraction_tail text (p, ds, (c, passes, one), digits, e) = record { byte = c; digits = ds; is = e ∙ ap (λ (l : Bytes). l ++ ds) one; all = digits.1 }

-- such a text goes on with digits behind its first byte
goes_on_digit : (x : ℕ) (front more : Bytes) (b : ℕ) → Tailed ((x ∷ front) ++ b ∷ more) → is_digit b ≡ true
goes_on_digit x front more b r =
    let e : x ∷ (front ++ b ∷ more) ≡ r.byte ∷ r.digits = r.is in
    let tails : front ++ b ∷ more ≡ r.digits = cc in
    all_middle is_digit front more b (ap (list_all is_digit) tails ∙ r.all)

-- what stands behind the integer begins with no digit
part_first : (b : ℕ) (back : Bytes) → Then (Optional IsFraction) (Optional IsExponent) (b ∷ back) → is_digit b ≡ true → ⊥
part_first b back (f, x, inl none, inl none', e) digit =
    let empty : b ∷ back ≡ [] = e ∙ ap (λ (l : Bytes). l ++ x) none ∙ none' in cc
part_first b back (f, x, inl none, inr is, e) digit =
    let same : b ∷ back ≡ x = e ∙ ap (λ (l : Bytes). l ++ x) none in
    not_among is_digit (codes "Ee") b refl (first_passes is_exponent_letter b back (first_then is_exponent_letter IsInteger (b ∷ back) (subst IsExponent (sym same) is))) digit
part_first b back (f, x, inr is, exponent, e) digit =
    let r = first_then is_point IsDigits f is in
    let whole : b ∷ back ≡ r.byte ∷ (r.rest ++ x) = e ∙ ap (λ (l : Bytes). l ++ x) r.is in
    let same : b ≡ r.byte = cc in
    not_among is_digit (codes "./") b refl (ap is_point same ∙ r.passes) digit

integer_joins : Joins IsInteger (Then (Optional IsFraction) (Optional IsExponent))
integer_joins = record { no = by }
  where
    by : (front more back : Bytes) (b : ℕ) → IsInteger front → IsInteger (front ++ b ∷ more) → Then (Optional IsFraction) (Optional IsExponent) (b ∷ back) → ⊥
    by [] more back b is longer part = let r = integer_tail [] is in let e : [] ≡ r.byte ∷ r.digits = r.is in cc
    by (x ∷ front) more back b is longer part = part_first b back part (goes_on_digit x front more b (integer_tail ((x ∷ front) ++ b ∷ more) longer))

fraction_joins : Joins (Optional IsFraction) (Optional IsExponent)
fraction_joins = record { no = by }
  where
    letter : (b : ℕ) (back : Bytes) → Optional IsExponent (b ∷ back) → is_exponent_letter b ≡ true
    letter b back (inl none) = cc
    letter b back (inr is) = first_passes is_exponent_letter b back (first_then is_exponent_letter IsInteger (b ∷ back) is)

    by : (front more back : Bytes) (b : ℕ) → Optional IsFraction front → Optional IsFraction (front ++ b ∷ more) → Optional IsExponent (b ∷ back) → ⊥
    by [] more back b is (inl none) x = cc
    by [] more back b is (inr longer) x =
        not_among is_point (codes "Ee") b refl (letter b back x) (first_passes is_point b more (first_then is_point IsDigits (b ∷ more) longer))
    by (y ∷ front) more back b is (inl none) x = let e : y ∷ (front ++ b ∷ more) ≡ [] = none in cc
    by (y ∷ front) more back b is (inr longer) x =
        not_among is_digit (codes "Ee") b refl (letter b back x) (goes_on_digit y front more b (fraction_tail ((y ∷ front) ++ b ∷ more) longer))

pub number_ends : (bytes : Bytes) (at integer fraction end : ℕ) → Ends IsInteger (drop at bytes) at integer → Ends (Optional IsFraction) (drop integer bytes) integer fraction
    → Ends (Optional IsExponent) (drop fraction bytes) fraction end → Ends IsNumber (drop at bytes) at end
number_ends bytes at integer fraction end a b c =
    then_ends IsInteger (Then (Optional IsFraction) (Optional IsExponent)) integer_joins bytes at integer end a
    (then_ends (Optional IsFraction) (Optional IsExponent) fraction_joins bytes integer fraction end b c)

pub no_number : (bytes : Bytes) (at : ℕ) → BeginsNo IsInteger (drop at bytes) → BeginsNo IsNumber (drop at bytes)
no_number bytes at none = no_then IsInteger (Then (Optional IsFraction) (Optional IsExponent)) (drop at bytes) none
