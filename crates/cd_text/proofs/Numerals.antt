-- Numerals: those of std, their digits, and that each digit more is ten times the number and the digit.
use Rattle.std.proofs.Common.{◌≡◌, ℕ, zero, suc, ◌+◌, ◌*◌, ◌/◌, ◌%◌, ◌<◌, ◌≤◌, ◌^◌, Bool, cond, List, [], ◌∷◌, ◌++◌, decimal, sym, ap, ◌∙◌, subst, arith, inl, inr}
use Rattle.std.proofs.lemmas.Bool.{lt-ltb, le-ltb, cases_lt}
use Rattle.std.proofs.lemmas.Fmt.{decimal_by_steps}
use Rattle.std.proofs.lemmas.Nat.{div-mul-add, mod-mul-add}
use Rattle.cd_text.specs.Numerals.{last_digits, numeral}

one_digit : (count n : ℕ) → n < 10 → last_digits (suc count) n ≡ (48 + n) ∷ []
one_digit count n small = ap (λ (t : Bool). cond t ((48 + n) ∷ []) (last_digits count (n / 10) ++ ((48 + n % 10) ∷ []))) (lt-ltb n 10 small)

more_digits : (count n : ℕ) → 10 ≤ n → last_digits (suc count) n ≡ last_digits count (n / 10) ++ ((48 + n % 10) ∷ [])
more_digits count n big = ap (λ (t : Bool). cond t ((48 + n) ∷ []) (last_digits count (n / 10) ++ ((48 + n % 10) ∷ []))) (le-ltb n 10 big)

tenth_below : (n count : ℕ) → 10 ≤ n → n < suc count → n / 10 < count
tenth_below n count big fits = omega arith

-- what holds of the numerals of one digit, and of one more digit, holds of all
within_digits : (P : ℕ → List ℕ → Type 0) → ((n : ℕ) → n < 10 → P n ((48 + n) ∷ [])) → ((n : ℕ) (ds : List ℕ) → 10 ≤ n → P (n / 10) ds → P n (ds ++ ((48 + n % 10) ∷ [])))
    → (count n : ℕ) → n < count → P n (last_digits count n)
within_digits P one more zero n fits = absurd (omega (arith, fits))
within_digits P one more (suc count) n fits =
    elim (cases_lt n 10) [
      | inl small ↦ subst (P n) (sym (one_digit count n small)) (one n small)
      | inr big ↦ subst (P n) (sym (more_digits count n big)) (more n (last_digits count (n / 10)) big (within_digits P one more count (n / 10) (tenth_below n count big fits)))
    ]

pub by_digits : (P : ℕ → List ℕ → Type 0) → ((n : ℕ) → n < 10 → P n ((48 + n) ∷ [])) → ((n : ℕ) (ds : List ℕ) → 10 ≤ n → P (n / 10) ds → P n (ds ++ ((48 + n % 10) ∷ [])))
    → (n : ℕ) → P n (numeral n)
unfolding numeral
by_digits P one more n = within_digits P one more (suc n) n (omega arith)

-- the digits are the same for every count that is enough
abbrev Settled : ℕ → List ℕ → Type 0
Settled n ds = (count : ℕ) → n < count → last_digits count n ≡ ds

settled_one : (n : ℕ) → n < 10 → Settled n ((48 + n) ∷ [])
settled_one n small zero fits = absurd (omega (arith, fits))
settled_one n small (suc count) fits = one_digit count n small

settled_more : (n : ℕ) (ds : List ℕ) → 10 ≤ n → Settled (n / 10) ds → Settled n (ds ++ ((48 + n % 10) ∷ []))
settled_more n ds big settled zero fits = absurd (omega (arith, fits))
settled_more n ds big settled (suc count) fits = more_digits count n big ∙ ap (λ (l : List ℕ). l ++ ((48 + n % 10) ∷ [])) (settled count (tenth_below n count big fits))

-- a number of std's is the same
pub numeral_is : (n : ℕ) → n < 2 ^ 64 → decimal n ≡ numeral n
unfolding numeral
numeral_is n fits = sym (decimal_by_steps Settled settled_one settled_more n fits (suc n) (omega arith))

-- a digit more
pub numeral_more : (n d : ℕ) → 0 < n → d < 10 → numeral (n * 10 + d) ≡ numeral n ++ ((48 + d) ∷ [])
unfolding numeral
numeral_more n d some small =
    let m = n * 10 + d in
    let front : m / 10 ≡ n = div-mul-add n 10 d small in
    let last : m % 10 ≡ d = mod-mul-add n 10 d small in
    let big : 10 ≤ m = omega (arith, some) in
    let enough : n < m = omega (arith, some) in
    more_digits m m big
    ∙ ap (λ (k : ℕ). last_digits m k ++ ((48 + m % 10) ∷ [])) front
    ∙ ap (λ (k : ℕ). last_digits m n ++ ((48 + k) ∷ [])) last
    ∙ ap (λ (l : List ℕ). l ++ ((48 + d) ∷ [])) (by_digits Settled settled_one settled_more n m enough)

pub numeral_digit : (n : ℕ) → n < 10 → numeral n ≡ (48 + n) ∷ []
unfolding numeral
numeral_digit n small = one_digit n n small
