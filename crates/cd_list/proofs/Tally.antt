-- Counts of the items that pass a test.
use Rattle.std.proofs.Common.{◌≡◌, ◌≢◌, ℕ, zero, suc, ◌+◌, ◌*◌, ◌&&◌, Bool, true, false, cond, List, [], ◌∷◌, ◌++◌, map, remove, Some, slice_get, refl, sym, ap, ◌∙◌, arith}
use Rattle.std.proofs.Math.Nat.{mul-add, add-mul}
use Rattle.std.specs.List.{AllByRecursion}
use Rattle.std.proofs.Math.Bool.{and-false, and-true}
use Rattle.cd_list.specs.Lists.{tally}

pub tally_append : {X : Type 0} (test : X → Bool) (xs ys : List X) → tally test (xs ++ ys) ≡ tally test xs + tally test ys
tally_append test [] ys = omega arith
tally_append test (x ∷ xs) ys = let h = tally_append test xs ys in omega (arith, h)

pub tally_push : {X : Type 0} (test : X → Bool) (xs : List X) (x : X) → tally test (xs ++ x ∷ []) ≡ tally test xs + cond (test x) 1 0
tally_push test xs x = let h = tally_append test xs (x ∷ []) in omega (arith, h)

pub tally_map : {X Y : Type 0} (test : Y → Bool) (f : X → Y) (xs : List X) → tally test (map f xs) ≡ tally (λ x. test (f x)) xs
tally_map test f [] = refl
tally_map test f (x ∷ xs) = ap (λ n. cond (test (f x)) 1 0 + n) (tally_map test f xs)

pub tally_remove : {X : Type 0} (test : X → Bool) (xs : List X) (k : ℕ) (x : X) → slice_get xs k ≡ Some x → tally test (remove xs k) + cond (test x) 1 0 ≡ tally test xs
tally_remove test [] k x there = absurd cc
tally_remove test (y ∷ xs) zero x there =
    let e : y ≡ x = cc in
    let c : ◌≡◌ {A = ℕ} (cond (test y) 1 0) (cond (test x) 1 0) = ap (λ z. cond {A = ℕ} (test z) 1 0) e in
    omega (arith, c)
tally_remove test (y ∷ xs) (suc k) x there = let h = tally_remove test xs k x there in omega (arith, h)

-- a test that fails everywhere
pub tally_none : {X : Type 0} (xs : List X) → tally (λ (x : X). false) xs ≡ 0
tally_none [] = refl
tally_none (x ∷ xs) = let h = tally_none xs in omega (arith, h)

pub tally_same : {X : Type 0} (test other : X → Bool) (xs : List X) → ((x : X) → test x ≡ other x) → tally test xs ≡ tally other xs
tally_same test other [] same = refl
tally_same test other (x ∷ xs) same =
    ap (λ (b : Bool). cond b 1 0 + tally test xs) (same x) ∙ ap (λ n. cond (other x) 1 0 + n) (tally_same test other xs same)

pub tally_and_right : {X : Type 0} (test : X → Bool) (b : Bool) (xs : List X) → tally (λ x. test x && b) xs ≡ cond b (tally test xs) 0
tally_and_right test true xs = tally_same (λ x. test x && true) test xs (λ x. and-true (test x))
tally_and_right test false xs = tally_same (λ x. test x && false) (λ x. false) xs (λ x. and-false (test x)) ∙ tally_none xs

pub tally_and_left : {X : Type 0} (test : X → Bool) (b : Bool) (xs : List X) → tally (λ x. b && test x) xs ≡ cond b (tally test xs) 0
tally_and_left test true xs = refl
tally_and_left test false xs = tally_none xs

-- the pairs of one more name: each earlier one with it, it with itself, and it with each earlier one
pub product : (a b : ℕ) (x y : Bool) → (a + cond x 1 0) * (b + cond y 1 0) ≡ a * b + (cond y a 0 + (cond (x && y) 1 0 + cond x b 0))
product a b true true = omega (arith, mul-add (a + 1) b 1, add-mul a 1 b)
product a b true false = omega (arith, mul-add (a + 1) b 0, add-mul a 1 b)
product a b false true = omega (arith, mul-add (a + 0) b 1, add-mul a 0 b)
product a b false false = omega (arith, mul-add (a + 0) b 0, add-mul a 0 b)

-- what passes at least once stands somewhere
pub record Passing {X : Type 0} (test : X → Bool) (P : X → Type 0) : Type 0 where
  pub item : X
  pub passes : test item ≡ true
  pub has : P item

passing_by : {X : Type 0} (test : X → Bool) (P : X → Type 0) (x : X) (b : Bool) → test x ≡ b → P x → (n : ℕ) → cond b 1 0 + n ≢ 0 → (n ≢ 0 → Passing test P) → Passing test P
passing_by test P x true is has n some later = record { item = x; passes = is; has = has }
passing_by test P x false is has n some later = later (λ e. some (omega (arith, e)))

pub passing : {X : Type 0} (test : X → Bool) (P : X → Type 0) (xs : List X) → AllByRecursion P xs → tally test xs ≢ 0 → Passing test P
passing test P [] all some = absurd (some refl)
passing test P (x ∷ xs) all some = passing_by test P x (test x) refl all.0 (tally test xs) some (passing test P xs all.1)

-- where nothing that has P passes, nothing is counted
fails_by : (b : Bool) (n : ℕ) → (b ≡ true → ⊥) → n ≡ 0 → cond b 1 0 + n ≡ 0
fails_by true n never rest = absurd (never refl)
fails_by false n never rest = omega (arith, rest)

pub tally_fails : {X : Type 0} (test : X → Bool) (P : X → Type 0) (xs : List X) → AllByRecursion P xs → ((x : X) → P x → test x ≡ true → ⊥) → tally test xs ≡ 0
tally_fails test P [] all never = refl
tally_fails test P (x ∷ xs) all never = fails_by (test x) (tally test xs) (never x all.0) (tally_fails test P xs all.1 never)

same_by : (b c : Bool) (m n : ℕ) → (b ≡ true → c ≡ true) → (c ≡ true → b ≡ true) → m ≡ n → cond b 1 0 + m ≡ cond c 1 0 + n
same_by true c m n there back e = ap (λ (x : Bool). cond x 1 0 + m) (sym (there refl)) ∙ ap (λ k. cond c 1 0 + k) e
same_by false true m n there back e = absurd (cc (back refl))
same_by false false m n there back e = omega (arith, e)

-- tests that agree on what has P count the same
pub tally_agree : {X : Type 0} (test other : X → Bool) (P : X → Type 0) (xs : List X) → AllByRecursion P xs → ((x : X) → P x → test x ≡ true → other x ≡ true) → ((x : X) → P x → other x ≡ true → test x ≡ true) → tally test xs ≡ tally other xs
tally_agree test other P [] all there back = refl
tally_agree test other P (x ∷ xs) all there back = same_by (test x) (other x) (tally test xs) (tally other xs) (there x all.0) (back x all.0) (tally_agree test other P xs all.1 there back)
