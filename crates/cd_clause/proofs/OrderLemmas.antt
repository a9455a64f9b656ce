-- Variables that are noted in a set, and their places there.
use Rattle.std.proofs.Common.{◌≡◌, ◌∙◌, ℕ, suc, ◌+◌, ◌≤◌, ◌||◌, Bool, true, false, not, cond, if◌then◌else◌, List, [], ◌∷◌, ◌++◌, Some, None, length, nat_eq, nat_lt, refl, sym, ap, ap₂, arith}
use Rattle.std.specs.List.{list_any, position, position_or_len}
use Rattle.std.proofs.lemmas.Bool.Decides.{nat_tests}
use Rattle.indexmap.specs.IndexSet.{insert_key}
use Rattle.cd_term.specs.declared.Term.{Term}
use Rattle.cd_term.specs.declared.Term.TheVariants.{Var}
use Rattle.cd_term.specs.Terms.{variables_of, firsts_after, rank}
use Rattle.cd_term.proofs.Equations.{variables_of-Var}
use Rattle.cd_term.proofs.Ranks.{rank_le}

same_test : (m n : ℕ) → nat_eq m n ≡ nat_eq n m
same_test m n = grind (arith, nat_tests)

same_any : (k : ℕ) (xs : List ℕ) → list_any (nat_eq k) xs ≡ list_any (λ y. nat_eq y k) xs
same_any k [] = refl
same_any k (x ∷ xs) = ap₂ (λ (a b : Bool). a || b) (same_test k x) (same_any k xs)

pub inserted : (keys new : List ℕ) (k : ℕ) (t : Term) → t ≡ Var k → new ≡ insert_key nat_eq keys k → new ≡ firsts_after keys (variables_of t)
inserted keys new k t is put =
    put ∙ ap (λ (b : Bool). if b then keys else keys ++ k ∷ []) (same_any k keys)
    ∙ sym (ap (firsts_after keys) (ap variables_of is ∙ variables_of-Var k))

place_at : (k x : ℕ) (xs : List ℕ) (b : Bool) → nat_eq x k ≡ b → position_or_len (nat_eq k) xs ≡ rank xs k
    → cond (not (nat_eq k x)) (1 + position_or_len (nat_eq k) xs) 0 ≡ cond b 0 (suc (rank xs k))
place_at k x xs true is rest = ap (λ (c : Bool). cond (not c) (1 + position_or_len (nat_eq k) xs) 0) (same_test k x ∙ is)
place_at k x xs false is rest = ap (λ (c : Bool). cond (not c) (1 + position_or_len (nat_eq k) xs) 0) (same_test k x ∙ is) ∙ more
  where
    more : 1 + position_or_len (nat_eq k) xs ≡ suc (rank xs k)
    more = omega (arith, rest)

place_is : (k : ℕ) (xs : List ℕ) → position_or_len (nat_eq k) xs ≡ rank xs k
place_is k [] = refl
place_is k (x ∷ xs) = place_at k x xs (nat_eq x k) refl (place_is k xs)

-- a place that is found is the rank
pub place_found : (keys : List ℕ) (k n : ℕ) → Some n ≡ position (nat_eq k) keys → n ≡ rank keys k
place_found keys k n e = by (nat_lt (position_or_len (nat_eq k) keys) (length keys)) e
  where
    by : (b : Bool) → Some n ≡ cond b (Some (position_or_len (nat_eq k) keys)) None → n ≡ rank keys k
    by true h = let same : n ≡ position_or_len (nat_eq k) keys = cc h in same ∙ place_is k keys
    by false h = absurd (cc h)

-- where none is found it is the length
pub no_place : (keys : List ℕ) (k : ℕ) → None ≡ position (nat_eq k) keys → length keys ≡ rank keys k
no_place keys k e = by (nat_lt (position_or_len (nat_eq k) keys) (length keys)) refl e
  where
    by : (b : Bool) → nat_lt (position_or_len (nat_eq k) keys) (length keys) ≡ b → None ≡ cond b (Some (position_or_len (nat_eq k) keys)) None → length keys ≡ rank keys k
    by true is h = absurd (cc h)
    by false is h =
        let none : length keys ≤ position_or_len (nat_eq k) keys = grind (arith, nat_tests, is) in
        omega (arith, none, place_is k keys, rank_le keys k)
