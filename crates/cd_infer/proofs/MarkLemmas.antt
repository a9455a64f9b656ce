-- Marks, one literal more.
use Rattle.std.proofs.Common.{◌≡◌, ℕ, zero, suc, ◌+◌, ◌<◌, ◌≤◌, ◌⊎◌, inl, inr, List, [], ◌∷◌, ◌++◌, length, slice_get, Some, None, ap, ◌∙◌, sym, subst, refl, arith, length-append}
use Rattle.std.proofs.Math.Nat.{eq-or-lt_of_le}
use Rattle.std.proofs.lemmas.Option.{same_Some, slice_get_within}
use Rattle.cd_infer.specs.declared.marks.Mark.{Mark}

before_last : (xs : List Mark) (m : Mark) (k : ℕ) → k < length xs → slice_get (xs ++ m ∷ []) k ≡ slice_get xs k
before_last [] m k lt = absurd (omega arith)
before_last (x ∷ xs) m zero lt = refl
before_last (x ∷ xs) m (suc k) lt = before_last xs m k (omega arith)

at_last : (xs : List Mark) (m : Mark) (k : ℕ) → k ≡ length xs → slice_get (xs ++ m ∷ []) k ≡ Some m
at_last [] m zero is = refl
at_last [] m (suc k) is = absurd (omega arith)
at_last (x ∷ xs) m zero is = absurd (omega arith)
at_last (x ∷ xs) m (suc k) is = at_last xs m k (omega arith)

pub many_more : (xs ys : List Mark) (m : Mark) (i : ℕ) → length xs ≡ i → ys ≡ xs ++ m ∷ [] → length ys ≡ i + 1
many_more xs ys m i many is = omega (arith, ap length is, length-append xs (m ∷ []), many)

split : (k i : ℕ) → k < i + 1 → (k ≡ i) ⊎ (k < i)
split k i lt = let le : k ≤ i = omega (arith, lt) in eq-or-lt_of_le le

pub each_more : (P : ℕ → Mark → Type 0) (xs ys : List Mark) (m : Mark) (i : ℕ) → length xs ≡ i → ys ≡ xs ++ m ∷ [] →
    ((k : ℕ) (n : Mark) → slice_get xs k ≡ Some n → P k n) → P i m → (k : ℕ) (n : Mark) → slice_get ys k ≡ Some n → P k n
each_more P xs ys m i many is so_far here k n e =
    elim (split k i (omega (arith, slice_get_within ys k n e, many_more xs ys m i many is))) [
      | inl same ↦ subst (λ (j : ℕ). P j n) (sym same)
          (subst (P i) (same_Some m n (sym (at_last xs m k (omega (arith, same, many))) ∙ ap (λ (zs : List Mark). slice_get zs k) (sym is) ∙ e)) here)
      | inr less ↦ so_far k n (sym (before_last xs m k (omega (arith, less, many))) ∙ ap (λ (zs : List Mark). slice_get zs k) (sym is) ∙ e)
    ]

-- there is a mark where there is a literal
pub some_mark : (marks : List Mark) (k n : ℕ) → length marks ≡ n → k < n → slice_get marks k ≡ None → ⊥
some_mark [] k n many lt none = absurd (omega (arith, many, lt))
some_mark (m ∷ marks) zero n many lt none = absurd cc
some_mark (m ∷ marks) (suc k) zero many lt none = absurd (omega (arith, lt))
some_mark (m ∷ marks) (suc k) (suc n) many lt none = some_mark marks k n (omega (arith, many)) (omega (arith, lt)) none
