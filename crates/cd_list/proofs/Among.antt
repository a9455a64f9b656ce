-- Some item of a list, and a loop that looks for it.
use Rattle.std.proofs.Common.{◌≡◌, ℕ, zero, suc, ◌+◌, ◌<◌, ◌≤◌, ◌⊎◌, inl, inr, List, [], ◌∷◌, ◌++◌, length, get_or, drop, sym, subst, arith}
use Rattle.std.proofs.lemmas.List.{drop_more, drop_all}
use Rattle.cd_list.specs.Lists.{Among}

pub among_at : {A : Type 0} (P : A → Type 0) (xs : List A) (i : ℕ) (d : A) → i < length xs → P (get_or xs i d) → Among P xs
among_at P [] i d lt p = absurd (omega arith)
among_at P (x ∷ xs) zero d lt p = inl p
among_at P (x ∷ xs) (suc i) d lt p = inr (among_at P xs i d (omega arith) p)

-- an item found by a loop
pub among_read : {A : Type 0} (P : A → Type 0) (xs : List A) (i : ℕ) (x : A) → i < length xs → x ≡ get_or xs i x → P x → Among P xs
among_read P xs i x lt at p = among_at P xs i x lt (subst P at p)

-- an item that isn't the one
pub among_next : {A : Type 0} (P : A → Type 0) (xs : List A) (i : ℕ) (x : A) → i < length xs → x ≡ get_or xs i x → ¬ P x →
    Among P (drop i xs) → Among P (drop (i + 1) xs)
among_next {A} P xs i x lt at other here =
    elim (let Q : List A → Type 0 = Among P in subst Q (drop_more xs i x lt) here) [
      | inl p ↦ absurd (other (let R : A → Type 0 = P in subst R (sym at) p))
      | inr rest ↦ rest
    ]

-- no item is left
pub among_none : {A : Type 0} (P : A → Type 0) (xs : List A) (i : ℕ) → length xs ≤ i → Among P (drop i xs) → ⊥
among_none {A} P xs i le here = let Q : List A → Type 0 = Among P in subst Q (drop_all i xs le) here

pub among_append : {A : Type 0} (P : A → Type 0) (xs ys : List A) → Among P (xs ++ ys) → Among P xs ⊎ Among P ys
among_append P [] ys some = inr some
among_append P (x ∷ xs) ys (inl p) = inl (inl p)
among_append P (x ∷ xs) ys (inr rest) = elim (among_append P xs ys rest) [ inl old ↦ inl (inr old) | inr new ↦ inr new ]
