-- Held clauses by their names, one entry after another.
use Rattle.std.proofs.Common.{◌≡◌, ◌⊎◌, inl, inr, ℕ, zero, suc, ◌+◌, ◌<◌, ◌≤◌, Bool, true, false, if◌then◌else◌, List, [], ◌∷◌, length, get_or, remove, ap, refl, sym, ◌∙◌, arith, Some, slice_get}
use Rattle.std.specs.List.{find}
use Rattle.std.proofs.lemmas.Option.{slice_get_within}
use Rattle.cd_names.specs.declared.names.Name.{Name}
use Rattle.cd_contract.specs.declared.held.Entry.{Entry}
use Rattle.cd_contract.specs.declared.held.Kept.{Kept}
use Rattle.cd_contract.specs.Rows.{entries_of}
use Rattle.cd_contract.specs.Held.{is_named, without, NoneNamed, IsPlaceOf}

-- the entries before a place don't have the name
abbrev pub NoneBefore : Name → List Entry → ℕ → Type 0
NoneBefore n es i = (k : ℕ) (e : Entry) → k < i → slice_get es k ≡ Some e → is_named n e ≡ false

pub none_start : (n : Name) (es : List Entry) → NoneBefore n es 0
none_start n es k e lt at = absurd (omega (arith, lt))

none_here : (n : Name) (es : List Entry) → NoneBefore n es (length es) → NoneNamed n es
none_here n [] none = record { nothing = refl; whole = refl }
none_here n (e ∷ es) none =
    let out : is_named n e ≡ false = none 0 e (omega arith) refl in
    let rest = none_here n es (λ k x lt at. none (suc k) x (omega (arith, lt)) at) in
    record {
      nothing = ap (λ (b : Bool). if b then Some e else find (is_named n) es) out ∙ rest.nothing;
      whole = ap (λ (b : Bool). if b then es else e ∷ without n es) out ∙ ap (λ xs. e ∷ xs) rest.whole;
    }

place_here : (n : Name) (es : List Entry) (i : ℕ) (e : Entry) → slice_get es i ≡ Some e → is_named n e ≡ true → NoneBefore n es i → IsPlaceOf n es i
place_here n [] i e at yes_ none = absurd (cc)
place_here n (x ∷ es) zero e at yes_ none =
    let same : x ≡ e = cc in
    let mine : is_named n x ≡ true = ap (is_named n) same ∙ yes_ in
    record {
      entry = e;
      there = at;
      found = ap (λ (b : Bool). if b then Some x else find (is_named n) es) mine ∙ at;
      rest = ap (λ (b : Bool). if b then es else x ∷ without n es) mine;
    }
place_here n (x ∷ es) (suc i) e at yes_ none =
    let out : is_named n x ≡ false = none 0 x (omega arith) refl in
    let inner = place_here n es i e at yes_ (λ k y lt there. none (suc k) y (omega (arith, lt)) there) in
    record {
      entry = inner.entry;
      there = inner.there;
      found = ap (λ (b : Bool). if b then Some x else find (is_named n) es) out ∙ inner.found;
      rest = ap (λ (b : Bool). if b then es else x ∷ without n es) out ∙ ap (λ xs. x ∷ xs) inner.rest;
    }

-- the same over entries that are kept with their counts
entry_at : (ks : List Kept) (i : ℕ) (k : Kept) → i < length ks → k ≡ get_or ks i k → slice_get (entries_of ks) i ≡ Some k.entry
entry_at [] i k lt at = absurd (omega (arith, lt))
entry_at (x ∷ ks) zero k lt at = ap (λ (y : Kept). Some y.entry) (sym at)
entry_at (x ∷ ks) (suc i) k lt at = entry_at ks i k (omega (arith, lt)) at

entries_length : (ks : List Kept) → length (entries_of ks) ≡ length ks
entries_length [] = refl
entries_length (k ∷ ks) = omega (arith, entries_length ks)

split : (m n : ℕ) → m < n + 1 → (m < n) ⊎ (m ≡ n)
split m n h = grind (arith, h)

pub none_next : (n : Name) (ks : List Kept) (i : ℕ) (k : Kept) → i < length ks → k ≡ get_or ks i k → is_named n k.entry ≡ false → NoneBefore n (entries_of ks) i →
    NoneBefore n (entries_of ks) (i + 1)
none_next n ks i k lt at out none j e less there = cases (split j i less)
  where
    cases : (j < i) ⊎ (j ≡ i) → is_named n e ≡ false
    cases (inl before) = none j e before there
    cases (inr same) =
        let is : Some k.entry ≡ Some e = sym (entry_at ks i k lt at) ∙ ap (slice_get (entries_of ks)) (sym same) ∙ there in
        let eq : k.entry ≡ e = cc in ap (is_named n) (sym eq) ∙ out

pub none_end : (n : Name) (ks : List Kept) (i : ℕ) → length ks ≤ i → NoneBefore n (entries_of ks) i → NoneNamed n (entries_of ks)
none_end n ks i le none = none_here n (entries_of ks) (λ k e lt at. none k e (omega (arith, lt, le, entries_length ks)) at)

pub place_found : (n : Name) (ks : List Kept) (i : ℕ) (k : Kept) → i < length ks → k ≡ get_or ks i k → is_named n k.entry ≡ true → NoneBefore n (entries_of ks) i →
    IsPlaceOf n (entries_of ks) i
place_found n ks i k lt at yes_ none = place_here n (entries_of ks) i k.entry (entry_at ks i k lt at) yes_ none

-- what is removed, and what is left
entries_removed : (ks : List Kept) (i : ℕ) → entries_of (remove ks i) ≡ remove (entries_of ks) i
entries_removed [] zero = refl
entries_removed [] (suc i) = refl
entries_removed (k ∷ ks) zero = refl
entries_removed (k ∷ ks) (suc i) = ap (λ es. k.entry ∷ es) (entries_removed ks i)

pub place_within : (n : Name) (ks xs : List Kept) (i : ℕ) → xs ≡ ks → IsPlaceOf n (entries_of xs) i → i < length ks
place_within n ks xs i same p = omega (arith, slice_get_within (entries_of xs) i p.entry p.there, entries_length xs, ap length same)

pub removed_entry : (n : Name) (ks xs : List Kept) (es : List Entry) (i : ℕ) (k : Kept) → entries_of ks ≡ es → xs ≡ ks → IsPlaceOf n (entries_of xs) i →
    k ≡ get_or ks i k → Some k.entry ≡ find (is_named n) es
removed_entry n ks xs es i k view same p at =
    let lt : i < length ks = omega (arith, slice_get_within (entries_of xs) i p.entry p.there, entries_length xs, ap length same) in
    sym (entry_at ks i k lt at) ∙ ap (λ ys. slice_get (entries_of ys) i) (sym same) ∙ p.there ∙ sym p.found ∙ ap (λ ys. find (is_named n) (entries_of ys)) same
    ∙ ap (find (is_named n)) view

pub removed_rest : (n : Name) (ks xs new : List Kept) (es : List Entry) (i : ℕ) → entries_of ks ≡ es → xs ≡ ks → IsPlaceOf n (entries_of xs) i → new ≡ remove ks i →
    entries_of new ≡ without n es
removed_rest n ks xs new es i view same p left =
    ap entries_of left ∙ entries_removed ks i ∙ ap (λ ys. remove (entries_of ys) i) (sym same) ∙ sym p.rest ∙ ap (λ ys. without n (entries_of ys)) same ∙ ap (without n) view
