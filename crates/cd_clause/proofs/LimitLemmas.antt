-- Sizes and depths of the first items of a list, within limits.
use Rattle.std.proofs.Common.{◌≡◌, ℕ, zero, suc, ◌+◌, ◌-◌, ◌<◌, ◌≤◌, max, Option, None, Some, is_some, List, [], ◌∷◌, length, get_or, sum_by, map, take, Bool, true, ap, ◌∙◌, sym, subst, refl, arith}
use Rattle.std.proofs.lemmas.Bool.{false≢true}
use Rattle.std.proofs.lemmas.List.{take_more, take_all, map-append, get_or-map, length-map}
use Rattle.std.proofs.lemmas.List.Sums.{sum_by_more, sum_by-take-le, sum_by-cons}
use Rattle.cd_term.specs.declared.Term.{Term}
use Rattle.cd_term.specs.declared.Term.TheVariants.{Var}
use Rattle.cd_term.specs.Terms.{greatest, size_of, applied, value_of, IsWithin, IsMeasure, AreWithin, AreMeasured}
use Rattle.cd_term.proofs.Measures.{greatest-append}
use Rattle.cd_term.proofs.Substitutions.{substituted-identity, substituted-same}
use Rattle.cd_clause.specs.declared.Atom.TheVariants.{Pred, Equal}
use Rattle.cd_clause.specs.declared.Literal.{Literal}
use Rattle.cd_clause.specs.Clauses.{clause_terms, literals_changed, IsAtomWithin, IsAtomMeasure, AreLiteralsMeasured, AreLiteralsWithin}
use Rattle.cd_clause.proofs.TidyLemmas.{fixed_literals}

greatest-more : {A : Type 0} (d : A → ℕ) (xs : List A) (i : ℕ) (x : A) → i < length xs →
    greatest (map d (take (i + 1) xs)) ≡ max (greatest (map d (take i xs))) (d (get_or xs i x))
greatest-more d xs i x lt = rw (take_more xs i x, map-append, greatest-append) (omega arith)

greatest-at : {A : Type 0} (d : A → ℕ) (xs : List A) (i : ℕ) (x : A) → i < length xs → d (get_or xs i x) ≤ greatest (map d xs)
greatest-at d [] i x lt = absurd (omega arith)
greatest-at d (y ∷ xs) zero x lt = omega arith
greatest-at d (y ∷ xs) (suc i) x lt = omega (arith, greatest-at d xs i x (omega arith))

-- one item more
pub next_within : {A : Type 0} (f d : A → ℕ) (xs : List A) (i total symbols levels n : ℕ) (x : A) → i < length xs → x ≡ get_or xs i x →
    total ≡ sum_by f (take i xs) → total ≤ symbols → greatest (map d (take i xs)) ≤ levels →
    n ≡ f x → f x ≤ symbols - total → d x ≤ levels →
    (total + n ≡ sum_by f (take (i + 1) xs)) × (total + n ≤ symbols) × (greatest (map d (take (i + 1) xs)) ≤ levels)
next_within f d xs i total symbols levels n x lt at so_far few flat is fits deep =
    let same : f x ≡ f (get_or xs i x) = ap f at in
    let low : d x ≡ d (get_or xs i x) = ap d at in
    let more = sum_by_more f xs i x lt in
    let most = greatest-more d xs i x lt in
    (omega (arith, same, more, so_far, is), omega (arith, few, is, fits), omega (arith, low, most, flat, deep))

-- an item that is outside
pub outside_within : {A : Type 0} (f d : A → ℕ) (xs : List A) (i total symbols levels : ℕ) (x : A) → i < length xs → x ≡ get_or xs i x →
    total ≡ sum_by f (take i xs) → ¬ ((f x ≤ symbols - total) × (d x ≤ levels)) →
    ¬ ((sum_by f xs ≤ symbols) × (greatest (map d xs) ≤ levels))
outside_within f d xs i total symbols levels x lt at so_far out within =
    let same : f x ≡ f (get_or xs i x) = ap f at in
    let low : d x ≡ d (get_or xs i x) = ap d at in
    out (
      omega (arith, same, sum_by_more f xs i x lt, sum_by-take-le f xs (i + 1), so_far, within.0),
      omega (arith, low, greatest-at d xs i x lt, within.1),
    )

-- all items
pub whole_within : {A : Type 0} (f d : A → ℕ) (xs : List A) (i total symbols levels : ℕ) → length xs ≤ i →
    total ≡ sum_by f (take i xs) → total ≤ symbols → greatest (map d (take i xs)) ≤ levels →
    (total ≡ sum_by f xs) × ((sum_by f xs ≤ symbols) × (greatest (map d xs) ≤ levels))
whole_within f d xs i total symbols levels le so_far few flat =
    let all : sum_by f (take i xs) ≡ sum_by f xs = ap (sum_by f) (take_all i xs le) in
    let deep : greatest (map d (take i xs)) ≡ greatest (map d xs) = ap (λ us. greatest (map d us)) (take_all i xs le) in
    (omega (arith, all, so_far), (omega (arith, all, so_far, few), omega (arith, deep, flat)))

-- an item of a list that is changed
pub at_changed : {A B : Type 0} (h : A → B) (xs : List A) (i : ℕ) (x : A) → i < length xs → x ≡ get_or xs i x → h x ≡ get_or (map h xs) i (h x)
at_changed h xs i x lt at = ap h at ∙ sym (get_or-map h xs i x (h x) lt)

pub below_changed : {A B : Type 0} (h : A → B) (xs : List A) (i : ℕ) → i < length xs → i < length (map h xs)
below_changed h xs i lt = omega (arith, length-map xs h)

pub past_changed : {A B : Type 0} (h : A → B) (xs : List A) (i : ℕ) → length xs ≤ i → length (map h xs) ≤ i
past_changed h xs i le = omega (arith, length-map xs h)

-- predicates
pub pred_outside : (symbols levels p : ℕ) (ts : List Term) → ¬ AreWithin (symbols - 1) (levels - 1) ts → ¬ IsAtomWithin symbols levels (Pred p ts)
pred_outside symbols levels p ts out within = out (omega (arith, within.0), omega (arith, within.1))

pub pred_measured : (symbols levels p n : ℕ) (ts : List Term) → 0 < symbols → 0 < levels → AreMeasured (symbols - 1) (levels - 1) ts (Some n) →
    IsAtomMeasure symbols levels (Pred p ts) (Some (1 + n))
pred_measured symbols levels p n ts some room m = (omega (arith, m.0), (omega (arith, m.0, m.1.0), omega (arith, m.1.1)))

-- equations
both_sizes : (s t : Term) → sum_by size_of (s ∷ t ∷ []) ≡ size_of s + size_of t
both_sizes s t = omega (arith, sum_by-cons size_of s (t ∷ []), sum_by-cons size_of t [])

pub left_outside : (symbols levels : ℕ) (s t : Term) → ¬ IsWithin (symbols - 1) levels s → ¬ IsAtomWithin symbols levels (Equal s t)
left_outside symbols levels s t out within = out (omega (arith, both_sizes s t, within.0), omega (arith, within.1))

pub right_outside : (symbols levels n : ℕ) (s t : Term) → IsMeasure (symbols - 1) levels s (Some n) → ¬ IsWithin (symbols - 1 - n) levels t →
    ¬ IsAtomWithin symbols levels (Equal s t)
right_outside symbols levels n s t m out within = out (omega (arith, both_sizes s t, m.0, within.0), omega (arith, within.1))

pub equal_measured : (symbols levels n k : ℕ) (s t : Term) → 0 < symbols → IsMeasure (symbols - 1) levels s (Some n) →
    IsMeasure (symbols - 1 - n) levels t (Some k) → IsAtomMeasure symbols levels (Equal s t) (Some (1 + n + k))
equal_measured symbols levels n k s t some m w =
    (omega (arith, both_sizes s t, m.0, w.0), (omega (arith, both_sizes s t, m.0, m.1.0, w.0, w.1.0), omega (arith, m.1.1, w.1.1)))

-- the empty substitution changes nothing
applied-nothing : (t : Term) → applied [] t ≡ t
applied-nothing t = substituted-same (value_of []) Var (λ k. refl) t ∙ substituted-identity t

all_nothing : (ts : List Term) → map (applied []) ts ≡ ts
all_nothing [] = refl
all_nothing (t ∷ ts) = ap (λ u. u ∷ map (applied []) ts) (applied-nothing t) ∙ ap (λ us. t ∷ us) (all_nothing ts)

pub literals-nothing : (ls : List Literal) → literals_changed (applied []) ls ≡ ls
literals-nothing ls = fixed_literals (applied []) ls (all_nothing (clause_terms ls))

within_at : (ls : List Literal) (o : Option ℕ) → AreLiteralsMeasured 65535 1000 ls o →
    (is_some o ≡ true → AreLiteralsWithin 65535 1000 ls) × (AreLiteralsWithin 65535 1000 ls → is_some o ≡ true)
within_at ls None m = ((λ e. absurd (false≢true e)), (λ w. absurd (m w)))
within_at ls (Some n) m = ((λ e. m.1), (λ w. refl))

pub within_measured : (ls ms : List Literal) (s : List Term) (o : Option ℕ) (r : Bool) → ms ≡ ls → s ≡ [] → r ≡ is_some o →
    AreLiteralsMeasured 65535 1000 (literals_changed (applied s) ms) o →
    (r ≡ true → AreLiteralsWithin 65535 1000 ls) × (AreLiteralsWithin 65535 1000 ls → r ≡ true)
within_measured ls ms s o r same none is m =
    let plain : literals_changed (applied s) ms ≡ ls =
    ap (λ u. literals_changed (applied u) ms) none ∙ literals-nothing ms ∙ same in
    let found = within_at ls o (subst (λ ks. AreLiteralsMeasured 65535 1000 ks o) plain m) in
    ((λ e. found.0 (sym is ∙ e)), (λ w. is ∙ found.1 w))
