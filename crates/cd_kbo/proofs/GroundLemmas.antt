-- The laws of the ground order.
use Rattle.std.proofs.Common.{◌≡◌, ◌≢◌, ℕ, ◌+◌, ◌<◌, ◌≤◌, List, [], ◌∷◌, ◌++◌, map, length, length-append, sum_by, sym, ap, ◌∙◌, refl, arith}
use Rattle.std.specs.List.{flat_map}
use Rattle.std.specs.Cmp.{IsTotalOrder}
use Rattle.std.specs.Cmp.Lexicographic.{slice_cmp}
use Rattle.std.specs.Ordering.{nat_cmp, ordering_then}
use Rattle.std.specs.declared.cmp.Ordering.{Ordering}
use Rattle.std.specs.declared.cmp.Ordering.TheVariants.{Less, Equal, Greater}
use Rattle.std.proofs.lemmas.Cmp.{nat_list_cmp_total, on_total, tied_itself}
use Rattle.std.proofs.lemmas.List.Sums.{sum_by-cons, sum_by-append}
use Rattle.cd_term.specs.declared.Term.{Term}
use Rattle.cd_term.specs.declared.Term.TheVariants.{Var, App}
use Rattle.cd_term.specs.Terms.{substituted}
use Rattle.cd_term.proofs.Equations.{substituted-Var, substituted-App}
use Rattle.cd_term.proofs.TermInduction.{Each, ind}
use Rattle.cd_kbo.specs.declared.order.Order.{Order}
use Rattle.cd_kbo.specs.Orders.{weight_at, rank_at}
use Rattle.cd_kbo.specs.Kbo.{weight_of, ground_key, ground_compare}
use Rattle.cd_kbo.proofs.KboEquations.{weight_of-Var, weight_of-App, ground_key-Var, ground_key-App}
use Rattle.cd_kbo.proofs.Orderings.{then_under, then_less, both_equal, nat_cmp-Equal, nat_cmp-Greater, is_equal, is_greater, after_same, Splits, splits_none, splits_cons, splits_append, splits_moved, less_not_greater}

-- a term is a variable or an application
pub cases_of : (P : Term → Type 0) → ((n : ℕ) → P (Var n)) → ((f : ℕ) (ts : List Term) → P (App f ts)) → (t : Term) → P t
cases_of P v a = ind P v (λ f ts h. a f ts)

-- the keys of two lists of arguments, as many in each
flat_splits : (o : Order) (ss : List Term) → Each (λ s. (t : Term) → Splits (ground_key o s) (ground_key o t)) ss →
    (ts : List Term) → length ss ≡ length ts → Splits (flat_map (ground_key o) ss) (flat_map (ground_key o) ts)
flat_splits o [] h [] e = splits_none
flat_splits o [] h (t ∷ ts) e = absurd (omega arith)
flat_splits o (s ∷ ss) h [] e = absurd (omega arith)
flat_splits o (s ∷ ss) h (t ∷ ts) e =
    let as_many : length ss ≡ length ts = omega arith in
    splits_append (ground_key o s) (ground_key o t) (flat_map (ground_key o) ss) (flat_map (ground_key o) ts)
    (h.0 t) (flat_splits o ss h.1 ts as_many)

-- no key is a proper beginning of another
pub key_splits : (o : Order) (s t : Term) → Splits (ground_key o s) (ground_key o t)
key_splits o = ind (λ s. (t : Term) → Splits (ground_key o s) (ground_key o t))
    (λ n. cases_of (λ t. Splits (ground_key o (Var n)) (ground_key o t))
    (λ m. splits_moved _ _ _ _ (ground_key-Var o n) (ground_key-Var o m) (splits_cons 1 1 _ _ (λ e. splits_cons 0 0 [] [] (λ e. splits_none))))
    (λ g ts. splits_moved _ _ _ _ (ground_key-Var o n) (ground_key-App o g ts)
    (splits_cons 1 (weight_of o (App g ts)) _ _ (λ e. splits_cons 0 1 [] _ (λ (e : 0 ≡ 1). absurd (omega arith))))))
    (λ f ss h. cases_of (λ t. Splits (ground_key o (App f ss)) (ground_key o t))
    (λ m. splits_moved _ _ _ _ (ground_key-App o f ss) (ground_key-Var o m)
    (splits_cons (weight_of o (App f ss)) 1 _ _ (λ e. splits_cons 1 0 _ [] (λ (e : 1 ≡ 0). absurd (omega arith)))))
    (λ g ts. splits_moved _ _ _ _ (ground_key-App o f ss) (ground_key-App o g ts)
    (splits_cons (weight_of o (App f ss)) (weight_of o (App g ts)) _ _ (λ e. splits_cons 1 1 _ _ (λ e.
    splits_cons (rank_at o f) (rank_at o g) _ _ (λ e. splits_cons (length ss) (length ts) _ _ (λ as_many.
    splits_cons f g _ _ (λ e. flat_splits o ss h ts as_many))))))))

-- the keys of the arguments against each other are the arguments against each other
pub flat_compare : (o : Order) (ss ts : List Term) → length ss ≡ length ts →
    slice_cmp nat_cmp (flat_map (ground_key o) ss) (flat_map (ground_key o) ts) ≡ slice_cmp (ground_compare o) ss ts
flat_compare o [] [] e = refl
flat_compare o [] (t ∷ ts) e = absurd (omega arith)
flat_compare o (s ∷ ss) [] e = absurd (omega arith)
flat_compare o (s ∷ ss) (t ∷ ts) e =
    let as_many : length ss ≡ length ts = omega arith in
    (key_splits o s t).at (flat_map (ground_key o) ss) (flat_map (ground_key o) ts) ∙
    ap (ordering_then (ground_compare o s t)) (flat_compare o ss ts as_many)

-- weights, then ranks, then the numbers of arguments, then the symbols, then the first arguments that differ
pub ground-App-App : (o : Order) (f g : ℕ) (ss ts : List Term) →
    ground_compare o (App f ss) (App g ts) ≡
    ordering_then (nat_cmp (weight_of o (App f ss)) (weight_of o (App g ts)))
    (ordering_then (nat_cmp (rank_at o f) (rank_at o g))
    (ordering_then (nat_cmp (length ss) (length ts))
    (ordering_then (nat_cmp f g) (slice_cmp (ground_compare o) ss ts))))
ground-App-App o f g ss ts =
    (λ i. slice_cmp nat_cmp (ground_key-App o f ss i) (ground_key-App o g ts i)) ∙
    ap (λ (z : Ordering). ordering_then (nat_cmp (weight_of o (App f ss)) (weight_of o (App g ts))) (ordering_then (nat_cmp (rank_at o f) (rank_at o g)) z))
    (then_under (nat_cmp (length ss) (length ts)) _ _
    (λ e. ap (ordering_then (nat_cmp f g)) (flat_compare o ss ts (nat_cmp-Equal _ _ e))))

pub ground-Var-Var : (o : Order) (n m : ℕ) → ground_compare o (Var n) (Var m) ≡ Equal
ground-Var-Var o n m = λ i. slice_cmp nat_cmp (ground_key-Var o n i) (ground_key-Var o m i)

pub ground-Var-App : (o : Order) (n g : ℕ) (ts : List Term) →
    ground_compare o (Var n) (App g ts) ≡ ordering_then (nat_cmp 1 (weight_of o (App g ts))) Less
ground-Var-App o n g ts = λ i. slice_cmp nat_cmp (ground_key-Var o n i) (ground_key-App o g ts i)

pub ground-App-Var : (o : Order) (f n : ℕ) (ss : List Term) →
    ground_compare o (App f ss) (Var n) ≡ ordering_then (nat_cmp (weight_of o (App f ss)) 1) Greater
ground-App-Var o f n ss = λ i. slice_cmp nat_cmp (ground_key-App o f ss i) (ground_key-Var o n i)

-- antisymmetric, transitive, and equal terms compare alike
pub ground_total : (o : Order) → IsTotalOrder (ground_compare o)
ground_total o = on_total (ground_key o) nat_list_cmp_total

pub ground_itself : (o : Order) (t : Term) → ground_compare o t t ≡ Equal
ground_itself o = tied_itself (ground_total o)

pub ground_irreflexive : (o : Order) (t : Term) → ground_compare o t t ≢ Less
ground_irreflexive o t e = cc (ground_itself o t)

pub ground_transitive : (o : Order) (r s t : Term) → ground_compare o r s ≡ Less → ground_compare o s t ≡ Less → ground_compare o r t ≡ Less
ground_transitive o = (ground_total o).trans

-- the weight stands first
key_first : (o : Order) (t : Term) → (rest : List ℕ) × (ground_key o t ≡ weight_of o t ∷ rest)
key_first o = cases_of (λ t. (rest : List ℕ) × (ground_key o t ≡ weight_of o t ∷ rest))
    (λ n. (0 ∷ [], ground_key-Var o n ∙ (λ i. sym (weight_of-Var o n) i ∷ 0 ∷ [])))
    (λ f ts. (1 ∷ rank_at o f ∷ length ts ∷ f ∷ flat_map (ground_key o) ts, ground_key-App o f ts))

pub ground_by_weight : (o : Order) (s t : Term) → weight_of o t < weight_of o s → ground_compare o s t ≡ Greater
ground_by_weight o s t h =
    (λ i. slice_cmp nat_cmp ((key_first o s).1 i) ((key_first o t).1 i)) ∙
    ap (λ (c : Ordering). ordering_then c (slice_cmp nat_cmp (key_first o s).0 (key_first o t).0)) (is_greater (weight_of o s) (weight_of o t) h)

-- the smaller term weighs no more
pub ground_weights : (o : Order) (s t : Term) → ground_compare o s t ≡ Less → weight_of o s ≤ weight_of o t
ground_weights o s t e =
    let too_heavy : weight_of o t < weight_of o s → ⊥ = λ h. less_not_greater (sym e ∙ ground_by_weight o s t h) in
    omega (arith, too_heavy)

-- each variable read as `bot`, which is the variable 0
pub grounded : Term → Term
grounded = substituted (λ n. Var 0)

decided_less : (c : Ordering) → ordering_then c Less ≢ Equal
decided_less Less e = cc
decided_less Equal e = cc
decided_less Greater e = cc

decided_greater : (c : Ordering) → ordering_then c Greater ≢ Equal
decided_greater Less e = cc
decided_greater Equal e = cc
decided_greater Greater e = cc

lists_same : (o : Order) (ss : List Term) → Each (λ s. (t : Term) → ground_compare o s t ≡ Equal → substituted (λ n. Var 0) s ≡ substituted (λ n. Var 0) t) ss →
    (ts : List Term) → slice_cmp (ground_compare o) ss ts ≡ Equal → map (substituted (λ n. Var 0)) ss ≡ map (substituted (λ n. Var 0)) ts
lists_same o [] h [] e = refl
lists_same o [] h (t ∷ ts) e = cc
lists_same o (s ∷ ss) h [] e = cc
lists_same o (s ∷ ss) h (t ∷ ts) e =
    let b = both_equal (ground_compare o s t) (slice_cmp (ground_compare o) ss ts) e in
    λ i. h.0 t b.0 i ∷ lists_same o ss h.1 ts b.1 i

-- total: terms that compare as equal are the same ground term
pub ground_same : (o : Order) (s t : Term) → ground_compare o s t ≡ Equal → substituted (λ n. Var 0) s ≡ substituted (λ n. Var 0) t
ground_same o = ind (λ s. (t : Term) → ground_compare o s t ≡ Equal → substituted (λ n. Var 0) s ≡ substituted (λ n. Var 0) t)
    (λ n. cases_of (λ t. ground_compare o (Var n) t ≡ Equal → substituted (λ n. Var 0) (Var n) ≡ substituted (λ n. Var 0) t)
    (λ m e. substituted-Var (λ n. Var 0) n ∙ sym (substituted-Var (λ n. Var 0) m))
    (λ g ts e. absurd (decided_less (nat_cmp 1 (weight_of o (App g ts))) (sym (ground-Var-App o n g ts) ∙ e))))
    (λ f ss h. cases_of (λ t. ground_compare o (App f ss) t ≡ Equal → substituted (λ n. Var 0) (App f ss) ≡ substituted (λ n. Var 0) t)
    (λ m e. absurd (decided_greater (nat_cmp (weight_of o (App f ss)) 1) (sym (ground-App-Var o f m ss) ∙ e)))
    (λ g ts e.
    let b = both_equal (nat_cmp (weight_of o (App f ss)) (weight_of o (App g ts))) _ (sym (ground-App-App o f g ss ts) ∙ e) in
    let c = both_equal (nat_cmp (rank_at o f) (rank_at o g)) _ b.1 in
    let d = both_equal (nat_cmp (length ss) (length ts)) _ c.1 in
    let k = both_equal (nat_cmp f g) (slice_cmp (ground_compare o) ss ts) d.1 in
    substituted-App (λ n. Var 0) f ss ∙
    (λ i. App (nat_cmp-Equal f g k.0 i) (lists_same o ss h ts k.1 i)) ∙
    sym (substituted-App (λ n. Var 0) g ts)))

-- the weight of an application whose arguments are the same but for one
weight_at_argument : (o : Order) (f : ℕ) (before after : List Term) (s : Term) →
    weight_of o (App f (before ++ s ∷ after)) ≡ weight_at o f + (sum_by (weight_of o) before + (weight_of o s + sum_by (weight_of o) after))
weight_at_argument o f before after s =
    omega (arith, weight_of-App o f (before ++ s ∷ after), sum_by-append (weight_of o) before (s ∷ after), sum_by-cons (weight_of o) s after)

-- monotone in contexts, one layer
pub ground_monotone : (o : Order) (f : ℕ) (before after : List Term) (s t : Term) → ground_compare o s t ≡ Less →
    ground_compare o (App f (before ++ s ∷ after)) (App f (before ++ t ∷ after)) ≡ Less
ground_monotone o f before after s t e =
    let w : weight_of o (App f (before ++ s ∷ after)) ≤ weight_of o (App f (before ++ t ∷ after)) =
    omega (arith, weight_at_argument o f before after s, weight_at_argument o f before after t, ground_weights o s t e) in
    let not_heavier : nat_cmp (weight_of o (App f (before ++ s ∷ after))) (weight_of o (App f (before ++ t ∷ after))) ≢ Greater =
    λ h. absurd (omega (arith, nat_cmp-Greater (weight_of o (App f (before ++ s ∷ after))) (weight_of o (App f (before ++ t ∷ after))) h)) in
    let many : length (before ++ s ∷ after) ≡ length (before ++ t ∷ after) =
    omega (arith, length-append before (s ∷ after), length-append before (t ∷ after)) in
    let arguments : slice_cmp (ground_compare o) (before ++ s ∷ after) (before ++ t ∷ after) ≡ Less =
    after_same (ground_compare o) (ground_itself o) before (s ∷ after) (t ∷ after) ∙
    ap (λ (c : Ordering). ordering_then c (slice_cmp (ground_compare o) after after)) e in
    ground-App-App o f f (before ++ s ∷ after) (before ++ t ∷ after) ∙
    then_less _ _ not_heavier
    ((λ i. ordering_then (is_equal (rank_at o f) (rank_at o f) refl i)
    (ordering_then (is_equal (length (before ++ s ∷ after)) (length (before ++ t ∷ after)) many i)
    (ordering_then (is_equal f f refl i) (arguments i)))))

-- the weights are compared first
pub ground_first : (o : Order) (s t : Term) → (z : Ordering) × (ground_compare o s t ≡ ordering_then (nat_cmp (weight_of o s) (weight_of o t)) z)
ground_first o s t = (slice_cmp nat_cmp (key_first o s).0 (key_first o t).0, λ i. slice_cmp nat_cmp ((key_first o s).1 i) ((key_first o t).1 i))

-- at equal weights the heads are compared, and then the arguments
pub ground_heads : (o : Order) (f g : ℕ) (ss ts : List Term) → weight_of o (App f ss) ≡ weight_of o (App g ts) →
    ground_compare o (App f ss) (App g ts) ≡
    ordering_then (slice_cmp nat_cmp (rank_at o f ∷ length ss ∷ f ∷ []) (rank_at o g ∷ length ts ∷ g ∷ [])) (slice_cmp (ground_compare o) ss ts)
ground_heads o f g ss ts w =
    ground-App-App o f g ss ts ∙
    ap (λ (c : Ordering). ordering_then c (ordering_then (nat_cmp (rank_at o f) (rank_at o g)) (ordering_then (nat_cmp (length ss) (length ts))
    (ordering_then (nat_cmp f g) (slice_cmp (ground_compare o) ss ts)))))
    (is_equal (weight_of o (App f ss)) (weight_of o (App g ts)) w) ∙
    grouped (nat_cmp (rank_at o f) (rank_at o g)) (nat_cmp (length ss) (length ts)) (nat_cmp f g) (slice_cmp (ground_compare o) ss ts)
  where
    grouped : (a b c z : Ordering) → ordering_then a (ordering_then b (ordering_then c z)) ≡
        ordering_then (ordering_then a (ordering_then b (ordering_then c Equal))) z
    grouped Less b c z = refl
    grouped Greater b c z = refl
    grouped Equal Less c z = refl
    grouped Equal Greater c z = refl
    grouped Equal Equal Less z = refl
    grouped Equal Equal Greater z = refl
    grouped Equal Equal Equal z = refl
