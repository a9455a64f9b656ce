-- The laws of the Knuth-Bendix order against the ground order.
use Rattle.std.proofs.Common.{◌≡◌, ◌≢◌, ℕ, Bool, nat_eq, List, [], ◌∷◌, ◌++◌, map, length, length-append, sum_by, sym, ap, ◌∙◌, refl, arith, inl, inr, ◌⊎◌}
use Rattle.std.specs.Cmp.Lexicographic.{slice_cmp}
use Rattle.std.specs.Ordering.{nat_cmp, ordering_then, ordering_reverse}
use Rattle.std.specs.declared.cmp.Ordering.{Ordering}
use Rattle.std.specs.declared.cmp.Ordering.TheVariants.{Less, Equal}
use Rattle.std.specs.declared.cmp.Ordering.TheVariants as answer
use Rattle.std.proofs.lemmas.Bool.Decides.{nat_tests}
use Rattle.std.proofs.lemmas.Cmp.{nat_list_cmp_total}
use Rattle.std.proofs.lemmas.List.Sums.{sum_by-cons}
use Rattle.cd_term.specs.declared.Term.{Term}
use Rattle.cd_term.specs.declared.Term.TheVariants.{Var, App}
use Rattle.cd_term.specs.Terms.{substituted}
use Rattle.cd_term.proofs.Equations.{substituted-Var, substituted-App}
use Rattle.cd_term.proofs.TermInduction.{Each, ind}
use Rattle.cd_kbo.specs.declared.order.Order.{Order}
use Rattle.cd_kbo.specs.Orders.{rank_at}
use Rattle.cd_kbo.specs.Kbo.{weight_of, occurrences, ground_key, ground_compare, Covers, IsGround, Precedes, GreaterOn, Every, by_weight, by_head, by_argument}
use Rattle.cd_kbo.proofs.KboEquations.{weight_of-Var, weight_of-App, ground_key-Var, ground_key-App, occurrences-Var, occurrences-App}
use Rattle.cd_kbo.proofs.Small.{weight_positive}
use Rattle.std.proofs.lemmas.List.{length-map}
use Rattle.std.specs.List.{flat_map}
use Rattle.cd_kbo.proofs.Orderings.{both_equal, nat_cmp-Equal, nat_cmp-Greater, is_equal, after_same}
use Rattle.cd_kbo.proofs.GroundLemmas.{cases_of, ground-App-App, ground_by_weight, ground_itself, ground_same, ground_first, ground_heads, ground-Var-Var, ground-Var-App}

-- a longer chain of answers is decided where a shorter one is
more_decided : (a y z : Ordering) → (y ≡ answer.Greater → z ≡ answer.Greater) → ordering_then a y ≡ answer.Greater → ordering_then a z ≡ answer.Greater
more_decided Less y z h e = e
more_decided Equal y z h e = h e
more_decided answer.Greater y z h e = refl

head_decided : (a b c z : Ordering) → ordering_then a (ordering_then b (ordering_then c Equal)) ≡ answer.Greater →
    ordering_then a (ordering_then b (ordering_then c z)) ≡ answer.Greater
head_decided a b c z e =
    more_decided a (ordering_then b (ordering_then c Equal)) (ordering_then b (ordering_then c z))
    (more_decided b (ordering_then c Equal) (ordering_then c z) (more_decided c Equal z (λ h. cc))) e

-- one head above another
pub heads_back : (xs ys : List ℕ) → slice_cmp nat_cmp xs ys ≡ Less → slice_cmp nat_cmp ys xs ≡ answer.Greater
heads_back xs ys e = nat_list_cmp_total.antisymm ys xs ∙ ap ordering_reverse e

pub heads_forth : (xs ys : List ℕ) → slice_cmp nat_cmp xs ys ≡ answer.Greater → slice_cmp nat_cmp ys xs ≡ Less
heads_forth xs ys e = nat_list_cmp_total.antisymm ys xs ∙ ap ordering_reverse e

ground_by_head : (o : Order) (f g : ℕ) (ss ts : List Term) → weight_of o (App g ts) ≡ weight_of o (App f ss) →
    Precedes o g (length ts) f (length ss) → ground_compare o (App f ss) (App g ts) ≡ answer.Greater
ground_by_head o f g ss ts w p =
    ground-App-App o f g ss ts ∙
    ap (λ (c : Ordering). ordering_then c (ordering_then (nat_cmp (rank_at o f) (rank_at o g)) (ordering_then (nat_cmp (length ss) (length ts))
    (ordering_then (nat_cmp f g) (slice_cmp (ground_compare o) ss ts)))))
    (is_equal (weight_of o (App f ss)) (weight_of o (App g ts)) (sym w)) ∙
    head_decided (nat_cmp (rank_at o f) (rank_at o g)) (nat_cmp (length ss) (length ts)) (nat_cmp f g) (slice_cmp (ground_compare o) ss ts)
    (heads_back (rank_at o g ∷ length ts ∷ g ∷ []) (rank_at o f ∷ length ss ∷ f ∷ []) p)

ground_by_argument : (o : Order) (f : ℕ) (before x y : List Term) (a b : Term) →
    weight_of o (App f (before ++ b ∷ y)) ≡ weight_of o (App f (before ++ a ∷ x)) → length x ≡ length y →
    ground_compare o a b ≡ answer.Greater → ground_compare o (App f (before ++ a ∷ x)) (App f (before ++ b ∷ y)) ≡ answer.Greater
ground_by_argument o f before x y a b w same e =
    let many : length (before ++ a ∷ x) ≡ length (before ++ b ∷ y) = omega (arith, length-append before (a ∷ x), length-append before (b ∷ y)) in
    let arguments : slice_cmp (ground_compare o) (before ++ a ∷ x) (before ++ b ∷ y) ≡ answer.Greater =
    after_same (ground_compare o) (ground_itself o) before (a ∷ x) (b ∷ y) ∙
    ap (λ (c : Ordering). ordering_then c (slice_cmp (ground_compare o) x y)) e in
    ground-App-App o f f (before ++ a ∷ x) (before ++ b ∷ y) ∙
    (λ i. ordering_then (is_equal (weight_of o (App f (before ++ a ∷ x))) (weight_of o (App f (before ++ b ∷ y))) (sym w) i)
    (ordering_then (is_equal (rank_at o f) (rank_at o f) refl i)
    (ordering_then (is_equal (length (before ++ a ∷ x)) (length (before ++ b ∷ y)) many i)
    (ordering_then (is_equal f f refl i) (arguments i)))))

-- greater is above in the ground order
pub above : (V : ℕ → Type 0) (o : Order) (s t : Term) → GreaterOn V o s t → ground_compare o s t ≡ answer.Greater
above V o s t (by_weight _ _ c w) = ground_by_weight o s t w
above V o s t (by_head _ _ f g ss ts c w p q h) =
    (λ i. ground_compare o (p i) (q i)) ∙ ground_by_head o f g ss ts (sym (ap (weight_of o) q) ∙ w ∙ ap (weight_of o) p) h
above V o s t (by_argument _ _ a b c w d g) =
    (λ i. ground_compare o (d.left i) (d.right i)) ∙
    ground_by_argument o d.head d.before d.after_a d.after_b a b (sym (ap (weight_of o) d.right) ∙ w ∙ ap (weight_of o) d.left) d.as_many (above V o a b g)

not_equal : Equal ≢ answer.Greater
not_equal e = cc

pub irreflexive : (V : ℕ → Type 0) (o : Order) (s t : Term) → GreaterOn V o s t → s ≢ t
irreflexive V o s t g e = not_equal (sym (ground_itself o s) ∙ ap (ground_compare o s) e ∙ above V o s t g)

-- On terms without variables.
sums_none : (k : ℕ) (ts : List Term) → sum_by (occurrences k) ts ≡ 0 → Each (λ t. occurrences k t ≡ 0) ts
sums_none k [] e = tt
sums_none k (t ∷ ts) e =
    let rest : sum_by (occurrences k) ts ≡ 0 = omega (arith, sum_by-cons (occurrences k) t ts) in
    let here : occurrences k t ≡ 0 = omega (arith, sum_by-cons (occurrences k) t ts) in
    (here, sums_none k ts rest)

head_ground : (t : Term) (ts : List Term) → ((k : ℕ) → sum_by (occurrences k) (t ∷ ts) ≡ 0) → IsGround t
head_ground t ts h = record { at_each = λ k. (sums_none k (t ∷ ts) (h k)).0 }

tail_ground : (t : Term) (ts : List Term) → ((k : ℕ) → sum_by (occurrences k) (t ∷ ts) ≡ 0) → (k : ℕ) → sum_by (occurrences k) ts ≡ 0
tail_ground t ts h k = omega (arith, h k, sum_by-cons (occurrences k) t ts)

arguments_ground : (f : ℕ) (ts : List Term) → IsGround (App f ts) → (k : ℕ) → sum_by (occurrences k) ts ≡ 0
arguments_ground f ts g k = sym (occurrences-App k f ts) ∙ g.at_each k

no_variable : (n : ℕ) → IsGround (Var n) → ⊥
no_variable n g = at (nat_eq n n) refl
  where
    at : (b : Bool) → nat_eq n n ≡ b → ⊥
    at b e = grind (arith, nat_tests, occurrences-Var n n, g.at_each n)

lists_ground : (ts : List Term) → Each (λ t. IsGround t → substituted (λ n. Var 0) t ≡ t) ts → ((k : ℕ) → sum_by (occurrences k) ts ≡ 0) →
    map (substituted (λ n. Var 0)) ts ≡ ts
lists_ground [] h g = refl
lists_ground (t ∷ ts) h g = λ i. h.0 (head_ground t ts g) i ∷ lists_ground ts h.1 (tail_ground t ts g) i

-- it is its own ground form
pub ground_fixed : (t : Term) → IsGround t → substituted (λ n. Var 0) t ≡ t
ground_fixed = ind (λ t. IsGround t → substituted (λ n. Var 0) t ≡ t)
    (λ n g. absurd (no_variable n g))
    (λ f ts h g. substituted-App (λ n. Var 0) f ts ∙ ap (App f) (lists_ground ts h (arguments_ground f ts g)))

pub ground_equal : (o : Order) (s t : Term) → IsGround s → IsGround t → ground_compare o s t ≡ Equal → s ≡ t
ground_equal o s t g h e = sym (ground_fixed s g) ∙ ground_same o s t e ∙ ground_fixed t h

ground_covers : (s t : Term) → IsGround t → Covers Every s t
ground_covers s t h = record { at_each = λ k v. omega (arith, h.at_each k) }

then_greater : (a b : Ordering) → ordering_then a b ≡ answer.Greater → (a ≡ answer.Greater) ⊎ ((a ≡ Equal) × (b ≡ answer.Greater))
then_greater Less b e = cc
then_greater Equal b e = inr (refl, e)
then_greater answer.Greater b e = inl refl

-- the first arguments that differ, of which the left one is greater
record Found (o : Order) (ss ts : List Term) : Type 0 where
  pub before : List Term
  pub a : Term
  pub b : Term
  pub after_a : List Term
  pub after_b : List Term
  pub left : ss ≡ before ++ a ∷ after_a
  pub right : ts ≡ before ++ b ∷ after_b
  pub as_many : length after_a ≡ length after_b
  pub is_greater : GreaterOn Every o a b

find : (o : Order) (ss : List Term) → Each (λ s. (t : Term) → IsGround s → IsGround t → ground_compare o s t ≡ answer.Greater → GreaterOn Every o s t) ss →
    (ts : List Term) → length ss ≡ length ts → ((k : ℕ) → sum_by (occurrences k) ss ≡ 0) → ((k : ℕ) → sum_by (occurrences k) ts ≡ 0) →
    slice_cmp (ground_compare o) ss ts ≡ answer.Greater → Found o ss ts
find o [] h [] many g k e = cc
find o [] h (t ∷ ts) many g k e = cc
find o (s ∷ ss) h [] many g k e = absurd (omega arith)
find o (s ∷ ss) h (t ∷ ts) many g k e =
    let rest : length ss ≡ length ts = omega arith in
    elim (then_greater (ground_compare o s t) (slice_cmp (ground_compare o) ss ts) e) as (λ _. Found o (s ∷ ss) (t ∷ ts)) [
      | inl up ↦ record {
        before = [];
        a = s;
        b = t;
        after_a = ss;
        after_b = ts;
        left = refl;
        right = refl;
        as_many = rest;
        is_greater = h.0 t (head_ground s ss g) (head_ground t ts k) up;
      }
      | inr both ↦ let deeper = find o ss h.1 ts rest (tail_ground s ss g) (tail_ground t ts k) both.1 in record {
        before = s ∷ deeper.before;
        a = deeper.a;
        b = deeper.b;
        after_a = deeper.after_a;
        after_b = deeper.after_b;
        left = ap (λ (zs : List Term). s ∷ zs) deeper.left;
        right = λ i. sym (ground_equal o s t (head_ground s ss g) (head_ground t ts k) both.0) i ∷ deeper.right i;
        as_many = deeper.as_many;
        is_greater = deeper.is_greater;
      }
    ]

triple_equal : (a b c x y z : ℕ) → slice_cmp nat_cmp (a ∷ b ∷ c ∷ []) (x ∷ y ∷ z ∷ []) ≡ Equal → (b ≡ y) × (c ≡ z)
triple_equal a b c x y z e =
    let p = both_equal (nat_cmp a x) (ordering_then (nat_cmp b y) (ordering_then (nat_cmp c z) Equal)) e in
    let q = both_equal (nat_cmp b y) (ordering_then (nat_cmp c z) Equal) p.1 in
    (nat_cmp-Equal b y q.0, nat_cmp-Equal c z (both_equal (nat_cmp c z) Equal q.1).0)

ground_applications : (o : Order) (f : ℕ) (ss : List Term) →
    Each (λ s. (t : Term) → IsGround s → IsGround t → ground_compare o s t ≡ answer.Greater → GreaterOn Every o s t) ss → (g : ℕ) (ts : List Term) →
    IsGround (App f ss) → IsGround (App g ts) → ground_compare o (App f ss) (App g ts) ≡ answer.Greater → GreaterOn Every o (App f ss) (App g ts)
ground_applications o f ss h g ts p q e =
    elim (then_greater (nat_cmp (weight_of o (App f ss)) (weight_of o (App g ts))) (ground_first o (App f ss) (App g ts)).0
    (sym (ground_first o (App f ss) (App g ts)).1 ∙ e)) as (λ _. GreaterOn Every o (App f ss) (App g ts)) [
      | inl heavy ↦ by_weight (App f ss) (App g ts) (ground_covers (App f ss) (App g ts) q) (nat_cmp-Greater _ _ heavy)
      | inr level ↦
          let w : weight_of o (App f ss) ≡ weight_of o (App g ts) = nat_cmp-Equal _ _ level.0 in
          elim (then_greater (slice_cmp nat_cmp (rank_at o f ∷ length ss ∷ f ∷ []) (rank_at o g ∷ length ts ∷ g ∷ [])) (slice_cmp (ground_compare o) ss ts)
          (sym (ground_heads o f g ss ts w) ∙ e)) as (λ _. GreaterOn Every o (App f ss) (App g ts)) [
            | inl head ↦ by_head (App f ss) (App g ts) f g ss ts (ground_covers (App f ss) (App g ts) q) (sym w) refl refl
                (heads_forth (rank_at o f ∷ length ss ∷ f ∷ []) (rank_at o g ∷ length ts ∷ g ∷ []) head)
            | inr arguments ↦
                let same = triple_equal (rank_at o f) (length ss) f (rank_at o g) (length ts) g arguments.0 in
                let d = find o ss h ts same.0 (arguments_ground f ss p) (arguments_ground g ts q) arguments.1 in
                by_argument (App f ss) (App g ts) d.a d.b (ground_covers (App f ss) (App g ts) q) (sym w)
                (record {
                  head = f;
                  before = d.before;
                  after_a = d.after_a;
                  after_b = d.after_b;
                  left = ap (App f) d.left;
                  right = λ i. App (sym same.1 i) (d.right i);
                  as_many = d.as_many;
                  differ = irreflexive Every o d.a d.b d.is_greater;
                }) d.is_greater
          ]
    ]

-- on ground terms the two orders agree
pub agree : (o : Order) (s t : Term) → IsGround s → IsGround t → ground_compare o s t ≡ answer.Greater → GreaterOn Every o s t
agree o = ind (λ s. (t : Term) → IsGround s → IsGround t → ground_compare o s t ≡ answer.Greater → GreaterOn Every o s t)
    (λ n t p q e. absurd (no_variable n p))
    (λ f ss h. cases_of (λ t. IsGround (App f ss) → IsGround t → ground_compare o (App f ss) t ≡ answer.Greater → GreaterOn Every o (App f ss) t)
    (λ m p q e. absurd (no_variable m q))
    (λ g ts. ground_applications o f ss h g ts))

-- `bot` is least
then_no_more : (a : Ordering) → a ≢ answer.Greater → ordering_then a Less ≢ answer.Greater
then_no_more Less h e = cc
then_no_more Equal h e = cc
then_no_more answer.Greater h e = h refl

pub bot_least : (o : Order) (n : ℕ) (t : Term) → ground_compare o (Var n) t ≢ answer.Greater
bot_least o n = cases_of (λ t. ground_compare o (Var n) t ≢ answer.Greater)
    (λ m e. not_equal (sym (ground-Var-Var o n m) ∙ e))
    (λ g ts e. then_no_more (nat_cmp 1 (weight_of o (App g ts)))
    (λ h. absurd (omega (arith, nat_cmp-Greater 1 (weight_of o (App g ts)) h, weight_positive o (App g ts))))
    (sym (ground-Var-App o n g ts) ∙ e))

-- each variable is read as `bot`
weights_grounded : (o : Order) (ts : List Term) → Each (λ t. weight_of o (substituted (λ n. Var 0) t) ≡ weight_of o t) ts →
    sum_by (weight_of o) (map (substituted (λ n. Var 0)) ts) ≡ sum_by (weight_of o) ts
weights_grounded o [] h = refl
weights_grounded o (t ∷ ts) h = omega (
  arith,
  h.0,
  weights_grounded o ts h.1,
  sum_by-cons (weight_of o) t ts,
  sum_by-cons (weight_of o) (substituted (λ n. Var 0) t) (map (substituted (λ n. Var 0)) ts),
)

weight_grounded : (o : Order) (t : Term) → weight_of o (substituted (λ n. Var 0) t) ≡ weight_of o t
weight_grounded o = ind (λ t. weight_of o (substituted (λ n. Var 0) t) ≡ weight_of o t)
    (λ n. ap (weight_of o) (substituted-Var (λ n. Var 0) n) ∙ weight_of-Var o 0 ∙ sym (weight_of-Var o n))
    (λ f ts h. omega (
      arith,
      ap (weight_of o) (substituted-App (λ n. Var 0) f ts),
      weight_of-App o f (map (substituted (λ n. Var 0)) ts),
      weight_of-App o f ts,
      weights_grounded o ts h,
    ))

keys_grounded : (o : Order) (ts : List Term) → Each (λ t. ground_key o (substituted (λ n. Var 0) t) ≡ ground_key o t) ts →
    flat_map (ground_key o) (map (substituted (λ n. Var 0)) ts) ≡ flat_map (ground_key o) ts
keys_grounded o [] h = refl
keys_grounded o (t ∷ ts) h = λ i. h.0 i ++ keys_grounded o ts h.1 i

pub key_grounded : (o : Order) (t : Term) → ground_key o (substituted (λ n. Var 0) t) ≡ ground_key o t
key_grounded o = ind (λ t. ground_key o (substituted (λ n. Var 0) t) ≡ ground_key o t)
    (λ n. ap (ground_key o) (substituted-Var (λ n. Var 0) n) ∙ ground_key-Var o 0 ∙ sym (ground_key-Var o n))
    (λ f ts h.
    let w : weight_of o (App f (map (substituted (λ n. Var 0)) ts)) ≡ weight_of o (App f ts) =
    sym (ap (weight_of o) (substituted-App (λ n. Var 0) f ts)) ∙ weight_grounded o (App f ts) in
    ap (ground_key o) (substituted-App (λ n. Var 0) f ts) ∙ ground_key-App o f (map (substituted (λ n. Var 0)) ts) ∙
    (λ i. w i ∷ 1 ∷ rank_at o f ∷ length-map ts (substituted (λ n. Var 0)) i ∷ f ∷ keys_grounded o ts h i) ∙
    sym (ground_key-App o f ts))
