-- What the walk of the Knuth-Bendix order owes.
use Rattle.std.proofs.Common.{◌≡◌, ◌≢◌, ℕ, suc, ◌+◌, ◌<◌, ◌≤◌, Bool, true, false, List, [], ◌∷◌, ◌++◌, length, length-drop, length-append, get_or, take, drop, sym, ap, ◌∙◌, refl, subst, arith, ◌⊎◌, inl, inr, ⊎_elim}
use Rattle.std.specs.Prelude.{◌↔◌, IsTrue}
use Rattle.std.specs.Cmp.Lexicographic.{slice_cmp}
use Rattle.std.specs.Ordering.{nat_cmp, ordering_then, is_ne, is_lt}
use Rattle.std.specs.declared.cmp.Ordering.{Ordering}
use Rattle.std.specs.declared.cmp.Ordering.TheVariants.{Less, Equal}
use Rattle.std.specs.declared.cmp.Ordering.TheVariants as answer
use Rattle.std.proofs.lemmas.Bool.{cases_lt, true≢false}
use Rattle.std.proofs.lemmas.Cmp.{nat_list_cmp_total, tied_itself}
use Rattle.std.proofs.lemmas.List.{take_all, take_more}
use Rattle.std.proofs.Math.Seq.{split_at}
use Rattle.cd_term.specs.declared.Term.{Term, out-Term}
use Rattle.cd_term.specs.declared.Term.TheVariants.{Var, App, outs-Var, outs-App}
use Rattle.cd_term.specs.declared.Term.TheOpen as layer
use Rattle.cd_term.proofs.VariableLaws.{App-injective}
use Rattle.cd_kbo.specs.declared.order.Order.{Order}
use Rattle.cd_kbo.specs.Orders.{rank_at}
use Rattle.cd_kbo.specs.Kbo.{weight_of, ground_compare, Covers, FirstDifference, GreaterOn, by_weight, by_head, by_argument}
use Rattle.cd_kbo.proofs.Orderings.{not_ne, both_equal, nat_cmp-Equal}
use Rattle.cd_kbo.proofs.GroundLemmas.{ground_heads}
use Rattle.cd_kbo.proofs.KboLemmas.{heads_back, heads_forth, above, irreflexive}

pub covers_of : (V : ℕ → Type 0) (o : Order) (s t : Term) → GreaterOn V o s t → Covers V s t
covers_of V o s t (by_weight _ _ c w) = c
covers_of V o s t (by_head _ _ f g ss ts c w p q h) = c
covers_of V o s t (by_argument _ _ a b c w d g) = c

pub weights_of : (V : ℕ → Type 0) (o : Order) (s t : Term) → GreaterOn V o s t → weight_of o t ≤ weight_of o s
weights_of V o s t (by_weight _ _ c w) = omega arith
weights_of V o s t (by_head _ _ f g ss ts c w p q h) = omega arith
weights_of V o s t (by_argument _ _ a b c w d g) = omega arith

lt_less : (r : Ordering) → IsTrue (is_lt r) → r ≡ Less
lt_less Less h = refl
lt_less Equal h = absurd (true≢false (sym h))
lt_less answer.Greater h = absurd (true≢false (sym h))

less_lt : (r : Ordering) → r ≡ Less → is_lt r ≡ true
less_lt r e = ap is_lt e

first_greater : (a z : Ordering) → is_ne a ≡ true → ordering_then a z ≡ answer.Greater → a ≡ answer.Greater
first_greater Less z n e = e
first_greater Equal z n e = cc
first_greater answer.Greater z n e = refl

ne_back : (xs ys : List ℕ) (r : Ordering) → r ≡ slice_cmp nat_cmp xs ys → is_ne r ≡ true → is_ne (slice_cmp nat_cmp ys xs) ≡ true
ne_back xs ys Less e n = ap is_ne (heads_back xs ys (sym e))
ne_back xs ys Equal e n = cc
ne_back xs ys answer.Greater e n = ap is_ne (heads_forth xs ys (sym e))

-- at equal weights, where the variables allow it, a head that precedes the other decides
pub heads_decide : (V : ℕ → Type 0) (o : Order) (f g : ℕ) (ss ts : List Term) (r : Ordering) (b : Bool) →
    r ≡ slice_cmp nat_cmp (rank_at o g ∷ length ts ∷ g ∷ []) (rank_at o f ∷ length ss ∷ f ∷ []) → is_ne r ≡ true → b ≡ is_lt r →
    Covers V (App f ss) (App g ts) → weight_of o (App g ts) ≡ weight_of o (App f ss) → IsTrue b ↔ GreaterOn V o (App f ss) (App g ts)
heads_decide V o f g ss ts r b answers n is covers weights = (
  λ h. by_head (App f ss) (App g ts) f g ss ts covers weights refl refl (sym answers ∙ lt_less r (sym is ∙ h)),
  λ k.
      let up : ordering_then (slice_cmp nat_cmp (rank_at o f ∷ length ss ∷ f ∷ []) (rank_at o g ∷ length ts ∷ g ∷ [])) (slice_cmp (ground_compare o) ss ts) ≡ answer.Greater =
      sym (ground_heads o f g ss ts (sym weights)) ∙ above V o (App f ss) (App g ts) k in
      let first : slice_cmp nat_cmp (rank_at o f ∷ length ss ∷ f ∷ []) (rank_at o g ∷ length ts ∷ g ∷ []) ≡ answer.Greater =
      first_greater _ (slice_cmp (ground_compare o) ss ts) (ne_back (rank_at o g ∷ length ts ∷ g ∷ []) (rank_at o f ∷ length ss ∷ f ∷ []) r answers n) up in
      let less : r ≡ Less = answers ∙ heads_forth (rank_at o f ∷ length ss ∷ f ∷ []) (rank_at o g ∷ length ts ∷ g ∷ []) first in
      is ∙ less_lt r less,
)

-- the first arguments that differ are determined
first_same : (p q x x' y y' : List Term) (a b a' b' : Term) → p ++ a ∷ x ≡ q ++ a' ∷ x' → p ++ b ∷ y ≡ q ++ b' ∷ y' → a ≢ b → a' ≢ b' →
    (a ≡ a') × (b ≡ b')
first_same [] [] x x' y y' a b a' b' e k n m = (cc, cc)
first_same [] (c ∷ q) x x' y y' a b a' b' e k n m = let same : a ≡ b = cc in absurd (n same)
first_same (c ∷ p) [] x x' y y' a b a' b' e k n m = let same : a' ≡ b' = cc in absurd (m same)
first_same (c ∷ p) (d ∷ q) x x' y y' a b a' b' e k n m =
    let e' : p ++ a ∷ x ≡ q ++ a' ∷ x' = cc in
    let k' : p ++ b ∷ y ≡ q ++ b' ∷ y' = cc in
    first_same p q x x' y y' a b a' b' e' k' n m

difference_same : (s t a b a' b' : Term) → FirstDifference s t a b → FirstDifference s t a' b' → (a ≡ a') × (b ≡ b')
difference_same s t a b a' b' d k =
    first_same d.before k.before d.after_a k.after_a d.after_b k.after_b a b a' b'
    (App-injective _ _ _ _ (sym d.left ∙ k.left)).1 (App-injective _ _ _ _ (sym d.right ∙ k.right)).1 d.differ k.differ

less_not_equal : Less ≢ Equal
less_not_equal e = cc

-- what is greater at equal weights and heads is greater at the first difference
pub at_argument : (V : ℕ → Type 0) (o : Order) (s t a b : Term) → weight_of o t ≡ weight_of o s → FirstDifference s t a b →
    GreaterOn V o s t → GreaterOn V o a b
at_argument V o s t a b w d (by_weight _ _ c lt) = absurd (omega arith)
at_argument V o s t a b w d (by_head _ _ f' g' ss' ts' c w' p q h) =
    let x = App-injective f' d.head ss' (d.before ++ a ∷ d.after_a) (sym p ∙ d.left) in
    let y = App-injective g' d.head ts' (d.before ++ b ∷ d.after_b) (sym q ∙ d.right) in
    let many : length (d.before ++ a ∷ d.after_a) ≡ length (d.before ++ b ∷ d.after_b) =
    omega (arith, length-append d.before (a ∷ d.after_a), length-append d.before (b ∷ d.after_b), d.as_many) in
    absurd (less_not_equal (sym h ∙
    (λ i. slice_cmp nat_cmp (rank_at o (y.0 i) ∷ length (y.1 i) ∷ y.0 i ∷ []) (rank_at o (x.0 i) ∷ length (x.1 i) ∷ x.0 i ∷ [])) ∙
    (λ i. slice_cmp nat_cmp (rank_at o d.head ∷ sym many i ∷ d.head ∷ []) (rank_at o d.head ∷ length (d.before ++ a ∷ d.after_a) ∷ d.head ∷ [])) ∙
    tied_itself nat_list_cmp_total (rank_at o d.head ∷ length (d.before ++ a ∷ d.after_a) ∷ d.head ∷ [])))
at_argument V o s t a b w d (by_argument _ _ a' b' c w' k g) =
    let e = difference_same s t a' b' a b k d in
    subst (λ z. GreaterOn V o z b) e.0 (subst (λ z. GreaterOn V o a' z) e.1 g)

-- a first difference decides
pub difference_decides : (V : ℕ → Type 0) (o : Order) (s t a b : Term) (up : Bool) → FirstDifference s t a b → (IsTrue up ↔ GreaterOn V o a b) →
    Covers V s t → weight_of o t ≡ weight_of o s → IsTrue up ↔ GreaterOn V o s t
difference_decides V o s t a b up d decides covers weights = (
  λ h. by_argument s t a b covers weights d (decides.0 h),
  λ k. decides.1 (at_argument V o s t a b weights d k),
)

front_same : (p x y : List Term) (a b : Term) → p ++ a ∷ x ≡ p ++ b ∷ y → a ≡ b
front_same [] x y a b e = cc
front_same (c ∷ p) x y a b e = let rest : p ++ a ∷ x ≡ p ++ b ∷ y = cc in front_same p x y a b rest

-- terms with a first difference are not the same
pub difference_apart : (s t a b : Term) → FirstDifference s t a b → s ≢ t
difference_apart s t a b d e =
    d.differ (front_same d.before d.after_a d.after_b a b
    (App-injective d.head d.head (d.before ++ a ∷ d.after_a) (d.before ++ b ∷ d.after_b) (sym d.left ∙ e ∙ d.right)).1)

-- heads that compare as equal are the same
pub heads_many : (o : Order) (f g m n : ℕ) (r : Ordering) →
    r ≡ slice_cmp nat_cmp (rank_at o g ∷ n ∷ g ∷ []) (rank_at o f ∷ m ∷ f ∷ []) → is_ne r ≡ false → m ≡ n
heads_many o f g m n r answers e =
    let a = both_equal (nat_cmp (rank_at o g) (rank_at o f)) (ordering_then (nat_cmp n m) (ordering_then (nat_cmp g f) Equal)) (sym answers ∙ not_ne r e) in
    sym (nat_cmp-Equal n m (both_equal (nat_cmp n m) (ordering_then (nat_cmp g f) Equal) a.1).0)

pub heads_symbol : (o : Order) (f g m n : ℕ) (r : Ordering) →
    r ≡ slice_cmp nat_cmp (rank_at o g ∷ n ∷ g ∷ []) (rank_at o f ∷ m ∷ f ∷ []) → is_ne r ≡ false → f ≡ g
heads_symbol o f g m n r answers e =
    let a = both_equal (nat_cmp (rank_at o g) (rank_at o f)) (ordering_then (nat_cmp n m) (ordering_then (nat_cmp g f) Equal)) (sym answers ∙ not_ne r e) in
    let b = both_equal (nat_cmp n m) (ordering_then (nat_cmp g f) Equal) a.1 in
    sym (nat_cmp-Equal g f (both_equal (nat_cmp g f) Equal b.1).0)

-- what the walk knows where two arguments differed
pub record Differ (V : ℕ → Type 0) (o : Order) (xs ys : List Term) (up : Bool) : Type 0 where
  pub place : ℕ
  pub x : Term
  pub y : Term
  pub inside : place < length xs
  pub at_x : x ≡ get_or xs place x
  pub at_y : y ≡ get_or ys place y
  pub before : take place xs ≡ take place ys
  pub unlike : x ≢ y
  pub decides : IsTrue up ↔ GreaterOn V o x y

-- what it knows of the arguments so far
pub record Compared (V : ℕ → Type 0) (o : Order) (xs ys : List Term) (i : ℕ) (same up : Bool) : Type 0 where
  pub equal : same ≡ true → take i xs ≡ take i ys
  pub level : same ≡ true → up ≡ false
  pub differ : same ≡ false → Differ V o xs ys up

pub compared_none : (V : ℕ → Type 0) (o : Order) (xs ys : List Term) → Compared V o xs ys 0 true false
compared_none V o xs ys = record {
  equal = λ e. refl;
  level = λ e. refl;
  differ = λ e. absurd (true≢false e);
}

-- one pair more, where all were the same
pub compared_more : (V : ℕ → Type 0) (o : Order) (xs ys : List Term) (i : ℕ) (x y : Term) (same up : Bool) →
    i < length xs → length xs ≡ length ys → x ≡ get_or xs i x → y ≡ get_or ys i y → take i xs ≡ take i ys →
    (IsTrue same ↔ (x ≡ y)) → (IsTrue up ↔ GreaterOn V o x y) → Compared V o xs ys (i + 1) same up
compared_more V o xs ys i x y same up lt many at_x at_y so_far alike decides =
    let inside : i < length ys = omega arith in
    let grown_x : take (i + 1) xs ≡ take i xs ++ x ∷ [] = take_more xs i x lt ∙ ap (λ z. take i xs ++ z ∷ []) (sym at_x) in
    let grown_y : take (i + 1) ys ≡ take i ys ++ y ∷ [] = take_more ys i y inside ∙ ap (λ z. take i ys ++ z ∷ []) (sym at_y) in
    record {
      equal = λ e. grown_x ∙ (λ j. so_far j ++ (alike.0 e) j ∷ []) ∙ sym grown_y;
      level = λ e. not_up up (λ h. irreflexive V o x y (decides.0 h) (alike.0 e));
      differ = λ e. record {
        place = i;
        x = x;
        y = y;
        inside = lt;
        at_x = at_x;
        at_y = at_y;
        before = so_far;
        unlike = λ k. true≢false (sym (alike.1 k) ∙ e);
        decides = decides;
      };
    }
  where
    not_up : (b : Bool) → (IsTrue b → ⊥) → b ≡ false
    not_up true h = absurd (h refl)
    not_up false h = refl

-- the same of terms that are looked at
pub compared_seen : (V : ℕ → Type 0) (o : Order) (xs ys : List Term) (i : ℕ) (x y u v : Term) (same up : Bool) →
    i < length xs → length xs ≡ length ys → x ≡ get_or xs i x → y ≡ get_or ys i y → take i xs ≡ take i ys → u ≡ x → v ≡ y →
    (IsTrue same ↔ (u ≡ v)) → (IsTrue up ↔ GreaterOn V o u v) → Compared V o xs ys (i + 1) same up
compared_seen V o xs ys i x y u v same up lt many at_x at_y so_far p q alike decides =
    compared_more V o xs ys i x y same up lt many at_x at_y so_far
    (λ h. sym p ∙ alike.0 h ∙ q, λ k. alike.1 (p ∙ k ∙ sym q)) (
      λ h. subst (λ (z : Term). GreaterOn V o z y) p (subst (λ (z : Term). GreaterOn V o u z) q (decides.0 h)),
      λ k. decides.1 (subst (λ (z : Term). GreaterOn V o z v) (sym p) (subst (λ (z : Term). GreaterOn V o x z) (sym q) k)),
    )

-- one pair more, after a difference
pub compared_past : (V : ℕ → Type 0) (o : Order) (xs ys : List Term) (i : ℕ) (same up : Bool) → same ≡ false →
    Compared V o xs ys i same up → Compared V o xs ys (i + 1) same up
compared_past V o xs ys i same up past c = record {
  equal = λ e. absurd (true≢false (sym e ∙ past));
  level = λ e. absurd (true≢false (sym e ∙ past));
  differ = c.differ;
}

-- the first difference of two terms with the same head
pub difference_of : (V : ℕ → Type 0) (o : Order) (f g : ℕ) (xs ys : List Term) (up : Bool) → f ≡ g → length xs ≡ length ys →
    (d : Differ V o xs ys up) → FirstDifference (App f xs) (App g ys) d.x d.y
difference_of V o f g xs ys up symbol many d =
    let inside : d.place < length ys = omega (arith, d.inside) in
    let cut_x : xs ≡ take d.place xs ++ d.x ∷ drop (suc d.place) xs =
    split_at xs d.place d.x d.inside ∙ ap (λ z. take d.place xs ++ z ∷ drop (suc d.place) xs) (sym d.at_x) in
    let cut_y : ys ≡ take d.place xs ++ d.y ∷ drop (suc d.place) ys =
    split_at ys d.place d.y inside ∙ (λ j. sym d.before j ++ sym d.at_y j ∷ drop (suc d.place) ys) in
    record {
      head = f;
      before = take d.place xs;
      after_a = drop (suc d.place) xs;
      after_b = drop (suc d.place) ys;
      left = ap (App f) cut_x;
      right = (λ j. App (sym symbol j) (cut_y j));
      as_many = omega (arith, length-drop (suc d.place) xs, length-drop (suc d.place) ys);
      differ = d.unlike;
    }

-- after all arguments
all_same : (xs ys : List Term) (i : ℕ) → length xs ≡ length ys → length xs ≤ i → take i xs ≡ take i ys → xs ≡ ys
all_same xs ys i many past so_far =
    let past_y : length ys ≤ i = omega arith in
    sym (take_all i xs past) ∙ so_far ∙ take_all i ys past_y

pub arguments_same : (V : ℕ → Type 0) (o : Order) (f g : ℕ) (xs ys : List Term) (i : ℕ) (same up : Bool) → f ≡ g → length xs ≡ length ys →
    length xs ≤ i → Compared V o xs ys i same up → IsTrue same ↔ (App f xs ≡ App g ys)
arguments_same V o f g xs ys i true up symbol many past c =
    (λ h. λ j. App (symbol j) (all_same xs ys i many past (c.equal refl) j), λ e. refl)
arguments_same V o f g xs ys i false up symbol many past c = (
  λ h. absurd (true≢false (sym h)),
  λ e. absurd (difference_apart (App f xs) (App g ys) (c.differ refl).x (c.differ refl).y
      (difference_of V o f g xs ys up symbol many (c.differ refl)) e),
)

pub arguments_decide : (V : ℕ → Type 0) (o : Order) (f g : ℕ) (xs ys : List Term) (i : ℕ) (same up : Bool) → f ≡ g → length xs ≡ length ys →
    length xs ≤ i → Compared V o xs ys i same up → Covers V (App f xs) (App g ys) → weight_of o (App g ys) ≡ weight_of o (App f xs) →
    IsTrue up ↔ GreaterOn V o (App f xs) (App g ys)
arguments_decide V o f g xs ys i true up symbol many past c covers weights = (
  λ h. absurd (true≢false (sym h ∙ c.level refl)),
  λ k. absurd (irreflexive V o (App f xs) (App g ys) k (λ j. App (symbol j) (all_same xs ys i many past (c.equal refl) j))),
)
arguments_decide V o f g xs ys i false up symbol many past c covers weights =
    difference_decides V o (App f xs) (App g ys) (c.differ refl).x (c.differ refl).y up
    (difference_of V o f g xs ys up symbol many (c.differ refl)) (c.differ refl).decides covers weights

-- a variable is no application
pub variable_apart : (t : Term) (n f : ℕ) (ts : List Term) → t ≡ Var n → t ≡ App f ts → ⊥
variable_apart t n f ts is app =
    let layers : layer.Var n ≡ layer.App f ts = sym (outs-Var n) ∙ ap out-Term (sym is ∙ app) ∙ outs-App f ts in cc

-- a variable against another term is greater by its weight, or not at all
pub variables_decide : (V : ℕ → Type 0) (o : Order) (s t : Term) →
    ((f g : ℕ) (ss ts : List Term) → s ≡ App f ss → t ≡ App g ts → ⊥) → weight_of o t ≡ weight_of o s → IsTrue false ↔ GreaterOn V o s t
variables_decide V o s t apart w = (λ h. absurd (true≢false (sym h)), λ k. absurd (none k))
  where
    none : GreaterOn V o s t → ⊥
    none (by_weight _ _ c lt) = absurd (omega arith)
    none (by_head _ _ f g ss ts c e p q h) = apart f g ss ts p q
    none (by_argument _ _ a b c e d g) = apart d.head d.head (d.before ++ a ∷ d.after_a) (d.before ++ b ∷ d.after_b) d.left d.right

-- the weights decide, or at equal weights the rest, where the variables allow it
pub judged : (V : ℕ → Type 0) (o : Order) (s t : Term) (C : Type 0) (b rest : Bool) (heavy light : ℕ) →
    (IsTrue b ↔ (C × ((light < heavy) ⊎ ((light ≡ heavy) × (rest ≡ true))))) → (C → Covers V s t) → (Covers V s t → C) →
    heavy ≡ weight_of o s → light ≡ weight_of o t → (Covers V s t → weight_of o t ≡ weight_of o s → IsTrue rest ↔ GreaterOn V o s t) →
    IsTrue b ↔ GreaterOn V o s t
judged V o s t C b rest heavy light is to from p q decides = (
  λ h. let both = is.0 h in elim both.1 as (λ _. GreaterOn V o s t) [
    | inl lt ↦ by_weight s t (to both.0) (omega arith)
    | inr level ↦ let same : weight_of o t ≡ weight_of o s = sym q ∙ level.0 ∙ p in (decides (to both.0) same).0 level.1
  ],
  λ k. let covers = covers_of V o s t k in is.1 (from covers, weighed k (weights_of V o s t k) covers),
)
  where
    weighed : GreaterOn V o s t → weight_of o t ≤ weight_of o s → Covers V s t → (light < heavy) ⊎ ((light ≡ heavy) × (rest ≡ true))
    weighed k le covers = ⊎_elim {C = (light < heavy) ⊎ ((light ≡ heavy) × (rest ≡ true))}
        (λ (lt : weight_of o t < weight_of o s). inl (omega arith))
        (λ (ge : weight_of o s ≤ weight_of o t). let same : weight_of o t ≡ weight_of o s = omega arith in
        inr (omega arith, (decides covers same).1 k))
        (cases_lt (weight_of o t) (weight_of o s))

-- the same of terms that are looked at
abbrev pub Decides : (V : ℕ → Type 0) → Order → Bool → Term → Term → Type 0
Decides V o b s t = Covers V s t → weight_of o t ≡ weight_of o s → IsTrue b ↔ GreaterOn V o s t

pub at_symbols : (V : ℕ → Type 0) (o : Order) (b : Bool) (s t u v : Term) → s ≡ u → t ≡ v → Decides V o b u v → Decides V o b s t
at_symbols V o b s t u v p q h =
    subst (λ (x : Term). Decides V o b x t) (sym p) (subst (λ (y : Term). Decides V o b u y) (sym q) h)
