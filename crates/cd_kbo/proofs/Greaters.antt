-- The Knuth-Bendix order is decided.
use Rattle.std.proofs.Common.{◌≡◌, ◌≢◌, ◌⊎◌, inl, inr, ℕ, zero, suc, ◌+◌, ◌<◌, ◌≤◌, Bool, true, false, if◌then◌else◌, nat_eq, List, [], ◌∷◌, ◌++◌, length, map, sum_by, refl, ap, sym, ◌∙◌, subst, arith}
use Rattle.std.specs.declared.cmp.Ordering.{Ordering}
use Rattle.std.specs.declared.cmp.Ordering.TheVariants.{Less, Equal, Greater as More}
use Rattle.std.specs.Ordering.{nat_cmp}
use Rattle.std.specs.Cmp.Lexicographic.{slice_cmp}
use Rattle.std.proofs.lemmas.Bool.{eqb-true, cases_lt}
use Rattle.std.proofs.lemmas.List.Sums.{sum_by-cons}
use Rattle.cd_term.specs.declared.Term.{Term}
use Rattle.cd_term.specs.declared.Term.TheVariants.{Var, App}
use Rattle.cd_term.specs.Terms.{greatest, bound_of}
use Rattle.cd_term.proofs.TermInduction.{ind, Each}
use Rattle.cd_term.proofs.Equations.{bound_of-Var, bound_of-App}
use Rattle.cd_term.proofs.VariableLaws.{App-injective}
use Rattle.cd_kbo.specs.declared.order.Order.{Order}
use Rattle.cd_kbo.specs.Orders.{rank_at}
use Rattle.cd_kbo.specs.Kbo.{weight_of, occurrences, Every, Covers, Precedes, FirstDifference, GreaterOn, by_weight, by_head, by_argument}
use Rattle.cd_kbo.proofs.KboEquations.{occurrences-Var, occurrences-App}
use Rattle.cd_list.specs.Decisions.{Decided}
use Rattle.cd_list.proofs.Decisions.{both, either, given, number, at_most}
use Rattle.cd_term.proofs.Deciding.{terms_decide}
use Rattle.cd_term.proofs.MarkLemmas.{Var-App-apart}

less : (x : Ordering) → Decided (x ≡ Less)
less Less = inl refl
less Equal = inr (λ e. cc)
less More = inr (λ e. cc)

-- ---- variables

none_among : (k : ℕ) (ts : List Term) → Each (λ t. bound_of t ≤ k → occurrences k t ≡ 0) ts → greatest (map bound_of ts) ≤ k → sum_by (occurrences k) ts ≡ 0
none_among k [] each le = refl
none_among k (t ∷ ts) each le = (let a = each.0 (omega (arith, le)) in let b = none_among k ts each.1 (omega (arith, le)) in omega (arith, a, b, sum_by-cons (occurrences k) t ts))

none_above : (k : ℕ) (t : Term) → bound_of t ≤ k → occurrences k t ≡ 0
none_above k = ind (λ t. bound_of t ≤ k → occurrences k t ≡ 0)
    (λ n le. occurrences-Var k n ∙ at n (omega (arith, le, bound_of-Var n)) (nat_eq n k) refl)
    (λ f ts each le. occurrences-App k f ts ∙ none_among k ts each (omega (arith, le, bound_of-App f ts)))
  where
    at : (n : ℕ) → n + 1 ≤ k → (b : Bool) → nat_eq n k ≡ b → ◌≡◌ {A = ℕ} (if nat_eq n k then 1 else 0) 0
    at n le true is = absurd (omega (arith, le, eqb-true n k is))
    at n le false is = ap {B = ℕ} (λ (b : Bool). if b then 1 else 0) is

Below : ℕ → Term → Term → Type 0
Below n s t = (k : ℕ) → k < n → occurrences k t ≤ occurrences k s

below : (n : ℕ) (s t : Term) → Decided (Below n s t)
unfolding Below
below zero s t = inl (λ k lt. absurd (omega (arith, lt)))
below (suc n) s t = given whole parts (both (below n s t) (at_most (occurrences n t) (occurrences n s)))
  where
    whole : Below n s t × (occurrences n t ≤ occurrences n s) → Below (suc n) s t
    whole p k lt = elim (cases_lt k n) [
      | inl small ↦ p.0 k small
      | inr le ↦ (let same : n ≡ k = omega (arith, lt, le) in subst (λ i. occurrences i t ≤ occurrences i s) same p.1)
    ]

    parts : Below (suc n) s t → Below n s t × (occurrences n t ≤ occurrences n s)
    parts f = ((λ k lt. f k (omega (arith, lt))), f n (omega arith))

covers : (s t : Term) → Decided (Covers Every s t)
unfolding Below
covers s t = given whole (λ c k lt. c.at_each k tt) (below (bound_of t) s t)
  where
    whole : Below (bound_of t) s t → Covers Every s t
    whole f = record { at_each = λ k e. elim (cases_lt k (bound_of t)) [ inl lt ↦ f k lt | inr le ↦ (let z = none_above k t le in omega (arith, z)) ] }

-- ---- arguments

record ArgGreater (o : Order) (ss ts : List Term) : Type 0 where
  pub a : Term
  pub b : Term
  pub before : List Term
  pub after_a : List Term
  pub after_b : List Term
  pub left : ss ≡ before ++ a ∷ after_a
  pub right : ts ≡ before ++ b ∷ after_b
  pub as_many : length after_a ≡ length after_b
  pub differ : a ≢ b
  pub greater : GreaterOn Every o a b

not_empty : (before after : List Term) (a : Term) → [] ≡ before ++ a ∷ after → ⊥
not_empty [] after a e = cc
not_empty (x ∷ before) after a e = cc

head_same : (s u x y : Term) (ss ts : List Term) → s ∷ ss ≡ x ∷ ts → s ≡ x
head_same s u x y ss ts e = cc

args : (o : Order) (ss ts : List Term) → Each (λ s. (t : Term) → Decided (GreaterOn Every o s t)) ss → Decided (ArgGreater o ss ts)
args o [] ts each = inr (λ r. not_empty r.before r.after_a r.a r.left)
args o (s ∷ ss) [] each = inr (λ r. not_empty r.before r.after_b r.b r.right)
args o (s ∷ ss) (u ∷ us) each = at (terms_decide s u) (args o ss us each.1) (each.0 u)
  where
    later : s ≡ u → ArgGreater o ss us → ArgGreater o (s ∷ ss) (u ∷ us)
    later same r = record {
      a = r.a;
      b = r.b;
      before = s ∷ r.before;
      after_a = r.after_a;
      after_b = r.after_b;
      left = ap (λ xs. s ∷ xs) r.left;
      right = ap (λ x. x ∷ us) (sym same) ∙ ap (λ xs. s ∷ xs) r.right;
      as_many = r.as_many;
      differ = r.differ;
      greater = r.greater;
    }

    earlier : s ≡ u → (a b : Term) (before aa bb : List Term) → s ∷ ss ≡ before ++ a ∷ aa → u ∷ us ≡ before ++ b ∷ bb → length aa ≡ length bb → a ≢ b → GreaterOn Every o a b → ArgGreater o ss us
    earlier same a b [] aa bb e f n d g = absurd (d (let x : s ≡ a = cc in let y : u ≡ b = cc in sym x ∙ same ∙ y))
    earlier same a b (x ∷ before) aa bb e f n d g = record { a = a; b = b; before = before; after_a = aa; after_b = bb; left = (let h : ss ≡ before ++ a ∷ aa = cc in h); right = (let h : us ≡ before ++ b ∷ bb = cc in h); as_many = n; differ = d; greater = g }

    here : s ≢ u → (length ss ≡ length us) × GreaterOn Every o s u → ArgGreater o (s ∷ ss) (u ∷ us)
    here apart p = record { a = s; b = u; before = []; after_a = ss; after_b = us; left = refl; right = refl; as_many = p.0; differ = apart; greater = p.1 }

    first : s ≢ u → (a b : Term) (before aa bb : List Term) → s ∷ ss ≡ before ++ a ∷ aa → u ∷ us ≡ before ++ b ∷ bb → length aa ≡ length bb → a ≢ b → GreaterOn Every o a b → (length ss ≡ length us) × GreaterOn Every o s u
    first apart a b [] aa bb e f n d g = (let x : s ≡ a = cc in let y : u ≡ b = cc in let xs : ss ≡ aa = cc in let ys : us ≡ bb = cc in
        (ap length xs ∙ n ∙ sym (ap length ys), subst (λ z. GreaterOn Every o s z) (sym y) (subst (λ z. GreaterOn Every o z b) (sym x) g)))
    first apart a b (x ∷ before) aa bb e f n d g = absurd (apart (let h : s ≡ x = cc in let k : u ≡ x = cc in h ∙ sym k))

    at : Decided (s ≡ u) → Decided (ArgGreater o ss us) → Decided (GreaterOn Every o s u) → Decided (ArgGreater o (s ∷ ss) (u ∷ us))
    at (inl same) rest g = given (later same) (λ r. earlier same r.a r.b r.before r.after_a r.after_b r.left r.right r.as_many r.differ r.greater) rest
    at (inr apart) rest g = given (here apart) (λ r. first apart r.a r.b r.before r.after_a r.after_b r.left r.right r.as_many r.differ r.greater) (both (number (length ss) (length us)) g)

-- ---- terms

record HeadGreater (o : Order) (s t : Term) : Type 0 where
  pub f : ℕ
  pub g : ℕ
  pub ss : List Term
  pub ts : List Term
  pub left : s ≡ App f ss
  pub right : t ≡ App g ts
  pub precedes : Precedes o g (length ts) f (length ss)

record ArgumentGreater (o : Order) (s t : Term) : Type 0 where
  pub a : Term
  pub b : Term
  pub first : FirstDifference s t a b
  pub greater : GreaterOn Every o a b

choose : (o : Order) (s t : Term) → Decided (HeadGreater o s t) → Decided (ArgumentGreater o s t) → Decided (GreaterOn Every o s t)
choose o s t heads arguments = given whole parts
    (both (covers s t) (either (at_most (weight_of o t + 1) (weight_of o s)) (both (number (weight_of o t) (weight_of o s)) (either heads arguments))))
  where
    whole : Covers Every s t × ((weight_of o t + 1 ≤ weight_of o s) ⊎ ((weight_of o t ≡ weight_of o s) × (HeadGreater o s t ⊎ ArgumentGreater o s t))) → GreaterOn Every o s t
    whole (c, inl lt) = by_weight s t c (omega (arith, lt))
    whole (c, inr (e, inl h)) = by_head s t h.f h.g h.ss h.ts c e h.left h.right h.precedes
    whole (c, inr (e, inr h)) = by_argument s t h.a h.b c e h.first h.greater

    parts : GreaterOn Every o s t → Covers Every s t × ((weight_of o t + 1 ≤ weight_of o s) ⊎ ((weight_of o t ≡ weight_of o s) × (HeadGreater o s t ⊎ ArgumentGreater o s t)))
    parts (by_weight s t c lt) = (c, inl (omega (arith, lt)))
    parts (by_head s t f g ss ts c e l r p) = (c, inr (e, inl (record { f = f; g = g; ss = ss; ts = ts; left = l; right = r; precedes = p })))
    parts (by_argument s t a b c e d g) = (c, inr (e, inr (record { a = a; b = b; first = d; greater = g })))

pub greater : (o : Order) (s t : Term) → Decided (GreaterOn Every o s t)
greater o = ind (λ s. (t : Term) → Decided (GreaterOn Every o s t))
    (λ n t. choose o (Var n) t (inr (λ h. Var-App-apart n h.f h.ss h.left)) (inr (λ h. Var-App-apart n h.first.head (h.first.before ++ h.a ∷ h.first.after_a) h.first.left)))
    (λ f ss each. ind (λ t. Decided (GreaterOn Every o (App f ss) t))
    (λ n. choose o (App f ss) (Var n) (inr (λ h. Var-App-apart n h.g h.ts h.right)) (inr (λ h. Var-App-apart n h.first.head (h.first.before ++ h.b ∷ h.first.after_b) h.first.right)))
    (λ g ts others. choose o (App f ss) (App g ts) (heads f g ss ts) (arguments f g ss ts each)))
  where
    heads : (f g : ℕ) (ss ts : List Term) → Decided (HeadGreater o (App f ss) (App g ts))
    heads f g ss ts = given (λ p. record { f = f; g = g; ss = ss; ts = ts; left = refl; right = refl; precedes = p })
        (λ h. let l = App-injective f h.f ss h.ss h.left in let r = App-injective g h.g ts h.ts h.right in
        ap (λ n. slice_cmp nat_cmp (rank_at o g ∷ length ts ∷ g ∷ []) (rank_at o n ∷ length ss ∷ n ∷ [])) l.0
        ∙ ap (λ xs. slice_cmp nat_cmp (rank_at o g ∷ length ts ∷ g ∷ []) (rank_at o h.f ∷ length xs ∷ h.f ∷ [])) l.1
        ∙ ap (λ n. slice_cmp nat_cmp (rank_at o n ∷ length ts ∷ n ∷ []) (rank_at o h.f ∷ length h.ss ∷ h.f ∷ [])) r.0
        ∙ ap (λ xs. slice_cmp nat_cmp (rank_at o h.g ∷ length xs ∷ h.g ∷ []) (rank_at o h.f ∷ length h.ss ∷ h.f ∷ [])) r.1
        ∙ h.precedes)
        (less (slice_cmp nat_cmp (rank_at o g ∷ length ts ∷ g ∷ []) (rank_at o f ∷ length ss ∷ f ∷ [])))

    arguments : (f g : ℕ) (ss ts : List Term) → Each (λ s. (t : Term) → Decided (GreaterOn Every o s t)) ss → Decided (ArgumentGreater o (App f ss) (App g ts))
    arguments f g ss ts each = given
        (λ p. let r = p.1 in record {
          a = r.a;
          b = r.b;
          greater = r.greater;
          first = record { head = f; before = r.before; after_a = r.after_a; after_b = r.after_b; left = ap (App f) r.left; right = ap (λ n. App n ts) (sym p.0) ∙ ap (App f) r.right; as_many = r.as_many; differ = r.differ };
        })
        (λ h. let d = h.first in
        let l = App-injective f d.head ss (d.before ++ h.a ∷ d.after_a) d.left in let r = App-injective g d.head ts (d.before ++ h.b ∷ d.after_b) d.right in
        (l.0 ∙ sym r.0, record { a = h.a; b = h.b; before = d.before; after_a = d.after_a; after_b = d.after_b; left = l.1; right = r.1; as_many = d.as_many; differ = d.differ; greater = h.greater }))
        (both (number f g) (args o ss ts each))
