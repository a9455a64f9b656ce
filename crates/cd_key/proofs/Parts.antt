-- The ground forms of a clause: with a literal left out, and with variables renamed.
use Rattle.std.proofs.Common.{◌≡◌, ◌≢◌, ℕ, ◌+◌, ◌<◌, Bool, true, false, cond, if◌then◌else◌, List, [], ◌∷◌, ◌++◌, map, ap, refl, sym, ◌∙◌, arith}
use Rattle.std.specs.Cmp.{IsTotalOrder}
use Rattle.std.specs.Cmp.Lexicographic.{slice_cmp}
use Rattle.std.specs.Ordering.{nat_cmp, ordering_then, is_lt, is_eq, bool_cmp, flip_args}
use Rattle.std.specs.declared.cmp.Ordering.{Ordering}
use Rattle.std.specs.declared.cmp.Ordering.TheVariants.{Less, Equal, Greater}
use Rattle.std.proofs.lemmas.Cmp.{tied_itself, alike_right}
use Rattle.std.proofs.lemmas.List.Sums.{sum_by-append}
use Rattle.cd_term.specs.declared.Term.{Term}
use Rattle.cd_term.specs.declared.Term.TheVariants.{Var, App}
use Rattle.cd_term.specs.Terms.{substituted, renamed_by}
use Rattle.cd_term.proofs.Equations.{substituted-Var, substituted-App}
use Rattle.cd_term.proofs.Substitutions.{substituted-same, substituted-substituted}
use Rattle.cd_clause.specs.declared.Atom.{Atom}
use Rattle.cd_clause.specs.declared.Atom.TheVariants.{Truth, Pred, Equal as Equation}
use Rattle.cd_clause.specs.Clauses.{atom_changed, literal_changed}
use Rattle.cd_kbo.specs.declared.order.Order.{Order}
use Rattle.cd_kbo.specs.Kbo.{ground_compare}
use Rattle.cd_kbo.specs.Laws.{grounded}
use Rattle.cd_kbo.proofs.Orderings.{is_less}
use Rattle.cd_kbo.proofs.GroundLemmas.{ground_total}
use Rattle.cd_kbo.proofs.LawsOfOrders.{ground_laws}
use Rattle.cd_key.specs.Forms.{greater_term, lesser_term, literal_compare}
use Rattle.cd_key.specs.Multisets.{sorted_down, count_of}
use Rattle.cd_key.specs.Keys.{forms_compare}
use Rattle.cd_key.specs.Parts.{AreFormsOrdered, FormsDecideKeys, FormsFall, FewerFormsFall, RenamedFormsTie}
use Rattle.cd_key.proofs.FormLemmas.{forms_total, clause_total}
use Rattle.cd_key.proofs.FallLemmas.{item_falls}
use Rattle.cd_key.proofs.MultisetLemmas.{count-cons, back_less, count_decides, same_counts, sorted_is_down, count_sorted}

-- ---- orders where one of two isn't greater

module _ {X : Type 0} (R : X → X → Ordering) (T : IsTotalOrder R) where
  below_itself : (a : X) → R a a ≡ Less → ⊥
  below_itself a e = let both : Equal ≡ Less = sym (tied_itself T a) ∙ e in cc

  below_then : (a b c : X) → R a b ≡ Less → R b c ≢ Greater → R a c ≡ Less
  below_then a b c e h = at (R b c) refl
    where
      at : (r : Ordering) → R b c ≡ r → R a c ≡ Less
      at Less k = T.trans a b c e k
      at Equal k = sym (alike_right T b c a k) ∙ e
      at Greater k = absurd (h k)

  then_below : (a b c : X) → R a b ≢ Greater → R b c ≡ Less → R a c ≡ Less
  then_below a b c h e = at (R a b) refl
    where
      at : (r : Ordering) → R a b ≡ r → R a c ≡ Less
      at Less k = T.trans a b c k e
      at Equal k = T.congr a b c k ∙ e
      at Greater k = absurd (h k)

  not_above_twice : (a b c : X) → R a b ≢ Greater → R b c ≢ Greater → R a c ≢ Greater
  not_above_twice a b c h k e = at (R a b) refl
    where
      at : (r : Ordering) → R a b ≡ r → ⊥
      at Less l = let both : Less ≡ Greater = sym (below_then a b c l k) ∙ e in cc
      at Equal l = k (sym (T.congr a b c l) ∙ e)
      at Greater l = h l

  -- a list without one of its items, sorted downwards
  count_inside : (z x : X) (front back : List X) →
      count_of R z (front ++ x ∷ back) ≡ count_of R z front + (cond (is_eq (R z x)) 1 0 + count_of R z back)
  count_inside z x front back = omega (arith, sum_by-append (λ w. cond (is_eq (R z w)) 1 0) front (x ∷ back), count-cons R z x back)

  count_outside : (z : X) (front back : List X) → count_of R z (front ++ back) ≡ count_of R z front + count_of R z back
  count_outside z front back = sum_by-append (λ w. cond (is_eq (R z w)) 1 0) front back

  fewer_fall : (front back : List X) (x : X) → slice_cmp R (sorted_down R (front ++ back)) (sorted_down R (front ++ x ∷ back)) ≡ Less
  fewer_fall front back x =
      let lt : count_of R x (front ++ back) < count_of R x (front ++ x ∷ back) = omega (
        arith,
        count_inside x x front back,
        count_outside x front back,
        ap {B = ℕ} (λ q. cond (is_eq q) 1 0) (tied_itself T x),
      ) in
      count_decides R T x (sorted_down R (front ++ back)) (sorted_down R (front ++ x ∷ back))
      (sorted_is_down R T (front ++ back)) (sorted_is_down R T (front ++ x ∷ back))
      (λ z up. omega (
        arith,
        count_sorted R T z (front ++ back),
        count_sorted R T z (front ++ x ∷ back),
        count_inside z x front back,
        count_outside z front back,
        ap {B = ℕ} (λ q. cond (is_eq q) 1 0) (back_less R T x z up),
      ))
      (λ same. absurd (omega (arith, same, lt, count_sorted R T x (front ++ back), count_sorted R T x (front ++ x ∷ back))))
      ∙ (λ i. nat_cmp (count_sorted R T x (front ++ back) i) (count_sorted R T x (front ++ x ∷ back) i))
      ∙ is_less (count_of R x (front ++ back)) (count_of R x (front ++ x ∷ back)) lt

  -- items in the place of which others stand that compare as equal
  count_tied : (h : X → X) → ((x : X) → R (h x) x ≡ Equal) → (z : X) (xs : List X) → count_of R z (map h xs) ≡ count_of R z xs
  count_tied h ties z [] = refl
  count_tied h ties z (x ∷ xs) = omega (
    arith,
    count-cons R z (h x) (map h xs),
    count-cons R z x xs,
    count_tied h ties z xs,
    ap {B = ℕ} (λ q. cond (is_eq q) 1 0) (alike_right T (h x) x z (ties x)),
  )

  sorted_tied : (h : X → X) → ((x : X) → R (h x) x ≡ Equal) → (xs : List X) → slice_cmp R (sorted_down R (map h xs)) (sorted_down R xs) ≡ Equal
  sorted_tied h ties xs =
      same_counts R T (sorted_down R (map h xs)) (sorted_down R xs) (sorted_is_down R T (map h xs)) (sorted_is_down R T xs)
      (λ z. count_sorted R T z (map h xs) ∙ count_tied h ties z xs ∙ sym (count_sorted R T z xs))

  -- the greater and the lesser of two items, where others stand in their places
  picked_tied : (s t s' t' : X) → R s' s ≡ Equal → R t' t ≡ Equal → (b c : Bool) → is_lt (R s' t') ≡ b → is_lt (R s t) ≡ c →
      (R (if b then t' else s') (if c then t else s) ≡ Equal) × (R (if b then s' else t') (if c then s else t) ≡ Equal)
  picked_tied s t s' t' e f b c p q = at b c (sym p ∙ ap is_lt (T.congr s' s t' e ∙ alike_right T t' t s f) ∙ q)
    where
      at : (b c : Bool) → b ≡ c → (R (if b then t' else s') (if c then t else s) ≡ Equal) × (R (if b then s' else t') (if c then s else t) ≡ Equal)
      at true true same = (f, e)
      at false false same = (e, f)
      at true false same = absurd (cc)
      at false true same = absurd (cc)

-- ---- variables renamed

term_tied : (o : Order) (p : ℕ → ℕ) (t : Term) → ground_compare o (renamed_by p t) t ≡ Equal
term_tied o p t =
    let same : grounded (renamed_by p t) ≡ grounded t
    = substituted-substituted (λ n. Var 0) (λ n. Var (p n)) t
    ∙ substituted-same (λ k. substituted (λ n. Var 0) (Var (p k))) (λ n. Var 0) (λ k. substituted-Var (λ n. Var 0) (p k)) t in
    sym ((ground_laws o).as_bot (renamed_by p t) t) ∙ ap (λ u. ground_compare o u (grounded t)) same ∙ tied_itself (ground_total o) (grounded t)

-- three comparisons in turn that are all equal
all_tied : (a b c : Ordering) → a ≡ Equal → b ≡ Equal → c ≡ Equal → ordering_then a (ordering_then b c) ≡ Equal
all_tied a b c e f g = λ i. ordering_then (e i) (ordering_then (f i) (g i))

sign_tied : (b : Bool) → flip_args bool_cmp b b ≡ Equal
sign_tied true = refl
sign_tied false = refl

literal_tied : (o : Order) (p : ℕ → ℕ) (b : Bool) (a : Atom) →
    literal_compare o (record { positive = b; atom = atom_changed (renamed_by p) a }) (record { positive = b; atom = a }) ≡ Equal
literal_tied o p b Truth = all_tied Equal (flip_args bool_cmp b b) Equal refl (sign_tied b) refl
literal_tied o p b (Pred q args) =
    all_tied (ground_compare o (App q (map (renamed_by p) args)) (App q args)) (flip_args bool_cmp b b) Equal
    (ap (λ t. ground_compare o t (App q args)) (sym (substituted-App (λ n. Var (p n)) q args)) ∙ term_tied o p (App q args)) (sign_tied b) refl
literal_tied o p b (Equation s t) =
    let both = picked_tied (ground_compare o) (ground_total o) s t (renamed_by p s) (renamed_by p t) (term_tied o p s) (term_tied o p t)
    (is_lt (ground_compare o (renamed_by p s) (renamed_by p t))) (is_lt (ground_compare o s t)) refl refl in
    all_tied (ground_compare o (greater_term o (renamed_by p s) (renamed_by p t)) (greater_term o s t)) (flip_args bool_cmp b b)
    (ground_compare o (lesser_term o (renamed_by p s) (renamed_by p t)) (lesser_term o s t)) both.0 (sign_tied b) both.1

-- ---- the laws

pub forms_ordered : (o : Order) → AreFormsOrdered o
forms_ordered o = record {
  total = clause_total o;
  irreflexive = below_itself (forms_compare o) (clause_total o);
  transitive = not_above_twice (forms_compare o) (clause_total o);
  below_then = below_then (forms_compare o) (clause_total o);
  then_below = then_below (forms_compare o) (clause_total o);
}

pub forms_decide : FormsDecideKeys
forms_decide o d c n m less = at_once (forms_compare o d c) _ less
  where
    at_once : (first rest : Ordering) → first ≡ Less → ordering_then first rest ≡ Less
    at_once first rest e = ap (λ (r : Ordering). ordering_then r rest) e

pub forms_fall : FormsFall
forms_fall o front back l m e = item_falls (literal_compare o) (forms_total o) front back l m e

pub fewer_forms_fall : FewerFormsFall
fewer_forms_fall o front back l = fewer_fall (literal_compare o) (forms_total o) front back l

pub renamed_forms_tie : RenamedFormsTie
renamed_forms_tie o p c =
    sorted_tied (literal_compare o) (forms_total o) (literal_changed (renamed_by p)) (λ l. literal_tied o p l.positive l.atom) c.literals
