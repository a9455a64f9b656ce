-- There is at most one reduct.
use Rattle.std.proofs.Common.{◌≡◌, ◌≢◌, ℕ, zero, suc, ◌≤◌, inl, inr, List, [], ◌∷◌, ap, subst, refl, sym, ◌∙◌, arith, slice_set}
use Rattle.std.specs.Cmp.Lexicographic.{slice_cmp}
use Rattle.std.specs.Ordering.{nat_cmp, ordering_then}
use Rattle.std.specs.declared.cmp.Ordering.{Ordering}
use Rattle.std.specs.declared.cmp.Ordering.TheVariants.{Less, Equal as Tied, Greater as More}
use Rattle.std.proofs.lemmas.Bool.{cases_lt}
use Rattle.std.proofs.lemmas.Option.{same_Some}
use Rattle.cd_term.specs.declared.Term.{Term}
use Rattle.cd_term.specs.Terms.{substituted, value_of}
use Rattle.cd_clause.specs.declared.Atom.{Atom}
use Rattle.cd_clause.specs.declared.Literal.{Literal}
use Rattle.cd_clause.specs.declared.Clause.{Clause}
use Rattle.cd_clause.specs.Places.{signed, HasSides, subterm_at, replaced_at}
use Rattle.cd_kbo.specs.declared.order.Order.{Order}
use Rattle.cd_kbo.proofs.Orderings.{is_less, is_equal}
use Rattle.cd_rewrite.specs.Reduction.{IsRule, Lowers, Spot, spot_compare, IsReduct}
use Rattle.cd_rewrite.specs.Laws.{ReductsAgree}
use Rattle.cd_rewrite.proofs.Turns.{same_instance, agreement, atoms_same, the_atom}

-- ---- two first places are one

then_left : (a b : Ordering) → ordering_then a b ≢ Less → a ≢ Less
then_left Less b h = absurd (h refl)
then_left Tied b h = λ e. cc
then_left More b h = λ e. cc

then_right : (a b : Ordering) → a ≡ Tied → ordering_then a b ≢ Less → b ≢ Less
then_right a b e h = subst (λ r. ordering_then r b ≢ Less) e h

no_less : (m n : ℕ) → nat_cmp m n ≢ Less → n ≤ m
no_less m n h = elim (cases_lt m n) [
  | inl lt ↦ absurd (h (is_less m n lt))
  | inr le ↦ le
]

number_same : (m n : ℕ) → nat_cmp m n ≢ Less → nat_cmp n m ≢ Less → m ≡ n
number_same m n h k = omega (arith, no_less m n h, no_less n m k)

path_same : (p q : List ℕ) → slice_cmp nat_cmp p q ≢ Less → slice_cmp nat_cmp q p ≢ Less → p ≡ q
path_same [] [] h k = refl
path_same [] (y ∷ q) h k = absurd (h refl)
path_same (x ∷ p) [] h k = absurd (k refl)
path_same (x ∷ p) (y ∷ q) h k =
    let one : x ≡ y = number_same x y (then_left (nat_cmp x y) (slice_cmp nat_cmp p q) h) (then_left (nat_cmp y x) (slice_cmp nat_cmp q p) k) in
    let rest : p ≡ q = path_same p q (then_right (nat_cmp x y) (slice_cmp nat_cmp p q) (is_equal x y one) h)
    (then_right (nat_cmp y x) (slice_cmp nat_cmp q p) (is_equal y x (sym one)) k) in
    ap (λ n. n ∷ p) one ∙ ap (λ r. y ∷ r) rest

path_equal : (p q : List ℕ) → p ≡ q → slice_cmp nat_cmp p q ≡ Tied
path_equal p q e = ap (slice_cmp nat_cmp p) (sym e) ∙ itself p
  where
    itself : (r : List ℕ) → slice_cmp nat_cmp r r ≡ Tied
    itself [] = refl
    itself (n ∷ r) = ap (λ c. ordering_then c (slice_cmp nat_cmp r r)) (is_equal n n refl) ∙ itself r

spot_same : (x y : Spot) → spot_compare x y ≢ Less → spot_compare y x ≢ Less → x ≡ y
spot_same x y h k =
    let literal : x.literal ≡ y.literal = number_same x.literal y.literal (then_left _ _ h) (then_left _ _ k) in
    let h' = then_right _ _ (is_equal x.literal y.literal literal) h in
    let k' = then_right _ _ (is_equal y.literal x.literal (sym literal)) k in
    let path : x.path ≡ y.path = path_same x.path y.path (then_left _ _ h') (then_left _ _ k') in
    let side : x.side ≡ y.side = number_same x.side y.side (then_right _ _ (path_equal x.path y.path path) h')
    (then_right _ _ (path_equal y.path x.path (sym path)) k') in
    λ i. record { literal = literal i; path = path i; side = side i }

-- ---- at one place there is one reduct

sides_agree : (side : ℕ) (a b : Atom) (f t u v : Term) → a ≡ b → HasSides side a f t → HasSides side b u v → (f ≡ u) × (t ≡ v)
sides_agree zero a b f t u v same p q = atoms_same f t u v (sym p ∙ same ∙ q)
sides_agree (suc zero) a b f t u v same p q = let both = atoms_same t f v u (sym p ∙ same ∙ q) in (both.1, both.0)
sides_agree (suc (suc n)) a b f t u v same p q = absurd p

pub rule_agree : (e : Clause) (side : ℕ) (f t u v : Term) → IsRule e side f t → IsRule e side u v → (f ≡ u) × (t ≡ v)
rule_agree e side f t u v a b =
    sides_agree side a.equation b.equation f t u v (the_atom a.equation b.equation (sym a.one ∙ b.one)) a.sides b.sides

lowers_agree : (o : Order) (e : Clause) (side : ℕ) (g h : ℕ → Term) (old other new more : Term) → old ≡ other → Lowers o e side g old new → Lowers o e side h other more →
    new ≡ more
lowers_agree o e side g h old other new more is a b =
    let rule = rule_agree e side a.from a.to b.from b.to a.rule b.rule in
    sym a.result ∙ same_instance a.from a.to old g h a.covered agreement a.matched (ap (substituted h) rule.0 ∙ b.matched ∙ sym is)
    ∙ ap (substituted h) rule.1 ∙ b.result

module _ (o : Order) (e c d r : Clause) (at : Spot) (s u : List Term) (a : IsReduct o e c at s d) (b : IsReduct o e c at u r) where
  taker_agrees : a.by.taker ≡ b.by.taker
  taker_agrees = same_Some a.by.taker b.by.taker (sym a.by.literal ∙ b.by.literal)

  pub old_agrees : a.by.old ≡ b.by.old
  old_agrees =
      same_Some a.by.old b.by.old (sym a.by.there ∙ ap (λ (l : Literal). subterm_at at.path l.atom) taker_agrees ∙ b.by.there)

  at_one : d ≡ r
  at_one =
      (let new : a.by.new ≡ b.by.new = lowers_agree o e at.side (value_of s) (value_of u) a.by.old b.by.old a.by.new b.by.new old_agrees a.by.lowers b.by.lowers in
      let changed : a.changed ≡ b.changed = same_Some a.changed b.changed
      (sym a.becomes ∙ ap (λ (l : Literal). replaced_at at.path a.by.new l.atom) taker_agrees ∙ ap (λ t. replaced_at at.path t b.by.taker.atom) new ∙ b.becomes) in
      let literals : d.literals ≡ r.literals = a.rest
      ∙ ap (λ (l : Literal). slice_set c.literals at.literal (signed l.positive a.changed)) taker_agrees
      ∙ ap (λ x. slice_set c.literals at.literal (signed b.by.taker.positive x)) changed ∙ sym b.rest in
      λ i. record { literals = literals i })

pub places_agree : (o : Order) (e c d r : Clause) (x y : Spot) (s u : List Term) → IsReduct o e c x s d → IsReduct o e c y u r → x ≡ y
places_agree o e c d r x y s u a b = spot_same x y (b.first.least x a.first.here) (a.first.least y b.first.here)

-- there is at most one place of a reduct, and at most one reduct
pub reducts_agree : ReductsAgree
reducts_agree o e c d r x y s u a b =
    let same : x ≡ y = places_agree o e c d r x y s u a b in
    (same, at_one o e c d r x s u a (subst (λ z. IsReduct o e c z u r) (sym same) b))
