-- A literal is eligible or not, and some literal of a clause that isn't empty is.
use Rattle.std.proofs.Common.{◌≡◌, ◌≢◌, inl, inr, ℕ, zero, suc, ◌+◌, ◌<◌, true, false, not, List, [], ◌∷◌, length, Option, Some, None, slice_get, refl, sym, ◌∙◌, subst, arith}
use Rattle.std.specs.Prelude.{MatchOption}
use Rattle.std.specs.List.{AllByRecursion}
use Rattle.std.specs.declared.cmp.Ordering.{Ordering}
use Rattle.std.specs.declared.cmp.Ordering.TheVariants.{Less, Equal, Greater as More}
use Rattle.std.proofs.lemmas.Option.{same_Some}
use Rattle.std.proofs.lemmas.List.Quantifiers.{position-Some}
use Rattle.cd_list.specs.Decisions.{Decided}
use Rattle.cd_list.proofs.Decisions.{both, given, three, either, never, number, truth, among}
use Rattle.cd_term.specs.declared.Term.{Term}
use Rattle.cd_clause.specs.declared.Literal.{Literal}
use Rattle.cd_clause.specs.declared.Clause.{Clause}
use Rattle.cd_clause.proofs.Deciding.{same_atoms_decide}
use Rattle.cd_kbo.specs.declared.order.Order.{Order}
use Rattle.cd_kbo.specs.declared.order.Select.{Select}
use Rattle.cd_kbo.specs.declared.order.Select.TheVariants.{Nothing, First}
use Rattle.cd_kbo.specs.Kbo.{Greater}
use Rattle.cd_kbo.proofs.Greaters.{greater}
use Rattle.cd_key.specs.Literals.{sides, IsLiteralGreater, IsMaximal, selected_by}
use Rattle.cd_key.specs.Forms.{literal_compare}
use Rattle.cd_key.specs.Eligibility.{SomeLiteralIsEligible, EligibilityDecides}
use Rattle.cd_key.proofs.FormLemmas.{forms_total}
use Rattle.cd_key.proofs.LiteralOrder.{above_form}
use Rattle.cd_key.proofs.MultisetLemmas.{back_less, back_greater, never_less, down_twice}

module _ (o : Order) where
  -- ---- decisions

  all_below : (s : Term) (ts : List Term) → Decided (AllByRecursion (Greater o s) ts)
  all_below s [] = inl tt
  all_below s (t ∷ ts) = both (greater o s t) (all_below s ts)

  some_side : (ts : List Term) → Decided (ts ≢ [])
  some_side [] = inr (λ f. f refl)
  some_side (t ∷ ts) = inl (λ e. cc)

  literal_greater : (l m : Literal) → Decided (IsLiteralGreater o l m)
  literal_greater l m = either (both (some_side (sides m.atom)) (among (λ s. AllByRecursion (Greater o s) (sides m.atom)) (λ s. all_below s (sides m.atom)) (sides l.atom)))
      (three (truth l.positive false) (truth m.positive true) (same_atoms_decide l.atom m.atom))

  -- no literal of a list that stands from place k on is greater, but for the one in place i
  Clear : Literal → ℕ → ℕ → List Literal → Type 0
  Clear l i k ms = (j : ℕ) (m : Literal) → k + j ≢ i → slice_get ms j ≡ Some m → IsLiteralGreater o m l → ⊥

  clear_here : (l m : Literal) (i k : ℕ) → Decided (k ≢ i → IsLiteralGreater o m l → ⊥)
  clear_here l m i k = at (number k i)
    where
      at : Decided (k ≡ i) → Decided (k ≢ i → IsLiteralGreater o m l → ⊥)
      at (inl same) = inl (λ apart g. apart same)
      at (inr apart) = given (λ f a. f) (λ f. f apart) (never (literal_greater m l))

  clear : (l : Literal) (i k : ℕ) (ms : List Literal) → Decided (Clear l i k ms)
  unfolding Clear
  clear l i k [] = inl (λ j m apart e g. cc)
  clear l i k (m ∷ ms) = given whole parts (both (clear_here l m i k) (clear l i (suc k) ms))
    where
      whole : (k ≢ i → IsLiteralGreater o m l → ⊥) × Clear l i (suc k) ms → Clear l i k (m ∷ ms)
      whole p zero n apart e g = p.0 (λ s. apart (omega (arith, s))) (subst (λ z. IsLiteralGreater o z l) (sym (same_Some m n e)) g)
      whole p (suc j) n apart e g = p.1 j n (λ s. apart (omega (arith, s))) e g

      parts : Clear l i k (m ∷ ms) → (k ≢ i → IsLiteralGreater o m l → ⊥) × Clear l i (suc k) ms
      parts f = ((λ apart g. f zero m (λ s. apart (omega (arith, s))) refl g), (λ j n apart e g. f (suc j) n (λ s. apart (omega (arith, s))) e g))

  maximal : (ls : List Literal) (i : ℕ) → Decided (IsMaximal o ls i)
  unfolding Clear
  maximal ls i = at (slice_get ls i) refl
    where
      at : (x : Option Literal) → slice_get ls i ≡ x → Decided (IsMaximal o ls i)
      at None is = inl (λ j l m apart e f g. (let h : None ≡ Some l = sym is ∙ e in cc))
      at (Some l) is = given
          (λ f j k m apart e there g. f j m (λ s. apart (omega (arith, s))) there (subst (λ z. IsLiteralGreater o m z) (same_Some k l (sym e ∙ is)) g))
          (λ f j m apart there g. f j l m (λ s. apart (omega (arith, s))) is there g)
          (clear l i 0 ls)

  chosen : (c : Clause) (i : ℕ) (x : Option ℕ) → Decided (MatchOption x (IsMaximal o c.literals i) (λ place. i ≡ place))
  chosen c i None = maximal c.literals i
  chosen c i (Some place) = number i place

  -- ---- a literal of the greatest ground form

  record Best (ls : List Literal) : Type 0 where
    pub place : ℕ
    pub within : place < length ls
    pub literal : Literal
    pub there : slice_get ls place ≡ Some literal
    pub top : (j : ℕ) (m : Literal) → slice_get ls j ≡ Some m → literal_compare o literal m ≢ Less

  itself : (l m : Literal) → l ≡ m → literal_compare o l m ≢ Less
  itself l m e = subst (λ z. literal_compare o l z ≢ Less) e (never_less (literal_compare o) (forms_total o) l)

  best : (l : Literal) (ls : List Literal) → Best (l ∷ ls)
  best l [] = record { place = 0; within = omega arith; literal = l; there = refl; top = top }
    where
      top : (j : ℕ) (m : Literal) → slice_get (l ∷ []) j ≡ Some m → literal_compare o l m ≢ Less
      top zero m e = itself l m (same_Some l m e)
      top (suc j) m e = absurd (cc)
  best l (k ∷ ks) = at (best k ks) (literal_compare o l (best k ks).literal) refl
    where
      keep : (b : Best (k ∷ ks)) → literal_compare o b.literal l ≢ Less → Best (l ∷ k ∷ ks)
      keep b lower = record { place = suc b.place; within = omega (arith, b.within); literal = b.literal; there = b.there; top = top }
        where
          top : (j : ℕ) (m : Literal) → slice_get (l ∷ k ∷ ks) j ≡ Some m → literal_compare o b.literal m ≢ Less
          top zero m e = subst (λ z. literal_compare o b.literal z ≢ Less) (same_Some l m e) lower
          top (suc j) m e = b.top j m e

      take : (b : Best (k ∷ ks)) → literal_compare o l b.literal ≢ Less → Best (l ∷ k ∷ ks)
      take b upper = record { place = 0; within = omega arith; literal = l; there = refl; top = top }
        where
          top : (j : ℕ) (m : Literal) → slice_get (l ∷ k ∷ ks) j ≡ Some m → literal_compare o l m ≢ Less
          top zero m e = itself l m (same_Some l m e)
          top (suc j) m e = down_twice (literal_compare o) (forms_total o) l b.literal m upper (b.top j m e)

      at : (b : Best (k ∷ ks)) (r : Ordering) → literal_compare o l b.literal ≡ r → Best (l ∷ k ∷ ks)
      at b Less e = keep b (λ less. (let both : Less ≡ More = sym less ∙ back_less (literal_compare o) (forms_total o) l b.literal e in cc))
      at b Equal e = take b (λ less. (let both : Less ≡ Equal = sym less ∙ e in cc))
      at b More e = take b (λ less. (let both : Less ≡ More = sym less ∙ e in cc))

  best_is_maximal : (ls : List Literal) (b : Best ls) → IsMaximal o ls b.place
  best_is_maximal ls b j l m apart here there g =
      (let same : b.literal ≡ l = same_Some b.literal l (sym b.there ∙ here) in
      b.top j m there (back_greater (literal_compare o) (forms_total o) m b.literal (above_form o m b.literal (subst (λ z. IsLiteralGreater o m z) (sym same) g))))

  some_maximal : (ls : List Literal) → ls ≢ [] → (i : ℕ) × (i < length ls) × IsMaximal o ls i
  some_maximal [] some = absurd (some refl)
  some_maximal (l ∷ ls) some = (let b = best l ls in (b.place, b.within, best_is_maximal (l ∷ ls) b))

  some_chosen : (ls : List Literal) → ls ≢ [] → (x : Option ℕ) → ((k : ℕ) → x ≡ Some k → k < length ls) →
      (i : ℕ) × (i < length ls) × MatchOption x (IsMaximal o ls i) (λ place. i ≡ place)
  some_chosen ls some None within = some_maximal ls some
  some_chosen ls some (Some k) within = (k, within k refl, refl)

selected_within : (select : Select) (c : Clause) (l : Literal) (k : ℕ) → selected_by select c ≡ Some k → k < length c.literals
selected_within Nothing c l k e = absurd (cc)
selected_within First c l k e = (position-Some (λ (m : Literal). not m.positive) c.literals k l e).0

first_literal : (ls : List Literal) → ls ≢ [] → Literal
first_literal [] some = absurd (some refl)
first_literal (l ∷ ls) some = l

pub some_literal_is_eligible : SomeLiteralIsEligible
some_literal_is_eligible o c some =
    some_chosen o c.literals some (selected_by o.select c) (selected_within o.select c (first_literal c.literals some))

pub eligibility_decides : EligibilityDecides
eligibility_decides o c i = chosen o c i (selected_by o.select c)
