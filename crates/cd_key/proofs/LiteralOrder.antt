-- The order of literals is strict where there are no variables, and lies within the order of ground forms.
use Rattle.std.proofs.Common.{◌≡◌, ◌≢◌, inl, inr, Bool, true, false, if◌then◌else◌, List, [], ◌∷◌, Some, refl, ap, sym, ◌∙◌, subst}
use Rattle.std.specs.List.{AllByRecursion}
use Rattle.std.specs.Option.{option_cmp}
use Rattle.std.specs.Ordering.{ordering_then, is_lt, bool_cmp}
use Rattle.std.specs.Cmp.Lexicographic.{options_total}
use Rattle.std.specs.declared.cmp.Ordering.{Ordering}
use Rattle.std.specs.declared.cmp.Ordering.TheVariants.{Less, Equal, Greater as More}
use Rattle.std.proofs.lemmas.Cmp.{tied_itself, tied_back}
use Rattle.cd_list.specs.Lists.{Among}
use Rattle.cd_term.specs.declared.Term.{Term}
use Rattle.cd_term.specs.declared.Term.TheVariants.{App}
use Rattle.cd_clause.specs.declared.Atom.{Atom}
use Rattle.cd_clause.specs.declared.Atom.TheVariants.{Truth, Pred, Equal as Equation}
use Rattle.cd_clause.specs.declared.Literal.{Literal}
use Rattle.cd_clause.specs.Clauses.{exchanged, IsSameAtom}
use Rattle.cd_kbo.specs.declared.order.Order.{Order}
use Rattle.cd_kbo.specs.Kbo.{ground_compare, Every, Greater, IsGround}
use Rattle.cd_kbo.proofs.GroundLemmas.{ground_total}
use Rattle.cd_kbo.proofs.KboLemmas.{above, agree, irreflexive}
use Rattle.cd_key.specs.Literals.{sides, IsLiteralGreater}
use Rattle.cd_key.specs.Forms.{greater_term, greater_side, lesser_side, literal_compare}
use Rattle.cd_key.specs.Eligibility.{IsGroundLiteral, LiteralsAreOrdered}
use Rattle.cd_key.proofs.MultisetLemmas.{back_less, back_greater, never_less, less_up}

-- ---- lists

all_with : {A : Type 0} (P Q S : A → Type 0) (xs : List A) → ((x : A) → P x → Q x → S x) → AllByRecursion P xs → AllByRecursion Q xs → AllByRecursion S xs
all_with P Q S [] f p q = tt
all_with P Q S (x ∷ xs) f p q = (f x p.0 q.0, all_with P Q S xs f p.1 q.1)

among_with : {A : Type 0} (P Q S : A → Type 0) (xs : List A) → ((x : A) → P x → Q x → S x) → AllByRecursion P xs → Among Q xs → Among S xs
among_with P Q S [] f p q = absurd q
among_with P Q S (x ∷ xs) f p (inl here) = inl (f x p.0 here)
among_with P Q S (x ∷ xs) f p (inr there) = inr (among_with P Q S xs f p.1 there)

all_true : {A : Type 0} (xs : List A) → AllByRecursion (λ x. Unit {0}) xs
all_true [] = tt
all_true (x ∷ xs) = (tt, all_true xs)

among_one : {A : Type 0} (P : A → Type 0) (X : Type 0) (xs : List A) → ((x : A) → P x → X) → Among P xs → X
among_one P X [] f p = absurd p
among_one P X (x ∷ xs) f (inl here) = f x here
among_one P X (x ∷ xs) f (inr there) = among_one P X xs f there

-- ---- atoms that are the same up to the exchange of sides

exchanged_all : (P : Term → Type 0) (a : Atom) → AllByRecursion P (sides a) → AllByRecursion P (sides (exchanged a))
exchanged_all P Truth p = p
exchanged_all P (Pred q args) p = p
exchanged_all P (Equation s t) p = (p.1.0, (p.0, tt))

exchanged_back : (P : Term → Type 0) (a : Atom) → Among P (sides (exchanged a)) → Among P (sides a)
exchanged_back P Truth p = p
exchanged_back P (Pred q args) p = p
exchanged_back P (Equation s t) (inl x) = inr (inl x)
exchanged_back P (Equation s t) (inr (inl x)) = inl x
exchanged_back P (Equation s t) (inr (inr x)) = absurd x

exchanged_some : (a : Atom) → sides a ≢ [] → sides (exchanged a) ≢ []
exchanged_some Truth f e = f e
exchanged_some (Pred q args) f e = f e
exchanged_some (Equation s t) f e = cc

same_all : (P : Term → Type 0) (a b : Atom) → IsSameAtom a b → AllByRecursion P (sides a) → AllByRecursion P (sides b)
same_all P a b (inl e) p = subst (λ x. AllByRecursion P (sides x)) e p
same_all P a b (inr e) p = subst (λ x. AllByRecursion P (sides x)) e (exchanged_all P a p)

same_among : (P : Term → Type 0) (a b : Atom) → IsSameAtom a b → Among P (sides b) → Among P (sides a)
same_among P a b (inl e) p = subst (λ x. Among P (sides x)) (sym e) p
same_among P a b (inr e) p = exchanged_back P a (subst (λ x. Among P (sides x)) (sym e) p)

same_some : (a b : Atom) → IsSameAtom a b → sides a ≢ [] → sides b ≢ []
same_some a b (inl e) f = subst (λ x. sides x ≢ []) e f
same_some a b (inr e) f = subst (λ x. sides x ≢ []) e (exchanged_some a f)

module _ (o : Order) where
  -- ---- strictness

  nothing_above : (l : Literal) → IsLiteralGreater o l l → ⊥
  nothing_above l (inl (some, p)) = clash (sides l.atom) (sides l.atom) (λ P all. all) p
    where
      clash : (xs ys : List Term) → ((P : Term → Type 0) → AllByRecursion P ys → AllByRecursion P xs) → Among (λ s. AllByRecursion (Greater o s) ys) xs → ⊥
      clash [] ys f p = p
      clash (x ∷ xs) ys f (inl here) = irreflexive Every o x x (f (Greater o x) here).0 refl
      clash (x ∷ xs) ys f (inr there) = clash xs ys (λ P all. (f P all).1) there
  nothing_above l (inr (negative, positive, same)) = (let both : false ≡ true = sym negative ∙ positive in cc)

  ground_transitive : (s t u : Term) → IsGround s → IsGround u → Greater o s t → Greater o t u → Greater o s u
  ground_transitive s t u gs gu p q =
      let T = ground_total o in
      let R = ground_compare o in
      let less : R u s ≡ Less = T.trans u t s (back_greater R T t u (above Every o t u q)) (back_greater R T s t (above Every o s t p)) in
      agree o s u gs gu (back_less R T u s less)

  follow : (l m n : Literal) → IsGroundLiteral l → IsGroundLiteral n → IsLiteralGreater o l m → IsLiteralGreater o m n → IsLiteralGreater o l n
  follow l m n gl gn (inl (some, p)) (inl (some_n, q)) = inl (
    some_n,
    among_with IsGround (λ s. AllByRecursion (Greater o s) (sides m.atom)) (λ s. AllByRecursion (Greater o s) (sides n.atom)) (sides l.atom)
        (λ s gs above_m. among_one (λ t. AllByRecursion (Greater o s) (t ∷ []) × AllByRecursion (Greater o t) (sides n.atom)) (AllByRecursion (Greater o s) (sides n.atom)) (sides m.atom)
        (λ t both. all_with IsGround (Greater o t) (Greater o s) (sides n.atom) (λ u gu below. ground_transitive s t u gs gu both.0.0 below) gn both.1)
        (among_with (Greater o s) (λ t. AllByRecursion (Greater o t) (sides n.atom)) (λ t. AllByRecursion (Greater o s) (t ∷ []) × AllByRecursion (Greater o t) (sides n.atom)) (sides m.atom)
        (λ t a b. ((a, tt), b)) above_m q)) gl p,
  )
  follow l m n gl gn (inl (some, p)) (inr (negative, positive, same)) = inl (
    same_some m.atom n.atom same some,
    among_with (λ x. Unit {0}) (λ s. AllByRecursion (Greater o s) (sides m.atom)) (λ s. AllByRecursion (Greater o s) (sides n.atom)) (sides l.atom)
        (λ s u above_m. same_all (Greater o s) m.atom n.atom same above_m) (all_true (sides l.atom)) p,
  )
  follow l m n gl gn (inr (negative, positive, same)) (inl (some_n, q)) = inl (some_n, same_among (λ s. AllByRecursion (Greater o s) (sides n.atom)) l.atom m.atom same q)
  follow l m n gl gn (inr (negative, positive, same)) (inr (negative_m, positive_n, other)) = absurd (let both : true ≡ false = sym positive ∙ negative_m in cc)

  -- ---- ground forms

  record TopSide (a : Atom) : Type 0 where
    pub side : Term
    pub is : greater_side o a ≡ Some side
    pub below : AllByRecursion (λ u. ground_compare o side u ≢ Less) (sides a)
    pub held : (s : Term) → AllByRecursion (Greater o s) (sides a) → Greater o s side

  top_side : (a : Atom) → sides a ≢ [] → TopSide a
  top_side Truth f = absurd (f refl)
  top_side (Pred q args) f = record { side = App q args; is = refl; below = (never_less (ground_compare o) (ground_total o) (App q args), tt); held = λ u p. p.0 }
  top_side (Equation s t) f = at (ground_compare o s t) refl
    where
      itself : (x : Term) → ground_compare o x x ≢ Less
      itself x = never_less (ground_compare o) (ground_total o) x

      first : (r : Ordering) → ground_compare o s t ≡ r → r ≢ Less → is_lt r ≡ false → TopSide (Equation s t)
      first r e apart test = record {
        side = s;
        is = ap (λ (b : Bool). Some (if b then t else s)) (ap is_lt e ∙ test);
        below = (itself s, ((λ less. apart (sym e ∙ less)), tt));
        held = λ u p. p.0;
      }

      at : (r : Ordering) → ground_compare o s t ≡ r → TopSide (Equation s t)
      at Less e = record {
        side = t;
        is = ap (λ (r : Ordering). Some (if is_lt r then t else s)) e;
        below = ((λ less. (let both : Less ≡ More = sym less ∙ back_less (ground_compare o) (ground_total o) s t e in cc)), (itself t, tt));
        held = λ u p. p.1.0;
      }
      at Equal e = first Equal e (λ x. cc) refl
      at More e = first More e (λ x. cc) refl

  greater_first : (l m : Literal) → option_cmp (ground_compare o) (greater_side o l.atom) (greater_side o m.atom) ≡ More → literal_compare o l m ≡ More
  greater_first l m e = ap (λ (r : Ordering). ordering_then r (ordering_then (bool_cmp m.positive l.positive)
      (option_cmp (ground_compare o) (lesser_side o l.atom) (lesser_side o m.atom)))) e

  some_sides : (P : Term → Type 0) (xs : List Term) → Among P xs → xs ≢ []
  some_sides P [] p e = p
  some_sides P (x ∷ xs) p e = cc

  above_side : (l m : Literal) → sides m.atom ≢ [] → Among (λ s. AllByRecursion (Greater o s) (sides m.atom)) (sides l.atom) → literal_compare o l m ≡ More
  above_side l m some p =
      let T = ground_total o in
      let R = ground_compare o in
      let top_m = top_side m.atom some in
      let top_l = top_side l.atom (some_sides (λ s. AllByRecursion (Greater o s) (sides m.atom)) (sides l.atom) p) in
      let less : R top_m.side top_l.side ≡ Less =
      among_one (λ s. R top_m.side top_l.side ≡ Less) (R top_m.side top_l.side ≡ Less) (sides l.atom) (λ s e. e)
      (among_with (λ s. R top_l.side s ≢ Less) (λ s. AllByRecursion (Greater o s) (sides m.atom)) (λ s. R top_m.side top_l.side ≡ Less) (sides l.atom)
      (λ s lower all. less_up R T top_m.side s top_l.side (back_greater R T s top_m.side (above Every o s top_m.side (top_m.held s all))) lower)
      top_l.below p) in
      greater_first l m (ap (λ x. option_cmp R x (greater_side o m.atom)) top_l.is ∙ ap (option_cmp R (Some top_l.side)) top_m.is ∙ back_less R T top_m.side top_l.side less)

  turned_tie : (s t : Term) (r : Ordering) → ground_compare o s t ≡ r → ground_compare o (greater_term o s t) (greater_term o t s) ≡ Equal
  turned_tie s t Less e = ap (λ (r : Ordering). ground_compare o (if is_lt r then t else s) (greater_term o t s)) e
      ∙ ap (λ (r : Ordering). ground_compare o t (if is_lt r then s else t)) (back_less (ground_compare o) (ground_total o) s t e)
      ∙ tied_itself (ground_total o) t
  turned_tie s t Equal e = ap (λ (r : Ordering). ground_compare o (if is_lt r then t else s) (greater_term o t s)) e
      ∙ ap (λ (r : Ordering). ground_compare o s (if is_lt r then s else t)) (tied_back (ground_total o) s t e)
      ∙ e
  turned_tie s t More e = ap (λ (r : Ordering). ground_compare o (if is_lt r then t else s) (greater_term o t s)) e
      ∙ ap (λ (r : Ordering). ground_compare o s (if is_lt r then s else t)) (back_greater (ground_compare o) (ground_total o) s t e)
      ∙ tied_itself (ground_total o) s

  exchanged_tie : (a : Atom) → option_cmp (ground_compare o) (greater_side o a) (greater_side o (exchanged a)) ≡ Equal
  exchanged_tie Truth = refl
  exchanged_tie (Pred q args) = tied_itself (ground_total o) (App q args)
  exchanged_tie (Equation s t) = turned_tie s t (ground_compare o s t) refl

  same_tie : (a b : Atom) → IsSameAtom a b → option_cmp (ground_compare o) (greater_side o a) (greater_side o b) ≡ Equal
  same_tie a b (inl e) = ap (λ x. option_cmp (ground_compare o) (greater_side o a) (greater_side o x)) (sym e) ∙ tied_itself (options_total (ground_total o)) (greater_side o a)
  same_tie a b (inr e) = ap (λ x. option_cmp (ground_compare o) (greater_side o a) (greater_side o x)) (sym e) ∙ exchanged_tie a

  above_sign : (l m : Literal) → l.positive ≡ false → m.positive ≡ true → IsSameAtom l.atom m.atom → literal_compare o l m ≡ More
  above_sign l m negative positive same =
      (let last : Ordering = option_cmp (ground_compare o) (lesser_side o l.atom) (lesser_side o m.atom) in
      ap (λ (r : Ordering). ordering_then r (ordering_then (bool_cmp m.positive l.positive) last)) (same_tie l.atom m.atom same)
      ∙ ap (λ (b : Bool). ordering_then (bool_cmp b l.positive) last) positive
      ∙ ap (λ (b : Bool). ordering_then (bool_cmp true b) last) negative)

  pub above_form : (l m : Literal) → IsLiteralGreater o l m → literal_compare o l m ≡ More
  above_form l m (inl (some, p)) = above_side l m some p
  above_form l m (inr (negative, positive, same)) = above_sign l m negative positive same

pub literals_are_ordered : LiteralsAreOrdered
literals_are_ordered o = record {
  irreflexive = nothing_above o;
  transitive = λ l m n gl gm gn. follow o l m n gl gn;
  above = above_form o;
}
