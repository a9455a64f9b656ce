-- The marks of a clause have the shape of whatever its literals and subterms are instances of.
use Rattle.std.proofs.Common.{◌≡◌, ◌⊎◌, inl, inr, ℕ, zero, suc, ◌+◌, ◌<◌, ◌≤◌, Bool, true, false, List, [], ◌∷◌, length, map, get_or, Option, Some, None, slice_get, option_map, ap, subst, refl, sym, ◌∙◌, arith}
use Rattle.std.proofs.lemmas.Option.{same_Some, slice_get-map, slice_get-get_or}
use Rattle.cd_term.specs.declared.Term.{Term}
use Rattle.cd_term.specs.declared.Term.TheVariants.{Var, App}
use Rattle.cd_term.specs.Terms.{substituted}
use Rattle.cd_term.proofs.PathLaws.{steps_to}
use Rattle.cd_term.proofs.MarkLemmas.{Var-App-apart}
use Rattle.cd_clause.specs.declared.Atom.{Atom}
use Rattle.cd_clause.specs.declared.Atom.TheVariants.{Truth, Pred, Equal}
use Rattle.cd_clause.specs.declared.Literal.{Literal}
use Rattle.cd_clause.specs.Clauses.{terms_of, atom_changed}
use Rattle.cd_subsume.specs.Subsumption.{IsTurned}
use Rattle.cd_contract.specs.declared.marks.Marks.{Marks}
use Rattle.cd_contract.specs.Shapes.{mix, part, shape, head_of, literal_shape}
use Rattle.cd_contract.specs.Marks.{Marked, Keeps, Meets, MeetsLiteral, MeetsIn, MeetsAmong, MeetsWhole, IsSought, MarksParts}
use Rattle.cd_contract.proofs.Shaping.{layers, of_variable, apps_same, nothing_part}

-- ---- what is marked stays so

pub term_stays : (P Q : ℕ → Type 0) (t : Term) → ((k : ℕ) → P k → Q k) → MeetsIn P t → MeetsIn Q t
term_stays P Q t keeps met path u at = record { shapes = λ g p is. keeps (shape 3 p) ((met path u at).shapes g p is) }

pub terms_stay : (P Q : ℕ → Type 0) (ts : List Term) → ((k : ℕ) → P k → Q k) → MeetsAmong P ts → MeetsAmong Q ts
terms_stay P Q ts keeps met i t at = term_stays P Q t keeps (met i t at)

pub whole_stays : (P Q : ℕ → Type 0) (l : Literal) → ((k : ℕ) → P k → Q k) → MeetsWhole P l → MeetsWhole Q l
whole_stays P Q l keeps met = record {
  literal = record { shapes = λ g m e sign is. keeps (literal_shape m) (met.literal.shapes g m e sign is) };
  terms = terms_stay P Q (terms_of l.atom) keeps met.terms;
}

pub sought_stays : (P Q : ℕ → Type 0) (ls : List Literal) → ((k : ℕ) → P k → Q k) → IsSought ls P → IsSought ls Q
sought_stays P Q ls keeps sought = record { star = keeps 0 sought.star; each = λ j l at. whole_stays P Q l keeps (sought.each j l at) }

pub parts_stay : (m n : Marks) (f : ℕ) (a b : Option Term) → Keeps m n → MarksParts m f a b → MarksParts n f a b
parts_stay m n f a b keeps parts g q r one other = keeps (mix f (part (shape 2) q) (part (shape 2) r)) (parts g q r one other)

-- ---- terms

-- the terms before a place
abbrev pub MeetsBefore : (ℕ → Type 0) → List Term → ℕ → Type 0
MeetsBefore P ts i = (j : ℕ) (t : Term) → j < i → slice_get ts j ≡ Some t → MeetsIn P t

pub before_start : (P : ℕ → Type 0) (ts : List Term) → MeetsBefore P ts 0
before_start P ts j t lt at = absurd (omega (arith, lt))

split : (a b : ℕ) → a < b + 1 → (a < b) ⊎ (a ≡ b)
split a b h = grind (arith, h)

pub before_next : (P Q : ℕ → Type 0) (ts : List Term) (i : ℕ) (t : Term) → ((k : ℕ) → P k → Q k) → i < length ts → t ≡ get_or ts i t → MeetsBefore P ts i → MeetsIn Q t →
    MeetsBefore Q ts (i + 1)
before_next P Q ts i t keeps lt here met new j u less at = by (split j i less)
  where
    by : (j < i) ⊎ (j ≡ i) → MeetsIn Q u
    by (inl before) = term_stays P Q u keeps (met j u before at)
    by (inr same) =
        let is : t ≡ u = same_Some t u (ap Some here ∙ sym (slice_get-get_or ts i t lt) ∙ ap (slice_get ts) (sym same) ∙ at) in subst (MeetsIn Q) is new

inside : {A : Type 0} (xs : List A) (j : ℕ) (x : A) → slice_get xs j ≡ Some x → j < length xs
inside [] j x at = absurd (cc)
inside (y ∷ ys) zero x at = omega arith
inside (y ∷ ys) (suc j) x at = omega (arith, inside ys j x at)

pub before_all : (P : ℕ → Type 0) (ts : List Term) (i : ℕ) → length ts ≤ i → MeetsBefore P ts i → MeetsAmong P ts
before_all P ts i le met j t at = met j t (omega (arith, le, inside ts j t at)) at

-- a variable is an instance of variables alone
pub meets_variable : (P : ℕ → Type 0) (t : Term) (k : ℕ) → t ≡ Var k → P 0 → MeetsIn P t
meets_variable P t k is star [] u at =
    let same : t ≡ u = same_Some t u at in record { shapes = λ g p e. subst P (sym (of_variable 2 k g t p is (e ∙ sym same))) star }
meets_variable P t k is star (i ∷ path) u at =
    let s = steps_to i path u t at in absurd (Var-App-apart k s.symbol s.args (sym is ∙ s.is))

-- a term of a symbol, at its own place
pub meets_here : (m : Marks) (t : Term) (f s : ℕ) (ts xs : List Term) → t ≡ App f ts → xs ≡ ts → s ≡ f → Marked m 0 →
    MarksParts m s (slice_get xs 0) (slice_get xs 1) → Meets (Marked m) t
meets_here m t f s ts xs is same symbol star parts = record {
  shapes = λ g p e. elim (layers 2 g f ts t p is e) [
    | inl none ↦ subst (Marked m) (sym none) star
    | inr l ↦ subst (Marked m) (sym (l.made ∙ ap (λ x. mix x (part (shape 2) l.first) (part (shape 2) l.second)) (sym symbol)))
        (parts g l.first l.second (l.one ∙ ap (λ z. slice_get z 0) (sym same)) (l.other ∙ ap (λ z. slice_get z 1) (sym same)))
  ];
}

pub meets_symbol : (m : Marks) (t : Term) (f s : ℕ) (ts xs : List Term) → t ≡ App f ts → xs ≡ ts → s ≡ f → Marked m 0 →
    MarksParts m s (slice_get xs 0) (slice_get xs 1) → MeetsAmong (Marked m) xs → MeetsIn (Marked m) t
meets_symbol m t f s ts xs is same symbol star parts met [] u at = subst (Meets (Marked m)) (same_Some t u at) (meets_here m t f s ts xs is same symbol star parts)
meets_symbol m t f s ts xs is same symbol star parts met (i ∷ path) u at =
    let st = steps_to i path u t at in
    let both = apps_same f st.symbol ts st.args (sym is ∙ st.is) in
    met i st.arg (ap (λ z. slice_get z i) (same ∙ both.1) ∙ st.here) path u st.rest

-- ---- literals

atom_terms : (h : Term → Term) (a : Atom) → terms_of (atom_changed h a) ≡ map h (terms_of a)
atom_terms h Truth = refl
atom_terms h (Pred p args) = refl
atom_terms h (Equal s t) = refl

heads_same : (h : Term → Term) (sign : Bool) (a : Atom) → head_of sign (atom_changed h a) ≡ head_of sign a
heads_same h sign Truth = refl
heads_same h sign (Pred p args) = refl
heads_same h sign (Equal s t) = refl

straight : (m : Marks) (l : Literal) (g : ℕ → Term) (k : Literal) → MarksParts m (head_of l.positive l.atom) (slice_get (terms_of l.atom) 0) (slice_get (terms_of l.atom) 1) →
    k.positive ≡ l.positive → atom_changed (substituted g) k.atom ≡ l.atom → Marked m (literal_shape k)
straight m l g k parts sign is =
    subst (λ h. Marked m (mix h (part (shape 2) (slice_get (terms_of k.atom) 0)) (part (shape 2) (slice_get (terms_of k.atom) 1)))) head
    (parts g (slice_get (terms_of k.atom) 0) (slice_get (terms_of k.atom) 1) (at 0) (at 1))
  where
    head : head_of l.positive l.atom ≡ head_of k.positive k.atom
    head = ap (λ s. head_of s l.atom) (sym sign) ∙ ap (head_of k.positive) (sym is) ∙ heads_same (substituted g) k.positive k.atom

    at : (i : ℕ) → option_map (substituted g) (slice_get (terms_of k.atom) i) ≡ slice_get (terms_of l.atom) i
    at i = sym (slice_get-map (substituted g) (terms_of k.atom) i) ∙ ap (λ ts. slice_get ts i) (sym (atom_terms (substituted g) k.atom)) ∙ ap (λ a. slice_get (terms_of a) i) is

exchanged : (m : Marks) (l : Literal) (g : ℕ → Term) (sign : Bool) (a : Atom) →
    ((s t : Term) → l.atom ≡ Equal s t → MarksParts m (head_of l.positive l.atom) (Some t) (Some s)) →
    sign ≡ l.positive → IsTurned true (atom_changed (substituted g) a) l.atom → Marked m (literal_shape (record { positive = sign; atom = a }))
exchanged m l g sign Truth parts same is = absurd is
exchanged m l g sign (Pred p args) parts same is = absurd is
exchanged m l g sign (Equal s t) parts same is =
    subst (λ h. Marked m (mix h (part (shape 2) (Some s)) (part (shape 2) (Some t))))
    (ap (λ b. head_of b l.atom) (sym same) ∙ ap (head_of sign) (sym is))
    (parts (substituted g t) (substituted g s) (sym is) g (Some s) (Some t) refl refl)

pub meets_literal : (m : Marks) (l : Literal) → MarksParts m (head_of l.positive l.atom) (slice_get (terms_of l.atom) 0) (slice_get (terms_of l.atom) 1) →
    ((s t : Term) → l.atom ≡ Equal s t → MarksParts m (head_of l.positive l.atom) (Some t) (Some s)) → MeetsLiteral (Marked m) l
meets_literal m l parts turned = record { shapes = λ g k e sign is. by g k e sign is }
  where
    by : (g : ℕ → Term) (k : Literal) (e : Bool) → k.positive ≡ l.positive → IsTurned e (atom_changed (substituted g) k.atom) l.atom → Marked m (literal_shape k)
    by g k false sign is = straight m l g k parts sign is
    by g k true sign is = exchanged m l g k.positive k.atom turned sign is

truth_parts : (m : Marks) (s : ℕ) → Marked m (mix s 1 1) → MarksParts m s None None
truth_parts m s on g q r one other =
    subst (λ x. Marked m (mix s x (part (shape 2) r))) (sym (nothing_part 2 g q one)) (subst (λ y. Marked m (mix s 1 y)) (sym (nothing_part 2 g r other)) on)

-- the head that is marked is that of the literal
headed : (m : Marks) (l : Literal) (s : ℕ) → s ≡ head_of l.positive l.atom → MarksParts m s (slice_get (terms_of l.atom) 0) (slice_get (terms_of l.atom) 1) →
    MarksParts m (head_of l.positive l.atom) (slice_get (terms_of l.atom) 0) (slice_get (terms_of l.atom) 1)
headed m l s is parts = subst (λ x. MarksParts m x (slice_get (terms_of l.atom) 0) (slice_get (terms_of l.atom) 1)) is parts

pub whole_truth : (m : Marks) (l : Literal) (s : ℕ) → l.atom ≡ Truth → s ≡ head_of l.positive l.atom → Marked m (mix s 1 1) → MeetsWhole (Marked m) l
whole_truth m l s is symbol on = record {
  literal = meets_literal m l
      (headed m l s symbol (subst (λ a. MarksParts m s (slice_get (terms_of a) 0) (slice_get (terms_of a) 1)) (sym is) (truth_parts m s on)))
      (λ a b e. (let both : Truth ≡ Equal a b = sym is ∙ e in absurd (cc)));
  terms = subst (λ a. MeetsAmong (Marked m) (terms_of a)) (sym is) (λ i t at. absurd (cc));
}

pub whole_predicate : (m : Marks) (l : Literal) (s p : ℕ) (ts xs : List Term) → l.atom ≡ Pred p ts → xs ≡ ts → s ≡ head_of l.positive l.atom →
    MarksParts m s (slice_get xs 0) (slice_get xs 1) → MeetsAmong (Marked m) xs → MeetsWhole (Marked m) l
whole_predicate m l s p ts xs is same symbol parts met = record {
  literal = meets_literal m l (headed m l s symbol (subst (λ ys. MarksParts m s (slice_get ys 0) (slice_get ys 1)) terms parts))
      (λ a b e. (let both : Pred p ts ≡ Equal a b = sym is ∙ e in absurd (cc)));
  terms = subst (MeetsAmong (Marked m)) terms met;
}
  where
    terms : xs ≡ terms_of l.atom
    terms = same ∙ ap terms_of (sym is)

sides_meet : (P : ℕ → Type 0) (a b : Term) → MeetsIn P a → MeetsIn P b → MeetsAmong P (a ∷ b ∷ [])
sides_meet P a b first second zero t at = let is : a ≡ t = same_Some a t at in subst (MeetsIn P) is first
sides_meet P a b first second (suc zero) t at = let is : b ≡ t = same_Some b t at in subst (MeetsIn P) is second
sides_meet P a b first second (suc (suc i)) t at = absurd (cc)

pub whole_equation : (m : Marks) (l : Literal) (s : ℕ) (a b : Term) → l.atom ≡ Equal a b → s ≡ head_of l.positive l.atom → MarksParts m s (Some a) (Some b) →
    MarksParts m s (Some b) (Some a) → MeetsIn (Marked m) a → MeetsIn (Marked m) b → MeetsWhole (Marked m) l
whole_equation m l s a b is symbol straight_ turned first second = record {
  literal = meets_literal m l (headed m l s symbol (subst (λ x. MarksParts m s (slice_get (terms_of x) 0) (slice_get (terms_of x) 1)) (sym is) straight_))
      (λ u v e. (let both : Equal a b ≡ Equal u v = sym is ∙ e in
      let left : a ≡ u = cc in
      let right : b ≡ v = cc in
      subst (λ x. MarksParts m x (Some v) (Some u)) symbol (subst (λ x. MarksParts m s (Some v) (Some x)) left (subst (λ x. MarksParts m s (Some x) (Some a)) right turned))));
  terms = subst (λ x. MeetsAmong (Marked m) (terms_of x)) (sym is) (sides_meet (Marked m) a b first second);
}

-- ---- clauses

abbrev pub WholeBefore : (ℕ → Type 0) → List Literal → ℕ → Type 0
WholeBefore P ls i = (j : ℕ) (l : Literal) → j < i → slice_get ls j ≡ Some l → MeetsWhole P l

pub whole_start : (P : ℕ → Type 0) (ls : List Literal) → WholeBefore P ls 0
whole_start P ls j l lt at = absurd (omega (arith, lt))

pub whole_next : (P Q : ℕ → Type 0) (ls : List Literal) (i : ℕ) (l : Literal) → ((k : ℕ) → P k → Q k) → i < length ls → l ≡ get_or ls i l → WholeBefore P ls i → MeetsWhole Q l →
    WholeBefore Q ls (i + 1)
whole_next P Q ls i l keeps lt here met new j m less at = by (split j i less)
  where
    by : (j < i) ⊎ (j ≡ i) → MeetsWhole Q m
    by (inl before) = whole_stays P Q m keeps (met j m before at)
    by (inr same) =
        let is : l ≡ m = same_Some l m (ap Some here ∙ sym (slice_get-get_or ls i l lt) ∙ ap (slice_get ls) (sym same) ∙ at) in subst (MeetsWhole Q) is new

pub whole_all : (P : ℕ → Type 0) (ls xs : List Literal) (i : ℕ) → xs ≡ ls → length xs ≤ i → P 0 → WholeBefore P xs i → IsSought ls P
whole_all P ls xs i same le star met = record {
  star = star;
  each = λ j l at. met j l (omega (arith, le, inside xs j l (ap (λ ys. slice_get ys j) same ∙ at))) (ap (λ ys. slice_get ys j) same ∙ at);
}
