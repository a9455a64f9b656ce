-- The first path of a term, one argument after another.
use Rattle.std.proofs.Common.{◌≡◌, ℕ, zero, suc, ◌+◌, ◌<◌, ◌≤◌, ◌⊎◌, inl, inr, List, [], ◌∷◌, ◌++◌, length, get_or, ap, subst, refl, sym, ◌∙◌, arith, Option, Some, None, slice_get, option_and_then, reverse, append_assoc}
use Rattle.std.specs.Ordering.{nat_cmp, ordering_then}
use Rattle.std.specs.Cmp.Lexicographic.{slice_cmp}
use Rattle.std.specs.declared.cmp.Ordering.{Ordering}
use Rattle.std.specs.declared.cmp.Ordering.TheVariants.{Less, Equal, Greater}
use Rattle.std.proofs.lemmas.Option.{slice_get-get_or}
use Rattle.std.proofs.lemmas.List.{reverse-append, append-nil}
use Rattle.cd_term.specs.declared.Term.{Term}
use Rattle.cd_term.specs.declared.Term.TheVariants.{Var, App}
use Rattle.cd_term.specs.Terms.{subterm, size_of}
use Rattle.cd_kbo.proofs.Arguments.{side_below}
use Rattle.cd_term.proofs.Paths.{argument-Var, argument-App}
use Rattle.cd_kbo.proofs.Orderings.{nat_cmp-Less, nat_cmp-Equal}
use Rattle.cd_kbo.specs.declared.order.Order.{Order}
use Rattle.cd_clause.specs.declared.Clause.{Clause}
use Rattle.cd_rewrite.specs.Equations.{LowersTerm}
use Rattle.cd_rewrite.specs.Walks.{NoneIn, IsFirstPath, FoundIn, IsLowering}

-- no argument before place i has a subterm that passes
abbrev pub NoneBefore : (Term → Type 0) → List Term → ℕ → Type 0
NoneBefore P ts i = (k : ℕ) (t : Term) → k < i → slice_get ts k ≡ Some t → NoneIn P t

pub none_start : (P : Term → Type 0) (ts : List Term) → NoneBefore P ts 0
none_start P ts k t lt at = absurd (omega (arith, lt))

pub none_next : (P : Term → Type 0) (ts : List Term) (i : ℕ) (t : Term) → i < length ts → t ≡ get_or ts i t → NoneBefore P ts i → NoneIn P t →
    NoneBefore P ts (i + 1)
none_next P ts i t lt at before here k u less there = cases (split k i less)
  where
    split : (m n : ℕ) → m < n + 1 → (m < n) ⊎ (m ≡ n)
    split m n h = grind (arith, h)

    cases : (k < i) ⊎ (k ≡ i) → NoneIn P u
    cases (inl less) = before k u less there
    cases (inr same) =
        let is : Some t ≡ Some u = ap Some at ∙ sym (slice_get-get_or ts i t lt) ∙ ap (slice_get ts) (sym same) ∙ there in
        let eq : t ≡ u = cc in subst (NoneIn P) eq here

-- a subterm of an argument
step_in : (f i : ℕ) (ts : List Term) (path : List ℕ) (u : Term) (o : Option Term) → slice_get ts i ≡ o →
    option_and_then (subterm path) o ≡ Some u → (t : Term) × (slice_get ts i ≡ Some t) × (subterm path t ≡ Some u)
step_in f i ts path u None at e = absurd (cc)
step_in f i ts path u (Some t) at e = (t, at, e)

below_App : (f i : ℕ) (ts : List Term) (path : List ℕ) (u : Term) → subterm (i ∷ path) (App f ts) ≡ Some u →
    (t : Term) × (slice_get ts i ≡ Some t) × (subterm path t ≡ Some u)
below_App f i ts path u e =
    step_in f i ts path u (slice_get ts i) refl (ap (option_and_then (subterm path)) (sym (argument-App i f ts)) ∙ e)

-- a term that isn't a variable, none of whose arguments has a subterm that passes
pub none_in : (P : Term → Type 0) (t : Term) (f : ℕ) (ts xs : List Term) (i : ℕ) → t ≡ App f ts → xs ≡ ts → length xs ≤ i → (P t → ⊥) →
    NoneBefore P xs i → NoneIn P t
none_in P t f ts xs i is same le here before [] u there p = here (let e : t ≡ u = cc in subst P (sym e) p)
none_in P t f ts xs i is same le here before (k ∷ path) u there p =
    let b = below_App f k ts path u (ap (subterm (k ∷ path)) (sym is) ∙ there) in
    let at : slice_get xs k ≡ Some b.0 = ap (λ ys. slice_get ys k) same ∙ b.1 in
    before k b.0 (omega (arith, le, within xs k b.0 at)) at path u b.2 p
  where
    within : (ys : List Term) (j : ℕ) (y : Term) → slice_get ys j ≡ Some y → j < length ys
    within [] j y e = absurd (cc)
    within (y ∷ ys) zero z e = omega arith
    within (y ∷ ys) (suc j) z e = omega (arith, within ys j z e)

-- a variable has no other subterm
pub none_in_variable : (P : Term → Type 0) (t : Term) (n : ℕ) → t ≡ Var n → (P t → ⊥) → NoneIn P t
none_in_variable P t n is here [] u there p = here (let e : t ≡ u = cc in subst P (sym e) p)
none_in_variable P t n is here (k ∷ path) u there p =
    let out : subterm (k ∷ path) t ≡ None = ap (subterm (k ∷ path)) is ∙ ap (option_and_then (subterm path)) (argument-Var k n) in
    let both : None ≡ Some u = sym out ∙ there in absurd (cc)

-- the term itself passes
pub first_here : (P : Term → Type 0) (t : Term) → IsFirstPath P t [] t
first_here P t = record { there = refl; earlier = λ other u at less p. never other less }
  where
    never : (other : List ℕ) → slice_cmp nat_cmp other [] ≡ Less → ⊥
    never [] e = cc
    never (k ∷ other) e = cc

-- the first place in an argument is the first in the term
pub first_below : (P : Term → Type 0) (t : Term) (f : ℕ) (ts xs : List Term) (i : ℕ) (a : Term) (path : List ℕ) (found : Term) → t ≡ App f ts → xs ≡ ts →
    i < length xs → a ≡ get_or xs i a → (P t → ⊥) → NoneBefore P xs i → IsFirstPath P a path found → IsFirstPath P t (i ∷ path) found
first_below P t f ts xs i a path found is same lt at here before first = record {
  there = ap (subterm (i ∷ path)) is ∙ ap (option_and_then (subterm path)) (argument-App i f ts ∙ ap (λ ys. slice_get ys i) (sym same)
      ∙ slice_get-get_or xs i a lt ∙ ap Some (sym at)) ∙ first.there;
  earlier = λ other u there less p. earlier other u there less p;
}
  where
    then_cases : (o c : Ordering) → ordering_then o c ≡ Less → (o ≡ Less) ⊎ ((o ≡ Equal) × (c ≡ Less))
    then_cases Less c e = inl refl
    then_cases Equal c e = inr (refl, e)
    then_cases Greater c e = absurd (cc)

    compared : (m n : ℕ) (c : Ordering) → ordering_then (nat_cmp m n) c ≡ Less → (m < n) ⊎ ((m ≡ n) × (c ≡ Less))
    compared m n c e = elim (then_cases (nat_cmp m n) c e) [
      | inl less ↦ inl (nat_cmp-Less m n less)
      | inr both ↦ inr (nat_cmp-Equal m n both.0, both.1)
    ]

    by_place : (k : ℕ) (p u b : Term) (q : List ℕ) → slice_get ts k ≡ Some b → subterm q b ≡ Some u → P u → (k < i) ⊎ ((k ≡ i) × (slice_cmp nat_cmp q path ≡ Less)) → ⊥
    by_place k _ u b q place there p (inl less) =
        before k b less (ap (λ ys. slice_get ys k) same ∙ place) q u there p
    by_place k _ u b q place there p (inr both) =
        let eq : Some b ≡ Some a = sym (ap (λ ys. slice_get ys k) same ∙ place) ∙ ap (slice_get xs) both.0 ∙ slice_get-get_or xs i a lt ∙ ap Some (sym at) in
        let same_ : b ≡ a = cc in first.earlier q u (ap (subterm q) (sym same_) ∙ there) both.1 p

    earlier : (other : List ℕ) (u : Term) → subterm other t ≡ Some u → slice_cmp nat_cmp other (i ∷ path) ≡ Less → P u → ⊥
    earlier [] u there less p = here (let e : t ≡ u = cc in subst P (sym e) p)
    earlier (k ∷ q) u there less p =
        let b = below_App f k ts q u (ap (subterm (k ∷ q)) (sym is) ∙ there) in
        by_place k u u b.0 q b.1 b.2 p (compared k i (slice_cmp nat_cmp q path) less)

pub way_more : (before after all path : List ℕ) (i : ℕ) → after ≡ before ++ reverse path → all ≡ after ++ i ∷ [] → all ≡ before ++ reverse (i ∷ path)
way_more before after all path i is more =
    more ∙ ap (λ xs. xs ++ i ∷ []) is ∙ append_assoc before (reverse path) (i ∷ [])
    ∙ ap (λ xs. before ++ xs) (sym (reverse-append (i ∷ []) path))

pub found_here : (o : Order) (e : Clause) (vars : ℕ) (t : Term) (way : List ℕ) (side : ℕ) (s : List Term) → IsLowering o e vars t side s →
    FoundIn o e vars t way way side s
found_here o e vars t way side s lowering = record {
  path = [];
  way = sym (append-nil way);
  found = t;
  first = first_here (LowersTerm o e) t;
  lowering = lowering;
}

pub found_below : (o : Order) (e : Clause) (vars : ℕ) (t : Term) (f : ℕ) (ts xs : List Term) (i : ℕ) (a : Term) (start before after all : List ℕ) (side : ℕ)
    (s : List Term) → t ≡ App f ts → xs ≡ ts → i < length xs → a ≡ get_or xs i a → (LowersTerm o e t → ⊥) → NoneBefore (LowersTerm o e) xs i →
    before ≡ start → FoundIn o e vars a before after side s → all ≡ after ++ i ∷ [] → FoundIn o e vars t start all side s
found_below o e vars t f ts xs i a start before after all side s is same lt at here none unchanged found more = record {
  path = i ∷ found.path;
  way = way_more start after all found.path i (found.way ∙ ap (λ ys. ys ++ reverse found.path) unchanged) more;
  found = found.found;
  first = first_below (LowersTerm o e) t f ts xs i a found.path found.found is same lt at here none found.first;
  lowering = found.lowering;
}

pub get_inside : {A : Type 0} (ys : List A) (j : ℕ) (y : A) → slice_get ys j ≡ Some y → j < length ys
get_inside [] j y e = absurd (cc)
get_inside (y ∷ ys) zero z e = omega arith
get_inside (y ∷ ys) (suc j) z e = omega (arith, get_inside ys j z e)

pub argument_below : (t : Term) (f : ℕ) (ts xs : List Term) (i : ℕ) (a : Term) → t ≡ App f ts → xs ≡ ts → i < length xs → a ≡ get_or xs i a → size_of a < size_of t
argument_below t f ts xs i a is same lt at = side_below t a a f xs i (is ∙ ap (App f) (sym same)) lt at refl
