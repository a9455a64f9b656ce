-- The first place of several terms, of an atom and of a clause.
use Rattle.std.proofs.Common.{true, false, ◌≡◌, ℕ, zero, suc, ◌+◌, ◌<◌, ◌≤◌, ◌⊎◌, inl, inr, List, [], ◌∷◌, ◌++◌, length, sum_by, get_or, ap, subst, refl, sym, ◌∙◌, arith, Option, Some, None, slice_get, option_and_then, reverse}
use Rattle.std.specs.Ordering.{nat_cmp, ordering_then}
use Rattle.std.specs.Cmp.Lexicographic.{slice_cmp}
use Rattle.std.specs.declared.cmp.Ordering.{Ordering}
use Rattle.std.specs.declared.cmp.Ordering.TheVariants.{Less, Equal as Tied, Greater as More}
use Rattle.std.proofs.lemmas.Option.{slice_get-get_or, same_Some}
use Rattle.std.proofs.lemmas.List.Sums.{sum_by-cons, sum_by_more_le}
use Rattle.cd_term.specs.declared.Term.{Term}
use Rattle.cd_term.specs.Terms.{subterm, size_of, value_of}
use Rattle.cd_clause.specs.declared.Atom.{Atom}
use Rattle.cd_clause.specs.declared.Atom.TheVariants.{Truth, Pred, Equal}
use Rattle.cd_clause.specs.declared.Literal.{Literal}
use Rattle.cd_clause.specs.declared.Clause.{Clause}
use Rattle.cd_clause.specs.Clauses.{terms_of, literal_size}
use Rattle.cd_clause.specs.Places.{signed, subterm_at}
use Rattle.cd_kbo.specs.declared.order.Order.{Order}
use Rattle.cd_kbo.proofs.Orderings.{nat_cmp-Less, nat_cmp-Equal}
use Rattle.cd_rewrite.specs.Reduction.{IsRule, Lowers, Spot, ReducesBy, Reduces, IsFirst}
use Rattle.cd_rewrite.specs.Equations.{LowersTerm}
use Rattle.cd_rewrite.specs.Walks.{subterm_among, NoneIn, IsFirstPath, FoundIn, NoneAmong, IsFirstAmong, FoundAmong, NoLiteralBefore, FoundAt}
use Rattle.cd_rewrite.proofs.FirstPaths.{NoneBefore, way_more, get_inside}

-- a subterm of several terms
pub record StepsAmong (i : ℕ) (path : List ℕ) (ts : List Term) (u : Term) : Type 0 where
  pub arg : Term
  pub here : slice_get ts i ≡ Some arg
  pub rest : subterm path arg ≡ Some u

steps_at : (i : ℕ) (path : List ℕ) (ts : List Term) (u : Term) (o : Option Term) → slice_get ts i ≡ o → option_and_then (subterm path) o ≡ Some u →
    StepsAmong i path ts u
steps_at i path ts u None here e = absurd (cc)
steps_at i path ts u (Some t) here e = record { arg = t; here = here; rest = e }

pub steps_among : (i : ℕ) (path : List ℕ) (ts : List Term) (u : Term) → subterm_among (i ∷ path) ts ≡ Some u → StepsAmong i path ts u
steps_among i path ts u e = steps_at i path ts u (slice_get ts i) refl e

pub none_among : (P : Term → Type 0) (ts xs : List Term) (i : ℕ) → xs ≡ ts → length xs ≤ i → NoneBefore P xs i → NoneAmong P ts
none_among P ts xs i same le before [] u at p = absurd (cc)
none_among P ts xs i same le before (k ∷ path) u at p =
    let s = steps_among k path ts u at in
    let there : slice_get xs k ≡ Some s.arg = ap (λ ys. slice_get ys k) same ∙ s.here in
    before k s.arg (omega (arith, le, get_inside xs k s.arg there)) there path u s.rest p

then_cases : (o c : Ordering) → ordering_then o c ≡ Less → (o ≡ Less) ⊎ ((o ≡ Tied) × (c ≡ Less))
then_cases Less c e = inl refl
then_cases Tied c e = inr (refl, e)
then_cases More c e = absurd (cc)

pub first_among : (P : Term → Type 0) (ts xs : List Term) (i : ℕ) (a : Term) (path : List ℕ) (found : Term) → xs ≡ ts → i < length xs → a ≡ get_or xs i a →
    NoneBefore P xs i → IsFirstPath P a path found → IsFirstAmong P ts (i ∷ path) found
first_among P ts xs i a path found same lt at before first = record {
  there = ap (option_and_then (subterm path)) (ap (λ ys. slice_get ys i) (sym same) ∙ slice_get-get_or xs i a lt ∙ ap Some (sym at)) ∙ first.there;
  earlier = λ other u there less p. earlier other u there less p;
}
  where
    by_place : (k : ℕ) (u b : Term) (q : List ℕ) → slice_get ts k ≡ Some b → subterm q b ≡ Some u → P u →
        (nat_cmp k i ≡ Less) ⊎ ((nat_cmp k i ≡ Tied) × (slice_cmp nat_cmp q path ≡ Less)) → ⊥
    by_place k u b q here there p (inl less) = before k b (nat_cmp-Less k i less) (ap (λ ys. slice_get ys k) same ∙ here) q u there p
    by_place k u b q here there p (inr both) =
        let same_ : b ≡ a = same_Some b a (sym (ap (λ ys. slice_get ys k) same ∙ here) ∙ ap (slice_get xs) (nat_cmp-Equal k i both.0) ∙ slice_get-get_or xs i a lt ∙ ap Some (sym at)) in
        first.earlier q u (ap (subterm q) (sym same_) ∙ there) both.1 p

    earlier : (other : List ℕ) (u : Term) → subterm_among other ts ≡ Some u → slice_cmp nat_cmp other (i ∷ path) ≡ Less → P u → ⊥
    earlier [] u there less p = absurd (cc)
    earlier (k ∷ q) u there less p =
        let s = steps_among k q ts u there in by_place k u s.arg q s.here s.rest p (then_cases (nat_cmp k i) (slice_cmp nat_cmp q path) less)

pub found_among : (o : Order) (e : Clause) (vars : ℕ) (ts xs : List Term) (i : ℕ) (a : Term) (start before after all : List ℕ) (side : ℕ) (s : List Term) →
    xs ≡ ts → i < length xs → a ≡ get_or xs i a → NoneBefore (LowersTerm o e) xs i → before ≡ start → FoundIn o e vars a before after side s →
    all ≡ after ++ i ∷ [] → FoundAmong o e vars ts start all side s
found_among o e vars ts xs i a start before after all side s same lt at none unchanged found more = record {
  path = i ∷ found.path;
  way = way_more start after all found.path i (found.way ∙ ap (λ ys. ys ++ reverse found.path) unchanged) more;
  found = found.found;
  first = first_among (LowersTerm o e) ts xs i a found.path found.found same lt at none found.first;
  lowering = found.lowering;
}

-- atoms
pub none_in_truth : (P : Term → Type 0) (a : Atom) → a ≡ Truth → NoneAmong P (terms_of a)
none_in_truth P a is = subst (λ b. NoneAmong P (terms_of b)) (sym is) (λ path u at p. none path u at)
  where
    none : (path : List ℕ) (u : Term) → subterm_among path [] ≡ Some u → ⊥
    none [] u at = cc
    none (zero ∷ path) u at = cc
    none (suc k ∷ path) u at = cc

pub none_in_predicate : (P : Term → Type 0) (a : Atom) (q : ℕ) (ts xs : List Term) → a ≡ Pred q ts → xs ≡ ts → NoneAmong P xs → NoneAmong P (terms_of a)
none_in_predicate P a q ts xs is same none =
    subst (λ b. NoneAmong P (terms_of b)) (sym is) (subst (NoneAmong P) same none)

pub found_in_predicate : (o : Order) (e : Clause) (vars : ℕ) (a : Atom) (q : ℕ) (ts xs : List Term) (before after : List ℕ) (side : ℕ) (s : List Term) →
    a ≡ Pred q ts → xs ≡ ts → FoundAmong o e vars xs before after side s → FoundAmong o e vars (terms_of a) before after side s
found_in_predicate o e vars a q ts xs before after side s is same found =
    subst (λ b. FoundAmong o e vars (terms_of b) before after side s) (sym is)
    (subst (λ ys. FoundAmong o e vars ys before after side s) same found)

sides_before : (P : Term → Type 0) (s t : Term) → NoneIn P s → NoneBefore P (s ∷ t ∷ []) 1
sides_before P s t none zero u lt at = let is : s ≡ u = same_Some s u at in subst (NoneIn P) is none
sides_before P s t none (suc k) u lt at = absurd (omega (arith, lt))

sides_both : (P : Term → Type 0) (s t : Term) → NoneIn P s → NoneIn P t → NoneBefore P (s ∷ t ∷ []) 2
sides_both P s t first second zero u lt at = let is : s ≡ u = same_Some s u at in subst (NoneIn P) is first
sides_both P s t first second (suc zero) u lt at = let is : t ≡ u = same_Some t u at in subst (NoneIn P) is second
sides_both P s t first second (suc (suc k)) u lt at = absurd (omega (arith, lt))

pub none_in_equation : (P : Term → Type 0) (a : Atom) (s t : Term) → a ≡ Equal s t → NoneIn P s → NoneIn P t → NoneAmong P (terms_of a)
none_in_equation P a s t is first second =
    subst (λ b. NoneAmong P (terms_of b)) (sym is) (none_among P (s ∷ t ∷ []) (s ∷ t ∷ []) 2 refl (omega arith) (sides_both P s t first second))

nothing_before : (P : Term → Type 0) (ts : List Term) → NoneBefore P ts 0
nothing_before P ts k t lt at = absurd (omega (arith, lt))

pub found_left : (o : Order) (e : Clause) (vars : ℕ) (a : Atom) (s t : Term) (before after all : List ℕ) (side : ℕ) (u : List Term) →
    a ≡ Equal s t → FoundIn o e vars s before after side u → all ≡ after ++ 0 ∷ [] → FoundAmong o e vars (terms_of a) before all side u
found_left o e vars a s t before after all side u is found more =
    subst (λ b. FoundAmong o e vars (terms_of b) before all side u) (sym is)
    (found_among o e vars (s ∷ t ∷ []) (s ∷ t ∷ []) 0 s before before after all side u refl (omega arith) refl (nothing_before (LowersTerm o e) (s ∷ t ∷ [])) refl found more)

pub found_right : (o : Order) (e : Clause) (vars : ℕ) (a : Atom) (s t : Term) (start before after all : List ℕ) (side : ℕ) (u : List Term) →
    a ≡ Equal s t → NoneIn (LowersTerm o e) s → before ≡ start → FoundIn o e vars t before after side u → all ≡ after ++ 1 ∷ [] →
    FoundAmong o e vars (terms_of a) start all side u
found_right o e vars a s t start before after all side u is none unchanged found more =
    subst (λ b. FoundAmong o e vars (terms_of b) start all side u) (sym is)
    (found_among o e vars (s ∷ t ∷ []) (s ∷ t ∷ []) 1 t start before after all side u refl (omega arith) refl (sides_before (LowersTerm o e) s t none) unchanged found more)

-- literals
pub no_literal_start : (P : Term → Type 0) (ls : List Literal) → NoLiteralBefore P ls 0
no_literal_start P ls k l lt at = absurd (omega (arith, lt))

pub no_literal_next : (P : Term → Type 0) (ls : List Literal) (j : ℕ) (l : Literal) → j < length ls → l ≡ get_or ls j l → NoLiteralBefore P ls j →
    NoneAmong P (terms_of l.atom) → NoLiteralBefore P ls (j + 1)
no_literal_next P ls j l lt at before here k m less there = cases (split k j less)
  where
    split : (a b : ℕ) → a < b + 1 → (a < b) ⊎ (a ≡ b)
    split a b h = grind (arith, h)

    cases : (k < j) ⊎ (k ≡ j) → NoneAmong P (terms_of m.atom)
    cases (inl before_) = before k m before_ there
    cases (inr same) =
        let is : l ≡ m = same_Some l m (ap Some at ∙ sym (slice_get-get_or ls j l lt) ∙ ap (slice_get ls) (sym same) ∙ there) in
        subst (λ (n : Literal). NoneAmong P (terms_of n.atom)) is here

pub no_literal_all : (P : Term → Type 0) (ls xs : List Literal) (j : ℕ) → xs ≡ ls → length xs ≤ j → NoLiteralBefore P xs j → NoLiteralBefore P ls (length ls)
no_literal_all P ls xs j same le none k l lt at = none k l (omega (arith, ap length same, lt, le)) (ap (λ ys. slice_get ys k) same ∙ at)

pub found_at : (o : Order) (e : Clause) (vars : ℕ) (ls xs : List Literal) (j : ℕ) (l : Literal) (start way : List ℕ) (side : ℕ) (s : List Term) →
    xs ≡ ls → j < length xs → l ≡ get_or xs j l → NoLiteralBefore (LowersTerm o e) xs j → start ≡ [] → FoundAmong o e vars (terms_of l.atom) start way side s →
    FoundAt o e vars ls j way side s
found_at o e vars ls xs j l start way side s same lt at none empty found = record {
  literal = l;
  here = ap (λ ys. slice_get ys j) (sym same) ∙ slice_get-get_or xs j l lt ∙ ap Some (sym at);
  earlier = subst (λ ys. NoLiteralBefore (LowersTerm o e) ys j) same none;
  found = subst (λ ks. FoundAmong o e vars (terms_of l.atom) ks way side s) empty found;
}

-- a subterm of an atom
pub at_atom : (path : List ℕ) (a : Atom) → subterm_at path a ≡ subterm_among path (terms_of a)
at_atom [] a = refl
at_atom (k ∷ path) a = refl

-- the first place in the order of places
same_path : (p q : List ℕ) → slice_cmp nat_cmp p q ≡ Tied → p ≡ q
same_path [] [] e = refl
same_path [] (y ∷ q) e = absurd (cc)
same_path (x ∷ p) [] e = absurd (cc)
same_path (x ∷ p) (y ∷ q) e = parts (nat_cmp x y) refl (same_path p q) e
  where
    parts : (c : Ordering) → nat_cmp x y ≡ c → (slice_cmp nat_cmp p q ≡ Tied → p ≡ q) → ordering_then c (slice_cmp nat_cmp p q) ≡ Tied → x ∷ p ≡ y ∷ q
    parts Less is rest e = absurd (cc)
    parts More is rest e = absurd (cc)
    parts Tied is rest e = ap (λ n. n ∷ p) (nat_cmp-Equal x y is) ∙ ap (λ r. y ∷ r) (rest e)

three : (a b c : Ordering) → ordering_then a (ordering_then b c) ≡ Less →
    (a ≡ Less) ⊎ ((a ≡ Tied) × (b ≡ Less)) ⊎ ((a ≡ Tied) × (b ≡ Tied) × (c ≡ Less))
three Less b c e = inl refl
three More b c e = absurd (cc)
three Tied Less c e = inr (inl (refl, refl))
three Tied More c e = absurd (cc)
three Tied Tied c e = inr (inr (refl, refl, e))

module _ {o : Order} {e : Clause} {vars : ℕ} {c : Clause} {j : ℕ} {way : List ℕ} {side : ℕ} {s : List Term} (f : FoundAt o e vars c.literals j way side s) where
  -- no reduction at another place comes before
  before_none : (other : Spot) (g : ℕ → Term) → ReducesBy o e c other g →
      (nat_cmp other.literal j ≡ Less) ⊎ ((nat_cmp other.literal j ≡ Tied) × (slice_cmp nat_cmp other.path f.found.path ≡ Less))
      ⊎ ((nat_cmp other.literal j ≡ Tied) × (slice_cmp nat_cmp other.path f.found.path ≡ Tied) × (nat_cmp other.side side ≡ Less)) → ⊥
  before_none other g by (inl literal) =
      f.earlier other.literal by.taker (nat_cmp-Less other.literal j literal) by.literal other.path by.old (sym (at_atom other.path by.taker.atom) ∙ by.there)
      (other.side, g, by.new, by.lowers)
  before_none other g by (inr (inl path)) =
      let is : by.taker ≡ f.literal = same_Some by.taker f.literal (sym by.literal ∙ ap (slice_get c.literals) (nat_cmp-Equal other.literal j path.0) ∙ f.here) in
      f.found.first.earlier other.path by.old
      (ap (λ (m : Literal). subterm_among other.path (terms_of m.atom)) (sym is) ∙ sym (at_atom other.path by.taker.atom) ∙ by.there) path.1 (other.side, g, by.new, by.lowers)
  before_none other g by (inr (inr both)) =
      let is : by.taker ≡ f.literal = same_Some by.taker f.literal (sym by.literal ∙ ap (slice_get c.literals) (nat_cmp-Equal other.literal j both.0) ∙ f.here) in
      let same : by.old ≡ f.found.found = same_Some by.old f.found.found
      (sym by.there ∙ at_atom other.path by.taker.atom ∙ ap (λ (m : Literal). subterm_among other.path (terms_of m.atom)) is
      ∙ ap (λ q. subterm_among q (terms_of f.literal.atom)) (same_path other.path f.found.path both.1) ∙ f.found.first.there) in
      omega (arith, nat_cmp-Less other.side side both.2, f.found.lowering.least other.side g by.new (subst (λ t. Lowers o e other.side g t by.new) same by.lowers))

  unfoldable pub found_spot : Spot
  found_spot = record { literal = j; path = f.found.path; side = side }

  pub found_by : ReducesBy o e c found_spot (value_of s)
  unfolding found_spot
  found_by = record {
    taker = f.literal;
    old = f.found.found;
    new = f.found.lowering.new;
    literal = f.here;
    there = at_atom f.found.path f.literal.atom ∙ f.found.first.there;
    lowers = f.found.lowering.lowers;
  }

  -- the place that was found is the first one
  pub found_first : IsFirst o e c found_spot
  unfolding found_spot
  found_first = record {
    here = (value_of s, found_by);
    least = λ other by less. before_none other by.0 by.1 (three (nat_cmp other.literal j) (slice_cmp nat_cmp other.path f.found.path) (nat_cmp other.side side) less);
  }

  pub found_reduces : Reduces o e c
  found_reduces = (found_spot, (value_of s, found_by))

-- no literal has a place
pub none_reduces : (o : Order) (e c : Clause) → NoLiteralBefore (LowersTerm o e) c.literals (length c.literals) → Reduces o e c → ⊥
none_reduces o e c none red =
    let by = red.1.1 in
    none red.0.literal by.taker (get_inside c.literals red.0.literal by.taker by.literal) by.literal red.0.path by.old
    (sym (at_atom red.0.path by.taker.atom) ∙ by.there) (red.0.side, red.1.0, by.new, by.lowers)

-- a clause that isn't an equation reduces nothing
sides_there : (e : Clause) (side : ℕ) (from to : Term) → ((s t : Term) → e.literals ≡ signed true (Equal s t) ∷ [] → ⊥) → IsRule e side from to → ⊥
sides_there e zero from to none r = none from to (r.one ∙ ap (λ a. signed true a ∷ []) r.sides)
sides_there e (suc zero) from to none r = none to from (r.one ∙ ap (λ a. signed true a ∷ []) r.sides)
sides_there e (suc (suc n)) from to none r = absurd r.sides

pub no_equation : (o : Order) (e c : Clause) → ((s t : Term) → e.literals ≡ signed true (Equal s t) ∷ [] → ⊥) → Reduces o e c → ⊥
no_equation o e c none red =
    sides_there e red.0.side red.1.1.lowers.from red.1.1.lowers.to none red.1.1.lowers.rule

pub literal_small : (ls : List Literal) (j n : ℕ) (l : Literal) → j < length ls → l ≡ get_or ls j l → sum_by literal_size ls ≤ n → sum_by size_of (terms_of l.atom) ≤ n
literal_small ls j n l lt at le = omega (arith, le, sum_by_more_le literal_size ls j l lt, ap literal_size at)

pub count_literals : (ls : List Literal) → length ls ≤ sum_by literal_size ls
count_literals [] = omega arith
count_literals (l ∷ ls) = omega (arith, count_literals ls, sum_by-cons literal_size l ls)

-- the answers of a test
pub test_yes : (A : Type 0) → A → (true ≡ true → A) × (A → true ≡ true)
test_yes A a = (λ e. a, λ b. refl)

pub test_no : (A : Type 0) → (A → ⊥) → (false ≡ true → A) × (A → false ≡ true)
test_no A none = (λ e. absurd (cc), λ a. absurd (none a))

pub reduces_as : (o : Order) (e d c : Clause) → e ≡ d → Reduces o d c → Reduces o e c
reduces_as o e d c is red = subst (λ x. Reduces o x c) (sym is) red

pub reduces_not : (o : Order) (e d c : Clause) → e ≡ d → (Reduces o d c → ⊥) → Reduces o e c → ⊥
reduces_not o e d c is none red = none (subst (λ x. Reduces o x c) is red)
