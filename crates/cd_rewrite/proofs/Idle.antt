-- A clause is reduced from one of two sides of an equation.
use Rattle.std.proofs.Common.{◌≡◌, ◌<◌, ◌⊎◌, inl, inr, ℕ, zero, suc, Bool, true, false, List, [], ◌∷◌, length, get_or, ap, refl, sym, ◌∙◌, subst, arith, Some, slice_get, option_and_then}
use Rattle.std.proofs.lemmas.Option.{slice_get-get_or}
use Rattle.cd_term.specs.declared.Term.{Term}
use Rattle.cd_term.specs.declared.Term.TheVariants.{App}
use Rattle.cd_term.specs.Terms.{substituted, subterm}
use Rattle.cd_term.proofs.Paths.{argument-App}
use Rattle.cd_term.proofs.MarkLemmas.{Var-App-apart}
use Rattle.cd_clause.specs.declared.Atom.{Atom}
use Rattle.cd_clause.specs.declared.Atom.TheVariants.{Pred, Equal}
use Rattle.cd_clause.specs.declared.Literal.{Literal}
use Rattle.cd_clause.specs.declared.Clause.{Clause}
use Rattle.cd_clause.specs.Clauses.{terms_of}
use Rattle.cd_clause.specs.Places.{signed, HasSides}
use Rattle.cd_kbo.specs.declared.order.Order.{Order}
use Rattle.cd_rewrite.specs.Reduction.{Spot, Lowers, ReducesAt, Reduces}
use Rattle.cd_rewrite.specs.Equations.{equation_clause, Falls}
use Rattle.cd_rewrite.specs.Walks.{FallsFrom, NoLiteralBefore, SomeIn, SomeAmong, SomeLiteral}
use Rattle.cd_rewrite.proofs.Turns.{lowers_parts}
use Rattle.cd_rewrite.proofs.FirstPaths.{get_inside}
use Rattle.cd_rewrite.proofs.FirstPlaces.{at_atom}

-- no place of a side
abbrev pub NoneFrom : Order → Clause → Clause → ℕ → Type 0
NoneFrom o e c side = (at : Spot) → at.side ≡ side → ReducesAt o e c at → ⊥

side_is : (side : ℕ) (a : Atom) (from to : Term) → HasSides side a from to → (side ≡ 0) ⊎ (side ≡ 1)
side_is zero a from to is = inl refl
side_is (suc zero) a from to is = inr refl
side_is (suc (suc n)) a from to is = absurd is

pub sides_unwanted : (o : Order) (e c : Clause) → NoneFrom o e c 0 → NoneFrom o e c 1 → Reduces o e c → ⊥
sides_unwanted o e c left right red =
    elim (side_is red.0.side red.1.1.lowers.rule.equation red.1.1.lowers.from red.1.1.lowers.to red.1.1.lowers.rule.sides) [
      | inl is ↦ left red.0 is red.1
      | inr is ↦ right red.0 is red.1
    ]

-- ---- a term that a side lowers

pub falls_here : (o : Order) (from to t : Term) (f : ℕ) (ts : List Term) → t ≡ App f ts → ((g : ℕ → Term) × Falls o from to g t) → SomeIn (FallsFrom o from to) t
falls_here o from to t f ts is falls = ([], t, refl, (λ n e. Var-App-apart n f ts (sym (sym is ∙ e)), falls))

pub some_below : (P : Term → Type 0) (t : Term) (f : ℕ) (ts xs : List Term) (i : ℕ) (a : Term) → t ≡ App f ts → xs ≡ ts → i < length xs → a ≡ get_or xs i a →
    SomeIn P a → SomeIn P t
some_below P t f ts xs i a is same lt at (path, u, there, p) = (
  i ∷ path,
  u,
  ap (subterm (i ∷ path)) is ∙ ap (option_and_then (subterm path)) (argument-App i f ts ∙ ap (λ ys. slice_get ys i) (sym same)
      ∙ slice_get-get_or xs i a lt ∙ ap Some (sym at)) ∙ there,
  p,
)

pub some_among : (P : Term → Type 0) (ts : List Term) (i : ℕ) (a : Term) → i < length ts → a ≡ get_or ts i a → SomeIn P a → SomeAmong P ts
some_among P ts i a lt at (path, u, there, p) =
    (i ∷ path, u, ap (option_and_then (subterm path)) (slice_get-get_or ts i a lt ∙ ap Some (sym at)) ∙ there, p)

pub some_in_predicate : (P : Term → Type 0) (a : Atom) (q : ℕ) (ts xs : List Term) → a ≡ Pred q ts → xs ≡ ts → SomeAmong P xs → SomeAmong P (terms_of a)
some_in_predicate P a q ts xs is same some = subst (λ b. SomeAmong P (terms_of b)) (sym is) (subst (SomeAmong P) same some)

pub some_in_left : (P : Term → Type 0) (a : Atom) (s t : Term) → a ≡ Equal s t → SomeIn P s → SomeAmong P (terms_of a)
some_in_left P a s t is some = subst (λ b. SomeAmong P (terms_of b)) (sym is) (some_among P (s ∷ t ∷ []) 0 s (omega arith) refl some)

pub some_in_right : (P : Term → Type 0) (a : Atom) (s t : Term) → a ≡ Equal s t → SomeIn P t → SomeAmong P (terms_of a)
some_in_right P a s t is some = subst (λ b. SomeAmong P (terms_of b)) (sym is) (some_among P (s ∷ t ∷ []) 1 t (omega arith) refl some)

pub some_literal : (P : Term → Type 0) (ls xs : List Literal) (j : ℕ) (l : Literal) → xs ≡ ls → j < length xs → l ≡ get_or xs j l → SomeAmong P (terms_of l.atom) →
    SomeLiteral P ls
some_literal P ls xs j l same lt at some = (j, l, ap (λ ys. slice_get ys j) (sym same) ∙ slice_get-get_or xs j l lt ∙ ap Some (sym at), some)

-- ---- the sides of the equation that a clause is

pub met_left : (o : Order) (e c : Clause) (left right : Term) → e.literals ≡ signed true (Equal left right) ∷ [] → SomeLiteral (FallsFrom o left right) c.literals → Reduces o e c
met_left o e c left right one (j, l, here, (path, u, there, (compound, (g, falls)))) = (
  record { literal = j; path = path; side = 0 },
  (
    g,
    record {
      taker = l;
      old = u;
      new = substituted g right;
      literal = here;
      there = at_atom path l.atom ∙ there;
      lowers = record {
        from = left;
        to = right;
        rule = record { equation = Equal left right; one = one; sides = refl };
        covered = falls.0;
        matched = falls.1;
        result = refl;
        compound = compound;
        falls = falls.2;
      };
    },
  ),
)

pub met_right : (o : Order) (e c : Clause) (left right : Term) → e.literals ≡ signed true (Equal left right) ∷ [] → SomeLiteral (FallsFrom o right left) c.literals → Reduces o e c
met_right o e c left right one (j, l, here, (path, u, there, (compound, (g, falls)))) = (
  record { literal = j; path = path; side = 1 },
  (
    g,
    record {
      taker = l;
      old = u;
      new = substituted g left;
      literal = here;
      there = at_atom path l.atom ∙ there;
      lowers = record {
        from = right;
        to = left;
        rule = record { equation = Equal left right; one = one; sides = refl };
        covered = falls.0;
        matched = falls.1;
        result = refl;
        compound = compound;
        falls = falls.2;
      };
    },
  ),
)

pub met_never : (o : Order) (e c : Clause) (left right : Term) (l r : Bool) → e.literals ≡ signed true (Equal left right) ∷ [] →
    ((l ≡ false) ⊎ NoLiteralBefore (FallsFrom o left right) c.literals (length c.literals)) →
    ((r ≡ false) ⊎ NoLiteralBefore (FallsFrom o right left) c.literals (length c.literals)) →
    (l ≡ false → NoneFrom o e c 0) → (r ≡ false → NoneFrom o e c 1) → Reduces o e c → ⊥
met_never o e c left right l r one idle_left idle_right none_left none_right red =
    by (lowers_parts o left right red.0.side red.1.0 red.1.1.old red.1.1.new
    (subst (λ d. Lowers o d red.0.side red.1.0 red.1.1.old red.1.1.new) is red.1.1.lowers)) idle_left idle_right
  where
    is : e ≡ equation_clause left right
    is = ap (λ ls. record { literals = ls }) one

    met : (from to : Term) → Falls o from to red.1.0 red.1.1.old → NoLiteralBefore (FallsFrom o from to) c.literals (length c.literals) → ⊥
    met from to falls none =
        none red.0.literal red.1.1.taker (get_inside c.literals red.0.literal red.1.1.taker red.1.1.literal) red.1.1.literal red.0.path red.1.1.old
        (sym (at_atom red.0.path red.1.1.taker.atom) ∙ red.1.1.there) (red.1.1.lowers.compound, (red.1.0, falls))

    by : ((red.0.side ≡ 0) × Falls o left right red.1.0 red.1.1.old) ⊎ ((red.0.side ≡ 1) × Falls o right left red.1.0 red.1.1.old) →
        ((l ≡ false) ⊎ NoLiteralBefore (FallsFrom o left right) c.literals (length c.literals)) →
        ((r ≡ false) ⊎ NoLiteralBefore (FallsFrom o right left) c.literals (length c.literals)) → ⊥
    by (inl p) (inl out) b = none_left out red.0 p.0 red.1
    by (inl p) (inr none) b = met left right p.1 none
    by (inr p) a (inl out) = none_right out red.0 p.0 red.1
    by (inr p) a (inr none) = met right left p.1 none
