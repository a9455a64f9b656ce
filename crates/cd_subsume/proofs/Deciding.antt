-- Subsumption is decided: picks are tried one after another.
use Rattle.std.proofs.Common.{◌≡◌, ◌≢◌, inl, inr, ℕ, zero, suc, ◌+◌, ◌<◌, Bool, true, false, List, [], ◌∷◌, map, Option, Some, None, slice_get, refl, ap, sym, ◌∙◌, subst, arith}
use Rattle.std.proofs.lemmas.Option.{same_Some}
use Rattle.cd_list.specs.Lists.{Among}
use Rattle.cd_list.specs.Decisions.{Decided}
use Rattle.cd_list.proofs.Decisions.{both, never, given, number, truth, among}
use Rattle.cd_term.specs.declared.Term.{Term}
use Rattle.cd_term.specs.Terms.{substituted}
use Rattle.cd_clause.specs.declared.Atom.{Atom}
use Rattle.cd_clause.specs.declared.Atom.TheVariants.{Truth, Pred, Equal}
use Rattle.cd_clause.specs.declared.Literal.{Literal}
use Rattle.cd_clause.specs.declared.Clause.{Clause}
use Rattle.cd_clause.specs.Clauses.{atom_changed}
use Rattle.cd_unify.proofs.Asking.{Asked, ask_both, ask_as, ask_nothing, ask_term, ask_terms, answered}
use Rattle.cd_subsume.specs.declared.picks.Pick.{Pick}
use Rattle.cd_subsume.specs.Subsumption.{IsTurned, IsPicked, ArePicked, Subsumes}

-- ---- what is asked of literals

ask_atom : (a b : Atom) → Asked (λ g. atom_changed (substituted g) a ≡ b)
ask_atom Truth Truth = ask_nothing (inl refl)
ask_atom Truth (Pred q us) = inr (λ g e. cc)
ask_atom Truth (Equal u v) = inr (λ g e. cc)
ask_atom (Pred p ts) Truth = inr (λ g e. cc)
ask_atom (Pred p ts) (Pred q us) = ask_as (λ g x. ap (λ k. Pred k (map (substituted g) ts)) x.0 ∙ ap (Pred q) x.1) (λ g e. (cc, cc)) (ask_both (ask_nothing (number p q)) (ask_terms ts us))
ask_atom (Pred p ts) (Equal u v) = inr (λ g e. cc)
ask_atom (Equal s t) Truth = inr (λ g e. cc)
ask_atom (Equal s t) (Pred q us) = inr (λ g e. cc)
ask_atom (Equal s t) (Equal u v) = ask_as (λ g x. ap (λ k. Equal k (substituted g t)) x.0 ∙ ap (Equal u) x.1) (λ g e. (cc, cc)) (ask_both (ask_term s u) (ask_term t v))

pub ask_turned : (x : Bool) (a b : Atom) → Asked (λ g. IsTurned x (atom_changed (substituted g) a) b)
ask_turned false a b = ask_atom a b
ask_turned true Truth b = inr (λ g e. e)
ask_turned true (Pred p ts) b = inr (λ g e. e)
ask_turned true (Equal s t) b = ask_as (λ g e. e) (λ g e. e) (ask_atom (Equal t s) b)

pub ask_picked : (l : Literal) (ms : List Literal) (p : Pick) → Asked (λ g. IsPicked g l ms p)
ask_picked l ms p = at (slice_get ms p.place) refl
  where
    at : (o : Option Literal) → slice_get ms p.place ≡ o → Asked (λ g. IsPicked g l ms p)
    at None is = inr (λ g x. (let e : None ≡ Some x.literal = sym is ∙ x.place in cc))
    at (Some m) is = ask_as
        (λ g x. record { literal = m; place = is; sign = x.0; atom = x.1 })
        (λ g x. let same : x.literal ≡ m = same_Some x.literal m (sym x.place ∙ is) in
        (x.sign ∙ ap (λ (z : Literal). z.positive) same, subst (λ (z : Literal). IsTurned p.is_exchanged (atom_changed (substituted g) l.atom) z.atom) same x.atom))
        (ask_both (ask_nothing (truth l.positive m.positive)) (ask_turned p.is_exchanged l.atom m.atom))

-- ---- picks, one after another, and the places that are used

AreTaken : (ℕ → Term) → List Literal → List Literal → List ℕ → List Pick → Type 0
AreTaken g [] ms used picks = picks ≡ []
AreTaken g (l ∷ ls) ms used [] = ⊥
AreTaken g (l ∷ ls) ms used (p ∷ picks) = IsPicked g l ms p × ((Among (λ n. n ≡ p.place) used → ⊥) × AreTaken g ls ms (p.place ∷ used) picks)

record Taken (P : (ℕ → Term) → Type 0) (ls ms : List Literal) (used : List ℕ) : Type 0 where
  pub g : ℕ → Term
  pub holds : P g
  pub picks : List Pick
  pub taken : AreTaken g ls ms used picks

-- the places of a list, each as it stands and exchanged
pick_at : Bool → ℕ → Pick
pick_at x n = record { place = n; is_exchanged = x }

picks_from : ℕ → List Literal → List Pick
picks_from n [] = []
picks_from n (m ∷ ms) = pick_at false n ∷ pick_at true n ∷ picks_from (suc n) ms

among_picks : (n i : ℕ) (x : Bool) (ms : List Literal) (m : Literal) → slice_get ms i ≡ Some m → Among (λ q. q ≡ pick_at x (n + i)) (picks_from n ms)
unfolding picks_from
among_picks n i x [] m e = absurd (cc)
among_picks n zero false (k ∷ ms) m e = inl (ap (pick_at false) (let s : n ≡ n + 0 = omega arith in s))
among_picks n zero true (k ∷ ms) m e = inr (inl (ap (pick_at true) (let s : n ≡ n + 0 = omega arith in s)))
among_picks n (suc i) x (k ∷ ms) m e = inr (inr (subst (λ j. Among (λ q. q ≡ pick_at x j) (picks_from (suc n) ms)) (let s : suc n + i ≡ n + suc i = omega arith in s) (among_picks (suc n) i x ms m e)))

among_has : {A : Type 0} (P : A → Type 0) (xs : List A) (x : A) → Among (λ q. q ≡ x) xs → P x → Among P xs
among_has P [] x a p = absurd a
among_has P (y ∷ xs) x (inl e) p = inl (subst P (sym e) p)
among_has P (y ∷ xs) x (inr a) p = inr (among_has P xs x a p)

among_some : {A : Type 0} (P : A → Type 0) (xs : List A) → Among P xs → (x : A) × P x
among_some P [] a = absurd a
among_some P (y ∷ xs) (inl p) = (y, p)
among_some P (y ∷ xs) (inr a) = among_some P xs a

pick_is : (p : Pick) → p ≡ pick_at p.is_exchanged (0 + p.place)
unfolding pick_at
pick_is p = ap (λ n. let z : Pick = record { place = n; is_exchanged = p.is_exchanged } in z) (let s : p.place ≡ 0 + p.place = omega arith in s)

-- one pick, and what follows
abbrev Fits : ((ℕ → Term) → Type 0) → Literal → List Literal → List Literal → List ℕ → Pick → Type 0
Fits P l ls ms used p = (Among (λ n. n ≡ p.place) used → ⊥) × Taken (λ g. P g × IsPicked g l ms p) ls ms (p.place ∷ used)

taken : (P : (ℕ → Term) → Type 0) → Asked P → (ls ms : List Literal) (used : List ℕ) → Decided (Taken P ls ms used)
unfolding AreTaken
taken P a [] ms used = given (λ x. record { g = x.0; holds = x.1; picks = []; taken = refl }) (λ t. (t.g, t.holds)) (answered a)
taken P a (l ∷ ls) ms used = given whole parts (among (Fits P l ls ms used)
    (λ p. both (never (among (λ n. n ≡ p.place) (λ n. number n p.place) used)) (taken (λ g. P g × IsPicked g l ms p) (ask_both a (ask_picked l ms p)) ls ms (p.place ∷ used))) (picks_from 0 ms))
  where
    whole : Among (Fits P l ls ms used) (picks_from 0 ms) → Taken P (l ∷ ls) ms used
    whole a = (let x = among_some (Fits P l ls ms used) (picks_from 0 ms) a in let t = x.1.1 in
        record { g = t.g; holds = t.holds.0; picks = x.0 ∷ t.picks; taken = (t.holds.1, (x.1.0, t.taken)) })

    one : (g : ℕ → Term) → P g → (picks : List Pick) → AreTaken g (l ∷ ls) ms used picks → Among (Fits P l ls ms used) (picks_from 0 ms)
    one g h [] t = absurd t
    one g h (p ∷ picks) t = among_has (Fits P l ls ms used) (picks_from 0 ms) p
        (subst (λ q. Among (λ z. z ≡ q) (picks_from 0 ms)) (sym (pick_is p)) (among_picks 0 p.place p.is_exchanged ms t.0.literal t.0.place))
        (t.1.0, record { g = g; holds = (h, t.0); picks = picks; taken = t.1.1 })

    parts : Taken P (l ∷ ls) ms used → Among (Fits P l ls ms used) (picks_from 0 ms)
    parts t = one t.g t.holds t.picks t.taken

-- ---- picks as they are defined

not_used : (g : ℕ → Term) (ls ms : List Literal) (used : List ℕ) (picks : List Pick) → AreTaken g ls ms used picks →
    (i : ℕ) (p : Pick) → slice_get picks i ≡ Some p → Among (λ n. n ≡ p.place) used → ⊥
unfolding AreTaken
not_used g [] ms used picks t i p e a = (let none : slice_get [] i ≡ Some p = subst (λ xs. slice_get xs i ≡ Some p) t e in cc)
not_used g (l ∷ ls) ms used [] t i p e a = absurd t
not_used g (l ∷ ls) ms used (q ∷ picks) t zero p e a = t.1.0 (subst (λ (z : Pick). Among (λ n. n ≡ z.place) used) (sym (same_Some q p e)) a)
not_used g (l ∷ ls) ms used (q ∷ picks) t (suc i) p e a = not_used g ls ms (q.place ∷ used) picks t.1.1 i p e (inr a)

to_picked : (g : ℕ → Term) (ls ms : List Literal) (used : List ℕ) (picks : List Pick) → AreTaken g ls ms used picks → ArePicked g ls ms picks
unfolding AreTaken
to_picked g [] ms used picks t = subst (λ xs. ArePicked g [] ms xs) (sym t) (record { as_many = refl; each = λ i l p a b. cc; distinct = λ i j p q lt a b. cc })
to_picked g (l ∷ ls) ms used [] t = absurd t
to_picked g (l ∷ ls) ms used (p ∷ picks) t = (let rest = to_picked g ls ms (p.place ∷ used) picks t.1.1 in
    record { as_many = omega (arith, rest.as_many); each = each rest; distinct = distinct rest })
  where
    each : ArePicked g ls ms picks → (i : ℕ) (m : Literal) (q : Pick) → slice_get (l ∷ ls) i ≡ Some m → slice_get (p ∷ picks) i ≡ Some q → IsPicked g m ms q
    each rest zero m q a b = subst (λ (z : Literal). IsPicked g z ms q) (same_Some l m a) (subst (λ (z : Pick). IsPicked g l ms z) (same_Some p q b) t.0)
    each rest (suc i) m q a b = rest.each i m q a b

    distinct : ArePicked g ls ms picks → (i j : ℕ) (q r : Pick) → i < j → slice_get (p ∷ picks) i ≡ Some q → slice_get (p ∷ picks) j ≡ Some r → q.place ≢ r.place
    distinct rest i zero q r lt a b e = omega (arith, lt)
    distinct rest zero (suc j) q r lt a b e = not_used g ls ms (p.place ∷ used) picks t.1.1 j r b (inl (ap (λ (z : Pick). z.place) (same_Some p q a) ∙ e))
    distinct rest (suc i) (suc j) q r lt a b e = rest.distinct i j q r (omega (arith, lt)) a b e

from_picked : (g : ℕ → Term) (ls ms : List Literal) (used : List ℕ) (picks : List Pick) → ArePicked g ls ms picks →
    ((i : ℕ) (p : Pick) → slice_get picks i ≡ Some p → Among (λ n. n ≡ p.place) used → ⊥) → AreTaken g ls ms used picks
unfolding AreTaken
from_picked g [] ms used [] a f = refl
from_picked g [] ms used (p ∷ picks) a f = absurd (omega (arith, a.as_many))
from_picked g (l ∷ ls) ms used [] a f = absurd (omega (arith, a.as_many))
from_picked g (l ∷ ls) ms used (p ∷ picks) a f = (
  a.each zero l p refl refl,
  (
    f zero p refl,
    from_picked g ls ms (p.place ∷ used) picks (record { as_many = omega (arith, a.as_many); each = λ i m q x y. a.each (suc i) m q x y; distinct = λ i j q r lt x y. a.distinct (suc i) (suc j) q r (omega (arith, lt)) x y })
        (λ i q e u. elim u [ inl same ↦ a.distinct zero (suc i) p q (omega arith) refl e same | inr old ↦ f (suc i) q e old ]),
  ),
)

pub subsumption_decides : (d c : Clause) → Decided (Subsumes d c)
subsumption_decides d c = given
    (λ t. (t.g, (t.picks, to_picked t.g d.literals c.literals [] t.picks t.taken)))
    (λ s. record { g = s.0; holds = tt; picks = s.1.0; taken = from_picked s.0 d.literals c.literals [] s.1.0 s.1.1 (λ i p e a. a) })
    (taken (λ g. Unit {0}) (ask_nothing (inl tt)) d.literals c.literals [])
