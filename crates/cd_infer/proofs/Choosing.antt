-- Whether a rule makes an inference on given places is decided.
use Rattle.std.proofs.Common.{◌≡◌, ◌≢◌, ◌⊎◌, inl, inr, ℕ, zero, suc, ◌<◌, ◌≤◌, Bool, true, false, List, [], ◌∷◌, ◌++◌, Option, Some, None, slice_get, slice_set, remove, refl, ap, sym, ◌∙◌, subst, arith}
use Rattle.std.proofs.lemmas.Option.{same_Some}
use Rattle.std.proofs.lemmas.Bool.{cases_lt}
use Rattle.cd_term.specs.declared.Term.{Term}
use Rattle.cd_clause.specs.declared.Atom.{Atom}
use Rattle.cd_clause.specs.declared.Atom.TheVariants.{Truth, Pred, Equal}
use Rattle.cd_clause.specs.declared.Literal.{Literal}
use Rattle.cd_clause.specs.declared.Clause.{Clause}
use Rattle.cd_clause.specs.Clauses.{variable_bound_of}
use Rattle.cd_clause.specs.Places.{signed, HasSides, subterm_at, replaced_at}
use Rattle.cd_steps.specs.Rules.{Inference, apart, both_bounds, IsResolution, IsFactoring, IsReflexivity, IsEqualityFactoring, IsParamodulation}
use Rattle.cd_list.specs.Decisions.{Decided}
use Rattle.cd_list.proofs.Decisions.{given, number, truth}

-- ---- what a rule looks for

abbrev pub AtomAt : Bool → Option Literal → Type 0
AtomAt sign o = (a : Atom) × (o ≡ Some (signed sign a))

atom_at : (sign : Bool) (o : Option Literal) → Decided (AtomAt sign o)
atom_at sign None = inr (λ x. let e = x.1 in cc)
atom_at sign (Some l) = given (λ s. (l.atom, ap Some (ap (λ b. signed b l.atom) s))) (λ x. ap (λ (z : Literal). z.positive) (same_Some l (signed sign x.0) x.1)) (truth l.positive sign)

one_atom : (sign : Bool) (o : Option Literal) (a b : Atom) → o ≡ Some (signed sign a) → o ≡ Some (signed sign b) → a ≡ b
one_atom sign o a b e f = ap (λ (z : Literal). z.atom) (same_Some (signed sign a) (signed sign b) (sym e ∙ f))

record ArePreds (x y : Atom) : Type 0 where
  pub predicate : ℕ
  pub left : List Term
  pub right : List Term
  pub first : x ≡ Pred predicate left
  pub second : y ≡ Pred predicate right

are_preds : (x y : Atom) → Decided (ArePreds x y)
are_preds Truth y = inr (λ r. let e = r.first in cc)
are_preds (Equal s t) y = inr (λ r. let e = r.first in cc)
are_preds (Pred p ts) Truth = inr (λ r. let e = r.second in cc)
are_preds (Pred p ts) (Equal s t) = inr (λ r. let e = r.second in cc)
are_preds (Pred p ts) (Pred q us) = given (λ e. record { predicate = p; left = ts; right = us; first = refl; second = ap (λ k. Pred k us) (sym e) })
    (λ r. let e : p ≡ r.predicate = (let f = r.first in cc) in let g : q ≡ r.predicate = (let f = r.second in cc) in e ∙ sym g) (number p q)

abbrev pub SidesOf : ℕ → Atom → Type 0
SidesOf s a = (side : Term) × (other : Term) × HasSides s a side other

pub sides_of : (s : ℕ) (a : Atom) → Decided (SidesOf s a)
sides_of zero Truth = inr (λ x. let e = x.2 in cc)
sides_of zero (Pred p ts) = inr (λ x. let e = x.2 in cc)
sides_of zero (Equal l r) = inl (l, r, refl)
sides_of (suc zero) Truth = inr (λ x. let e = x.2 in cc)
sides_of (suc zero) (Pred p ts) = inr (λ x. let e = x.2 in cc)
sides_of (suc zero) (Equal l r) = inl (r, l, refl)
sides_of (suc (suc n)) a = inr (λ x. x.2)

pub sides_one : (s : ℕ) (a : Atom) (t u v w : Term) → HasSides s a t u → HasSides s a v w → (t ≡ v) × (u ≡ w)
sides_one zero a t u v w e f = (let g : Equal t u ≡ Equal v w = sym e ∙ f in (cc, cc))
sides_one (suc zero) a t u v w e f = (let g : Equal u t ≡ Equal w v = sym e ∙ f in (cc, cc))
sides_one (suc (suc n)) a t u v w e f = absurd e

pub some_of : {A : Type 0} (o : Option A) → Decided ((a : A) × (o ≡ Some a))
some_of None = inr (λ x. let e = x.1 in cc)
some_of (Some a) = inl (a, refl)

-- ---- rules

abbrev pub SomeOf : (Inference → Type 0) → Type 0
SomeOf Rule = (x : Inference) × Rule x

pub resolutions : (a : Clause) (i : ℕ) (b : Clause) (j : ℕ) → Decided (SomeOf (IsResolution a i b j))
resolutions a i b j = at (atom_at true (slice_get a.literals i)) (atom_at false (slice_get (apart a b).literals j))
  where
    at : Decided (AtomAt true (slice_get a.literals i)) → Decided (AtomAt false (slice_get (apart a b).literals j)) → Decided (SomeOf (IsResolution a i b j))
    at (inr none) q = inr (λ x. none (Pred x.1.predicate x.1.left, x.1.positive))
    at (inl p) (inr none) = inr (λ x. none (Pred x.1.predicate x.1.right, x.1.negative))
    at (inl p) (inl q) = given
        (λ r. (
          record { variables = both_bounds a b; left = r.left; right = r.right; conclusion = remove a.literals i ++ remove (apart a b).literals j },
          record { predicate = r.predicate; left = r.left; right = r.right; positive = p.1 ∙ ap (λ x. Some (signed true x)) r.first; negative = q.1 ∙ ap (λ x. Some (signed false x)) r.second; is = refl },
        ))
        (λ x. record {
          predicate = x.1.predicate;
          left = x.1.left;
          right = x.1.right;
          first = one_atom true (slice_get a.literals i) p.0 (Pred x.1.predicate x.1.left) p.1 x.1.positive;
          second = one_atom false (slice_get (apart a b).literals j) q.0 (Pred x.1.predicate x.1.right) q.1 x.1.negative;
        })
        (are_preds p.0 q.0)

pub factorings : (c : Clause) (i j : ℕ) → Decided (SomeOf (IsFactoring c i j))
factorings c i j = at (cases_lt i j) (atom_at true (slice_get c.literals i)) (atom_at true (slice_get c.literals j))
  where
    at : (i < j) ⊎ (j ≤ i) → Decided (AtomAt true (slice_get c.literals i)) → Decided (AtomAt true (slice_get c.literals j)) → Decided (SomeOf (IsFactoring c i j))
    at (inr le) p q = inr (λ x. let lt = x.1.ordered in omega (arith, le, lt))
    at (inl lt) (inr none) q = inr (λ x. none (Pred x.1.predicate x.1.left, x.1.first))
    at (inl lt) (inl p) (inr none) = inr (λ x. none (Pred x.1.predicate x.1.right, x.1.second))
    at (inl lt) (inl p) (inl q) = given
        (λ r. (
          record { variables = variable_bound_of c; left = r.left; right = r.right; conclusion = remove c.literals j },
          record { predicate = r.predicate; left = r.left; right = r.right; ordered = lt; first = p.1 ∙ ap (λ x. Some (signed true x)) r.first; second = q.1 ∙ ap (λ x. Some (signed true x)) r.second; is = refl },
        ))
        (λ x. record {
          predicate = x.1.predicate;
          left = x.1.left;
          right = x.1.right;
          first = one_atom true (slice_get c.literals i) p.0 (Pred x.1.predicate x.1.left) p.1 x.1.first;
          second = one_atom true (slice_get c.literals j) q.0 (Pred x.1.predicate x.1.right) q.1 x.1.second;
        })
        (are_preds p.0 q.0)

pub reflexivities : (c : Clause) (i : ℕ) → Decided (SomeOf (IsReflexivity c i))
reflexivities c i = at (atom_at false (slice_get c.literals i))
  where
    at : Decided (AtomAt false (slice_get c.literals i)) → Decided (SomeOf (IsReflexivity c i))
    at (inr none) = inr (λ x. none (Equal x.1.left x.1.right, x.1.equation))
    at (inl (Truth, e)) = inr (λ x. let f = one_atom false (slice_get c.literals i) Truth (Equal x.1.left x.1.right) e x.1.equation in cc)
    at (inl (Pred p ts, e)) = inr (λ x. let f = one_atom false (slice_get c.literals i) (Pred p ts) (Equal x.1.left x.1.right) e x.1.equation in cc)
    at (inl (Equal s t, e)) = inl (record { variables = variable_bound_of c; left = s ∷ []; right = t ∷ []; conclusion = remove c.literals i }, record { left = s; right = t; equation = e; is = refl })

pub equality_factorings : (c : Clause) (i s j z : ℕ) → Decided (SomeOf (IsEqualityFactoring c i s j z))
equality_factorings c i s j z = at (number i j) (atom_at true (slice_get c.literals i)) (atom_at true (slice_get c.literals j))
  where
    put : (i ≢ j) → (p : AtomAt true (slice_get c.literals i)) (q : AtomAt true (slice_get c.literals j)) → Decided (SidesOf s p.0) → Decided (SidesOf z q.0) → Decided (SomeOf (IsEqualityFactoring c i s j z))
    put apart p q (inr none) v = inr (λ x. none (x.1.left, x.1.left_other, subst (λ a. HasSides s a x.1.left x.1.left_other) (one_atom true (slice_get c.literals i) x.1.first p.0 x.1.at_first p.1) x.1.first_sides))
    put apart p q (inl u) (inr none) = inr (λ x. none (x.1.right, x.1.right_other, subst (λ a. HasSides z a x.1.right x.1.right_other) (one_atom true (slice_get c.literals j) x.1.second q.0 x.1.at_second q.1) x.1.second_sides))
    put apart p q (inl u) (inl v) = inl (
      record { variables = variable_bound_of c; left = u.0 ∷ []; right = v.0 ∷ []; conclusion = slice_set c.literals i (signed false (Equal u.1 v.1)) },
      record { first = p.0; left = u.0; left_other = u.1; second = q.0; right = v.0; right_other = v.1; distinct = apart; at_first = p.1; at_second = q.1; first_sides = u.2; second_sides = v.2; is = refl },
    )

    at : Decided (i ≡ j) → Decided (AtomAt true (slice_get c.literals i)) → Decided (AtomAt true (slice_get c.literals j)) → Decided (SomeOf (IsEqualityFactoring c i s j z))
    at (inl same) p q = inr (λ x. x.1.distinct same)
    at (inr apart) (inr none) q = inr (λ x. none (x.1.first, x.1.at_first))
    at (inr apart) (inl p) (inr none) = inr (λ x. none (x.1.second, x.1.at_second))
    at (inr apart) (inl p) (inl q) = put apart p q (sides_of s p.0) (sides_of z q.0)

pub paramodulations : (a : Clause) (i s : ℕ) (b : Clause) (j : ℕ) (path : List ℕ) → Decided (SomeOf (IsParamodulation a i s b j path))
paramodulations a i s b j path = at (atom_at true (slice_get a.literals i)) (some_of (slice_get (apart a b).literals j))
  where
    last : (p : AtomAt true (slice_get a.literals i)) (l : (l : Literal) × (slice_get (apart a b).literals j ≡ Some l)) (u : SidesOf s p.0)
        → Decided ((t : Term) × (subterm_at path l.0.atom ≡ Some t)) → Decided ((x : Atom) × (replaced_at path u.1 l.0.atom ≡ Some x)) → Decided (SomeOf (IsParamodulation a i s b j path))
    last p l u (inr none) w = inr (λ x. none (x.1.inner, subst (λ (m : Literal). subterm_at path m.atom ≡ Some x.1.inner) (same_Some x.1.taker l.0 (sym x.1.literal ∙ l.1)) x.1.there))
    last p l u (inl t) (inr none) = inr (λ x.
        let same = one_atom true (slice_get a.literals i) x.1.equation p.0 x.1.giver p.1 in
        let other = (sides_one s p.0 x.1.side x.1.other u.0 u.1 (subst (λ y. HasSides s y x.1.side x.1.other) same x.1.sides) u.2).1 in
        none (x.1.changed, ap (λ y. replaced_at path y l.0.atom) (sym other) ∙ subst (λ (m : Literal). replaced_at path x.1.other m.atom ≡ Some x.1.changed) (same_Some x.1.taker l.0 (sym x.1.literal ∙ l.1)) x.1.becomes))
    last p l u (inl t) (inl w) = inl (
      record { variables = both_bounds a b; left = u.0 ∷ []; right = t.0 ∷ []; conclusion = remove a.literals i ++ slice_set (apart a b).literals j (signed l.0.positive w.0) },
      record { equation = p.0; side = u.0; other = u.1; taker = l.0; inner = t.0; changed = w.0; giver = p.1; sides = u.2; literal = l.1; there = t.1; becomes = w.1; is = refl },
    )

    put : (p : AtomAt true (slice_get a.literals i)) (l : (l : Literal) × (slice_get (apart a b).literals j ≡ Some l)) → Decided (SidesOf s p.0) → Decided (SomeOf (IsParamodulation a i s b j path))
    put p l (inr none) = inr (λ x. none (x.1.side, x.1.other, subst (λ y. HasSides s y x.1.side x.1.other) (one_atom true (slice_get a.literals i) x.1.equation p.0 x.1.giver p.1) x.1.sides))
    put p l (inl u) = last p l u (some_of (subterm_at path l.0.atom)) (some_of (replaced_at path u.1 l.0.atom))

    at : Decided (AtomAt true (slice_get a.literals i)) → Decided ((l : Literal) × (slice_get (apart a b).literals j ≡ Some l)) → Decided (SomeOf (IsParamodulation a i s b j path))
    at (inr none) l = inr (λ x. none (x.1.equation, x.1.giver))
    at (inl p) (inr none) = inr (λ x. none (x.1.taker, x.1.literal))
    at (inl p) (inl l) = put p l (sides_of s p.0)
