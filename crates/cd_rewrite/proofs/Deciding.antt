-- Whether there is a reduct is decided: each subterm of the clause is looked at.
use Rattle.std.proofs.Common.{◌≡◌, ◌⊎◌, inl, inr, ℕ, zero, suc, ◌+◌, ◌<◌, ◌≤◌, Bool, true, false, List, [], ◌∷◌, length, get_or, reverse, Option, Some, None, slice_get, slice_set, refl, ap, sym, ◌∙◌, subst, arith}
use Rattle.std.specs.Prelude.{unwrap_or}
use Rattle.std.specs.List.{list_any}
use Rattle.std.proofs.lemmas.Bool.{or_cases, or_left, or_right, false≢true}
use Rattle.std.proofs.lemmas.Option.{same_Some, slice_get-get_or}
use Rattle.cd_list.specs.Decisions.{Decided}
use Rattle.cd_list.proofs.Decisions.{both, given}
use Rattle.cd_term.specs.declared.Term.{Term}
use Rattle.cd_term.specs.declared.Term.TheVariants.{Var, App}
use Rattle.cd_term.specs.Terms.{bound_of, occurs, substituted, applied, value_of}
use Rattle.cd_term.proofs.TermInduction.{ind, Each}
use Rattle.cd_term.proofs.Occurrence.{occurs_below, substituted-agree}
use Rattle.cd_clause.specs.declared.Atom.{Atom}
use Rattle.cd_clause.specs.declared.Atom.TheVariants.{Truth, Pred, Equal}
use Rattle.cd_clause.specs.declared.Literal.{Literal}
use Rattle.cd_clause.specs.declared.Clause.{Clause}
use Rattle.cd_clause.specs.Clauses.{terms_of, variable_bound_of}
use Rattle.cd_clause.specs.Places.{signed, subterm_at, replaced_at, replaced_at_under}
use Rattle.cd_kbo.specs.declared.order.Order.{Order}
use Rattle.cd_kbo.specs.Kbo.{Greater}
use Rattle.cd_kbo.proofs.Greaters.{greater}
use Rattle.cd_unify.proofs.Asking.{ask_term, answered}
use Rattle.cd_rewrite.specs.Reduction.{HasVariablesOf, Reduces}
use Rattle.cd_rewrite.specs.Equations.{equation_clause, Falls, LowersTerm}
use Rattle.cd_rewrite.specs.Walks.{NoneIn, IsFirstPath, IsLowering, NoneAmong, IsFirstAmong, NoLiteralBefore, FoundAt}
use Rattle.cd_rewrite.specs.Laws.{SomeReduct, ReductsDecide}
use Rattle.cd_rewrite.proofs.Sides.{HasAllOf, occurs_arguments, variables_of_one, clause_is}
use Rattle.cd_rewrite.proofs.Turns.{same_instance, agreement, no_variable, left_lowers, right_lowers, lowers_none}
use Rattle.cd_rewrite.proofs.FirstPaths.{NoneBefore, none_start, none_next, none_in, none_in_variable, first_here, first_below}
use Rattle.cd_rewrite.proofs.FirstPlaces.{none_among, first_among, no_literal_start, no_literal_next, found_spot, found_by, found_first, none_reduces, no_equation}
use Rattle.cd_rewrite.proofs.Replacing.{becomes, nowhere}

-- ---- a side that lowers a term

all_covered : (from : Term) (ts : List Term) → Each (λ t. Decided (HasVariablesOf from t)) ts → Decided (HasAllOf from ts)
all_covered from [] each = inl (λ k o. absurd (cc))
all_covered from (t ∷ ts) each = given
    (λ p k o. elim (or_cases (occurs k t) (list_any (occurs k) ts) o) [ inl here ↦ p.0 k here | inr there ↦ p.1 k there ])
    (λ all. (λ k o. all k (or_left (occurs k t) (list_any (occurs k) ts) o), λ k o. all k (or_right (occurs k t) (list_any (occurs k) ts) o)))
    (both each.0 (all_covered from ts each.1))

covered : (from to : Term) → Decided (HasVariablesOf from to)
covered from = ind (λ to. Decided (HasVariablesOf from to)) (λ n. at n (occurs n from) refl)
    (λ f ts each. given
    (λ all k o. all k (sym (occurs_arguments k (App f ts) f ts refl) ∙ o))
    (λ all k o. all k (occurs_arguments k (App f ts) f ts refl ∙ o))
    (all_covered from ts each))
  where
    at : (n : ℕ) (b : Bool) → occurs n from ≡ b → Decided (HasVariablesOf from (Var n))
    at n true is = inl ((variables_of_one from (Var n) n true refl (sym is)).0 refl)
    at n false is = inr (λ all. false≢true ((variables_of_one from (Var n) n false refl (sym is)).1 all))

falls : (o : Order) (from to t : Term) → Decided ((g : ℕ → Term) × Falls o from to g t)
falls o from to t = at (covered from to) (answered (ask_term from t))
  where
    at : Decided (HasVariablesOf from to) → Decided ((g : ℕ → Term) × (substituted g from ≡ t)) → Decided ((g : ℕ → Term) × Falls o from to g t)
    at (inr out) m = inr (λ x. out x.1.0)
    at (inl all) (inr none) = inr (λ x. none (x.0, x.1.1))
    at (inl all) (inl m) = given
        (λ down. (m.0, (all, m.1, down)))
        (λ x. subst (Greater o t) (same_instance from to t x.0 m.0 all agreement x.1.1 m.1) x.1.2)
        (greater o t (substituted m.0 to))

-- ---- so many values of a substitution

listed : (ℕ → Term) → ℕ → ℕ → List Term
listed g a zero = []
listed g a (suc n) = g a ∷ listed g (suc a) n

listed_length : (g : ℕ → Term) (a n : ℕ) → length (listed g a n) ≡ n
unfolding listed
listed_length g a zero = refl
listed_length g a (suc n) = omega (arith, listed_length g (suc a) n)

listed_at : (g : ℕ → Term) (a n k : ℕ) → k < n → slice_get (listed g a n) k ≡ Some (g (a + k))
unfolding listed
listed_at g a zero k lt = absurd (omega (arith, lt))
listed_at g a (suc n) zero lt = (let same : a ≡ a + 0 = omega arith in ap (λ i. Some (g i)) same)
listed_at g a (suc n) (suc k) lt =
    (let same : suc a + k ≡ a + suc k = omega arith in listed_at g (suc a) n k (omega (arith, lt)) ∙ ap (λ i. Some (g i)) same)

listed_value : (g : ℕ → Term) (n k : ℕ) → k < n → value_of (listed g 0 n) k ≡ g k
listed_value g n k lt =
    let same : 0 + k ≡ k = omega arith in
    ap (λ x. unwrap_or x (Var k)) (listed_at g 0 n k lt) ∙ ap g same

listed_falls : (o : Order) (from to t : Term) (g : ℕ → Term) (vars : ℕ) → bound_of from ≤ vars → Falls o from to g t → Falls o from to (value_of (listed g 0 vars)) t
listed_falls o from to t g vars le f = (
  f.0,
  substituted-agree (value_of (listed g 0 vars)) g from (λ k x. listed_value g vars k (omega (arith, occurs_below k from x, le))) ∙ f.1,
  subst (Greater o t) (sym (substituted-agree (value_of (listed g 0 vars)) g to (λ k x. listed_value g vars k (omega (arith, occurs_below k from (f.0 k x), le))))) f.2,
)

-- ---- a term that is lowered

abbrev Low : Order → Clause → ℕ → Term → Type 0
Low o e vars t = (side : ℕ) × (s : List Term) × IsLowering o e vars t side s

lowered : (o : Order) (left right : Term) (vars : ℕ) → bound_of left ≤ vars → bound_of right ≤ vars → (t : Term) →
    Low o (equation_clause left right) vars t ⊎ (LowersTerm o (equation_clause left right) t → ⊥)
lowered o left right vars below under =
    ind (λ t. Low o (equation_clause left right) vars t ⊎ (LowersTerm o (equation_clause left right) t → ⊥))
    (λ n. inr (no_variable o (equation_clause left right) (Var n) n refl))
    (λ f ts each. at f ts (falls o left right (App f ts)) (falls o right left (App f ts)))
  where
    at : (f : ℕ) (ts : List Term) → Decided ((g : ℕ → Term) × Falls o left right g (App f ts)) → Decided ((g : ℕ → Term) × Falls o right left g (App f ts)) →
        Low o (equation_clause left right) vars (App f ts) ⊎ (LowersTerm o (equation_clause left right) (App f ts) → ⊥)
    at f ts (inl l) r = inl (
      0,
      listed l.0 0 vars,
      left_lowers o left right vars (App f ts) f ts (listed l.0 0 vars) refl (listed_length l.0 0 vars) (listed_falls o left right (App f ts) l.0 vars below l.1),
    )
    at f ts (inr none) (inl r) = inl (
      1,
      listed r.0 0 vars,
      right_lowers o left right vars (App f ts) f ts (listed r.0 0 vars) refl (λ g x. none (g, x)) (listed_length r.0 0 vars) (listed_falls o right left (App f ts) r.0 vars under r.1),
    )
    at f ts (inr none) (inr other) = inr (lowers_none o left right (App f ts) (λ g x. none (g, x)) (λ g x. other (g, x)))

-- ---- the first subterm of a term that is lowered

record Inside (o : Order) (e : Clause) (vars : ℕ) (t : Term) : Type 0 where
  pub path : List ℕ
  pub found : Term
  pub first : IsFirstPath (LowersTerm o e) t path found
  pub low : Low o e vars found

record InsideAt (o : Order) (e : Clause) (vars : ℕ) (ts : List Term) (i : ℕ) : Type 0 where
  pub term : Term
  pub is : term ≡ get_or ts i term
  pub within : i < length ts
  pub before : NoneBefore (LowersTerm o e) ts i
  pub inside : Inside o e vars term

some_at : {A : Type 0} (xs : List A) (i : ℕ) → i < length xs → (x : A) × (slice_get xs i ≡ Some x)
some_at [] i lt = absurd (omega (arith, lt))
some_at (x ∷ xs) zero lt = (x, refl)
some_at (x ∷ xs) (suc i) lt = some_at xs i (omega (arith, lt))

got : {A : Type 0} (xs : List A) (i : ℕ) (x : A) → i < length xs → slice_get xs i ≡ Some x → x ≡ get_or xs i x
got xs i x lt is = same_Some x (get_or xs i x) (sym is ∙ slice_get-get_or xs i x lt)

each_at : (Q : Term → Type 0) (ts : List Term) → Each Q ts → (i : ℕ) (t : Term) → slice_get ts i ≡ Some t → Q t
each_at Q [] each i t is = absurd (cc)
each_at Q (u ∷ ts) each zero t is = subst Q (same_Some u t is) each.0
each_at Q (u ∷ ts) each (suc i) t is = each_at Q ts each.1 i t is

module _ (o : Order) (e : Clause) (vars : ℕ) (look : (t : Term) → Low o e vars t ⊎ (LowersTerm o e t → ⊥)) where
  scan : (ts : List Term) (n : ℕ) → n ≤ length ts → ((i : ℕ) (t : Term) → slice_get ts i ≡ Some t → Inside o e vars t ⊎ NoneIn (LowersTerm o e) t) →
      ((i : ℕ) × InsideAt o e vars ts i) ⊎ NoneBefore (LowersTerm o e) ts n
  scan ts zero le each = inr (none_start (LowersTerm o e) ts)
  scan ts (suc n) le each = next (scan ts n (omega (arith, le)) each) (some_at ts n (omega (arith, le)))
    where
      item : (t : Term) → slice_get ts n ≡ Some t → NoneBefore (LowersTerm o e) ts n → Inside o e vars t ⊎ NoneIn (LowersTerm o e) t →
          ((i : ℕ) × InsideAt o e vars ts i) ⊎ NoneBefore (LowersTerm o e) ts (suc n)
      item t there none (inl inside) = inl (n, record { term = t; is = got ts n t (omega (arith, le)) there; within = omega (arith, le); before = none; inside = inside })
      item t there none (inr nothing) =
          (let same : n + 1 ≡ suc n = omega arith in
          inr (subst (NoneBefore (LowersTerm o e) ts) same (none_next (LowersTerm o e) ts n t (omega (arith, le)) (got ts n t (omega (arith, le)) there) none nothing)))

      next : ((i : ℕ) × InsideAt o e vars ts i) ⊎ NoneBefore (LowersTerm o e) ts n → (t : Term) × (slice_get ts n ≡ Some t) →
          ((i : ℕ) × InsideAt o e vars ts i) ⊎ NoneBefore (LowersTerm o e) ts (suc n)
      next (inl found) x = inl found
      next (inr none) x = item x.0 x.1 none (each n x.0 x.1)

  search : (t : Term) → Inside o e vars t ⊎ NoneIn (LowersTerm o e) t
  search = ind (λ t. Inside o e vars t ⊎ NoneIn (LowersTerm o e) t)
      (λ n. inr (none_in_variable (LowersTerm o e) (Var n) n refl (no_variable o e (Var n) n refl)))
      (λ f ts each. here f ts (look (App f ts)) (scan ts (length ts) (omega arith) (each_at (λ t. Inside o e vars t ⊎ NoneIn (LowersTerm o e) t) ts each)))
    where
      here : (f : ℕ) (ts : List Term) → Low o e vars (App f ts) ⊎ (LowersTerm o e (App f ts) → ⊥) → ((i : ℕ) × InsideAt o e vars ts i) ⊎ NoneBefore (LowersTerm o e) ts (length ts) →
          Inside o e vars (App f ts) ⊎ NoneIn (LowersTerm o e) (App f ts)
      here f ts (inl low) below = inl (record { path = []; found = App f ts; first = first_here (LowersTerm o e) (App f ts); low = low })
      here f ts (inr none) (inl x) = inl (record {
        path = x.0 ∷ x.1.inside.path;
        found = x.1.inside.found;
        first = first_below (LowersTerm o e) (App f ts) f ts ts x.0 x.1.term x.1.inside.path x.1.inside.found refl refl x.1.within x.1.is none x.1.before x.1.inside.first;
        low = x.1.inside.low;
      })
      here f ts (inr none) (inr all) = inr (none_in (LowersTerm o e) (App f ts) f ts ts (length ts) refl refl (omega arith) none all)

-- ---- the first literal with a subterm that is lowered

record InAtom (o : Order) (e : Clause) (vars : ℕ) (a : Atom) : Type 0 where
  pub path : List ℕ
  pub found : Term
  pub first : IsFirstAmong (LowersTerm o e) (terms_of a) path found
  pub low : Low o e vars found

record InLiterals (o : Order) (e : Clause) (vars : ℕ) (ls : List Literal) : Type 0 where
  pub place : ℕ
  pub literal : Literal
  pub here : slice_get ls place ≡ Some literal
  pub earlier : NoLiteralBefore (LowersTerm o e) ls place
  pub inside : InAtom o e vars literal.atom

module _ (o : Order) (e : Clause) (vars : ℕ) (look : (t : Term) → Low o e vars t ⊎ (LowersTerm o e t → ⊥)) where
  atom_search : (a : Atom) → InAtom o e vars a ⊎ NoneAmong (LowersTerm o e) (terms_of a)
  atom_search a = at (scan o e vars look (terms_of a) (length (terms_of a)) (omega arith) (λ i t is. search o e vars look t))
    where
      at : ((i : ℕ) × InsideAt o e vars (terms_of a) i) ⊎ NoneBefore (LowersTerm o e) (terms_of a) (length (terms_of a)) → InAtom o e vars a ⊎ NoneAmong (LowersTerm o e) (terms_of a)
      at (inl x) = inl (record {
        path = x.0 ∷ x.1.inside.path;
        found = x.1.inside.found;
        first = first_among (LowersTerm o e) (terms_of a) (terms_of a) x.0 x.1.term x.1.inside.path x.1.inside.found refl x.1.within x.1.is x.1.before x.1.inside.first;
        low = x.1.inside.low;
      })
      at (inr all) = inr (none_among (LowersTerm o e) (terms_of a) (terms_of a) (length (terms_of a)) refl (omega arith) all)

  literal_search : (ls : List Literal) (n : ℕ) → n ≤ length ls → InLiterals o e vars ls ⊎ NoLiteralBefore (LowersTerm o e) ls n
  literal_search ls zero le = inr (no_literal_start (LowersTerm o e) ls)
  literal_search ls (suc n) le = next (literal_search ls n (omega (arith, le))) (some_at ls n (omega (arith, le)))
    where
      item : (l : Literal) → slice_get ls n ≡ Some l → NoLiteralBefore (LowersTerm o e) ls n → InAtom o e vars l.atom ⊎ NoneAmong (LowersTerm o e) (terms_of l.atom) →
          InLiterals o e vars ls ⊎ NoLiteralBefore (LowersTerm o e) ls (suc n)
      item l there none (inl inside) = inl (record { place = n; literal = l; here = there; earlier = none; inside = inside })
      item l there none (inr nothing) =
          (let same : n + 1 ≡ suc n = omega arith in
          inr (subst (NoLiteralBefore (LowersTerm o e) ls) same (no_literal_next (LowersTerm o e) ls n l (omega (arith, le)) (got ls n l (omega (arith, le)) there) none nothing)))

      next : InLiterals o e vars ls ⊎ NoLiteralBefore (LowersTerm o e) ls n → (l : Literal) × (slice_get ls n ≡ Some l) → InLiterals o e vars ls ⊎ NoLiteralBefore (LowersTerm o e) ls (suc n)
      next (inl found) x = inl found
      next (inr none) x = item x.0 x.1 none (atom_search x.0.atom)

-- ---- the reduct there

changed_there : (s : List Term) (path : List ℕ) (to : Term) (a : Atom) (u : Term) → subterm_at path a ≡ Some u → (b : Atom) × (replaced_at path (applied s to) a ≡ Some b)
changed_there s path to a u there = at (replaced_at_under [] s path to a) refl
  where
    at : (x : Option Atom) → replaced_at_under [] s path to a ≡ x → (b : Atom) × (replaced_at path (applied s to) a ≡ Some b)
    at None is = absurd (nowhere [] s path to a u there (sym is))
    at (Some b) is = (b, sym (becomes [] s path to a u refl there) ∙ is)

found_reduct : (o : Order) (e c : Clause) (j : ℕ) (way : List ℕ) (side : ℕ) (s : List Term) → FoundAt o e (variable_bound_of e) c.literals j way side s → SomeReduct o e c
found_reduct o e c j way side s f =
    let by = found_by f in
    let changed = changed_there s (found_spot f).path by.lowers.to by.taker.atom by.old by.there in (
      found_spot f,
      s,
      record { literals = slice_set c.literals (found_spot f).literal (signed by.taker.positive changed.0) },
      record {
        first = found_first f;
        covers = f.found.lowering.covers;
        by = by;
        changed = changed.0;
        becomes = ap (λ t. replaced_at (found_spot f).path t by.taker.atom) (sym by.lowers.result) ∙ changed.1;
        rest = refl;
      },
    )

of_equation : (o : Order) (left right : Term) (c : Clause) → SomeReduct o (equation_clause left right) c ⊎ (Reduces o (equation_clause left right) c → ⊥)
of_equation o left right c =
    at (literal_search o (equation_clause left right) (variable_bound_of (equation_clause left right))
    (lowered o left right (variable_bound_of (equation_clause left right)) (omega arith) (omega arith)) c.literals (length c.literals) (omega arith))
  where
    at : InLiterals o (equation_clause left right) (variable_bound_of (equation_clause left right)) c.literals ⊎ NoLiteralBefore (LowersTerm o (equation_clause left right)) c.literals (length c.literals) →
        SomeReduct o (equation_clause left right) c ⊎ (Reduces o (equation_clause left right) c → ⊥)
    at (inl x) = inl (found_reduct o (equation_clause left right) c x.place (reverse x.inside.path) x.inside.low.0 x.inside.low.1 (record {
      literal = x.literal;
      here = x.here;
      earlier = x.earlier;
      found = record { path = x.inside.path; way = refl; found = x.inside.found; first = x.inside.first; lowering = x.inside.low.2 };
    }))
    at (inr none) = inr (none_reduces o (equation_clause left right) c none)

-- ---- a clause that is one positive equation, or isn't

only : (l m : Literal) → l ∷ [] ≡ m ∷ [] → l ≡ m
only l m e = cc

pub reducts_decide : ReductsDecide
reducts_decide o e c = shape e.literals refl
  where
    other : (l : Literal) → e.literals ≡ l ∷ [] → ((s t : Term) → l ≡ signed true (Equal s t) → ⊥) → SomeReduct o e c ⊎ (Reduces o e c → ⊥)
    other l is none = inr (no_equation o e c (λ s t w. none s t (only l (signed true (Equal s t)) (sym is ∙ w))))

    one : (l : Literal) → e.literals ≡ l ∷ [] → (b : Bool) (a : Atom) → l.positive ≡ b → l.atom ≡ a → SomeReduct o e c ⊎ (Reduces o e c → ⊥)
    one l is false a sign atom = other l is (λ s t w. let both : true ≡ false = sym (ap (λ (m : Literal). m.positive) w) ∙ sign in cc)
    one l is true Truth sign atom = other l is (λ s t w. let both : Truth ≡ Equal s t = sym atom ∙ ap (λ (m : Literal). m.atom) w in cc)
    one l is true (Pred p ts) sign atom = other l is (λ s t w. let both : Pred p ts ≡ Equal s t = sym atom ∙ ap (λ (m : Literal). m.atom) w in cc)
    one l is true (Equal left right) sign atom =
        (let literal : l ≡ signed true (Equal left right) = (λ i. record { positive = sign i; atom = atom i }) in
        subst (λ x. SomeReduct o x c ⊎ (Reduces o x c → ⊥)) (clause_is e left right left right (is ∙ ap (λ m. m ∷ []) literal) refl refl) (of_equation o left right c))

    shape : (ls : List Literal) → e.literals ≡ ls → SomeReduct o e c ⊎ (Reduces o e c → ⊥)
    shape [] is = inr (no_equation o e c (λ s t w. let both : [] ≡ signed true (Equal s t) ∷ [] = sym is ∙ w in cc))
    shape (l ∷ []) is = one l is l.positive l.atom refl refl
    shape (l ∷ m ∷ ls) is = inr (no_equation o e c (λ s t w. let both : l ∷ m ∷ ls ≡ signed true (Equal s t) ∷ [] = sym is ∙ w in cc))
