-- What a clause makes superfluous has the shapes that it needs among its marks.
use Rattle.std.proofs.Common.{◌≡◌, ◌⊎◌, inl, inr, ℕ, zero, suc, Bool, true, false, IsTrue, ◌↔◌, List, [], ◌∷◌, length, Some, slice_get, ap, subst, refl, sym, ◌∙◌, arith}
use Rattle.cd_term.specs.declared.Term.{Term}
use Rattle.cd_clause.specs.declared.Atom.TheVariants.{Equal}
use Rattle.cd_clause.specs.declared.Literal.{Literal}
use Rattle.cd_clause.specs.declared.Clause.{Clause}
use Rattle.cd_clause.specs.Clauses.{terms_of}
use Rattle.cd_clause.specs.Places.{signed, HasSides}
use Rattle.cd_kbo.specs.declared.order.Order.{Order}
use Rattle.cd_kbo.specs.Kbo.{Greater}
use Rattle.cd_subsume.specs.declared.picks.Pick.{Pick}
use Rattle.cd_subsume.specs.Subsumption.{ArePicked, Subsumes}
use Rattle.cd_rewrite.specs.Reduction.{Spot, ReducesBy, ReducesAt, Reduces}
use Rattle.cd_rewrite.specs.Equations.{Falls}
use Rattle.cd_rewrite.proofs.FirstPlaces.{at_atom, steps_among}
use Rattle.cd_rewrite.proofs.Turns.{atoms_same, the_atom}
use Rattle.cd_rewrite.specs.Walks.{subterm_among}
use Rattle.cd_contract.specs.declared.needs.Needs.{Needs}
use Rattle.cd_contract.specs.Shapes.{shape}
use Rattle.cd_contract.specs.Marks.{Meets, MeetsAmong, IsSought}
use Rattle.cd_contract.specs.Needs.{IsFirstShape, IsSideShape, IsNeeds}

-- ---- a subsumer

some_pick : (ps : List Pick) (n : ℕ) → length ps ≡ suc n → (p : Pick) × (slice_get ps 0 ≡ Some p)
some_pick [] n e = absurd (omega (arith, e))
some_pick (p ∷ ps) n e = (p, refl)

pub first_needed : (P : ℕ → Type 0) (ls ms : List Literal) (k : ℕ) (g : ℕ → Term) (picks : List Pick) → IsFirstShape ls k → ArePicked g ls ms picks → IsSought ms P → P k
first_needed P [] ms k g picks is are sought = subst P (sym is) sought.star
first_needed P (l ∷ ls) ms k g picks is are sought =
    let some = some_pick picks (length ls) (are.as_many) in
    let pick = are.each 0 l some.0 refl some.1 in
    subst P (sym is) ((sought.each some.0.place pick.literal pick.place).literal.shapes g l some.0.is_exchanged pick.sign pick.atom)

pub subsumer_needs : (P : ℕ → Type 0) (o : Order) (d c : Clause) (n : Needs) → IsNeeds o d n → IsSought c.literals P → Subsumes d c → P n.literal
subsumer_needs P o d c n needs sought by = first_needed P d.literals c.literals n.literal by.0 by.1.0 needs.literal by.1.1 sought

-- ---- an equation

subterm_met : (P : ℕ → Type 0) (path : List ℕ) (ts : List Term) (u : Term) → MeetsAmong P ts → subterm_among path ts ≡ Some u → Meets P u
subterm_met P [] ts u met at = absurd (cc)
subterm_met P (i ∷ path) ts u met at = let s = steps_among i path ts u at in met i s.arg s.here path u s.rest

old_met : (P : ℕ → Type 0) (o : Order) (d c : Clause) (at : Spot) (g : ℕ → Term) (by : ReducesBy o d c at g) → IsSought c.literals P → Meets P by.old
old_met P o d c at g by sought =
    subterm_met P at.path (terms_of by.taker.atom) by.old (sought.each at.literal by.taker by.literal).terms (sym (at_atom at.path by.taker.atom) ∙ by.there)

pub falls_so : (o : Order) (d c : Clause) (at : Spot) (g : ℕ → Term) (by : ReducesBy o d c at g) → Falls o by.lowers.from by.lowers.to g by.old
falls_so o d c at g by = (by.lowers.covered, by.lowers.matched, subst (λ u. Greater o by.old u) (sym by.lowers.result) by.lowers.falls)

pub left_needed : (P : ℕ → Type 0) (o : Order) (d c : Clause) (n : Needs) → IsNeeds o d n → IsSought c.literals P → (at : Spot) → at.side ≡ 0 → ReducesAt o d c at → P n.left
left_needed P o d c n needs sought at side (g, by) =
    let sides : HasSides 0 by.lowers.rule.equation by.lowers.from by.lowers.to = subst (λ k. HasSides k by.lowers.rule.equation by.lowers.from by.lowers.to) side by.lowers.rule.sides in
    subst P (sym (needs.left by.lowers.from by.lowers.to (by.lowers.rule.one ∙ ap (λ a. signed true a ∷ []) sides) g by.old (falls_so o d c at g by)))
    ((old_met P o d c at g by sought).shapes g by.lowers.from by.lowers.matched)

pub right_needed : (P : ℕ → Type 0) (o : Order) (d c : Clause) (n : Needs) → IsNeeds o d n → IsSought c.literals P → (at : Spot) → at.side ≡ 1 → ReducesAt o d c at → P n.right
right_needed P o d c n needs sought at side (g, by) =
    let sides : HasSides 1 by.lowers.rule.equation by.lowers.from by.lowers.to = subst (λ k. HasSides k by.lowers.rule.equation by.lowers.from by.lowers.to) side by.lowers.rule.sides in
    subst P (sym (needs.right by.lowers.to by.lowers.from (by.lowers.rule.one ∙ ap (λ a. signed true a ∷ []) sides) g by.old (falls_so o d c at g by)))
    ((old_met P o d c at g by sought).shapes g by.lowers.from by.lowers.matched)

pub reducer_needs : (P : ℕ → Type 0) (o : Order) (d c : Clause) (n : Needs) → IsNeeds o d n → IsSought c.literals P → Reduces o d c → P n.left ⊎ P n.right
reducer_needs P o d c n needs sought (at, red) = from at.side refl (red.1.lowers.rule.sides)
  where
    from : (side : ℕ) → at.side ≡ side → HasSides side red.1.lowers.rule.equation red.1.lowers.from red.1.lowers.to → P n.left ⊎ P n.right
    from zero is sides = inl (left_needed P o d c n needs sought at is red)
    from (suc zero) is sides = inr (right_needed P o d c n needs sought at is red)
    from (suc (suc k)) is sides = absurd sides

-- ---- what the tests refuse

pub false_test : (b : Bool) (A : Type 0) → (IsTrue b ↔ A) → b ≡ false → A → ⊥
false_test b A test out a = let was : b ≡ true = test.1 a in let both : true ≡ false = sym was ∙ out in absurd (cc)

pub neither : (a b : Bool) (A B : Type 0) → (IsTrue a ↔ A) → (IsTrue b ↔ B) → a ≡ false → b ≡ false → A ⊎ B → ⊥
neither a b A B one other x y (inl is) = false_test a A one x is
neither a b A B one other x y (inr is) = false_test b B other y is

pub needs_are : (o : Order) (d : Clause) (s t : Term) (n : Needs) → d.literals ≡ signed true (Equal s t) ∷ [] → IsFirstShape d.literals n.literal → IsSideShape o s t n.left →
    IsSideShape o t s n.right → IsNeeds o d n
needs_are o d s t n is first left right = record {
  literal = first;
  left = λ u v e g w falls.
      (let both = atoms_same u v s t (the_atom (Equal u v) (Equal s t) (sym e ∙ is)) in
      left g w (subst (λ x. Falls o s x g w) both.1 (subst (λ x. Falls o x v g w) both.0 falls)) ∙ ap (shape 3) (sym both.0));
  right = λ u v e g w falls.
      (let both = atoms_same u v s t (the_atom (Equal u v) (Equal s t) (sym e ∙ is)) in
      right g w (subst (λ x. Falls o t x g w) both.0 (subst (λ x. Falls o x u g w) both.1 falls)) ∙ ap (shape 3) (sym both.1));
}
