-- What is refused by counts alone.
use Rattle.std.proofs.Common.{◌≡◌, ◌≤◌, ℕ, Bool, true, false, IsTrue, ◌↔◌, [], ◌∷◌, sum_by, map, Option, Some, None, subst, sym, ◌∙◌}
use Rattle.cd_term.specs.declared.Term.{Term}
use Rattle.cd_term.specs.Terms.{greatest}
use Rattle.cd_clause.specs.declared.Atom.TheVariants.{Equal}
use Rattle.cd_clause.specs.declared.Clause.{Clause}
use Rattle.cd_clause.specs.Clauses.{clause_terms}
use Rattle.cd_clause.specs.Places.{signed, HasSides}
use Rattle.cd_kbo.specs.declared.order.Order.{Order}
use Rattle.cd_subsume.specs.Subsumption.{Subsumes}
use Rattle.cd_rewrite.specs.Reduction.{HasVariablesOf, Spot, ReducesBy, ReducesAt}
use Rattle.cd_rewrite.proofs.Reducts.{rule_sides}
use Rattle.cd_rewrite.proofs.Turns.{atoms_same}
use Rattle.cd_rewrite.proofs.FirstPlaces.{no_equation}
use Rattle.cd_contract.specs.declared.tally.Tally.{Tally}
use Rattle.cd_contract.specs.declared.rows.Row.{Row}
use Rattle.cd_contract.specs.Tallies.{count_in, signed_count, IsAtMost}
use Rattle.cd_contract.specs.Rows.{IsSideAtMost, IsMost, IsSideOf, IsReducingSide, AreSides, IsRow}
use Rattle.cd_contract.proofs.Counting.{subsumers_count, sides_count, at_most}

-- ---- the sides of an equation

side_at_most : (o : Order) (d c : Clause) (at : Spot) (g : ℕ → Term) (by : ReducesBy o d c at g) (most : Tally) (from to : Term) (side : Option Tally) →
    by.lowers.from ≡ from → by.lowers.to ≡ to → IsMost c most → IsSideOf from to side → IsSideAtMost side most
side_at_most o d c at g by most from to None is other m none =
    none (subst (λ t. HasVariablesOf t to) is (subst (HasVariablesOf by.lowers.from) other by.lowers.covered))
side_at_most o d c at g by most from to (Some side) is other m tally =
    at_most (λ k. count_in k from) (λ k. greatest (map (count_in k) (clause_terms c.literals))) side most
    (λ k. subst (λ t. count_in k t ≤ greatest (map (count_in k) (clause_terms c.literals))) is (sides_count o d c at g by k)) tally m

left_side : (d : Clause) (s t : Term) (left : Option Tally) → d.literals ≡ signed true (Equal s t) ∷ [] → IsSideOf s t left → IsReducingSide d 0 left
left_side d s t left is one o c most at here red m =
    by (subst (λ n. HasSides n (Equal s t) red.1.lowers.from red.1.lowers.to) here
    (rule_sides d at.side red.1.lowers.from red.1.lowers.to s t red.1.lowers.rule is))
  where
    by : Equal s t ≡ Equal red.1.lowers.from red.1.lowers.to → IsSideAtMost left most
    by sides = (let both = atoms_same s t red.1.lowers.from red.1.lowers.to sides in
        side_at_most o d c at red.0 red.1 most s t left (sym both.0) (sym both.1) m one)

right_side : (d : Clause) (s t : Term) (right : Option Tally) → d.literals ≡ signed true (Equal s t) ∷ [] → IsSideOf t s right → IsReducingSide d 1 right
right_side d s t right is one o c most at here red m =
    by (subst (λ n. HasSides n (Equal s t) red.1.lowers.from red.1.lowers.to) here
    (rule_sides d at.side red.1.lowers.from red.1.lowers.to s t red.1.lowers.rule is))
  where
    by : Equal s t ≡ Equal red.1.lowers.to red.1.lowers.from → IsSideAtMost right most
    by sides = (let both = atoms_same s t red.1.lowers.to red.1.lowers.from sides in
        side_at_most o d c at red.0 red.1 most t s right (sym both.1) (sym both.0) m one)

pub sides_are : (d : Clause) (s t : Term) (left right : Option Tally) → d.literals ≡ signed true (Equal s t) ∷ [] → IsSideOf s t left → IsSideOf t s right →
    AreSides d left right
sides_are d s t left right is one other = record { left = left_side d s t left is one; right = right_side d s t right is other }

pub no_sides : (d : Clause) → ((s t : Term) → d.literals ≡ signed true (Equal s t) ∷ [] → ⊥) → AreSides d None None
no_sides d none = record {
  left = λ o c most at here red m. no_equation o d c none (at, red);
  right = λ o c most at here red m. no_equation o d c none (at, red);
}

-- ---- what a test of counts refuses

pub not_by_positive : (d c : Clause) (x y : Row) (a : Bool) → (IsTrue a ↔ IsAtMost x.positive y.positive) → a ≡ false → IsRow d x → IsRow c y → ¬ Subsumes d c
not_by_positive d c x y a test out mine its by =
    let yes_ : a ≡ true = test.1 (at_most (λ k. sum_by (signed_count true k) d.literals) (λ k. sum_by (signed_count true k) c.literals) x.positive y.positive
    (λ k. subsumers_count true k d c by) mine.positive its.positive) in
    let both : true ≡ false = sym yes_ ∙ out in cc

pub not_by_negative : (d c : Clause) (x y : Row) (b : Bool) → (IsTrue b ↔ IsAtMost x.negative y.negative) → b ≡ false → IsRow d x → IsRow c y → ¬ Subsumes d c
not_by_negative d c x y b test out mine its by =
    let yes_ : b ≡ true = test.1 (at_most (λ k. sum_by (signed_count false k) d.literals) (λ k. sum_by (signed_count false k) c.literals) x.negative y.negative
    (λ k. subsumers_count false k d c by) mine.negative its.negative) in
    let both : true ≡ false = sym yes_ ∙ out in cc

-- a side whose counts don't fit reduces nothing
pub not_reduced : (d c : Clause) (n : ℕ) (side : Option Tally) (most : Tally) (a : Bool) → (IsTrue a ↔ IsSideAtMost side most) → a ≡ false →
    IsReducingSide d n side → IsMost c most → (o : Order) (at : Spot) → at.side ≡ n → ReducesAt o d c at → ⊥
not_reduced d c n side most a test out sound m o at here red =
    let yes_ : a ≡ true = test.1 (sound o c most at here red m) in let both : true ≡ false = sym yes_ ∙ out in cc
