-- Whether an instance of a side is greater than the same instance of the other side.
use Rattle.std.proofs.Common.{◌≡◌, Bool, true, false, IsTrue, ◌↔◌, sym, ◌∙◌, List}
use Rattle.cd_term.specs.declared.Term.{Term}
use Rattle.cd_term.specs.Terms.{applied, value_of}
use Rattle.cd_kbo.specs.declared.order.Order.{Order}
use Rattle.cd_kbo.specs.Kbo.{Greater}
use Rattle.cd_kbo.proofs.Stable.{greater_has_variables}
use Rattle.cd_rewrite.specs.Reduction.{HasVariablesOf}
use Rattle.cd_rewrite.proofs.Sides.{never_falls}
use Rattle.cd_rewrite.proofs.Turns.{falls_already}
use Rattle.cd_rewrite.proofs.FirstPlaces.{test_yes, test_no}

abbrev pub IsLowered : Order → Term → Term → Term → List Term → Type 0
IsLowered o from to t s = HasVariablesOf from to × Greater o t (applied s to)

pub lowered_by_greater : (o : Order) (from to t : Term) (s : List Term) → Greater o from to → applied s from ≡ t → (IsTrue true ↔ IsLowered o from to t s)
lowered_by_greater o from to t s down is =
    test_yes (IsLowered o from to t s) (greater_has_variables o from to down, falls_already o from to t s down is)

pub not_lowered_by_smaller : (o : Order) (from to t : Term) (s : List Term) → Greater o to from → applied s from ≡ t → (IsTrue false ↔ IsLowered o from to t s)
not_lowered_by_smaller o from to t s up is =
    test_no (IsLowered o from to t s) (λ l. never_falls o from to up t (value_of s) (l.0, is, l.1))

pub not_lowered_by_larger : (o : Order) (from to t : Term) (s : List Term) → (Greater o t (applied s to) → ⊥) → (IsTrue false ↔ IsLowered o from to t s)
not_lowered_by_larger o from to t s none = test_no (IsLowered o from to t s) (λ l. none l.1)

pub not_lowered_uncovered : (o : Order) (from to t : Term) (s : List Term) (b : Bool) → (IsTrue b ↔ HasVariablesOf from to) → b ≡ false →
    (IsTrue false ↔ IsLowered o from to t s)
not_lowered_uncovered o from to t s b test out =
    test_no (IsLowered o from to t s) (λ l. let was : b ≡ true = test.1 l.0 in let both : true ≡ false = sym was ∙ out in absurd (cc))

pub lowered_by_instance : (o : Order) (from to t : Term) (s : List Term) (b : Bool) → HasVariablesOf from to → (IsTrue b ↔ Greater o t (applied s to)) →
    (IsTrue b ↔ IsLowered o from to t s)
lowered_by_instance o from to t s b covered test = (λ e. (covered, test.0 e), λ l. test.1 l.1)
