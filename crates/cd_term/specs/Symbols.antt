-- Terms over the symbols of a problem: each function symbol stands with as many arguments as it has there.
use Rattle.std.specs.Prelude.{ℕ, Bool, true, ◌&&◌, List, length, IsTrue}
use Rattle.std.specs.List.{list_all, AllByRecursion}
use Rattle.cd_term.specs.declared.Term.{Term, fold-Term}
use Rattle.cd_term.specs.declared.Term.TheOpen.{Term-F}
use Rattle.cd_term.specs.declared.Term.TheOpen as layer

-- whether a number is that of a function, or of a predicate, of so many arguments
pub record Symbols : Type 0 where
  pub is_function : ℕ → ℕ → Bool
  pub is_predicate : ℕ → ℕ → Bool

abbrev pub over_step : Symbols → Term-F Bool → Bool
over_step y (layer.Var n) = true
over_step y (layer.App f tests) = y.is_function f (length tests) && list_all (λ b. b) tests

abbrev pub is_over : Symbols → Term → Bool
is_over y = fold-Term Bool (over_step y)

abbrev pub AreOver : Symbols → List Term → Type 0
AreOver y ts = AllByRecursion (λ t. IsTrue (is_over y t)) ts
