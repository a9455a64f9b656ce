-- What is known of the sides of an equation before any term is looked at.
-- Beyond the headline: no clause of `prove` reaches this file.
use Rattle.std.specs.Prelude.{ℕ, ◌≡◌, ◌≤◌, true, false, [], ◌∷◌}
use Rattle.cd_term.specs.declared.Term.{Term}
use Rattle.cd_term.specs.Terms.{substituted, bound_of}
use Rattle.cd_clause.specs.declared.Atom.TheVariants.{Equal}
use Rattle.cd_clause.specs.declared.Clause.{Clause}
use Rattle.cd_clause.specs.Places.{signed}
use Rattle.cd_kbo.specs.declared.order.Order.{Order}
use Rattle.cd_kbo.specs.Kbo.{Greater}
use Rattle.cd_rewrite.specs.declared.equations.Equation.{Equation}
use Rattle.cd_rewrite.specs.Reduction.{HasVariablesOf, Lowers}

-- the clause of one positive equation
abbrev pub equation_clause : Term → Term → Clause
equation_clause s t = record { literals = signed true (Equal s t) ∷ [] }

abbrev pub clause_of : Equation → Clause
clause_of eq = equation_clause eq.left.now eq.right.now

-- a term is an instance of another one, and greater than the same instance of a third, whose variables the other has
abbrev pub Falls : Order → Term → Term → (ℕ → Term) → Term → Type 0
Falls o from to g t = HasVariablesOf from to × (substituted g from ≡ t) × Greater o t (substituted g to)

-- the variables are counted, and a side that isn't tried lowers no term
pub record IsReady (o : Order) (eq : Equation) : Type 0 where
  pub left_below : bound_of eq.left.now ≤ eq.variables
  pub right_below : bound_of eq.right.now ≤ eq.variables
  pub left : eq.from_left ≡ false → (t : Term) (g : ℕ → Term) → ¬ Falls o eq.left.now eq.right.now g t
  pub right : eq.from_right ≡ false → (t : Term) (g : ℕ → Term) → ¬ Falls o eq.right.now eq.left.now g t

-- the equation lowers a term
abbrev pub LowersTerm : Order → Clause → Term → Type 0
LowersTerm o e t = (side : ℕ) × (g : ℕ → Term) × (new : Term) × Lowers o e side g t new
