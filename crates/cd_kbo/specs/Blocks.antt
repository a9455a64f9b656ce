-- Variables taken 16 at a time.
-- Beyond the headline: no clause of `prove` reaches this file.
use Rattle.std.specs.Prelude.{ℕ, ◌≡◌, ◌+◌, ◌<◌, ◌≤◌, min, Option, Some, None}
use Rattle.cd_kbo.specs.declared.sides.Side.{Side}
use Rattle.cd_kbo.specs.declared.sides.Side.TheVariants.{Variable, Symbol}

-- a variable of the block that begins at a number
pub record InBlock (base k : ℕ) : Type 0 where
  pub above : base ≤ k
  pub below : k < base + 16

-- the least number from a first one on that has a count, or nothing where none has
abbrev pub IsNext : ℕ → (ℕ → ℕ) → Option ℕ → Type 0
IsNext from counts None = (k : ℕ) → from ≤ k → counts k ≡ 0
IsNext from counts (Some n) =
    (from ≤ n) × (1 ≤ counts n) × ((k : ℕ) → from ≤ k → k < n → counts k ≡ 0)

-- the smaller number, where there are two
abbrev pub least_of : Option ℕ → Option ℕ → Option ℕ
least_of None b = b
least_of (Some m) None = Some m
least_of (Some m) (Some n) = Some (min m n)

-- both are the same variable
abbrev pub IsSameVariable : Side → Side → Type 0
IsSameVariable (Variable m) (Variable n) = m ≡ n
IsSameVariable (Variable m) (Symbol g others) = ⊥
IsSameVariable (Symbol f args) t = ⊥
