-- The Knuth-Bendix order and the ground order.
-- Beyond the headline: no clause of `prove` reaches IsGround.
use Rattle.std.specs.List.{flat_map}
use Rattle.std.specs.Prelude.{◌≡◌, ◌≢◌, ℕ, nat_eq, ◌+◌, ◌≤◌, ◌<◌, List, [], ◌∷◌, ◌++◌, length, map, sum, if◌then◌else◌}
use Rattle.std.specs.Ordering.{nat_cmp}
use Rattle.std.specs.declared.cmp.Ordering.{Ordering}
use Rattle.std.specs.declared.cmp.Ordering.TheVariants.{Less}
use Rattle.std.specs.Cmp.Lexicographic.{slice_cmp}
use Rattle.cd_term.specs.declared.Term.{Term, fold-Term}
use Rattle.cd_term.specs.declared.Term.TheVariants.{App}
use Rattle.cd_term.specs.declared.Term.TheOpen.{Term-F}
use Rattle.cd_term.specs.declared.Term.TheOpen as layer
use Rattle.cd_kbo.specs.declared.order.Order.{Order}
use Rattle.cd_kbo.specs.Orders.{weight_at, rank_at}

-- the sum of the weights of the symbols and variables, a variable weighing 1
abbrev pub weight_step : Order → Term-F ℕ → ℕ
weight_step o (layer.Var n) = 1
weight_step o (layer.App f weights) = weight_at o f + sum weights

abbrev pub weight_of : Order → Term → ℕ
weight_of o = fold-Term ℕ (weight_step o)

-- how often a variable occurs
abbrev pub occurrences_step : ℕ → Term-F ℕ → ℕ
occurrences_step k (layer.Var n) = if nat_eq n k then 1 else 0
occurrences_step k (layer.App f counts) = sum counts

abbrev pub occurrences : ℕ → Term → ℕ
occurrences k = fold-Term ℕ (occurrences_step k)

-- any variable
abbrev pub Every : ℕ → Type 0
Every k = Unit {0}

-- each variable of some occurs in s at least as often as in t
pub record Covers (V : ℕ → Type 0) (s t : Term) : Type 0 where
  pub at_each : (k : ℕ) → V k → occurrences k t ≤ occurrences k s

-- f with m arguments precedes g with n: the smaller rank, then the fewer arguments, then the smaller number
abbrev pub Precedes : Order → ℕ → ℕ → ℕ → ℕ → Type 0
Precedes o f m g n = slice_cmp nat_cmp (rank_at o f ∷ m ∷ f ∷ []) (rank_at o g ∷ n ∷ g ∷ []) ≡ Less

-- s and t have the same head and as many arguments, and a and b are the first arguments in which they differ
pub record FirstDifference (s t a b : Term) : Type 0 where
  pub head : ℕ
  pub before : List Term
  pub after_a : List Term
  pub after_b : List Term
  pub left : s ≡ App head (before ++ a ∷ after_a)
  pub right : t ≡ App head (before ++ b ∷ after_b)
  pub as_many : length after_a ≡ length after_b
  pub differ : a ≢ b

-- s is greater than t, as far as some of the variables tell: each of these occurs in s at least as often as in
-- t, and s weighs more; or the weights are equal, and the head of t precedes that of s; or the weights and the
-- heads are equal, and at the first argument in which s and t differ that of s is greater
pub data GreaterOn (V : ℕ → Type 0) (o : Order) : Term → Term → Type 0 where
  by_weight : (s t : Term) → Covers V s t → weight_of o t < weight_of o s → GreaterOn V o s t
  by_head : (s t : Term) (f g : ℕ) (ss ts : List Term) → Covers V s t → weight_of o t ≡ weight_of o s →
      s ≡ App f ss → t ≡ App g ts → Precedes o g (length ts) f (length ss) → GreaterOn V o s t
  by_argument : (s t a b : Term) → Covers V s t → weight_of o t ≡ weight_of o s →
      FirstDifference s t a b → GreaterOn V o a b → GreaterOn V o s t

-- the Knuth-Bendix order: s is greater than t, as all variables tell
abbrev pub Greater : Order → Term → Term → Type 0
Greater = GreaterOn Every

-- one layer of a term, with the weights and keys of its arguments in their places
abbrev pub key_step : Order → Term-F (ℕ × List ℕ) → ℕ × List ℕ
key_step o (layer.Var n) = (1, 1 ∷ 0 ∷ [])
key_step o (layer.App f results) = (
  weight_at o f + sum (map (λ r. r.0) results),
  (weight_at o f + sum (map (λ r. r.0) results)) ∷ 1 ∷ rank_at o f ∷ length results ∷ f ∷ flat_map (λ r. r.1) results,
)

abbrev pub weight_and_key : Order → Term → ℕ × List ℕ
weight_and_key o = fold-Term (ℕ × List ℕ) (key_step o)

-- the weight and the head of each subterm from the left, with each variable read as `bot`: a 0 stands for it
-- where a symbol has 1, its rank, its number of arguments and its number
abbrev pub ground_key : Order → Term → List ℕ
ground_key o t = (weight_and_key o t).1

-- the ground order. Keys that are the same so far belong to terms of the same shape so far, so the first
-- difference lies at the weights or the heads of two subterms that stand at one place, the first such place
-- from the left: weights decide, then heads, then the first arguments that differ
abbrev pub ground_compare : Order → Term → Term → Ordering
ground_compare o s t = slice_cmp nat_cmp (ground_key o s) (ground_key o t)

-- a term without variables
pub record IsGround (t : Term) : Type 0 where
  pub at_each : (k : ℕ) → occurrences k t ≡ 0
