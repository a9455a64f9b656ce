-- The laws of the orders that other crates build on. Each is the contract of a function of the module `laws`.
-- Beyond the headline: no clause of `prove` reaches this file.
use Rattle.std.specs.Prelude.{◌≡◌, ◌≢◌, ℕ, List, ◌∷◌, ◌++◌, length, Some}
use Rattle.std.specs.Cmp.{IsTotalOrder}
use Rattle.std.specs.Cmp.Lexicographic.{slice_cmp}
use Rattle.std.specs.Ordering.{nat_cmp, ordering_then}
use Rattle.std.specs.declared.cmp.Ordering.{Ordering}
use Rattle.std.specs.declared.cmp.Ordering.TheVariants.{Less, Equal}
use Rattle.std.specs.declared.cmp.Ordering.TheVariants as answer
use Rattle.cd_term.specs.declared.Term.{Term}
use Rattle.cd_term.specs.declared.Term.TheVariants.{Var, App}
use Rattle.cd_term.specs.Terms.{substituted, replaced}
use Rattle.cd_kbo.specs.declared.order.Order.{Order}
use Rattle.cd_kbo.specs.Orders.{rank_at}
use Rattle.cd_kbo.specs.Kbo.{weight_of, ground_compare, Greater, IsGround}

-- a term with each variable read as `bot`, which the variable 0 stands for
abbrev pub grounded : Term → Term
grounded = substituted (λ n. Var 0)

-- the laws of the ground order
pub record IsGroundOrder (o : Order) : Type 0 where
  -- antisymmetric and transitive, and what compares as equal compares alike
  pub total : IsTotalOrder (ground_compare o)
  pub irreflexive : (t : Term) → ground_compare o t t ≢ Less
  -- only terms that are the same with each variable read as `bot` compare as equal
  pub same : (s t : Term) → ground_compare o s t ≡ Equal → grounded s ≡ grounded t
  pub same_ground : (s t : Term) → IsGround s → IsGround t → ground_compare o s t ≡ Equal → s ≡ t
  pub as_bot : (s t : Term) → ground_compare o (grounded s) (grounded t) ≡ ground_compare o s t
  pub least : (n : ℕ) (t : Term) → ground_compare o (Var n) t ≢ answer.Greater
  -- monotone in contexts: at an argument, and at any path
  pub monotone : (f : ℕ) (before after : List Term) (s t : Term) → ground_compare o s t ≡ Less →
      ground_compare o (App f (before ++ s ∷ after)) (App f (before ++ t ∷ after)) ≡ Less
  pub contexts : (path : List ℕ) (context s t u v : Term) → replaced path s context ≡ Some u →
      replaced path t context ≡ Some v → ground_compare o s t ≡ Less → ground_compare o u v ≡ Less
  -- weights, then ranks, then numbers of arguments, then symbols, then the first arguments that differ
  pub weights_first : (s t : Term) → (rest : Ordering) ×
      (ground_compare o s t ≡ ordering_then (nat_cmp (weight_of o s) (weight_of o t)) rest)
  pub symbols : (f g : ℕ) (ss ts : List Term) → ground_compare o (App f ss) (App g ts) ≡
      ordering_then (nat_cmp (weight_of o (App f ss)) (weight_of o (App g ts)))
      (ordering_then (nat_cmp (rank_at o f) (rank_at o g))
      (ordering_then (nat_cmp (length ss) (length ts))
      (ordering_then (nat_cmp f g) (slice_cmp (ground_compare o) ss ts))))

abbrev pub GroundOrderHasLaws : Type 0
GroundOrderHasLaws = (o : Order) → IsGroundOrder o

-- what is greater is above in the ground order
abbrev pub GreaterIsAbove : Type 0
GreaterIsAbove = (o : Order) (s t : Term) → Greater o s t → ground_compare o s t ≡ answer.Greater

-- on terms without variables the two orders agree
abbrev pub GroundTermsAgree : Type 0
GroundTermsAgree = (o : Order) (s t : Term) → IsGround s → IsGround t →
    ground_compare o s t ≡ answer.Greater → Greater o s t

abbrev pub NothingIsGreaterThanItself : Type 0
NothingIsGreaterThanItself = (o : Order) (t : Term) → Greater o t t → ⊥
