-- The laws of the Knuth-Bendix order that rewriting is built on. Each is the contract of a function of the module
-- `laws`.
-- Beyond the headline: no clause of `prove` reaches this file.
use Rattle.std.specs.Prelude.{ℕ, IsTrue}
use Rattle.cd_term.specs.declared.Term.{Term}
use Rattle.cd_term.specs.Terms.{substituted, occurs}
use Rattle.cd_list.specs.Decisions.{Decided}
use Rattle.cd_kbo.specs.declared.order.Order.{Order}
use Rattle.cd_kbo.specs.Kbo.{Greater}

-- what is greater stays greater under a substitution
abbrev pub InstancesStayGreater : Type 0
InstancesStayGreater = (o : Order) (g : ℕ → Term) (s t : Term) → Greater o s t → Greater o (substituted g s) (substituted g t)

-- every variable of a term occurs in what is greater
abbrev pub GreaterHasVariables : Type 0
GreaterHasVariables = (o : Order) (s t : Term) → Greater o s t → (k : ℕ) → IsTrue (occurs k t) → IsTrue (occurs k s)

-- of two terms not each is greater than the other
abbrev pub GreaterIsOneWay : Type 0
GreaterIsOneWay = (o : Order) (s t : Term) → Greater o s t → Greater o t s → ⊥

-- of two terms the first is greater, or it isn't
abbrev pub OrdersDecide : Type 0
OrdersDecide = (o : Order) (s t : Term) → Decided (Greater o s t)
