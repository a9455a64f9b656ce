-- What the laws over runs take from the rules, as values over the rules themselves.
-- Beyond the headline: no clause of `prove` reaches this file.
use Rattle.std.specs.List.{AllByRecursion as Each}
use Rattle.cd_kbo.specs.declared.order.Order.{Order}
use Rattle.cd_read.specs.Formed.{IsFormed, IsBounded}
use Rattle.cd_read.specs.declared.problem.Problem.{Problem}
use Rattle.cd_machine.specs.Rules.{clauses_of, IsFit}
use Rattle.cd_laws.specs.Premises.{Premises}
use Rattle.cd_laws.specs.Turns.{Decisions}
use Rattle.cd_effects.specs.Effects.{Single}
use Rattle.cd_alone.specs.Alone.{Tests}

abbrev pub PremisesMeet : Type 0
PremisesMeet = (order : Order) → Premises order

abbrev pub DecisionsMeet : Type 0
DecisionsMeet = (order : Order) → Decisions order

abbrev pub SinglesMeet : Type 0
SinglesMeet = (order : Order) → Single order

-- the inputs of a problem that is formed and within bounds are fit
abbrev pub FormedInputsFit : Type 0
FormedInputsFit = (p : Problem) → IsFormed p → IsBounded p → Each (IsFit p) (clauses_of p)

-- what a turn takes from the rules where letters may lie
abbrev pub TestsMeet : Type 0
TestsMeet = Tests
