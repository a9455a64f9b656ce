-- The search of one peer alone.
-- Beyond the headline: no clause of `prove` reaches this file.
use Rattle.std.specs.Prelude.{◌≡◌, [], ◌∷◌, length, IsSome}
use Rattle.cd_kbo.specs.declared.order.Order.{Order}
use Rattle.cd_ledger.specs.declared.local.Limits.{Limits}
use Rattle.cd_ledger.specs.declared.local.Local.{Local}
use Rattle.cd_machine.specs.World.{World}
use Rattle.cd_names.specs.declared.ownership.Policy.{Policy}
use Rattle.cd_read.specs.declared.problem.Problem.{Problem}
use Rattle.cd_recorded.specs.Recorded.{AreStarting, ChosenRun}

-- a world of one peer, with nothing on its way
abbrev pub alone : Local → World
alone s = record { locals = s ∷ []; travelling = [] }

-- a lone peer that started with the problem is here, by a run that its journal tells
pub record IsUnderway (order : Order) (p : Problem) (policy : Policy) (limits : Limits) (s : Local) : Type 0 where
  pub start : Local
  pub starting : AreStarting p 1 policy limits (alone start)
  pub run : ChosenRun order p (alone start) s.journal (alone s)
  pub me : s.me ≡ 0
  pub clock : s.clock ≡ length s.journal

-- and it has a verdict
pub record IsFinished (order : Order) (p : Problem) (policy : Policy) (limits : Limits) (s : Local) : Type 0 where
  pub underway : IsUnderway order p policy limits s
  pub ended : IsSome s.verdict
