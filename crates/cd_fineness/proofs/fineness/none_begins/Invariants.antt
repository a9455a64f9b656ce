use Rattle.std.proofs.Common.{◌≡◌, not, drop}
use Rattle.std.specs.List.{list_all}
use Rattle.cd_ledger.specs.Records.{begins}
use Rattle.cd_fineness.proofs.fineness.none_begins.Given as goal

abbrev pub invariant-loop-t : goal.invariant-loop-t
invariant-loop-t l = list_all (λ t. not (begins t)) (drop l.t-index l.steps) ≡ list_all (λ t. not (begins t)) l.steps
