use Rattle.std.proofs.Common.{◌≡◌, length}
use Rattle.std.specs.List.{flat_map}
use Rattle.cd_ledger.specs.Records.{equations_of, used_in}
use Rattle.cd_names.specs.Names.{each_once}
use Rattle.cd_acts.proofs.settling.equations_of.Given as goal

abbrev pub invariant-loop-rest : goal.invariant-loop-rest
invariant-loop-rest l = each_once l.names (flat_map used_in l.rest) ≡ equations_of l.steps

abbrev pub decreases-loop-rest : goal.decreases-loop-rest
decreases-loop-rest l = length l.rest
