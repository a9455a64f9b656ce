use Rattle.std.proofs.Common.{◌≡◌, length}
use Rattle.std.specs.List.{flat_map}
use Rattle.cd_ledger.specs.Records.{cites_of}
use Rattle.cd_names.specs.Names.{each_once}
use Rattle.cd_steps.specs.Premises.{names_in}
use Rattle.cd_acts.proofs.settling.cites_of.Given as goal

abbrev pub invariant-loop-rest : goal.invariant-loop-rest
invariant-loop-rest l = each_once l.names (flat_map names_in l.rest) ≡ cites_of l.steps

abbrev pub decreases-loop-rest : goal.decreases-loop-rest
decreases-loop-rest l = length l.rest
