use Rattle.std.proofs.Common.{◌≡◌, length}
use Rattle.std.specs.List.{list_all}
use Rattle.cd_ledger.specs.Records.{is_known}
use Rattle.cd_replay.proofs.admitting.are_known.Given as goal

abbrev pub invariant-loop-rest : goal.invariant-loop-rest
invariant-loop-rest l = list_all (is_known l.state.known) l.rest ≡ list_all (is_known l.state.known) l.names

abbrev pub decreases-loop-rest : goal.decreases-loop-rest
decreases-loop-rest l = length l.rest
