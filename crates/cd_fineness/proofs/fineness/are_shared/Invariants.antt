use Rattle.std.proofs.Common.{◌≡◌, drop}
use Rattle.std.specs.List.{list_all}
use Rattle.cd_fineness.specs.Fine.{shares}
use Rattle.cd_fineness.proofs.fineness.are_shared.Given as goal

abbrev pub invariant-loop-t : goal.invariant-loop-t
invariant-loop-t l = list_all (shares l.peers l.sender) (drop l.t-index l.steps) ≡ list_all (shares l.peers l.sender) l.steps
