use Rattle.std.proofs.Common.{◌≡◌}
use Rattle.cd_search.specs.Steps.{IsSearching}
use Rattle.cd_search.proofs.Steps.{unit_work}
use Rattle.cd_search.proofs.searching.search.Given as goal

abbrev pub invariant-units : goal.invariant-units
invariant-units l = record {
  searching : IsSearching l.fn.policy l.fn.limits l.peer;
  problem : l.peer.problem ≡ l.problem;
}

abbrev pub decreases-units : goal.decreases-units
decreases-units l = unit_work l.peer.local
