use Rattle.std.proofs.Common.{◌≡◌}
use Rattle.cd_ledger.specs.declared.local.Limits.{Limits}
use Rattle.cd_names.specs.declared.ownership.Policy.{Policy}
use Rattle.cd_search.specs.Steps.{IsSearching}
use Rattle.cd_search.proofs.Steps.{FewUnits, name_work}
use Rattle.cd_search.proofs.searching.spend_unit.Given as goal

abbrev pub invariant-names : goal.invariant-names
invariant-names l = record {
  stays : (policy : Policy) (limits : Limits) → IsSearching policy limits l.initial.peer → IsSearching policy limits l.peer;
  problem : l.peer.problem ≡ l.initial.peer.problem;
  few : FewUnits l.units l.peer.local;
}

abbrev pub decreases-names : goal.decreases-names
decreases-names l = name_work l.units l.peer.local
