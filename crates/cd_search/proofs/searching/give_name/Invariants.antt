use Rattle.std.proofs.Common.{◌≡◌}
use Rattle.cd_ledger.specs.declared.local.Limits.{Limits}
use Rattle.cd_names.specs.declared.ownership.Policy.{Policy}
use Rattle.cd_search.specs.Steps.{IsSearching}
use Rattle.cd_search.proofs.Steps.{AtMost, turn_work}
use Rattle.cd_search.proofs.searching.give_name.Given as goal

abbrev pub invariant-turns : goal.invariant-turns
invariant-turns l = record {
  stays : (policy : Policy) (limits : Limits) → IsSearching policy limits l.initial.peer → IsSearching policy limits l.peer;
  problem : l.peer.problem ≡ l.initial.peer.problem;
  most : AtMost l.units l.names l.peer.local;
}

abbrev pub decreases-turns : goal.decreases-turns
decreases-turns l = turn_work l.units l.names l.peer.local
