use Rattle.cd_contract.specs.Rows.{entries_of}
use Rattle.cd_contract.proofs.Naming.{NoneBefore}
use Rattle.cd_contract.proofs.held.place_of.Given as goal

abbrev pub invariant-loop-i : goal.invariant-loop-i
invariant-loop-i l = NoneBefore l.name (entries_of l.kept) l.i
