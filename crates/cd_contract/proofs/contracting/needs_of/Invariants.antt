use Rattle.std.proofs.Common.{take}
use Rattle.cd_contract.specs.Needs.{AreInStep, HasNeeds}
use Rattle.cd_contract.specs.Rows.{entries_of}
use Rattle.cd_contract.proofs.contracting.needs_of.Given as goal

abbrev pub invariant-loop-kept : goal.invariant-loop-kept
invariant-loop-kept l = AreInStep (HasNeeds l.order) (entries_of (take l.kept-index l.held)) l.needs.items
