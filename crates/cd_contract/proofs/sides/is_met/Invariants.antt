use Rattle.cd_contract.specs.Parts.{MissesBefore}
use Rattle.cd_contract.proofs.sides.is_met.Given as goal

abbrev pub invariant-loop-part : goal.invariant-loop-part
invariant-loop-part l = MissesBefore l.order l.from l.to l.shape l.parts l.part-index
