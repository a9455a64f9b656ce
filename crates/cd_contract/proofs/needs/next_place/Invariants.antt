use Rattle.cd_contract.specs.Needs.{ArePassed}
use Rattle.cd_contract.proofs.needs.next_place.Given as goal

abbrev pub invariant-loop-place : goal.invariant-loop-place
invariant-loop-place l = ArePassed l.how l.marks l.needs l.start l.place
