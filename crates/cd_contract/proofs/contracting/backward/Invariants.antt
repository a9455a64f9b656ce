use Rattle.cd_contract.proofs.Hitting.{Collects}
use Rattle.cd_contract.proofs.contracting.backward.Given as goal

abbrev pub invariant-loop-i : goal.invariant-loop-i
invariant-loop-i l = Collects l.order l.d l.name l.all l.i l.hits
