use Rattle.std.proofs.Common.{◌≤◌, ◌-◌, length}
use Rattle.cd_contract.specs.Hits.{Contracting}
use Rattle.cd_contract.proofs.Hitting.{Answers}
use Rattle.cd_contract.proofs.contracting.first_contracting.Given as goal

abbrev pub invariant-loop-i : goal.invariant-loop-i
invariant-loop-i l = record {
  within : l.i ≤ length l.needs;
  so_far : Answers (Contracting l.order l.how l.c l.name) l.held l.i;
}

abbrev pub decreases-loop-i : goal.decreases-loop-i
decreases-loop-i l = length l.needs - l.i
