use Rattle.std.proofs.Common.{◌≡◌, false}
use Rattle.aquarius_worlds.proofs.doing.all_done.Given as goal

abbrev pub invariant-loop-choice : goal.invariant-loop-choice
invariant-loop-choice l = record {
  standing : l.world.fallen ≡ false;
  problem : l.world.problem ≡ l.initial.world.problem;
}
