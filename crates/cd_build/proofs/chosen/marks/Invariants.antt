use Rattle.std.proofs.Common.{◌≤◌, length}
use Rattle.cd_alone.specs.Derived.{last_names}
use Rattle.cd_build.proofs.Marking.{AreMarked}
use Rattle.cd_build.proofs.chosen.marks.Given as goal

abbrev pub invariant-loop-i : goal.invariant-loop-i
invariant-loop-i l = record { within : l.i ≤ length l.known; marked : AreMarked (last_names l.known) l.known l.i l.wanted l.marks }

abbrev pub decreases-loop-i : goal.decreases-loop-i
decreases-loop-i l = l.i
