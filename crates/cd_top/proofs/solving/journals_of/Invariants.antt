use Rattle.std.proofs.Common.{◌≡◌, map}
use Rattle.cd_acts.specs.View.{local_of}
use Rattle.cd_recorded.specs.Recorded.{journal_of}
use Rattle.cd_top.proofs.solving.journals_of.Given as goal

abbrev pub invariant-loop-state : goal.invariant-loop-state
invariant-loop-state l = l.journals ≡ map journal_of (map local_of l.yielded)
