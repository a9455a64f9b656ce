use Rattle.std.proofs.Common.{◌≡◌}
use Rattle.cd_acts.specs.Indexed.{IsIndexed}
use Rattle.cd_acts.specs.View.{local_of}
use Rattle.cd_acts.proofs.Several.{Losing}
use Rattle.cd_acts.proofs.state.State.lose_all.Given as goal

abbrev pub invariant-loop-hit : goal.invariant-loop-hit
invariant-loop-hit l = record {
  losing : Losing l.time l.hits l.by (local_of l.initial.self) l.initial.letters l.hit-index (local_of l.self) l.letters;
  indexed : IsIndexed l.self;
  journal : l.self.journal ≡ l.initial.self.journal;
}
