use Rattle.std.proofs.Common.{refl, ◌∙◌}
use Rattle.cd_acts.specs.View.{local_of}
use Rattle.cd_acts.proofs.Lists.{any_default}
use Rattle.cd_acts.proofs.Several.{losing_letters, losing_more, losing_start, losing_state}
use Rattle.cd_acts.proofs.state.State.lose_all.Goals as goal

pub loop-hit-init : goal.loop-hit-init
loop-hit-init c = record {
  losing = losing_start c.args.time c.args.hits.now c.args.by (local_of c.args.self.now) c.args.letters.now c.requires.once c.requires.among;
  indexed = c.requires.indexed;
  journal = refl;
}

pub loop-hit-preserved : goal.loop-hit-preserved
loop-hit-preserved c = record {
  losing = losing_more c.args.time c.args.hits.now c.args.by (local_of c.args.self.now) c.args.letters.now c.loop-hit.hit-index (local_of c.loop-hit.self) c.loop-hit.letters c.loop-hit.invariant.losing
      _ (local_of c.lose.new.self) c.lose.new.letters c.loop-hit-test.true (any_default c.args.hits.now c.loop-hit.hit-index _ _ c.loop-hit-test.true) c.in_ok-lose.ensures.state c.in_ok-lose.ensures.letters;
  indexed = c.in_ok-lose.ensures.indexed;
  journal = c.lose.ensures.journal ∙ c.loop-hit.invariant.journal;
}

pub returns-clause-state : goal.returns-clause-state
returns-clause-state c =
    losing_state c.args.time c.args.hits.now c.args.by (local_of c.args.self.now) c.args.letters.now c.loop-hit.hit-index (local_of c.loop-hit.self) c.loop-hit.letters c.loop-hit.invariant.losing c.loop-hit-test.false

pub returns-clause-letters : goal.returns-clause-letters
returns-clause-letters c =
    losing_letters c.args.time c.args.hits.now c.args.by (local_of c.args.self.now) c.args.letters.now c.loop-hit.hit-index (local_of c.loop-hit.self) c.loop-hit.letters c.loop-hit.invariant.losing c.loop-hit-test.false
