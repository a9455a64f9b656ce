use Rattle.std.proofs.Common.{[], ◌∷◌, arith}
use Rattle.std.proofs.lemmas.List.{length-append}
use Rattle.cd_acts.proofs.Items.{items_more}
use Rattle.cd_replay.proofs.working.add_items.Goals as goal

pub loop-conclusion-preserved : goal.loop-conclusion-preserved
loop-conclusion-preserved c = record {
  adds = items_more c.args.task c.args.pending.now.items c.loop-conclusion.pending.items c.push_back.new.self.items c.loop-conclusion.index c.loop-conclusion.yielded c.in-Some.conclusion c.in_ok-item.item
      c.loop-conclusion.invariant.adds c.loop-conclusion.invariant.counted c.in_ok-item.ensures c.in_ok-push_back.ensures.items;
  counted = omega (arith, c.loop-conclusion.invariant.counted, length-append c.loop-conclusion.yielded (c.in-Some.conclusion ∷ []));
}
