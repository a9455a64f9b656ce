use Rattle.std.proofs.Common.{List, sym, subst}
use Rattle.std.specs.List.{AllByRecursion as Each}
use Rattle.cd_list.proofs.Lists.{all_remove}
use Rattle.cd_tasks.specs.declared.Task.{Task}
use Rattle.cd_replay.specs.Replayed.{IsLiving, replayed}
use Rattle.cd_replay.proofs.Frames.{works_at}
use Rattle.cd_replay.proofs.replayer.Replayer.work_at.Goals as goal

pub returns : goal.returns
returns c = λ p time. record {
  does =
      works_at c.args.order.now p (replayed c.args.self.now) time c.args.place c.args.task c.args.found c.add_items.new.pending.items c.remove.new.self c.push.new.self c.len-conclusions.result c.next_unit-self.result c.new.result
      c.requires.there c.requires.concludes c.requires.within c.requires.left c.in_ok-add_items.ensures c.remove.ensures.rest c.in_ok-push.ensures.ok c.len-conclusions.ensures.value c.next_unit-self.ensures c.new.ensures;
  drained = record {
    indexed = c.requires.acts.drained.indexed;
    none = c.requires.acts.drained.none;
    living = subst (λ (ts : List Task). Each (IsLiving c.args.self.now.state.known) ts) (sym c.remove.ensures.rest) (all_remove (IsLiving c.args.self.now.state.known) c.args.self.now.owed c.args.place c.requires.acts.drained.living);
  };
}
