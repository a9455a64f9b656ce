use Rattle.std.proofs.Common.{List, ◌++◌, filter, ap, sym, ◌∙◌, subst}
use Rattle.std.specs.List.{AllByRecursion as Each}
use Rattle.cd_acts.specs.View.{local_of}
use Rattle.cd_tasks.specs.declared.Task.{Task}
use Rattle.cd_replay.specs.Replayed.{IsLiving, is_living}
use Rattle.cd_replay.proofs.Living.{rejoined_living}
use Rattle.cd_replay.proofs.replayer.Replayer.rejoin.Goals as goal

pub returns-clause-drained : goal.returns-clause-drained
returns-clause-drained c = record {
  indexed = record { names = c.in_ok-drain.ensures.arrivals ∙ c.requires.indexed.names; held = c.requires.indexed.held; needs = c.requires.indexed.needs };
  none = c.in_ok-drain.ensures.none;
  living =
      subst (λ (ts : List Task). Each (IsLiving c.args.self.now.state.known) ts)
      (sym (c.in_ok-drain.ensures.owed ∙ ap (λ (ts : List Task). ts ++ c.args.self.now.state.tasks.owed) (c.in_ok-living.ensures ∙ ap (λ (ts : List Task). filter (is_living c.args.self.now.state.known) ts) c.as_slice.ensures)))
      (rejoined_living (local_of c.args.self.now.state) c.args.self.now.owed c.requires.fresh);
}
