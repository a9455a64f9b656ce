use Rattle.std.proofs.Common.{List, ◌++◌, ap, sym, ◌∙◌}
use Rattle.std.proofs.lemmas.List.{append-nil}
use Rattle.cd_peer.proofs.Firsts.{none_first}
use Rattle.cd_tasks.specs.declared.Task.{Task}
use Rattle.cd_replay.proofs.owing.drain.Goals as goal

pub returns-clause-none : goal.returns-clause-none
returns-clause-none c = none_first c.loop-task.tasks.owed (sym c.in_default.is ∙ c.next.ensures.first)

pub returns-clause-owed : goal.returns-clause-owed
returns-clause-owed c =
    sym (append-nil c.loop-task.owed) ∙ ap (λ (ts : List Task). c.loop-task.owed ++ ts) (sym (none_first c.loop-task.tasks.owed (sym c.in_default.is ∙ c.next.ensures.first))) ∙ c.loop-task.invariant.owed
