use Rattle.std.proofs.Common.{ap, ◌∙◌, arith}
use Rattle.cd_acts.specs.View.{local_of}
use Rattle.cd_acts.proofs.Acts.{works}
use Rattle.cd_acts.proofs.Lists.{drop_first}
use Rattle.cd_tasks.specs.Owing.{Owing}
use Rattle.cd_acts.proofs.state.State.work.Goals as goal

pub returns-clause-does : goal.returns-clause-does
returns-clause-does c = λ p time.
    rw (c.new.ensures, c.next_unit-self.ensures)
    (works c.args.order.now p (local_of c.args.self.now) time c.args.task c.args.found _ _ _ _ c.requires.may c.in_ok-add_items.ensures
    (ap (λ (t : Owing). t.owed) c.finish.ensures ∙ drop_first c.args.self.now.tasks.owed) c.in_ok-push.ensures.ok c.len-conclusions.ensures.value)
