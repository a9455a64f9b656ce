use Rattle.cd_machine.specs.Rules.{IsWithin, ReductAt}
use Rattle.cd_acts.proofs.rules.reduction_of.Goals as goal

pub returns-in-Err-OutOfBounds : goal.returns-in-Err-OutOfBounds
unfolding ReductAt IsWithin
returns-in-Err-OutOfBounds c =
    (let r = c.reduct.ensures.refused (rw c.in-Err-OutOfBounds.field-0-is at c.in-Err-OutOfBounds.is) in
    record { side = r.0.side; literal = r.0.literal; path = r.0.path; subst = r.1; clause = r.2; reduces = r.3; outside = r.4 })
