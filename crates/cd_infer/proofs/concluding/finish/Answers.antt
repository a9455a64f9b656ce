use Rattle.cd_infer.proofs.Giving.{given_fault, given_none, given_some}
use Rattle.cd_infer.proofs.concluding.finish.Goals as goal

pub returns-in-Err : goal.returns-in-Err
returns-in-Err c = given_fault c.args.draft.now c.args.subst c.as_slice.result.now c.in-Err.fault c.as_slice.ensures c.requires.bounded.below c.requires.unifier c.in-Err.ensures

pub returns-in-Ok-None : goal.returns-in-Ok-None
returns-in-Ok-None c =
    given_none c.args.draft.now c.args.subst c.as_slice.result.now c.in-Ok-None.field-0 c.in-Ok-None.field-0-is c.as_slice.ensures c.requires.bounded.below c.requires.unifier c.in-Ok-None.ensures

pub returns-in-Ok-Some : goal.returns-in-Ok-Some
returns-in-Ok-Some c =
    given_some c.args.draft.now c.args.subst c.as_slice.result.now c.in-Ok-Some.field-0 c.in-Ok-Some.clause c.in-Ok-Some.field-0-is c.as_slice.ensures c.requires.bounded.below c.requires.unifier
    c.in-Ok-Some.ensures
