use Rattle.cd_contract.proofs.Refusing.{not_by_positive, not_by_negative}
use Rattle.cd_contract.proofs.rows.Row.may_subsume.Goals as goal

pub returns-then-is_at_most : goal.returns-then-is_at_most
returns-then-is_at_most c = λ out d e mine its. not_by_negative d e c.args.self.now c.args.other.now _ c.is_at_most-then-is_at_most.ensures out mine its

pub returns-else-is_at_most : goal.returns-else-is_at_most
returns-else-is_at_most c = λ out d e mine its. not_by_positive d e c.args.self.now c.args.other.now _ c.is_at_most.ensures out mine its
