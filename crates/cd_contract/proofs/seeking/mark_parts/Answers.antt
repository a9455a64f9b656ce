use Rattle.std.proofs.Common.{sym, ◌∙◌}
use Rattle.cd_contract.proofs.seeking.mark_parts.Goals as goal

pub returns-clause-parts : goal.returns-clause-parts
returns-clause-parts c = λ g q r one other.
    c.mark_grid.ensures.grid _ (c.shapes_of_part-first.ensures g q (one ∙ sym c.argument.ensures)) _
    (c.shapes_of_part-second.ensures g r (other ∙ sym c.argument-2.ensures))
