use Rattle.cd_contract.proofs.Shaping.{some_part}
use Rattle.cd_contract.proofs.seeking.mark_sides.Goals as goal

pub returns-clause-straight : goal.returns-clause-straight
returns-clause-straight c = λ g q r one other.
    c.mark_grid-2.ensures.kept _
    (c.mark_grid.ensures.grid _ (some_part 2 c.args.s.now _ c.shapes-left.ensures g q one) _ (some_part 2 c.args.t.now _ c.shapes-right.ensures g r other))

pub returns-clause-exchanged : goal.returns-clause-exchanged
returns-clause-exchanged c = λ g q r one other.
    c.mark_grid-2.ensures.grid _ (some_part 2 c.args.t.now _ c.shapes-right.ensures g q one) _ (some_part 2 c.args.s.now _ c.shapes-left.ensures g r other)
