use Rattle.cd_contract.proofs.Needing.{needs_are}
use Rattle.cd_contract.proofs.needs.Needs.of.Goals as goal

pub returns : goal.returns
returns c =
    needs_are c.args.order.now c.args.d.now c.in-Some.left.now c.in-Some.right.now _ c.in-Some.ensures c.first_shape-literal.ensures c.side_shape.ensures c.side_shape-2.ensures
