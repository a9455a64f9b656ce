use Rattle.cd_contract.proofs.Refusing.{sides_are}
use Rattle.cd_contract.proofs.rows.sides.Goals as goal

pub returns : goal.returns
returns c = sides_are c.args.d.now c.in-Some.left.now c.in-Some.right.now _ _ c.in-Some.ensures c.side.ensures c.side-2.ensures
