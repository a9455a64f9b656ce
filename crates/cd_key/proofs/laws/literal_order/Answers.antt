use Rattle.cd_key.proofs.LiteralOrder.{literals_are_ordered}
use Rattle.cd_key.proofs.laws.literal_order.Goals as goal

pub returns : goal.returns
returns c = literals_are_ordered
