use Rattle.cd_kbo.proofs.LawsOfOrders.{ground_laws}
use Rattle.cd_kbo.proofs.laws.ground_order.Goals as goal

pub returns : goal.returns
returns c = ground_laws
