use Rattle.std.proofs.Common.{arith}
use Rattle.cd_term.proofs.Ranks.{rank_le}
use Rattle.cd_term.proofs.renaming.+renamed.Goals as goal

pub overflow_cast-result : goal.overflow_cast-result
overflow_cast-result t c = omega (arith, rank_le c.args.order.now c.in-Var.k, c.rank_of.ensures, c.requires)
