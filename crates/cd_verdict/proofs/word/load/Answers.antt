use Rattle.std.proofs.Common.{arith}
use Rattle.cd_verdict.proofs.Steps.{looks}
use Rattle.cd_verdict.proofs.Seats.{same_table}
use Rattle.cd_verdict.proofs.word.load.Goals as goal

pub load-requires : goal.load-requires
load-requires c = (same_table c.args.seat.now c.args.bell.now _ _ _ _ _ c.seat.view_is c.requires c.bell.view_is, (let w = c.bell.invariant in omega arith), looks c.bell.inside.table.shared.key _ c.seat.inside.seat.id c.seat.inside.seat.me)
