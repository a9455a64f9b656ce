use Rattle.std.proofs.Common.{◌∙◌, sym}
use Rattle.cd_verdict.proofs.JoinedSeats.{joins_first, joins_next, next_is, settles}
use Rattle.cd_verdict.proofs.settling.settle.Goals as goal

pub loop-seat-init : goal.loop-seat-init
loop-seat-init c = joins_first c.args.bell.now c.args.seats c.requires c.pop.new.self c.in-Some.all c.in-Some.ensures

pub loop-seat-preserved : goal.loop-seat-preserved
loop-seat-preserved c = joins_next c.args.bell.now c.args.seats c.requires c.loop-seat.seats c.pop-in-loop-seat.new.self c.in-Some-pop.seat c.loop-seat.all c.join_seats.new.seat c.loop-seat.invariant c.in-Some-pop.ensures c.join_seats.ensures

pub join_seats-requires-clause-bell : goal.join_seats-requires-clause-bell
join_seats-requires-clause-bell c = (c.loop-seat.invariant.ours, (next_is c.args.bell.now c.args.seats c.requires c.loop-seat.seats c.pop-in-loop-seat.new.self c.in-Some-pop.seat c.loop-seat.all c.loop-seat.invariant c.in-Some-pop.ensures).0)

pub join_seats-requires-clause-peers : goal.join_seats-requires-clause-peers
join_seats-requires-clause-peers c = c.loop-seat.invariant.peers ∙ sym (next_is c.args.bell.now c.args.seats c.requires c.loop-seat.seats c.pop-in-loop-seat.new.self c.in-Some-pop.seat c.loop-seat.all c.loop-seat.invariant c.in-Some-pop.ensures).1

pub returns : goal.returns
returns c = settles c.args.bell.now c.args.seats c.requires c.load.result c.loop-seat.seats c.loop-seat.all c.loop-seat.invariant c.in_default-pop.ensures.0 c.load.ensures.below c.load.ensures.marked c.load.ensures.noted
