use Rattle.cd_mailbox.proofs.Joining.{joins_first, joins_next, next_row, next_joinable}
use Rattle.cd_mailbox.proofs.closing.join_all.Goals as goal

pub loop-pass-init : goal.loop-pass-init
loop-pass-init g c = joins_first c.args.boxes.now c.args.passes c.requires c.last.inside.peer c.pop.new.self c.in-Some.last c.last.inside.seats.items c.in-Some.ensures c.last.invariant c.last.view_is

pub join_rows-requires-clause-seats : goal.join_rows-requires-clause-seats
join_rows-requires-clause-seats g c =
    next_row c.args.boxes.now c.args.passes c.requires c.pass.inside.peer c.loop-pass.passes c.pop-in-loop-pass.new.self c.in-Some-pop.pass c.pass.inside.seats.items c.loop-pass.all.items c.loop-pass.invariant c.in-Some-pop.ensures c.pass.invariant c.pass.view_is

pub join_rows-requires-clause-views : goal.join_rows-requires-clause-views
join_rows-requires-clause-views g c =
    next_joinable c.args.boxes.now c.args.passes c.requires c.pass.inside.peer c.loop-pass.passes c.pop-in-loop-pass.new.self c.in-Some-pop.pass c.pass.inside.seats.items c.loop-pass.all.items c.loop-pass.invariant c.in-Some-pop.ensures c.pass.invariant c.pass.view_is

pub loop-pass-preserved : goal.loop-pass-preserved
loop-pass-preserved g c =
    joins_next c.args.boxes.now c.args.passes c.requires c.pass.inside.peer c.loop-pass.passes c.pop-in-loop-pass.new.self c.in-Some-pop.pass c.pass.inside.seats.items c.loop-pass.all.items c.join_rows.new.all.items c.loop-pass.invariant c.in-Some-pop.ensures c.pass.invariant c.pass.view_is c.join_rows.ensures.all c.join_rows.ensures.views
