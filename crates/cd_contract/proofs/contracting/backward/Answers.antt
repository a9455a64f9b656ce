use Rattle.cd_contract.specs.Rows.{IsKept}
use Rattle.cd_contract.proofs.Hitting.{collects_none, collects_one, collects_end, all_read}
use Rattle.cd_contract.proofs.Skipping.{collects_skip, marked_within, marked_beside, all_marked}
use Rattle.cd_contract.proofs.contracting.backward.Goals as goal

pub loop-i-preserved-then-not-may_strike : goal.loop-i-preserved-then-not-may_strike
loop-i-preserved-then-not-may_strike c =
    collects_skip c.args.order.now c.args.d.now c.args.name c.kept-all.result.now c.args.held.now c.marks-marks-items.result.now c.loop-i.i _ c.loop-i.hits c.kept-all.ensures.entries
    c.marks-marks-items.ensures c.loop-i-test.true
    (λ e marks. c.may_strike.ensures c.if-not-may_strike.true c.args.order.now c.args.d.now e.clause c.of-needs.ensures marks) c.loop-i.invariant

pub kept_at-kept-requires : goal.kept_at-kept-requires
kept_at-kept-requires c =
    marked_within c.kept-all.result.now c.args.held.now c.marks-marks-items.result.now c.loop-i.i c.kept-all.ensures.entries c.marks-marks-items.ensures c.loop-i-test.true

pub strikes-requires-clause-kept : goal.strikes-requires-clause-kept
strikes-requires-clause-kept c =
    all_read IsKept c.kept-all.result.now c.loop-i.i c.kept_at-kept.result.now c.kept-all.ensures.kept
    (marked_within c.kept-all.result.now c.args.held.now c.marks-marks-items.result.now c.loop-i.i c.kept-all.ensures.entries c.marks-marks-items.ensures c.loop-i-test.true)
    c.kept_at-kept.ensures

pub loop-i-preserved-in_default : goal.loop-i-preserved-in_default
loop-i-preserved-in_default c =
    collects_none c.args.order.now c.args.d.now c.args.name c.kept-all.result.now c.loop-i.i c.kept_at-kept.result.now _ c.loop-i.hits
    (marked_within c.kept-all.result.now c.args.held.now c.marks-marks-items.result.now c.loop-i.i c.kept-all.ensures.entries c.marks-marks-items.ensures c.loop-i-test.true)
    c.kept_at-kept.ensures c.in_ok-how.ensures c.in_default.is c.loop-i.invariant

pub loop-i-preserved : goal.loop-i-preserved
loop-i-preserved c =
    collects_one c.args.order.now c.args.d.now c.args.name c.kept-all.result.now c.loop-i.i c.kept_at-kept.result.now _ c.in-Some.how c.loop-i.hits _
    (marked_within c.kept-all.result.now c.args.held.now c.marks-marks-items.result.now c.loop-i.i c.kept-all.ensures.entries c.marks-marks-items.ensures c.loop-i-test.true)
    c.kept_at-kept.ensures c.in_ok-how.ensures c.in-Some.is c.in_ok-push.ensures.ok c.loop-i.invariant

pub returns : goal.returns
returns c =
    collects_end c.args.order.now c.args.d.now c.args.name c.kept-all.result.now c.args.held.now c.loop-i.i c.loop-i.hits c.kept-all.ensures.entries
    (all_marked c.kept-all.result.now c.args.held.now c.marks-marks-items.result.now c.loop-i.i c.kept-all.ensures.entries c.marks-marks-items.ensures c.loop-i-test.false)
    c.loop-i.invariant

pub strikes-requires-clause-left : goal.strikes-requires-clause-left
strikes-requires-clause-left c = λ out.
    c.strike_sides-sides.ensures.left out c.args.order.now c.args.d.now c.kept_at-kept.result.now.entry.clause c.of-needs.ensures
    (marked_beside c.kept-all.result.now c.args.held.now c.marks-marks-items.result.now c.loop-i.i c.kept_at-kept.result.now _ c.kept-all.ensures.entries c.marks-marks-items.ensures
    c.loop-i-test.true c.kept_at-kept.ensures)

pub strikes-requires-clause-right : goal.strikes-requires-clause-right
strikes-requires-clause-right c = λ out.
    c.strike_sides-sides.ensures.right out c.args.order.now c.args.d.now c.kept_at-kept.result.now.entry.clause c.of-needs.ensures
    (marked_beside c.kept-all.result.now c.args.held.now c.marks-marks-items.result.now c.loop-i.i c.kept_at-kept.result.now _ c.kept-all.ensures.entries c.marks-marks-items.ensures
    c.loop-i-test.true c.kept_at-kept.ensures)
