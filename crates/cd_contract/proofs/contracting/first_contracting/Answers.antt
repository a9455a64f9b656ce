use Rattle.std.proofs.Common.{arith}
use Rattle.cd_contract.specs.Hits.{Contracting}
use Rattle.cd_contract.specs.Needs.{HasNeeds}
use Rattle.cd_contract.proofs.Hitting.{answers_start, answers_next, answers_here, answers_end, all_read}
use Rattle.cd_contract.specs.Rows.{IsKept}
use Rattle.cd_contract.proofs.Columns.{step_length}
use Rattle.cd_contract.proofs.Skipping.{answers_to, beside}
use Rattle.cd_contract.proofs.contracting.first_contracting.Goals as goal

pub loop-i-init : goal.loop-i-init
loop-i-init c = record {
  within = c.next_place-i.ensures.within;
  so_far = answers_to c.args.order.now (Contracting c.args.order.now c.args.how c.args.c.now c.args.name) c.args.held.now c.args.needs.now 0 c.next_place-i.result c.requires.needs
      c.next_place-i.ensures.above c.next_place-i.ensures.within
      (λ i n above below at e needs p. c.next_place-i.ensures.passed i n above below at c.args.order.now e.clause c.args.c.now needs c.requires.sought.marks p.contracts)
      (answers_start (Contracting c.args.order.now c.args.how c.args.c.now c.args.name) c.args.held.now);
}

pub kept_at-kept-requires : goal.kept_at-kept-requires
kept_at-kept-requires c = omega (arith, c.loop-i-test.true, step_length (HasNeeds c.args.order.now) c.args.held.now c.args.needs.now c.requires.needs)

pub is_contracting-requires-clause-kept : goal.is_contracting-requires-clause-kept
is_contracting-requires-clause-kept c =
    all_read IsKept c.args.held.now c.loop-i.i c.kept_at-kept.result.now c.requires.kept (omega (arith, c.loop-i-test.true, step_length (HasNeeds c.args.order.now) c.args.held.now c.args.needs.now c.requires.needs))
    c.kept_at-kept.ensures

pub returns-then-branch : goal.returns-then-branch
returns-then-branch c =
    answers_here (Contracting c.args.order.now c.args.how c.args.c.now c.args.name) c.args.held.now c.loop-i.i c.kept_at-kept.result.now _
    (omega (arith, c.loop-i-test.true, step_length (HasNeeds c.args.order.now) c.args.held.now c.args.needs.now c.requires.needs)) c.kept_at-kept.ensures c.in_ok-is_contracting.ensures c.if-branch.true c.loop-i.invariant.so_far

pub loop-i-preserved : goal.loop-i-preserved
loop-i-preserved c = record {
  within = c.next_place-i-in-loop-i.ensures.within;
  so_far = answers_to c.args.order.now (Contracting c.args.order.now c.args.how c.args.c.now c.args.name) c.args.held.now c.args.needs.now _ c.next_place-i-in-loop-i.result
      c.requires.needs c.next_place-i-in-loop-i.ensures.above c.next_place-i-in-loop-i.ensures.within
      (λ i n above below at e needs p.
      c.next_place-i-in-loop-i.ensures.passed i n above below at c.args.order.now e.clause c.args.c.now needs c.requires.sought.marks p.contracts)
      (answers_next (Contracting c.args.order.now c.args.how c.args.c.now c.args.name) c.args.held.now c.loop-i.i c.kept_at-kept.result.now _
      (omega (arith, c.loop-i-test.true, step_length (HasNeeds c.args.order.now) c.args.held.now c.args.needs.now c.requires.needs)) c.kept_at-kept.ensures c.in_ok-is_contracting.ensures
      c.if-branch.false c.loop-i.invariant.so_far);
}

pub returns : goal.returns
returns c =
    answers_end (Contracting c.args.order.now c.args.how c.args.c.now c.args.name) c.args.held.now c.loop-i.i
    (omega (arith, c.loop-i-test.false, step_length (HasNeeds c.args.order.now) c.args.held.now c.args.needs.now c.requires.needs)) c.loop-i.invariant.so_far

pub sides_of-requires-clause-needs : goal.sides_of-requires-clause-needs
sides_of-requires-clause-needs c =
    beside (HasNeeds c.args.order.now) c.args.held.now c.args.needs.now c.loop-i.i c.kept_at-kept.result.now _ c.requires.needs c.loop-i-test.true c.kept_at-kept.ensures

pub sides_of-requires-clause-row : goal.sides_of-requires-clause-row
sides_of-requires-clause-row c =
    (all_read IsKept c.args.held.now c.loop-i.i c.kept_at-kept.result.now c.requires.kept (omega (arith, c.loop-i-test.true, step_length (HasNeeds c.args.order.now) c.args.held.now c.args.needs.now c.requires.needs))
    c.kept_at-kept.ensures).row

pub is_contracting-requires-clause-left : goal.is_contracting-requires-clause-left
is_contracting-requires-clause-left c = λ out. c.in_ok-sides.ensures.left out c.args.c.now c.requires.sought

pub is_contracting-requires-clause-right : goal.is_contracting-requires-clause-right
is_contracting-requires-clause-right c = λ out. c.in_ok-sides.ensures.right out c.args.c.now c.requires.sought
