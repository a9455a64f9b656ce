use Rattle.std.proofs.Common.{arith}
use Rattle.cd_rewrite.proofs.FirstPaths.{argument_below}
use Rattle.cd_contract.specs.Marks.{Marked}
use Rattle.cd_contract.proofs.Meeting.{parts_stay, meets_variable, meets_symbol, before_start, before_next, before_all}
use Rattle.cd_contract.proofs.seeking.+mark_term.Goals as goal

pub returns-in_default-clause-met : goal.returns-in_default-clause-met
returns-in_default-clause-met t c = meets_variable (Marked c.args.marks.now) c.args.t.now c.in_default.field-0 c.in_default.is c.requires

pub loop-arg-init : goal.loop-arg-init
loop-arg-init t c = record { kept = λ k on. on; met = before_start (Marked c.mark_parts.new.marks) c.as_slice-args.result.now }

pub mark_term-requires : goal.mark_term-requires
mark_term-requires t c =
    let below = argument_below c.args.t.now _ _ c.as_slice-args.result.now _ c.arg-item.result c.in-App.is c.as_slice-args.ensures c.loop-arg-test.true c.arg-item.is in
    (omega (arith, below), c.loop-arg.invariant.kept 0 (c.mark_parts.ensures.kept 0 c.requires))

pub loop-arg-preserved : goal.loop-arg-preserved
loop-arg-preserved t c = record {
  kept = λ k on. c.mark_term.ensures.kept k (c.loop-arg.invariant.kept k on);
  met = before_next (Marked c.loop-arg.marks) (Marked c.mark_term.new.marks) c.as_slice-args.result.now c.loop-arg.arg-index c.arg-item.result c.mark_term.ensures.kept
      c.loop-arg-test.true c.arg-item.is c.loop-arg.invariant.met c.mark_term.ensures.met;
}

pub returns-clause-met : goal.returns-clause-met
returns-clause-met t c =
    meets_symbol c.loop-arg.marks c.args.t.now c.in-App.f _ _ c.as_slice-args.result.now c.in-App.is c.as_slice-args.ensures c.from.ensures
    (c.loop-arg.invariant.kept 0 (c.mark_parts.ensures.kept 0 c.requires))
    (parts_stay c.mark_parts.new.marks c.loop-arg.marks _ _ _ c.loop-arg.invariant.kept c.mark_parts.ensures.parts)
    (before_all (Marked c.loop-arg.marks) c.as_slice-args.result.now c.loop-arg.arg-index c.loop-arg-test.false c.loop-arg.invariant.met)
