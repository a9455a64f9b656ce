use Rattle.std.proofs.Common.{Option, ap, reverse, sym, ◌∙◌}
use Rattle.cd_clause.specs.declared.Clause.{Clause}
use Rattle.cd_rewrite.specs.declared.reducing.ReductAt.{ReductAt}
use Rattle.cd_rewrite.proofs.FirstPlaces.{none_reduces, reduces_not}
use Rattle.cd_rewrite.proofs.Replacing.{same_fault}
use Rattle.cd_rewrite.proofs.Reducts.{place_there, reduct_is, reduct_refused}
use Rattle.cd_rewrite.proofs.reducing.reduct.Goals as goal

pub returns-in_default-2-clause-value : goal.returns-in_default-2-clause-value
returns-in_default-2-clause-value c =
    reduces_not c.args.order.now c.args.e.now _ c.args.c.now (sym c.equation_of-eq.ensures.clause)
    (none_reduces c.args.order.now _ c.args.c.now (rw c.in_default-2.is at c.in_ok-place.ensures))

pub returns-in-Err-clause-refused : goal.returns-in-Err-clause-refused
returns-in-Err-clause-refused c = λ e.
    let f = rw c.in-Some-2.is at c.in_ok-place.ensures in
    reduct_refused f (sym c.equation_of-eq.ensures.clause) c.in_ok-at.at (c.in_ok-at.ensures ∙ ap reverse c.as_slice.ensures.value) c.in-Some.left.now c.in-Some.right.now
    c.other_side-to.result.now c.equation_of-eq.ensures.variables c.in-Some.ensures c.other_side-to.ensures
    (c.in-Err.ensures.refused (same_fault (Option ReductAt) (Option Clause) c.in-Err.fault _ e))

pub returns-in-Ok-None-clause-value : goal.returns-in-Ok-None-clause-value
returns-in-Ok-None-clause-value c =
    let f = rw c.in-Some-2.is at c.in_ok-place.ensures in
    absurd (place_there f (sym c.equation_of-eq.ensures.clause) c.in_ok-at.at (c.in_ok-at.ensures ∙ ap reverse c.as_slice.ensures.value)
    (rw c.in-Ok-None.field-0-is at c.in-Ok-None.ensures.value))

pub returns-clause-value : goal.returns-clause-value
returns-clause-value c =
    let f = rw c.in-Some-2.is at c.in_ok-place.ensures in
    reduct_is f (sym c.equation_of-eq.ensures.clause) c.in_ok-at.at (c.in_ok-at.ensures ∙ ap reverse c.as_slice.ensures.value) c.in-Some.left.now c.in-Some.right.now
    c.other_side-to.result.now c.in-Ok-Some.clause c.equation_of-eq.ensures.variables c.in-Some.ensures c.other_side-to.ensures
    (rw c.in-Ok-Some.field-0-is at c.in-Ok-Some.ensures.value)

pub first_place-requires-clause-ready : goal.first_place-requires-clause-ready
first_place-requires-clause-ready c = c.equation_of-eq.ensures.ready c.args.order.now
