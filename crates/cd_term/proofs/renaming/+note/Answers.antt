use Rattle.std.proofs.Common.{ap, sym, ◌∙◌, take}
use Rattle.std.specs.List.{flat_map}
use Rattle.std.proofs.lemmas.List.{take_all}
use Rattle.cd_term.specs.Terms.{variables_of, firsts_after}
use Rattle.cd_term.proofs.Equations.{variables_of-App}
use Rattle.cd_term.proofs.Firsts.{firsts_more, noted_new, noted_known, kept_noted, kept_further}
use Rattle.cd_term.proofs.renaming.+note.Goals as goal

pub returns-in_err-note-in-App-clause-kept : goal.returns-in_err-note-in-App-clause-kept
returns-in_err-note-in-App-clause-kept t c =
    kept_further c.args.seen.now (flat_map variables_of (take c.loop-arg.arg-index c.as_slice-arg-items.result.now)) _ _ _ c.loop-arg.invariant c.note.ensures.kept.1

pub loop-arg-preserved : goal.loop-arg-preserved
loop-arg-preserved t c =
    let more = firsts_more c.args.seen.now c.as_slice-arg-items.result.now c.loop-arg.arg-index c.arg-item.result c.loop-arg-test.true in
    c.in_ok-note-in-App.ensures.ok
    ∙ ap (λ xs. firsts_after xs (variables_of c.arg-item.result)) c.loop-arg.invariant
    ∙ sym (more ∙ ap (λ u. firsts_after (firsts_after c.args.seen.now (flat_map variables_of (take c.loop-arg.arg-index c.as_slice-arg-items.result.now))) (variables_of u)) (sym c.arg-item.is))

pub returns-after-loop-arg-clause-ok : goal.returns-after-loop-arg-clause-ok
returns-after-loop-arg-clause-ok t c =
    c.loop-arg.invariant ∙ ap (firsts_after c.args.seen.now)
    (ap (flat_map variables_of) (take_all c.loop-arg.arg-index c.as_slice-arg-items.result.now c.loop-arg-test.false ∙ c.as_slice-arg-items.ensures)
    ∙ sym (ap variables_of c.in-App.is ∙ variables_of-App c.in-App.field-0 c.in-App.args))

pub returns-after-loop-arg-clause-kept : goal.returns-after-loop-arg-clause-kept
returns-after-loop-arg-clause-kept t c = kept_noted c.args.seen.now (flat_map variables_of (take c.loop-arg.arg-index c.as_slice-arg-items.result.now)) _ c.loop-arg.invariant

pub returns-in_ok-push-in-Var-clause-ok : goal.returns-in_ok-push-in-Var-clause-ok
returns-in_ok-push-in-Var-clause-ok t c =
    c.in_ok-push-in-Var.ensures.ok ∙ noted_new c.args.seen.now c.in-Var.k c.args.t.now c.in-Var.is (cc (c.if-not-contains.ensures.value, c.as_slice.ensures))

pub returns-else-not-contains-clause-ok : goal.returns-else-not-contains-clause-ok
returns-else-not-contains-clause-ok t c =
    noted_known c.args.seen.now c.in-Var.k c.args.t.now c.in-Var.is (cc (c.if-not-contains.ensures.value, c.as_slice.ensures))
