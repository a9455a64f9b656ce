use Rattle.std.proofs.Common.{ap, sym, ◌∙◌, take}
use Rattle.std.specs.List.{flat_map}
use Rattle.std.proofs.lemmas.List.{take_all}
use Rattle.cd_term.specs.Terms.{variables_of, firsts_after}
use Rattle.cd_term.proofs.Equations.{variables_of-App}
use Rattle.cd_term.proofs.Firsts.{firsts_more}
use Rattle.cd_clause.proofs.OrderLemmas.{inserted}
use Rattle.cd_clause.proofs.renumbering.+note.Goals as goal

pub loop-arg-preserved : goal.loop-arg-preserved
loop-arg-preserved t c =
    let more = firsts_more c.args.seen.now.keys c.as_slice-arg-items.result.now c.loop-arg.arg-index c.arg-item.result c.loop-arg-test.true in
    c.in_ok-note-in-App.ensures
    ∙ ap (λ xs. firsts_after xs (variables_of c.arg-item.result)) c.loop-arg.invariant
    ∙ sym (more ∙ ap (λ u. firsts_after (firsts_after c.args.seen.now.keys (flat_map variables_of (take c.loop-arg.arg-index c.as_slice-arg-items.result.now))) (variables_of u)) (sym c.arg-item.is))

pub returns-after-loop-arg : goal.returns-after-loop-arg
returns-after-loop-arg t c =
    c.loop-arg.invariant ∙ ap (firsts_after c.args.seen.now.keys)
    (ap (flat_map variables_of) (take_all c.loop-arg.arg-index c.as_slice-arg-items.result.now c.loop-arg-test.false ∙ c.as_slice-arg-items.ensures)
    ∙ sym (ap variables_of c.in-App.is ∙ variables_of-App c.in-App.field-0 c.in-App.args))

pub returns-in_ok-insert-in-Var : goal.returns-in_ok-insert-in-Var
returns-in_ok-insert-in-Var t c = inserted c.args.seen.now.keys c.insert.new.self.keys c.in-Var.k c.args.t.now c.in-Var.is c.in_ok-insert-in-Var.ensures.keys
