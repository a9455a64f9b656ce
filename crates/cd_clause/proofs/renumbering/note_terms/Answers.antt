use Rattle.std.proofs.Common.{ap, sym, ◌∙◌, take}
use Rattle.std.specs.List.{flat_map}
use Rattle.cd_term.specs.Terms.{variables_of, firsts_after}
use Rattle.cd_term.proofs.Firsts.{firsts_more}
use Rattle.cd_clause.proofs.renumbering.note_terms.Goals as goal

pub loop-term-preserved : goal.loop-term-preserved
loop-term-preserved c =
    c.in_ok-note.ensures
    ∙ ap (λ xs. firsts_after xs (variables_of c.term-item.result)) c.loop-term.invariant
    ∙ sym (firsts_more c.args.seen.now.keys c.args.terms.now c.loop-term.term-index c.term-item.result c.loop-term-test.true
    ∙ ap (λ u. firsts_after (firsts_after c.args.seen.now.keys (flat_map variables_of (take c.loop-term.term-index c.args.terms.now))) (variables_of u)) (sym c.term-item.is))
