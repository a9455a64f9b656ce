use Rattle.cd_unify.proofs.DirectLemmas.{inside_item}
use Rattle.cd_unify.proofs.direct.occurs_among.Goals as goal

pub returns-then-occurs_at : goal.returns-then-occurs_at
returns-then-occurs_at c = λ _. inside_item c.args.values.now c.args.x c.args.up c.args.terms.now c.loop-term.term-index c.term-item.result c.loop-term-test.true c.term-item.is
    (c.occurs_at.ensures c.if-occurs_at.true)
