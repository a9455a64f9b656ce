use Rattle.std.proofs.Common.{◌++◌, codes}
use Rattle.cd_text.specs.Texts.{term_text}
use Rattle.cd_text.proofs.Fronts.{on_err, adds_item, adds_first, adds_behind}
use Rattle.cd_text.proofs.terms.put_further.Goals as goal

pub returns-in_err-put_bytes-clause-front : goal.returns-in_err-put_bytes-clause-front
returns-in_err-put_bytes-clause-front c =
    on_err c.from_residual.result
    (adds_item (λ t. codes "," ++ term_text c.args.symbols.now t) c.args.terms.now c.loop-term.term-index c.term-item.result _ _ _ _ c.loop-term-test.true c.term-item.is c.loop-term.invariant.printed
    (adds_first _ _ (codes ",") _ c.in_err-put_bytes.ensures.front))

pub returns-in_err-put_term-clause-front : goal.returns-in_err-put_term-clause-front
returns-in_err-put_term-clause-front c =
    on_err c.from_residual-in_err-put_term.result
    (adds_item (λ t. codes "," ++ term_text c.args.symbols.now t) c.args.terms.now c.loop-term.term-index c.term-item.result _ _ _ _ c.loop-term-test.true c.term-item.is c.loop-term.invariant.printed
    (adds_behind _ _ _ (codes ",") _ c.in_ok-put_bytes.ensures.text c.in_err-put_term.ensures.front))
