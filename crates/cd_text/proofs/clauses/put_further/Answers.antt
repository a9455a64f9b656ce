use Rattle.std.proofs.Common.{◌++◌, codes}
use Rattle.cd_text.specs.Texts.{literal_text}
use Rattle.cd_text.proofs.Fronts.{on_err, adds_item, adds_first, adds_behind}
use Rattle.cd_text.proofs.clauses.put_further.Goals as goal

pub returns-in_err-put_bytes-clause-front : goal.returns-in_err-put_bytes-clause-front
returns-in_err-put_bytes-clause-front c =
    on_err c.from_residual.result
    (adds_item (λ l. codes " | " ++ literal_text c.args.symbols.now l) c.args.literals.now c.loop-literal.literal-index c.literal-item.result _ _ _ _ c.loop-literal-test.true c.literal-item.is c.loop-literal.invariant.printed
    (adds_first _ _ (codes " | ") _ c.in_err-put_bytes.ensures.front))

pub returns-in_err-put_literal-clause-front : goal.returns-in_err-put_literal-clause-front
returns-in_err-put_literal-clause-front c =
    on_err c.from_residual-in_err-put_literal.result
    (adds_item (λ l. codes " | " ++ literal_text c.args.symbols.now l) c.args.literals.now c.loop-literal.literal-index c.literal-item.result _ _ _ _ c.loop-literal-test.true c.literal-item.is c.loop-literal.invariant.printed
    (adds_behind _ _ _ (codes " | ") _ c.in_ok-put_bytes.ensures.text c.in_err-put_literal.ensures.front))
