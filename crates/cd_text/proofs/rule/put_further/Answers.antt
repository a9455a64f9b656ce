use Rattle.std.proofs.Common.{◌++◌, codes, refl}
use Rattle.cd_text.specs.Numerals.{numeral}
use Rattle.cd_text.proofs.Fronts.{on_err, adds_item, adds_first, adds_behind}
use Rattle.cd_text.proofs.rule.put_further.Goals as goal

pub returns-in_err-put_bytes-clause-front : goal.returns-in_err-put_bytes-clause-front
returns-in_err-put_bytes-clause-front c =
    on_err c.from_residual.result
    (adds_item (λ n. codes "," ++ numeral n) c.args.numbers.now c.loop-number.number-index _ 0 _ _ _ c.loop-number-test.true refl c.loop-number.invariant.printed
    (adds_first _ _ (codes ",") _ c.in_err-put_bytes.ensures.front))

pub returns-in_err-put_number-clause-front : goal.returns-in_err-put_number-clause-front
returns-in_err-put_number-clause-front c =
    on_err c.from_residual-in_err-put_number.result
    (adds_item (λ n. codes "," ++ numeral n) c.args.numbers.now c.loop-number.number-index c.from.result 0 _ _ _ c.loop-number-test.true c.from.ensures c.loop-number.invariant.printed
    (adds_behind _ _ _ (codes ",") _ c.in_ok-put_bytes.ensures.text c.in_err-put_number.ensures.front))
