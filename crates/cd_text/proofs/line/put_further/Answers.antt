use Rattle.std.proofs.Common.{◌++◌, codes, refl}
use Rattle.cd_text.specs.Texts.{name_text}
use Rattle.cd_text.proofs.Fronts.{on_err, adds_item, adds_first, adds_behind}
use Rattle.cd_text.proofs.line.put_further.Goals as goal

pub returns-in_err-put_bytes-clause-front : goal.returns-in_err-put_bytes-clause-front
returns-in_err-put_bytes-clause-front c =
    on_err c.from_residual.result
    (adds_item (λ n. codes "," ++ name_text n) c.args.parents.now c.loop-parent.parent-index _ 0 _ _ _ c.loop-parent-test.true refl c.loop-parent.invariant.printed
    (adds_first _ _ (codes ",") _ c.in_err-put_bytes.ensures.front))

pub returns-in_err-put_name-clause-front : goal.returns-in_err-put_name-clause-front
returns-in_err-put_name-clause-front c =
    on_err c.from_residual-in_err-put_name.result
    (adds_item (λ n. codes "," ++ name_text n) c.args.parents.now c.loop-parent.parent-index _ 0 _ _ _ c.loop-parent-test.true refl c.loop-parent.invariant.printed
    (adds_behind _ _ _ (codes ",") _ c.in_ok-put_bytes.ensures.text c.in_err-put_name.ensures.front))
