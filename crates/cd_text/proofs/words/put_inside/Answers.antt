use Rattle.std.proofs.Common.{refl}
use Rattle.cd_text.specs.Texts.{quoted_byte}
use Rattle.cd_text.proofs.Fronts.{on_err, adds_item}
use Rattle.cd_text.proofs.words.put_inside.Goals as goal

pub returns-in_err-put_quoted_byte-clause-front : goal.returns-in_err-put_quoted_byte-clause-front
returns-in_err-put_quoted_byte-clause-front c =
    on_err c.from_residual.result
    (adds_item quoted_byte c.args.text.now c.loop-b.b-index _ _ _ _ _ c.loop-b-test.true refl c.loop-b.invariant.printed c.in_err-put_quoted_byte.ensures.front)
