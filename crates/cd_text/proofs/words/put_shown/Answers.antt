use Rattle.std.proofs.Common.{◌∷◌, [], refl, subst}
use Rattle.cd_text.specs.Fronts.{AddsFront}
use Rattle.cd_text.specs.Texts.{shown_byte}
use Rattle.cd_text.proofs.Fronts.{on_err, adds_mapped}
use Rattle.cd_text.proofs.words.put_shown.Goals as goal

pub returns-in_err-put_byte-clause-front : goal.returns-in_err-put_byte-clause-front
returns-in_err-put_byte-clause-front c =
    on_err c.from_residual.result
    (adds_mapped shown_byte c.args.text.now c.loop-b.b-index _ _ _ _ _ c.loop-b-test.true refl c.loop-b.invariant.printed
    (subst (λ b. AddsFront c.loop-b.into c.put_byte.new.into (b ∷ [])) c.shown_byte.ensures c.in_err-put_byte.ensures.front))
