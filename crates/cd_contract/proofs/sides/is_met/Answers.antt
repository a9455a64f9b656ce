use Rattle.std.proofs.Common.{inr, ap, sym, ◌∙◌, Some}
use Rattle.std.proofs.lemmas.Option.{slice_get-get_or}
use Rattle.cd_contract.proofs.Parting.{misses_next, misses_all, no_shape}
use Rattle.cd_contract.proofs.sides.is_met.Goals as goal

pub loop-part-preserved-then-not-has : goal.loop-part-preserved-then-not-has
loop-part-preserved-then-not-has c =
    misses_next c.args.order.now c.args.from.now c.args.to.now c.args.shape c.args.parts.now c.loop-part.part-index c.part-item.result c.loop-part-test.true c.part-item.is
    c.loop-part.invariant (no_shape c.args.order.now c.args.from.now c.args.to.now c.args.shape c.part-item.result _ c.has.ensures c.if-not-has.true)

pub falls_at-requires-clause-small : goal.falls_at-requires-clause-small
falls_at-requires-clause-small c =
    c.requires.small c.loop-part.part-index c.part-item.result
    (slice_get-get_or c.args.parts.now c.loop-part.part-index c.part-item.result c.loop-part-test.true ∙ ap Some (sym c.part-item.is))

pub loop-part-preserved : goal.loop-part-preserved
loop-part-preserved c =
    misses_next c.args.order.now c.args.from.now c.args.to.now c.args.shape c.args.parts.now c.loop-part.part-index c.part-item.result c.loop-part-test.true c.part-item.is
    c.loop-part.invariant (λ _ _. c.in_ok-found.ensures.1 c.if-found.false)

pub returns : goal.returns
returns c = λ _. inr (misses_all c.args.order.now c.args.from.now c.args.to.now c.args.shape c.args.parts.now c.loop-part.part-index c.loop-part-test.false c.loop-part.invariant)
