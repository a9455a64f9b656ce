use Rattle.std.proofs.Common.{◌-◌, ◌^◌, min, ap, sym, ◌∙◌}
use Rattle.cd_kbo.specs.Kbo.{Greater, weight_of}
use Rattle.cd_term.specs.Terms.{applied}
use Rattle.cd_rewrite.proofs.Turns.{too_large_at, small_at, above_at}
use Rattle.cd_rewrite.proofs.FirstPlaces.{test_no}
use Rattle.cd_rewrite.proofs.lowering.is_above_instance.Goals as goal

pub returns-in_default : goal.returns-in_default
returns-in_default c =
    test_no (Greater c.args.order.now c.args.old.now (applied c.args.s.now c.args.to.now))
    (too_large_at c.args.order.now c.args.old.now c.args.to.now _ c.args.s.now _ c.requires
    (c.weight-most.ensures ∙ ap (λ t. min (weight_of c.args.order.now t) (2 ^ 64 - 1)) c.of.ensures) c.in_default.ensures c.as_slice.ensures)

pub greater-requires-clause-right : goal.greater-requires-clause-right
greater-requires-clause-right c =
    small_at c.args.order.now c.args.old.now c.args.to.now c.in_ok-new.new _ c.in-Some.field-0 _ _ c.requires
    (c.weight-most.ensures ∙ ap (λ t. min (weight_of c.args.order.now t) (2 ^ 64 - 1)) c.of.ensures) c.in-Some.ensures c.in_ok-new.ensures
    (c.as_slice-2.ensures ∙ sym c.as_slice.ensures)

pub returns : goal.returns
returns c =
    above_at c.args.order.now c.args.old.now c.args.to.now c.in_ok-new.new c.args.s.now _ c.greater.result c.greater.ensures c.in_ok-new.ensures c.as_slice-2.ensures
