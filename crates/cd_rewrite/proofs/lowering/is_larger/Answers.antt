use Rattle.std.proofs.Common.{◌-◌, ◌^◌, min, ap, ◌∙◌}
use Rattle.cd_kbo.specs.Kbo.{weight_of}
use Rattle.cd_rewrite.proofs.Turns.{too_large_at}
use Rattle.cd_rewrite.proofs.lowering.is_larger.Goals as goal

pub returns-in_default : goal.returns-in_default
returns-in_default c = λ _.
    too_large_at c.args.order.now c.args.t.now c.args.to.now _ c.args.s.now _ c.requires
    (c.weight-most.ensures ∙ ap (λ t. min (weight_of c.args.order.now t) (2 ^ 64 - 1)) c.of.ensures) c.in_default.ensures c.as_slice.ensures
