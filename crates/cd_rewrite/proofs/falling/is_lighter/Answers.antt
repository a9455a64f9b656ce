use Rattle.std.proofs.Common.{◌-◌, ◌^◌, min, ap, ◌∙◌}
use Rattle.cd_kbo.specs.Kbo.{weight_of}
use Rattle.cd_rewrite.proofs.Turns.{too_light_at}
use Rattle.cd_rewrite.proofs.falling.is_lighter.Goals as goal

pub returns-then-most-symbols : goal.returns-then-most-symbols
returns-then-most-symbols c = λ _.
    too_light_at c.args.order.now c.args.t.now c.args.to.now _ _
    (c.weight-most.ensures ∙ ap (λ t. min (weight_of c.args.order.now t) (2 ^ 64 - 1)) c.of.ensures) c.size-symbols.ensures c.if-most-symbols.true
