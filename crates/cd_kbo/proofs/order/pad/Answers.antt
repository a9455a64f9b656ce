use Rattle.std.proofs.Common.{◌≡◌, ℕ, ◌-◌, ◌++◌, replicate, ap, ◌∙◌}
use Rattle.cd_kbo.proofs.Padding.{padding_is}
use Rattle.cd_kbo.proofs.order.pad.Goals as goal

pub returns-clause-ok : goal.returns-clause-ok
returns-clause-ok c =
    let so_many : c.loop-place._place - c.len-old.result ≡ c.args.len - c.len-old.result =
    padding_is _ _ _ c.loop-place.auto._place c.loop-place-test.false c.loop-place.auto._place-end c.loop-place.invariant.none in
    c.loop-place.invariant.padded ∙ ap (λ (n : ℕ). c.args.list.now ++ replicate n c.args.default)
    (so_many ∙ ap (λ (n : ℕ). c.args.len - n) c.len-old.ensures.value)
