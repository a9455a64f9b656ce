use Rattle.std.proofs.Common.{arith, ap, ap₂, ◌∙◌, ◌≡◌, ◌+◌, ◌*◌, ◌^◌, ◌≤◌}
use Rattle.std.proofs.Math.Nat.{pow-zero, pow-le-pow_right}
use Rattle.cd_meaning.proofs.Ranks.{power_more}
use Rattle.cd_meaning.proofs.tables.power.Goals as goal

pub loop-k-init : goal.loop-k-init
loop-k-init c = omega (arith, pow-zero c.args.size)

pub loop-k-preserved : goal.loop-k-preserved
loop-k-preserved c =
    let same : c.loop-k.total * c.from.result ≡ c.args.size ^ c.loop-k._k * c.args.size = ap₂ (λ a b. a * b) c.loop-k.invariant c.from.ensures in
    omega (arith, c.in-Some.ensures.1, same, power_more c.args.size c.loop-k._k)

pub returns-in-None : goal.returns-in-None
returns-in-None c =
    let most : c.args.size ^ (c.loop-k._k + 1) ≤ c.args.size ^ c.args.arity = pow-le-pow_right c.requires (omega (arith, c.loop-k-test.true)) in
    let same : c.loop-k.total * c.from.result ≡ c.args.size ^ c.loop-k._k * c.args.size = ap₂ (λ a b. a * b) c.loop-k.invariant c.from.ensures in
    omega (arith, most, same, power_more c.args.size c.loop-k._k, c.in-None.ensures)

pub returns : goal.returns
returns c = c.loop-k.invariant ∙ ap (λ n. c.args.size ^ n) (omega (arith, c.loop-k-test.false, c.loop-k.auto._k-end))
