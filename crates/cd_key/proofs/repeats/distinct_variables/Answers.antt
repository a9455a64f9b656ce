use Rattle.std.proofs.Common.{◌≡◌, ◌+◌, suc, ap, ◌∙◌, arith}
use Rattle.cd_key.proofs.RepeatLemmas.{counted_below, one_more, inside_bound, all_counted}
use Rattle.cd_key.proofs.repeats.distinct_variables.Goals as goal

pub loop-n-preserved : goal.loop-n-preserved
loop-n-preserved c =
    let more = one_more c.args.c.now.literals c.loop-n.from c.in-Some.n c.in-Some.ensures.0 c.in-Some.ensures.1 c.in-Some.ensures.2 in
    let inside = inside_bound c.args.c.now.literals c.in-Some.n c.in-Some.ensures.1 in
    let next : suc c.in-Some.n ≡ c.from-from.result + 1 = omega (arith, c.from-from.ensures) in
    record {
      counted = omega (arith, more, c.loop-n.invariant.counted, ap (counted_below c.args.c.now.literals) next);
      few = omega (arith, c.loop-n.invariant.few, c.in-Some.ensures.0, c.from-from.ensures);
      small = omega (arith, c.from-from.ensures);
      inside = omega (arith, inside, c.from-from.ensures);
    }

pub returns : goal.returns
returns c = c.loop-n.invariant.counted ∙ all_counted c.args.c.now.literals c.loop-n.from c.loop-n.invariant.inside c.in_default.ensures
