use Rattle.std.proofs.Common.{arith}
use Rattle.cd_key.specs.Repeats.{variable_count}
use Rattle.cd_key.proofs.RepeatLemmas.{sides_more, item_small}
use Rattle.cd_key.proofs.repeats.clause_variables.Goals as goal

pub loop-literal-preserved : goal.loop-literal-preserved
loop-literal-preserved c =
    let more = sides_more variable_count c.as_slice-literal-items.result.now c.loop-literal.literal-index c.literal-item.result c.loop-literal-test.true c.literal-item.is in
    let little = item_small c.args.c.now.literals c.as_slice-literal-items.result.now c.loop-literal.literal-index c.literal-item.result c.requires
    c.as_slice-literal-items.ensures c.loop-literal-test.true c.literal-item.is in
    record {
      so_far = omega (arith, more, little, c.loop-literal.invariant.so_far, c.from-total.ensures, c.atom_variables.ensures);
      small = omega (arith, little, c.loop-literal.invariant.small, c.from-total.ensures, c.atom_variables.ensures);
    }
