use Rattle.std.proofs.Common.{take}
use Rattle.std.specs.Option.{option_copied}
use Rattle.cd_key.specs.Forms.{literal_compare}
use Rattle.cd_key.specs.Multisets.{counts_differ}
use Rattle.cd_key.proofs.TopLemmas.{top_grown}
use Rattle.cd_key.proofs.multisets.top.Goals as goal

pub loop-l-preserved : goal.loop-l-preserved
loop-l-preserved c = record {
  top = top_grown (literal_compare c.args.order.now) (counts_differ (literal_compare c.args.order.now) c.args.c.now c.args.d.now) c.args.ls.now c.loop-l.l-index c.l-item.result (option_copied c.better-best.result)
      c.loop-l-test.true c.l-item.is (c.better-best.ensures.value (take c.loop-l.l-index c.args.ls.now) c.loop-l.invariant.top);
  small = c.better-best.ensures.small;
}
