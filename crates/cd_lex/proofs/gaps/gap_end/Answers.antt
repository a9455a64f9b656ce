use Rattle.std.proofs.Common.{arith, sym, ◌∙◌, ◌+◌}
use Rattle.cd_lex.proofs.GapLemmas.{gap_none, gap_then, blank_gap, line_gap, block_gap}
use Rattle.cd_lex.proofs.gaps.gap_end.Goals as goal

pub loop-at-init : goal.loop-at-init
loop-at-init c = record { within = c.requires.within; gap = gap_none c.args.bytes.now c.args.from }

pub loop-at-preserved-then-is_blank : goal.loop-at-preserved-then-is_blank
loop-at-preserved-then-is_blank c = record {
  within = omega arith;
  gap = gap_then c.args.bytes.now c.args.from c.loop-at.at (c.loop-at.at + 1) c.loop-at.invariant.gap
      (blank_gap c.args.bytes.now c.loop-at.at c.loop-at-test.true (sym c.is_blank.ensures ∙ c.if-is_blank.true));
}

pub loop-at-preserved-then-byte-eq37 : goal.loop-at-preserved-then-byte-eq37
loop-at-preserved-then-byte-eq37 c = record {
  within = c.in-Some.ensures.within;
  gap = gap_then c.args.bytes.now c.args.from c.loop-at.at c.in-Some.end c.loop-at.invariant.gap
      (line_gap c.args.bytes.now c.loop-at.at c.in-Some.end c.loop-at-test.true c.if-byte-eq37.true c.in-Some.ensures.line);
}

pub loop-at-preserved : goal.loop-at-preserved
loop-at-preserved c = record {
  within = c.in-Some-block_end.ensures.within;
  gap = gap_then c.args.bytes.now c.args.from c.loop-at.at c.in-Some-block_end.end c.loop-at.invariant.gap
      (block_gap c.args.bytes.now c.loop-at.at c.in-Some-block_end.end c.if-at-bytes.true c.if-byte-eq47.true c.if-bytes-at-eq42.true c.in-Some-block_end.ensures.block);
}
