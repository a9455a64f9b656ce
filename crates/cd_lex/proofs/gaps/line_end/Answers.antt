use Rattle.std.proofs.Common.{Some, None, ◌+◌, arith}
use Rattle.cd_lex.proofs.GapLemmas.{line_here, line_past, line_more}
use Rattle.cd_lex.proofs.gaps.line_end.Goals as goal

pub returns-clause-line : goal.returns-clause-line
returns-clause-line c = c.loop-at.invariant.goes_on None (line_past c.args.bytes.now c.loop-at.at c.loop-at-test.false)

pub returns-then-bytes-at-eq10-clause-line : goal.returns-then-bytes-at-eq10-clause-line
returns-then-bytes-at-eq10-clause-line c =
    c.loop-at.invariant.goes_on (Some (c.loop-at.at + 1)) (line_here c.args.bytes.now c.loop-at.at c.loop-at-test.true c.if-bytes-at-eq10.true)

pub loop-at-preserved : goal.loop-at-preserved
loop-at-preserved c = record {
  within = omega arith;
  ahead = omega arith;
  goes_on = λ r more. c.loop-at.invariant.goes_on r (line_more c.args.bytes.now c.loop-at.at r c.loop-at-test.true c.if-bytes-at-eq10.false more);
}
