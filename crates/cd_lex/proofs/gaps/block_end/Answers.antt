use Rattle.std.proofs.Common.{Some, None, ◌+◌, arith}
use Rattle.cd_lex.proofs.GapLemmas.{block_here, block_past, block_more}
use Rattle.cd_lex.proofs.gaps.block_end.Goals as goal
use Rattle.cd_lex.proofs.gaps.block_end.Goals.{else-bytes-at-eq42-via-then-bytes-at-eq42+else-bytes-at-eq47, else-bytes-at-eq42-via-else-bytes-at-eq42}

pub returns-clause-block : goal.returns-clause-block
returns-clause-block c = c.loop-at.invariant.goes_on None (block_past c.args.bytes.now c.loop-at.at c.loop-at-test.false)

pub returns-then-bytes-at-eq47-clause-block : goal.returns-then-bytes-at-eq47-clause-block
returns-then-bytes-at-eq47-clause-block c =
    c.loop-at.invariant.goes_on (Some (c.loop-at.at + 2)) (block_here c.args.bytes.now c.loop-at.at c.loop-at-test.true c.if-bytes-at-eq42.true c.if-bytes-at-eq47.true)

pub loop-at-preserved : goal.loop-at-preserved
loop-at-preserved c = record {
  within = omega arith;
  ahead = omega arith;
  goes_on = λ r more. c.loop-at.invariant.goes_on r (block_more c.args.bytes.now c.loop-at.at r c.loop-at-test.true
      (elim c.else-bytes-at-eq42.branch [
        | else-bytes-at-eq42-via-then-bytes-at-eq42+else-bytes-at-eq47 w ↦ λ p q. w.if-bytes-at-eq47.false q
        | else-bytes-at-eq42-via-else-bytes-at-eq42 w ↦ λ p q. w.if-bytes-at-eq42.false p
      ]) more);
}
