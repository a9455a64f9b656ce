use Rattle.std.proofs.Common.{arith, inl, inr}
use Rattle.cd_lex.specs.declared.quotes.InsideEnd.TheVariants.{Closed, Bad, Unclosed}
use Rattle.cd_lex.proofs.QuoteLemmas.{closed_here, unclosed_here, half_here, bad_here, bad_pair_here, plain_here, pair_here}
use Rattle.cd_lex.proofs.quotes.inside_end.Goals as goal
use Rattle.cd_lex.proofs.quotes.inside_end.Goals.{else-bytes-at-ne92-via-then-bytes-at-ne92+else-bytes-at, else-bytes-at-ne92-via-else-bytes-at-ne92, else-b-ge32-via-then-b-ge32+else-b-le126, else-b-ge32-via-else-b-ge32}

pub returns-then-b-quote-clause-inside : goal.returns-then-b-quote-clause-inside
returns-then-b-quote-clause-inside c = c.loop-at.invariant.goes_on (Closed c.loop-at.at) (closed_here c.args.quote c.args.bytes.now c.loop-at.at c.loop-at-test.true c.if-b-quote.true)

pub returns-then-at-bytes-clause-inside : goal.returns-then-at-bytes-clause-inside
returns-then-at-bytes-clause-inside c = c.loop-at.invariant.goes_on (Bad c.loop-at.at) (half_here c.args.quote c.args.bytes.now c.loop-at.at c.if-at-bytes.true c.if-b-eq92.true)

pub returns-then-bytes-at-clause-inside : goal.returns-then-bytes-at-clause-inside
returns-then-bytes-at-clause-inside c = c.loop-at.invariant.goes_on (Bad c.loop-at.at)
    (bad_pair_here c.args.quote c.args.bytes.now c.loop-at.at (omega arith) c.if-b-eq92.true c.if-bytes-at-ne92.true c.if-bytes-at.true)

pub loop-at-preserved-then-b-eq92 : goal.loop-at-preserved-then-b-eq92
loop-at-preserved-then-b-eq92 c = record {
  within = omega arith;
  goes_on = λ r more. c.loop-at.invariant.goes_on r
      (pair_here c.args.quote c.args.bytes.now c.loop-at.at r (omega arith) c.if-b-eq92.true
      (elim c.else-bytes-at-ne92.branch [
        | else-bytes-at-ne92-via-then-bytes-at-ne92+else-bytes-at w ↦ inr (w.if-bytes-at.false)
        | else-bytes-at-ne92-via-else-bytes-at-ne92 w ↦ inl (w.if-bytes-at-ne92.false)
      ]) more);
}

pub loop-at-preserved : goal.loop-at-preserved
loop-at-preserved c = record {
  within = omega arith;
  goes_on = λ r more. c.loop-at.invariant.goes_on r
      (plain_here c.args.quote c.args.bytes.now c.loop-at.at r c.loop-at-test.true c.if-b-ge32.true c.if-b-le126.true c.if-b-quote.false c.if-b-eq92.false more);
}

pub returns-else-b-ge32-clause-inside : goal.returns-else-b-ge32-clause-inside
returns-else-b-ge32-clause-inside c = c.loop-at.invariant.goes_on (Bad c.loop-at.at)
    (bad_here c.args.quote c.args.bytes.now c.loop-at.at c.loop-at-test.true
    (elim c.else-b-ge32.branch [
      | else-b-ge32-via-then-b-ge32+else-b-le126 w ↦ inr w.if-b-le126.false
      | else-b-ge32-via-else-b-ge32 w ↦ inl w.if-b-ge32.false
    ]))

pub returns-clause-inside : goal.returns-clause-inside
returns-clause-inside c = c.loop-at.invariant.goes_on Unclosed (unclosed_here c.args.quote c.args.bytes.now c.loop-at.at c.loop-at-test.false)
