use Rattle.std.proofs.Common.{arith, sym, ◌∙◌}
use Rattle.cd_lex.specs.Bytes.{is_word_byte}
use Rattle.cd_lex.proofs.RunLemmas.{run_more}
use Rattle.cd_lex.proofs.words.word_end.Goals as goal

pub loop-at-preserved : goal.loop-at-preserved
loop-at-preserved c = record {
  within = omega arith;
  goes_on = λ e more. c.loop-at.invariant.goes_on e (run_more is_word_byte c.args.bytes.now c.loop-at.at e c.loop-at-test.true (sym c.is_word_byte.ensures ∙ c.if-is_word_byte.true) more);
}
