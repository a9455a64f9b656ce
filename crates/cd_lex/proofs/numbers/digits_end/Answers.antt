use Rattle.std.proofs.Common.{drop}
use Rattle.cd_lex.specs.Bytes.{is_digit}
use Rattle.cd_lex.proofs.RunLemmas.{run_form, no_run}
use Rattle.cd_lex.proofs.numbers.digits_end.Goals as goal

pub returns-then-end-at-clause-longest : goal.returns-then-end-at-clause-longest
returns-then-end-at-clause-longest c = no_run is_digit (drop c.args.at c.args.bytes.now) c.args.at _ c.digit_run_end-end.ensures.run c.if-end-at.true

pub returns-else-end-at-clause-longest : goal.returns-else-end-at-clause-longest
returns-else-end-at-clause-longest c = run_form is_digit (drop c.args.at c.args.bytes.now) c.args.at _ c.digit_run_end-end.ensures.run c.if-end-at.false
