use Rattle.cd_lex.proofs.NumberLemmas.{number_ends}
use Rattle.cd_lex.proofs.numbers.number_end.Goals as goal

pub returns-clause-longest : goal.returns-clause-longest
returns-clause-longest c =
    number_ends c.args.bytes.now c.args.at c.in_ok-integer.integer c.fraction_end-fraction.result c.exponent_end.result
    c.in_ok-integer.ensures.longest c.fraction_end-fraction.ensures.longest c.exponent_end.ensures.longest
