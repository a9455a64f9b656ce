use Rattle.cd_lex.proofs.QuoteLemmas.{bad_inside_here}
use Rattle.cd_lex.proofs.quotes.quoted_end.Goals as goal

pub returns-in-Bad-clause-quoted : goal.returns-in-Bad-clause-quoted
returns-in-Bad-clause-quoted c = bad_inside_here c.args.quote c.args.bytes.now c.args.at c.in-Bad.place c.requires.within c.requires.opens c.requires.kind c.in-Bad.ensures.inside
