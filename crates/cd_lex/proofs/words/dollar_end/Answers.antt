use Rattle.std.proofs.Common.{drop, ◌+◌}
use Rattle.cd_lex.specs.Scans.{Ends, IsMarked}
use Rattle.cd_lex.specs.Tokens.{IsDollar, BeginsNo}
use Rattle.cd_lex.proofs.FormLemmas.{answer}
use Rattle.cd_lex.proofs.WordLemmas.{dollar_at, no_dollar_at}
use Rattle.cd_lex.proofs.words.dollar_end.Goals as goal

pub returns-clause-longest : goal.returns-clause-longest
returns-clause-longest c =
    let bytes = c.args.bytes.now in
    let at = c.args.at in
    answer c.marked_end.result (BeginsNo IsMarked (drop (at + 1) bytes)) (BeginsNo IsDollar (drop at bytes)) (Ends IsMarked (drop (at + 1) bytes) (at + 1)) (Ends IsDollar (drop at bytes) at)
    (no_dollar_at bytes at c.requires.within)
    (λ end r. dollar_at bytes at end c.requires.within c.requires.dollar r)
    c.marked_end.ensures.longest
