-- Tokens spell one statement at most, and a statement is no front of another.
use Rattle.std.proofs.Common.{◌≡◌, ◌∙◌, sym, ap}
use Rattle.cd_parse.specs.declared.terminal.Terminal.{Terminal}
use Rattle.cd_parse.specs.declared.statement.Statement.{Statement}
use Rattle.cd_parse.specs.Stages.{Done}
use Rattle.cd_parse.specs.Grammar.{Terminals}
use Rattle.cd_parse.specs.Statements.{IsFront}
use Rattle.cd_parse.specs.Stages.{Advance, to, advance}
use Rattle.cd_parse.specs.Statements.{IsStatement}
use Rattle.cd_parse.proofs.WalkForth.{to_end}
use Rattle.cd_parse.proofs.Could.{Goes, could_goes}

statement_or : Statement → Advance → Statement
statement_or s (to (Done t)) = t
statement_or s a = s

pub one_meaning : (ts : Terminals) (s t : Statement) → IsStatement ts s → IsStatement ts t → s ≡ t
unfolding statement_or
one_meaning ts s t d e = ap (statement_or s) (sym (to_end 1000 ts s d) ∙ to_end 1000 ts t e)

done_stops : (s : Statement) (t : Terminal) → Goes (advance 1000 (Done s) t) → ⊥
done_stops s t h = h

-- a statement is no front of another
pub no_front : (ts : Terminals) (s : Statement) → IsStatement ts s → IsFront ts → ⊥
no_front ts s d f = done_stops s f.0 (could_goes 1000 ts (Done s) f.0 (to_end 1000 ts s d) f.1)
