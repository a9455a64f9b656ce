use Rattle.std.proofs.Common.{◌≡◌, ◌++◌, take}
use Rattle.cd_term.specs.Terms.{applied}
use Rattle.cd_clause.specs.Clauses.{literals_changed}
use Rattle.cd_clause.proofs.joining.push_substituted.Given as goal

abbrev pub invariant-loop-literal : goal.invariant-loop-literal
invariant-loop-literal l = l.into ≡ l.initial.into ++ literals_changed (applied l.s) (take l.literal-index l.literals)
