use Rattle.std.proofs.Common.{◌≡◌, take}
use Rattle.cd_term.specs.Terms.{substituted, ranked}
use Rattle.cd_clause.specs.Clauses.{literals_changed}
use Rattle.cd_clause.proofs.renumbering.renamed_literals.Given as goal

abbrev pub invariant-loop-literal : goal.invariant-loop-literal
invariant-loop-literal l = l.values ≡ literals_changed (substituted (ranked l.order.keys)) (take l.literal-index l.literals)
