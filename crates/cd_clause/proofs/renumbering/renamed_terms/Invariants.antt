use Rattle.std.proofs.Common.{◌≡◌, map, take}
use Rattle.cd_term.specs.Terms.{substituted, ranked}
use Rattle.cd_clause.proofs.renumbering.renamed_terms.Given as goal

abbrev pub invariant-loop-term : goal.invariant-loop-term
invariant-loop-term l = l.values ≡ map (substituted (ranked l.order.keys)) (take l.term-index l.terms)
