use Rattle.std.proofs.Common.{◌≡◌, map, take}
use Rattle.cd_term.specs.Terms.{applied}
use Rattle.cd_clause.proofs.joining.substituted_terms.Given as goal

abbrev pub invariant-loop-term : goal.invariant-loop-term
invariant-loop-term l = l.values ≡ map (applied l.s) (take l.term-index l.terms)
