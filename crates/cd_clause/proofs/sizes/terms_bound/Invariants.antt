use Rattle.std.proofs.Common.{◌≡◌, map, take}
use Rattle.cd_term.specs.Terms.{bound_of, greatest}
use Rattle.cd_clause.proofs.sizes.terms_bound.Given as goal

abbrev pub invariant-loop-term : goal.invariant-loop-term
invariant-loop-term l = l.bound ≡ greatest (map bound_of (take l.term-index l.terms))
