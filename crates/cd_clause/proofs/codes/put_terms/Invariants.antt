use Rattle.std.proofs.Common.{◌≡◌, ◌++◌, drop}
use Rattle.std.specs.List.{flat_map}
use Rattle.cd_clause.specs.Codes.{term_code}
use Rattle.cd_clause.proofs.codes.put_terms.Given as goal

abbrev pub invariant-loop-term : goal.invariant-loop-term
invariant-loop-term l = l.into ++ flat_map term_code (drop l.term-index l.terms) ≡ l.initial.into ++ flat_map term_code l.terms
