use Rattle.std.proofs.Common.{◌≡◌, ◌++◌, ◌∷◌, [], drop}
use Rattle.std.specs.List.{flat_map}
use Rattle.cd_clause.specs.Codes.{term_code}
use Rattle.cd_clause.proofs.codes.+put_term.Given as goal

abbrev pub invariant-loop-arg : goal.invariant-loop-arg
invariant-loop-arg l = l.into ++ (flat_map term_code (drop l.arg-index l.arg-items) ++ 2 ∷ []) ≡ l.fn.into ++ term_code l.term
