-- Clauses within bounds can be compared.
use Rattle.std.proofs.Common.{◌+◌, ◌≤◌, [], ◌∷◌, get_or, sum_by, arith}
use Rattle.std.proofs.lemmas.List.Sums.{sum_by-cons, sum_by_more_le}
use Rattle.cd_term.specs.Terms.{size_of}
use Rattle.cd_term.proofs.Equations.{size_of-App}
use Rattle.cd_clause.specs.declared.Atom.{Atom}
use Rattle.cd_clause.specs.declared.Atom.TheVariants.{Truth, Pred, Equal}
use Rattle.cd_clause.specs.Clauses.{terms_of, literal_size}
use Rattle.cd_key.specs.Literals.{HasSmallSides}
use Rattle.cd_key.specs.Laws.{BoundedClausesCompare}

atom_bounded : (a : Atom) → 1 + sum_by size_of (terms_of a) ≤ 65535 → HasSmallSides a
atom_bounded Truth h = tt
atom_bounded (Pred p args) h = (omega (arith, h, size_of-App p args), tt)
atom_bounded (Equal s t) h = (
  omega (arith, h, sum_by-cons size_of s (t ∷ []), sum_by-cons size_of t []),
  (omega (arith, h, sum_by-cons size_of s (t ∷ []), sum_by-cons size_of t []), tt),
)

pub bounded_clauses : BoundedClausesCompare
bounded_clauses c within k d lt =
    atom_bounded (get_or c.literals k d).atom (omega (arith, within.0, sum_by_more_le literal_size c.literals k d lt))
