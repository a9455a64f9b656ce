-- Clauses over the symbols of a problem: each symbol stands with as many arguments as it has there.
use Rattle.std.specs.Prelude.{List, [], ◌∷◌, length, IsTrue}
use Rattle.std.specs.List.{AllByRecursion}
use Rattle.cd_term.specs.Symbols.{Symbols, AreOver}
use Rattle.cd_clause.specs.declared.Atom.{Atom}
use Rattle.cd_clause.specs.declared.Atom.TheVariants.{Truth, Pred, Equal}
use Rattle.cd_clause.specs.declared.Literal.{Literal}

abbrev pub AtomOver : Symbols → Atom → Type 0
AtomOver y Truth = Unit {0}
AtomOver y (Pred p args) = IsTrue (y.is_predicate p (length args)) × AreOver y args
AtomOver y (Equal s t) = AreOver y (s ∷ t ∷ [])

abbrev pub LiteralsOver : Symbols → List Literal → Type 0
LiteralsOver y ls = AllByRecursion (λ l. AtomOver y l.atom) ls
