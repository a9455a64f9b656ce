-- Propositional clauses.
-- Beyond the headline: no clause of `prove` reaches this file.
use Rattle.std.specs.Prelude.{◌≡◌, ◌<◌, []}
use Rattle.std.specs.List.{AllByRecursion}
use Rattle.cd_clause.specs.declared.Atom.{Atom}
use Rattle.cd_clause.specs.declared.Atom.TheVariants.{Truth, Pred, Equal}
use Rattle.cd_clause.specs.declared.Clause.{Clause}

-- a predicate without arguments, with a number below 32,768
abbrev pub IsPropositionalAtom : Atom → Type 0
IsPropositionalAtom Truth = ⊥
IsPropositionalAtom (Pred n args) = (n < 32768) × (args ≡ [])
IsPropositionalAtom (Equal s t) = ⊥

abbrev pub IsPropositional : Clause → Type 0
IsPropositional c = AllByRecursion (λ l. IsPropositionalAtom l.atom) c.literals
