-- Clauses: sizes, variables, substitution, tidying and tautologies.
-- Beyond the headline: no clause of `prove` reaches IsAtomWithin, IsAtomMeasure, AreLiteralsWithin,
--   AreLiteralsMeasured, HasNoRepeat, joined.
use Rattle.std.specs.Prelude.{ℕ, ◌≡◌, ◌+◌, ◌≤◌, max, true, false, ◌⊎◌, List, [], ◌∷◌, ◌++◌, map, remove, sum_by, drop, Option, Some, None}
use Rattle.std.specs.List.{flat_map}
use Rattle.cd_list.specs.Lists.{Among, AllPairs}
use Rattle.cd_term.specs.declared.Term.{Term}
use Rattle.cd_term.specs.Terms.{greatest, size_of, depth_of, bound_of, applied, substituted, order_of, ranked}
use Rattle.cd_clause.specs.declared.Atom.{Atom}
use Rattle.cd_clause.specs.declared.Atom.TheVariants.{Truth, Pred, Equal}
use Rattle.cd_clause.specs.declared.Literal.{Literal}
use Rattle.cd_clause.specs.declared.Clause.{Clause}

-- the terms of an atom: the arguments of a predicate, or the two sides of an equation
abbrev pub terms_of : Atom → List Term
terms_of Truth = []
terms_of (Pred p args) = args
terms_of (Equal s t) = s ∷ t ∷ []

-- the terms of a clause, from left to right
abbrev pub clause_terms : List Literal → List Term
clause_terms ls = flat_map (λ l. terms_of l.atom) ls

-- 1 and the sizes of the terms
abbrev pub literal_size : Literal → ℕ
literal_size l = 1 + sum_by size_of (terms_of l.atom)

abbrev pub clause_size : Clause → ℕ
clause_size c = sum_by literal_size c.literals

-- a predicate atom is as deep as a term of the same shape, an equation as its deeper side
abbrev pub atom_depth : Atom → ℕ
atom_depth Truth = 0
atom_depth (Pred p args) = 1 + greatest (map depth_of args)
atom_depth (Equal s t) = max (depth_of s) (depth_of t)

abbrev pub literal_depth : Literal → ℕ
literal_depth l = atom_depth l.atom

-- the limits of a clause: its size, and the depth of each of its terms and predicate atoms
abbrev pub IsWithinBounds : Clause → Type 0
IsWithinBounds c = (clause_size c ≤ 65535) × (greatest (map literal_depth c.literals) ≤ 1000)

-- what a measure of an atom within so many symbols and levels answers: its size as a literal, or nothing
-- where it is outside of them
abbrev pub IsAtomWithin : ℕ → ℕ → Atom → Type 0
IsAtomWithin symbols levels a = (1 + sum_by size_of (terms_of a) ≤ symbols) × (atom_depth a ≤ levels)

abbrev pub IsAtomMeasure : ℕ → ℕ → Atom → Option ℕ → Type 0
IsAtomMeasure symbols levels a None = ¬ IsAtomWithin symbols levels a
IsAtomMeasure symbols levels a (Some n) = (n ≡ 1 + sum_by size_of (terms_of a)) × IsAtomWithin symbols levels a

-- the same of several literals: their sizes together
abbrev pub AreLiteralsWithin : ℕ → ℕ → List Literal → Type 0
AreLiteralsWithin symbols levels ls = (sum_by literal_size ls ≤ symbols) × (greatest (map literal_depth ls) ≤ levels)

abbrev pub AreLiteralsMeasured : ℕ → ℕ → List Literal → Option ℕ → Type 0
AreLiteralsMeasured symbols levels ls None = ¬ AreLiteralsWithin symbols levels ls
AreLiteralsMeasured symbols levels ls (Some n) = (n ≡ sum_by literal_size ls) × AreLiteralsWithin symbols levels ls

-- one more than the greatest variable of a clause, 0 where there is none
abbrev pub variable_bound_of : Clause → ℕ
variable_bound_of c = greatest (map bound_of (clause_terms c.literals))

-- each term of a clause changed
abbrev pub atom_changed : (Term → Term) → Atom → Atom
atom_changed h Truth = Truth
atom_changed h (Pred p args) = Pred p (map h args)
atom_changed h (Equal s t) = Equal (h s) (h t)

abbrev pub literal_changed : (Term → Term) → Literal → Literal
literal_changed h l = record { positive = l.positive; atom = atom_changed h l.atom }

abbrev pub literals_changed : (Term → Term) → List Literal → List Literal
literals_changed h ls = map (literal_changed h) ls

-- the clause with a substitution applied to each term
abbrev pub instance : (ℕ → Term) → Clause → Clause
instance g c = record { literals = literals_changed (substituted g) c.literals }

-- literals with their variables renamed to 0, 1, 2 and so on in the order of first occurrence
abbrev pub renumbered_literals : List Literal → List Literal
renumbered_literals ls = literals_changed (substituted (ranked (order_of (clause_terms ls)))) ls

-- an equation with its sides exchanged; another atom as it is
abbrev pub exchanged : Atom → Atom
exchanged Truth = Truth
exchanged (Pred p args) = Pred p args
exchanged (Equal s t) = Equal t s

-- equal atoms, equations also with sides exchanged
abbrev pub IsSameAtom : Atom → Atom → Type 0
IsSameAtom a b = (a ≡ b) ⊎ (exchanged a ≡ b)

-- equal literals, equations also with sides exchanged
abbrev pub IsSameLiteral : Literal → Literal → Type 0
IsSameLiteral l m = (l.positive ≡ m.positive) × IsSameAtom l.atom m.atom

-- no literal is the same as an earlier one
abbrev pub HasNoRepeat : Clause → Type 0
HasNoRepeat c = AllPairs (λ l m. ¬ IsSameLiteral m l) c.literals

-- an atom that is true everywhere: `$true`, or an equation with equal sides
abbrev pub IsTrivialAtom : Atom → Type 0
IsTrivialAtom Truth = Unit {0}
IsTrivialAtom (Pred p args) = ⊥
IsTrivialAtom (Equal s t) = s ≡ t

-- a literal that is true, or false, everywhere
abbrev pub IsTrivial : Literal → Type 0
IsTrivial l = (l.positive ≡ true) × IsTrivialAtom l.atom

abbrev pub IsAbsurd : Literal → Type 0
IsAbsurd l = (l.positive ≡ false) × IsTrivialAtom l.atom

-- a literal of a list is false everywhere, or the same as an earlier one
abbrev pub IsSuperfluous : List Literal → Literal → Type 0
IsSuperfluous earlier l = IsAbsurd l ⊎ Among (IsSameLiteral l) earlier

-- what is left of a list of literals, after the earlier ones, without those that are superfluous
abbrev pub AreKept : List Literal → List Literal → List Literal → Type 0
AreKept earlier [] kept = kept ≡ []
AreKept earlier (l ∷ ls) kept =
    (IsSuperfluous earlier l × AreKept (earlier ++ l ∷ []) ls kept)
    ⊎ ((¬ IsSuperfluous earlier l)
    × ((rest : List Literal) × (kept ≡ l ∷ rest) × AreKept (earlier ++ l ∷ []) ls rest))

-- the tidy form of a clause: what is left of its literals, renumbered
abbrev pub IsTidied : Clause → Clause → Type 0
IsTidied c d = (kept : List Literal) × AreKept [] c.literals kept × (d.literals ≡ renumbered_literals kept)

-- two literals of different sign with the same atom
abbrev pub AreOpposite : Literal → Literal → Type 0
AreOpposite l m = (l.positive ≡ true) × (m.positive ≡ false) × IsSameAtom l.atom m.atom

-- a trivial literal, or two that are opposite
abbrev pub IsTautology : Clause → Type 0
IsTautology c = Among IsTrivial c.literals ⊎ Among (λ l. Among (AreOpposite l) c.literals) c.literals

-- the literals of a clause without one, and those of another without one and with its variables moved up
-- past those of the first, with a substitution applied
abbrev pub joined : Clause → ℕ → Clause → ℕ → List Term → List Literal
joined a skip_a b skip_b s =
    literals_changed (applied s) (remove a.literals skip_a)
    ++ literals_changed (applied (drop (variable_bound_of a) s)) (remove b.literals skip_b)
