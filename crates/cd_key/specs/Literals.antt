-- Literals compared for all values of their variables, and those that inferences are made on.
-- Beyond the headline: no clause of `prove` reaches HasSmallSides, AreComparable.
use Rattle.std.specs.Prelude.{ℕ, ◌≡◌, ◌≢◌, ◌^◌, ◌<◌, true, false, not, ◌⊎◌, List, [], ◌∷◌, All, Option, Some, None, position, slice_get, MatchOption}
use Rattle.std.specs.List.{AllByRecursion}
use Rattle.cd_term.specs.declared.Term.{Term}
use Rattle.cd_term.specs.declared.Term.TheVariants.{App}
use Rattle.cd_term.specs.Terms.{size_of}
use Rattle.cd_clause.specs.declared.Atom.{Atom}
use Rattle.cd_clause.specs.declared.Atom.TheVariants.{Truth, Pred, Equal}
use Rattle.cd_clause.specs.declared.Literal.{Literal}
use Rattle.cd_clause.specs.declared.Clause.{Clause}
use Rattle.cd_clause.specs.Clauses.{IsSameAtom}
use Rattle.cd_list.specs.Lists.{Among}
use Rattle.cd_kbo.specs.declared.order.Order.{Order}
use Rattle.cd_kbo.specs.declared.order.Select.{Select}
use Rattle.cd_kbo.specs.declared.order.Select.TheVariants.{Nothing, First}
use Rattle.cd_kbo.specs.Kbo.{Greater}

-- the sides of an atom: a predicate atom is a term with its predicate as head, an equation has two terms, and
-- `$true` has none
abbrev pub sides : Atom → List Term
sides Truth = []
sides (Pred p args) = App p args ∷ []
sides (Equal s t) = s ∷ t ∷ []

-- the sides are small enough to be compared
abbrev pub HasSmallSides : Atom → Type 0
HasSmallSides a = AllByRecursion (λ t. size_of t < 2 ^ 32) (sides a)

abbrev pub AreComparable : List Literal → Type 0
AreComparable ls = All (λ l. HasSmallSides l.atom) ls

-- some side of l is greater than every side of m, and m has a side; or the atoms are the same up to the
-- exchange of an equation's sides, l is negative and m is positive
abbrev pub IsLiteralGreater : Order → Literal → Literal → Type 0
IsLiteralGreater o l m =
    ((sides m.atom ≢ []) × Among (λ s. AllByRecursion (Greater o s) (sides m.atom)) (sides l.atom))
    ⊎ ((l.positive ≡ false) × (m.positive ≡ true) × IsSameAtom l.atom m.atom)

-- no other literal is greater than the one in place i
abbrev pub IsMaximal : Order → List Literal → ℕ → Type 0
IsMaximal o ls i = (j : ℕ) (l m : Literal) → j ≢ i → slice_get ls i ≡ Some l → slice_get ls j ≡ Some m → ¬ IsLiteralGreater o m l

-- the place of the literal that is selected, if any: the first negative one, where the first is asked for
abbrev pub selected_by : Select → Clause → Option ℕ
selected_by Nothing c = None
selected_by First c = position (λ l. not l.positive) c.literals

-- where a literal is selected, it is the one in place i; otherwise no other literal is greater than that one
abbrev pub IsEligible : Order → Clause → ℕ → Type 0
IsEligible o c i = MatchOption (selected_by o.select c) (IsMaximal o c.literals i) (λ place. i ≡ place)
