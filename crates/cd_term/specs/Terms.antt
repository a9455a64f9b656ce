-- Terms as trees: sizes, variables, substitution and places.
-- Beyond the headline: no clause of `prove` reaches one, IsWithin, IsWithinLimits, IsMeasure, IsMeasureOf,
--   AreMeasured, unranked, renumbered, renamed_by, mark, marked, first_from.
use Rattle.std.specs.List.{list_any, flat_map}
use Rattle.std.specs.Prelude.{ℕ, Bool, nat_eq, nat_lt, ◌≡◌, ◌+◌, ◌≤◌, max, List, [], ◌∷◌, ◌++◌, map, sum, sum_by, suc, Option, Some, None, slice_get, slice_index, slice_set, unwrap_or, if◌then◌else◌, option_and_then, option_map}
use Rattle.cd_term.specs.declared.Term.{Term, fold-Term, out-Term}
use Rattle.cd_term.specs.declared.Term.TheVariants.{Var, App}
use Rattle.cd_term.specs.declared.Term.TheOpen.{Term-F}
use Rattle.cd_term.specs.declared.Term.TheOpen as layer

-- the greatest number of a list, 0 where there is none
abbrev pub greatest : List ℕ → ℕ
greatest [] = 0
greatest (n ∷ ns) = max n (greatest ns)

-- A function of terms is given by its value at a variable and at a symbol, where the values of the
-- arguments are known: a step over one layer of the term.

-- 1 for a variable; 1 and the sizes of the arguments otherwise
abbrev pub size_step : Term-F ℕ → ℕ
size_step (layer.Var n) = 1
size_step (layer.App f sizes) = 1 + sum sizes

abbrev pub size_of : Term → ℕ
size_of = fold-Term ℕ size_step

-- 1 for a variable or a constant; otherwise 1 and the greatest depth of an argument
abbrev pub depth_step : Term-F ℕ → ℕ
depth_step (layer.Var n) = 1
depth_step (layer.App f depths) = 1 + greatest depths

abbrev pub depth_of : Term → ℕ
depth_of = fold-Term ℕ depth_step

-- one more than the greatest variable, 0 where there is none
abbrev pub bound_step : Term-F ℕ → ℕ
bound_step (layer.Var n) = n + 1
bound_step (layer.App f bounds) = greatest bounds

abbrev pub bound_of : Term → ℕ
bound_of = fold-Term ℕ bound_step

-- the variables from left to right, one for each occurrence
abbrev pub variables_step : Term-F (List ℕ) → List ℕ
variables_step (layer.Var n) = n ∷ []
variables_step (layer.App f lists) = flat_map (λ ns. ns) lists

abbrev pub variables_of : Term → List ℕ
variables_of = fold-Term (List ℕ) variables_step

-- whether a variable occurs
abbrev pub occurs_step : ℕ → Term-F Bool → Bool
occurs_step x (layer.Var n) = nat_eq n x
occurs_step x (layer.App f tests) = list_any (λ b. b) tests

abbrev pub occurs : ℕ → Term → Bool
occurs x = fold-Term Bool (occurs_step x)

-- the term with each variable replaced by its value
abbrev pub substitute_step : (ℕ → Term) → Term-F Term → Term
substitute_step g (layer.Var n) = g n
substitute_step g (layer.App f args) = App f args

abbrev pub substituted : (ℕ → Term) → Term → Term
substituted g = fold-Term Term (substitute_step g)

-- the value of a variable in a list; a variable past the list stays as it is
abbrev pub value_of : List Term → ℕ → Term
value_of s n = unwrap_or (slice_get s n) (Var n)

-- the term with each variable replaced by its value in a list
abbrev pub applied : List Term → Term → Term
applied s = substituted (value_of s)

-- the substitution that changes one variable alone
abbrev pub one : ℕ → Term → ℕ → Term
one x u n = if nat_eq n x then u else Var n

-- the argument in place i; a variable has none
abbrev pub argument_step : ℕ → Term-F Term → Option Term
argument_step i (layer.Var n) = None
argument_step i (layer.App f args) = slice_get args i

unfoldable pub argument : ℕ → Term → Option Term
argument i t = argument_step i (out-Term t)

-- the subterm at a path, or nothing where the path leads out of the term
abbrev pub subterm : List ℕ → Term → Option Term
subterm [] t = Some t
subterm (i ∷ path) t = option_and_then (subterm path) (argument i t)

-- the term with another argument in place i
abbrev pub put_step : ℕ → Term → Term-F Term → Term
put_step i u (layer.Var n) = Var n
put_step i u (layer.App f args) = App f (slice_set args i u)

unfoldable pub put : ℕ → Term → Term → Term
put i t u = put_step i u (out-Term t)

-- the term with another subterm at a path, or nothing where the path leads out of the term
abbrev pub replaced : List ℕ → Term → Term → Option Term
replaced [] new t = Some new
replaced (i ∷ path) new t =
    option_and_then (λ arg. option_map (put i t) (replaced path new arg)) (argument i t)

-- a term of no more than so many symbols and levels
abbrev pub IsWithin : ℕ → ℕ → Term → Type 0
IsWithin symbols levels t = (size_of t ≤ symbols) × (depth_of t ≤ levels)

-- terms that together have no more than so many symbols, and none of them more than so many levels
abbrev pub AreWithin : ℕ → ℕ → List Term → Type 0
AreWithin symbols levels ts = (sum_by size_of ts ≤ symbols) × (greatest (map depth_of ts) ≤ levels)

-- the limits of one term
abbrev pub IsWithinLimits : Term → Type 0
IsWithinLimits = IsWithin 65535 1000

-- what a measure of a term within so many symbols and levels answers: its size, or nothing where it is
-- outside of them
abbrev pub IsMeasure : ℕ → ℕ → Term → Option ℕ → Type 0
IsMeasure symbols levels t None = ¬ IsWithin symbols levels t
IsMeasure symbols levels t (Some n) = (n ≡ size_of t) × IsWithin symbols levels t

-- the same of a term that there may be; nothing where there is none
abbrev pub IsMeasureOf : ℕ → ℕ → Option Term → Option ℕ → Type 0
IsMeasureOf symbols levels None answer = answer ≡ None
IsMeasureOf symbols levels (Some t) answer = IsMeasure symbols levels t answer

-- the same of several terms: their sizes together
abbrev pub AreMeasured : ℕ → ℕ → List Term → Option ℕ → Type 0
AreMeasured symbols levels ts None = ¬ AreWithin symbols levels ts
AreMeasured symbols levels ts (Some n) = (n ≡ sum_by size_of ts) × AreWithin symbols levels ts

-- each variable is below n, or below one more than a variable before it: numbers in the order of first
-- occurrence, from n on
abbrev pub IsNumberedFrom : ℕ → List ℕ → Type 0
IsNumberedFrom n [] = Unit {0}
IsNumberedFrom n (k ∷ ks) = (k ≤ n) × IsNumberedFrom (max n (k + 1)) ks

-- what was seen before, and then each other number once, in the order of first occurrence
abbrev pub firsts_after : List ℕ → List ℕ → List ℕ
firsts_after seen [] = seen
firsts_after seen (k ∷ ks) =
    firsts_after (if list_any (λ y. nat_eq y k) seen then seen else seen ++ k ∷ []) ks

-- the variables of several terms in the order of first occurrence
abbrev pub order_of : List Term → List ℕ
order_of ts = firsts_after [] (flat_map variables_of ts)

-- the place of a number in a list, or the length where it isn't there
abbrev pub rank : List ℕ → ℕ → ℕ
rank [] k = 0
rank (x ∷ xs) k = if nat_eq x k then 0 else suc (rank xs k)

-- the renaming of each variable to its place in an order
abbrev pub ranked : List ℕ → ℕ → Term
ranked order k = Var (rank order k)

-- the way back: the variable in a place of an order
abbrev pub unranked : List ℕ → ℕ → Term
unranked order k = Var (slice_index order k)

-- terms with their variables renamed to 0, 1, 2 and so on in the order of first occurrence
abbrev pub renumbered : List Term → List Term
renumbered ts = map (substituted (ranked (order_of ts))) ts

-- the term with its variables renamed by a function
abbrev pub renamed_by : (ℕ → ℕ) → Term → Term
renamed_by p = substituted (λ n. Var (p n))

-- the term with one variable renamed to 1 and each other one to 0: its shape, and where the variable stands
abbrev pub mark : ℕ → ℕ → Term
mark k n = Var (if nat_eq n k then 1 else 0)

abbrev pub marked : ℕ → Term → Term
marked k = substituted (mark k)

-- the first number of a list that isn't below n
abbrev pub first_from : ℕ → List ℕ → Option ℕ
first_from n [] = None
first_from n (m ∷ ms) = if nat_lt m n then first_from n ms else Some m
