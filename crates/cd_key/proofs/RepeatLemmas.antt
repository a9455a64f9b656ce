-- Occurrences of variables in clauses.
use Rattle.std.proofs.Common.{◌≡◌, ℕ, zero, suc, ◌+◌, ◌-◌, ◌*◌, ◌^◌, ◌<◌, ◌≤◌, min, Bool, true, false, cond, nat_eq, List, [], ◌∷◌, ◌++◌, length, length-append, map, get_or, take, sum_by, append_assoc, sym, ap, ◌∙◌, refl, subst, arith, ⊎_elim, ◌⊎◌, inl, inr}
use Rattle.std.specs.Prelude.{nat_lt, Option}
use Rattle.std.specs.List.{AllByRecursion, flat_map}
use Rattle.std.proofs.lemmas.Bool.{cases_lt}
use Rattle.std.proofs.lemmas.Bool.Decides.{nat_tests}
use Rattle.std.proofs.lemmas.List.{take_all, take_more}
use Rattle.std.proofs.lemmas.List.Sums.{sum_by-cons, sum_by-append}
use Rattle.cd_term.specs.declared.Term.{Term}
use Rattle.cd_term.specs.declared.Term.TheVariants.{Var, App}
use Rattle.cd_term.specs.Terms.{size_of, variables_of, bound_of, greatest}
use Rattle.cd_term.proofs.TermInduction.{Each, ind}
use Rattle.cd_term.proofs.Equations.{size_of-Var, size_of-App, variables_of-Var, variables_of-App, bound_of-Var, bound_of-App}
use Rattle.cd_clause.specs.declared.Atom.{Atom}
use Rattle.cd_clause.specs.declared.Atom.TheVariants.{Truth, Pred, Equal}
use Rattle.cd_clause.specs.declared.Literal.{Literal}
use Rattle.cd_kbo.specs.Kbo.{occurrences}
use Rattle.cd_kbo.specs.Blocks.{IsNext, least_of}
use Rattle.cd_kbo.proofs.KboEquations.{occurrences-Var, occurrences-App}
use Rattle.cd_kbo.proofs.BlockLemmas.{next_same, next_least}
use Rattle.cd_key.specs.Literals.{sides, HasSmallSides, AreComparable}
use Rattle.cd_key.specs.Repeats.{clause_sides, variable_count, occurrences_in, count_below, distinct_of}

-- The variables of a term.
lists_long : (ts : List Term) → length (flat_map variables_of ts) ≡ sum_by variable_count ts
lists_long [] = refl
lists_long (t ∷ ts) = omega (
  arith,
  length-append (variables_of t) (flat_map variables_of ts),
  lists_long ts,
  sum_by-cons variable_count t ts,
)

pub variable_count-Var : (n : ℕ) → variable_count (Var n) ≡ 1
variable_count-Var n = ap (λ (ks : List ℕ). length ks) (variables_of-Var n)

pub variable_count-App : (f : ℕ) (ts : List Term) → variable_count (App f ts) ≡ sum_by variable_count ts
variable_count-App f ts = ap (λ (ks : List ℕ). length ks) (variables_of-App f ts) ∙ lists_long ts

counts_small : (ts : List Term) → Each (λ t. variable_count t ≤ size_of t) ts → sum_by variable_count ts ≤ sum_by size_of ts
counts_small [] h = omega arith
counts_small (t ∷ ts) h = omega (arith, counts_small ts h.1, h.0, sum_by-cons variable_count t ts, sum_by-cons size_of t ts)

pub count_small : (t : Term) → variable_count t ≤ size_of t
count_small = ind (λ t. variable_count t ≤ size_of t)
    (λ n. omega (arith, variable_count-Var n, size_of-Var n))
    (λ f ts h. omega (arith, variable_count-App f ts, size_of-App f ts, counts_small ts h))

pub count_all : (t : Term) (f : ℕ) (ts : List Term) (i m : ℕ) → t ≡ App f ts → length ts ≤ i →
    m ≡ min (sum_by variable_count (take i ts)) (2 ^ 64 - 1) → m ≡ min (variable_count t) (2 ^ 64 - 1)
count_all t f ts i m is past so_far =
    omega (arith, ap variable_count is, variable_count-App f ts, ap (sum_by variable_count) (take_all i ts past))

pub one_side : (F : Term → ℕ) (t : Term) → sum_by F (t ∷ []) ≡ F t
one_side F t = omega (arith, sum_by-cons F t [])

pub two_sides : (F : Term → ℕ) (s t : Term) → sum_by F (s ∷ t ∷ []) ≡ F s + F t
two_sides F s t = omega (arith, sum_by-cons F s (t ∷ []), sum_by-cons F t [])

sides_small : (ts : List Term) → AllByRecursion (λ t. size_of t < 2 ^ 32) ts → sum_by variable_count ts ≤ 2 ^ 32 * length ts
sides_small [] h = omega arith
sides_small (t ∷ ts) h = omega (arith, sides_small ts h.1, h.0, count_small t, sum_by-cons variable_count t ts)

at_most_two : (a : Atom) → length (sides a) ≤ 2
at_most_two Truth = omega arith
at_most_two (Pred p args) = omega arith
at_most_two (Equal s t) = omega arith

pub atom_small : (a : Atom) → HasSmallSides a → sum_by variable_count (sides a) ≤ 2 ^ 33
atom_small a h = omega (arith, sides_small (sides a) h, at_most_two a)

pub item_small : (ls items : List Literal) (i : ℕ) (l : Literal) → AreComparable ls → items ≡ ls → i < length items → l ≡ get_or items i l →
    sum_by variable_count (sides l.atom) ≤ 2 ^ 33
item_small ls items i l small same lt at =
    let inside : i < length ls = omega (arith, ap (λ (ks : List Literal). length ks) same) in
    let is : l ≡ get_or ls i l = at ∙ ap (λ (ks : List Literal). get_or ks i l) same in
    atom_small l.atom (subst (λ (m : Literal). HasSmallSides m.atom) (sym is) (small i l inside))

-- The sides of a clause.
clause_append : (ks ls : List Literal) → clause_sides (ks ++ ls) ≡ clause_sides ks ++ clause_sides ls
clause_append [] ls = refl
clause_append (k ∷ ks) ls =
    ap (λ (ts : List Term). sides k.atom ++ ts) (clause_append ks ls) ∙ sym (append_assoc (sides k.atom) (clause_sides ks) (clause_sides ls))

pub sides_more : (F : Term → ℕ) (ls : List Literal) (i : ℕ) (l : Literal) → i < length ls → l ≡ get_or ls i l →
    sum_by F (clause_sides (take (i + 1) ls)) ≡ sum_by F (clause_sides (take i ls)) + sum_by F (sides l.atom)
sides_more F ls i l lt at =
    let grown : take (i + 1) ls ≡ take i ls ++ l ∷ [] = take_more ls i l lt ∙ ap (λ z. take i ls ++ z ∷ []) (sym at) in
    omega (
      arith,
      ap (λ (ks : List Literal). sum_by F (clause_sides ks)) grown,
      ap (sum_by F) (clause_append (take i ls) (l ∷ [])),
      sum_by-append F (clause_sides (take i ls)) (clause_sides (l ∷ [])),
      sum_by-append F (sides l.atom) [],
    )

pub sides_all : (F : Term → ℕ) (ls : List Literal) (i : ℕ) → length ls ≤ i → sum_by F (clause_sides (take i ls)) ≡ sum_by F (clause_sides ls)
sides_all F ls i past = ap (λ (ks : List Literal). sum_by F (clause_sides ks)) (take_all i ls past)

-- The next variable.
pub next_in_more : (from : ℕ) (ls : List Literal) (i : ℕ) (l : Literal) (p q r : Option ℕ) → i < length ls → l ≡ get_or ls i l →
    IsNext from (λ k. occurrences_in k (take i ls)) p → IsNext from (λ k. sum_by (occurrences k) (sides l.atom)) q → r ≡ least_of p q →
    IsNext from (λ k. occurrences_in k (take (i + 1) ls)) r
next_in_more from ls i l p q r lt at so_far more is =
    subst (IsNext from (λ k. occurrences_in k (take (i + 1) ls))) (sym is)
    (next_same from (λ k. occurrences_in k (take i ls) + sum_by (occurrences k) (sides l.atom)) (λ k. occurrences_in k (take (i + 1) ls)) (least_of p q)
    (λ k. sym (sides_more (occurrences k) ls i l lt at))
    (next_least from (λ k. occurrences_in k (take i ls)) (λ k. sum_by (occurrences k) (sides l.atom)) p q so_far more))

pub next_in_all : (from : ℕ) (ls : List Literal) (i : ℕ) (r : Option ℕ) → length ls ≤ i →
    IsNext from (λ k. occurrences_in k (take i ls)) r → IsNext from (λ k. occurrences_in k ls) r
next_in_all from ls i r past =
    next_same from (λ k. occurrences_in k (take i ls)) (λ k. occurrences_in k ls) r (λ k. sides_all (occurrences k) ls i past)

-- Different variables.
below_skip : (p : ℕ → Bool) (m n : ℕ) → m ≤ n → ((k : ℕ) → m ≤ k → k < n → p k ≡ false) → count_below p n ≡ count_below p m
below_skip p m zero le none = ap (count_below p) (let is : zero ≡ m = omega arith in is)
below_skip p m (suc n) le none = ⊎_elim {C = count_below p (suc n) ≡ count_below p m}
    (λ (lt : n < m). ap (count_below p) (let is : suc n ≡ m = omega arith in is))
    (λ (ge : m ≤ n). omega (
      arith,
      below_skip p m n ge (λ k above lt. none k above (omega arith)),
      ap {B = ℕ} (λ b. cond b 1 0) (none n ge (omega arith)),
    ))
    (cases_lt n m)

is_there : (ls : List Literal) (k : ℕ) → 1 ≤ occurrences_in k ls → nat_lt 0 (occurrences_in k ls) ≡ true
is_there ls k h = grind (arith, nat_tests, h)

is_absent : (ls : List Literal) (k : ℕ) → occurrences_in k ls ≡ 0 → nat_lt 0 (occurrences_in k ls) ≡ false
is_absent ls k h = grind (arith, nat_tests, h)

abbrev pub counted_below : List Literal → ℕ → ℕ
counted_below ls = count_below (λ k. nat_lt 0 (occurrences_in k ls))

pub one_more : (ls : List Literal) (from n : ℕ) → from ≤ n → 1 ≤ occurrences_in n ls →
    ((k : ℕ) → from ≤ k → k < n → occurrences_in k ls ≡ 0) → counted_below ls (suc n) ≡ counted_below ls from + 1
one_more ls from n le there none = omega (
  arith,
  below_skip (λ k. nat_lt 0 (occurrences_in k ls)) from n le (λ k above lt. is_absent ls k (none k above lt)),
  ap {B = ℕ} (λ b. cond b 1 0) (is_there ls n there),
)

-- a variable that occurs is below the bound
either : (m n : ℕ) → 1 ≤ m + n → (1 ≤ m) ⊎ (1 ≤ n)
either zero n h = inr (omega arith)
either (suc m) n h = inl (omega arith)

among_below : (k : ℕ) (ts : List Term) → Each (λ t. 1 ≤ occurrences k t → k < bound_of t) ts → 1 ≤ sum_by (occurrences k) ts →
    k < greatest (map bound_of ts)
among_below k [] h some = absurd (omega arith)
among_below k (t ∷ ts) h some =
    let more : 1 ≤ occurrences k t + sum_by (occurrences k) ts = omega (arith, sum_by-cons (occurrences k) t ts) in
    elim (either (occurrences k t) (sum_by (occurrences k) ts) more) as (λ _. k < greatest (map bound_of (t ∷ ts))) [
      | inl here ↦ omega (arith, h.0 here)
      | inr there ↦ omega (arith, among_below k ts h.1 there)
    ]

own_below : (k n : ℕ) → 1 ≤ occurrences k (Var n) → k < bound_of (Var n)
own_below k n h = at (nat_eq n k) refl
  where
    at : (b : Bool) → nat_eq n k ≡ b → k < bound_of (Var n)
    at b e = grind (arith, nat_tests, occurrences-Var k n, bound_of-Var n, h)

occurring_below : (k : ℕ) (t : Term) → 1 ≤ occurrences k t → k < bound_of t
occurring_below k = ind (λ t. 1 ≤ occurrences k t → k < bound_of t)
    (λ n h. own_below k n h)
    (λ f ts h some.
    let more : 1 ≤ sum_by (occurrences k) ts = omega (arith, occurrences-App k f ts) in
    omega (arith, bound_of-App f ts, among_below k ts h more))

each_below : (k : ℕ) (ts : List Term) → Each (λ t. 1 ≤ occurrences k t → k < bound_of t) ts
each_below k [] = tt
each_below k (t ∷ ts) = (occurring_below k t, each_below k ts)

pub inside_bound : (ls : List Literal) (k : ℕ) → 1 ≤ occurrences_in k ls → k < greatest (map bound_of (clause_sides ls))
inside_bound ls k h = among_below k (clause_sides ls) (each_below k (clause_sides ls)) h

pub all_counted : (ls : List Literal) (from : ℕ) → from ≤ greatest (map bound_of (clause_sides ls)) →
    ((k : ℕ) → from ≤ k → occurrences_in k ls ≡ 0) → counted_below ls from ≡ distinct_of ls
all_counted ls from le none =
    sym (below_skip (λ k. nat_lt 0 (occurrences_in k ls)) from (greatest (map bound_of (clause_sides ls))) le (λ k above lt. is_absent ls k (none k above)))
