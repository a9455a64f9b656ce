-- Each literal is a goal once, in whatever order.
use Rattle.std.proofs.Common.{◌≡◌, ◌≢◌, ℕ, ◌+◌, ◌<◌, ◌≤◌, Bool, true, false, nat_eq, List, [], ◌∷◌, ◌++◌, length, length-append, ap, sym, ◌∙◌, refl, subst, arith, Some, slice_get, if◌then◌else◌}
use Rattle.std.specs.Prelude.{nat_lt, swap}
use Rattle.std.proofs.lemmas.Bool.{eqb-true}
use Rattle.std.proofs.lemmas.Bool.Decides.{nat_tests}
use Rattle.std.proofs.lemmas.List.Edits.{length-swap}
use Rattle.std.proofs.lemmas.List.Sorted.{IsPermutation-swap, sum_by-IsPermutation}
use Rattle.std.proofs.lemmas.List.Sums.{sum_by-append, sum_by-cons}
use Rattle.cd_subsume.specs.declared.partners.Goal.{Goal}
use Rattle.cd_subsume.specs.Search.{times, strays, AreGoals}
use Rattle.cd_subsume.proofs.Items.{has_at, has_both, some_has}

one_for : (m k : ℕ) → m ≡ k → ◌≡◌ {A = ℕ} (if nat_eq m k then 1 else 0) 1
one_for m k e = grind (arith, nat_tests, e)

for_one : (m k : ℕ) (b : Bool) → nat_eq m k ≡ b → 1 ≤ (if b then 1 else 0) → m ≡ k
for_one m k true e le = eqb-true m k e
for_one m k false e le = absurd (omega (arith, le))

stray_none : (m n : ℕ) (b : Bool) → nat_lt m n ≡ b → (if b then 0 else 1) ≤ 0 → m < n
stray_none m n true e le = grind (arith, nat_tests, e)
stray_none m n false e le = absurd (omega (arith, le))

-- a goal is a literal
pub goal_inside : (n : ℕ) (goals : List Goal) (i : ℕ) (goal : Goal) → strays n goals ≡ 0 → slice_get goals i ≡ Some goal → goal.literal < n
goal_inside n goals i goal none at = stray_none goal.literal n (nat_lt goal.literal n) refl
    (let le = has_at (λ (x : Goal). if nat_lt x.literal n then 0 else 1) goals i goal at in omega (arith, none, le))

-- two goals are different literals
pub goals_apart : (n : ℕ) (goals : List Goal) (i j : ℕ) (a b : Goal) → AreGoals n goals → i < j → slice_get goals i ≡ Some a → slice_get goals j ≡ Some b →
    a.literal ≢ b.literal
goals_apart n goals i j a b are lt ai bj same = omega (
  arith,
  are.once a.literal (goal_inside n goals i a are.inside ai),
  has_both (λ (x : Goal). if nat_eq x.literal a.literal then 1 else 0) goals i j a b lt ai bj,
  one_for a.literal a.literal refl,
  one_for b.literal a.literal (sym same),
)

-- each literal is a goal
pub goal_of : (n : ℕ) (goals : List Goal) (k : ℕ) → AreGoals n goals → k < n → (i : ℕ) × (goal : Goal) × (slice_get goals i ≡ Some goal) × (goal.literal ≡ k)
goal_of n goals k are lt =
    let found = some_has (λ (x : Goal). if nat_eq x.literal k then 1 else 0) goals (omega (arith, are.once k lt)) in
    (found.0, found.1, found.2, for_one found.1.literal k (nat_eq found.1.literal k) refl found.3)

-- two goals change their places
pub goals_swapped : (n : ℕ) (goals more : List Goal) (i j : ℕ) → AreGoals n goals → i < length goals → j < length goals → more ≡ swap goals i j → AreGoals n more
goals_swapped n goals more i j are li lj is =
    let sums = λ (f : Goal → ℕ). sum_by-IsPermutation f goals more (IsPermutation-swap goals more i j li lj is) in record {
      as_many = ap length is ∙ length-swap goals i j ∙ are.as_many;
      inside = sums (λ x. if nat_lt x.literal n then 0 else 1) ∙ are.inside;
      once = λ k lt. sums (λ x. if nat_eq x.literal k then 1 else 0) ∙ are.once k lt;
    }

-- the literals up to one, in their order
pub record AreGoalsTo (n i : ℕ) (goals : List Goal) : Type 0 where
  pub as_many : length goals ≡ i
  pub inside : strays n goals ≡ 0
  pub once : (k : ℕ) → times k goals ≡ (if nat_lt k i then 1 else 0)

pub goals_start : (n : ℕ) (goals : List Goal) → goals ≡ [] → AreGoalsTo n 0 goals
goals_start n goals is = subst (AreGoalsTo n 0) (sym is) (record { as_many = refl; inside = refl; once = λ k. none k })
  where
    none : (k : ℕ) → ◌≡◌ {A = ℕ} 0 (if nat_lt k 0 then 1 else 0)
    none k = grind (arith, nat_tests)

pub goals_next : (n i : ℕ) (goals more : List Goal) (goal : Goal) → AreGoalsTo n i goals → more ≡ goals ++ goal ∷ [] → goal.literal ≡ i → i < n → AreGoalsTo n (i + 1) more
goals_next n i goals more goal are is at lt = subst (AreGoalsTo n (i + 1)) (sym is) (record {
  as_many = omega (arith, length-append goals (goal ∷ []), are.as_many);
  inside = omega (
    arith,
    sum_by-append (λ (x : Goal). if nat_lt x.literal n then 0 else 1) goals (goal ∷ []),
    sum_by-cons (λ (x : Goal). if nat_lt x.literal n then 0 else 1) goal [],
    are.inside,
    no_stray goal.literal n (omega (arith, at, lt)),
  );
  once = λ k. omega (
    arith,
    sum_by-append (λ (x : Goal). if nat_eq x.literal k then 1 else 0) goals (goal ∷ []),
    sum_by-cons (λ (x : Goal). if nat_eq x.literal k then 1 else 0) goal [],
    are.once k,
    step goal.literal k at,
  );
})
  where
    no_stray : (m n : ℕ) → m < n → ◌≡◌ {A = ℕ} (if nat_lt m n then 0 else 1) 0
    no_stray m n lt = grind (arith, nat_tests, lt)

    step : (m k : ℕ) → m ≡ i → ◌≡◌ {A = ℕ} ((if nat_lt k i then 1 else 0) + (if nat_eq m k then 1 else 0)) (if nat_lt k (i + 1) then 1 else 0)
    step m k e = grind (arith, nat_tests, e)

pub goals_end : (n i : ℕ) (goals : List Goal) → AreGoalsTo n i goals → n ≤ i → i ≤ n → AreGoals n goals
goals_end n i goals are past le = record {
  as_many = omega (arith, are.as_many, past, le);
  inside = are.inside;
  once = λ k lt. are.once k ∙ below k i (omega (arith, lt, past));
}
  where
    below : (k i : ℕ) → k < i → ◌≡◌ {A = ℕ} (if nat_lt k i then 1 else 0) 1
    below k i lt = grind (arith, nat_tests, lt)
