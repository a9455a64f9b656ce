-- Sizes, depths and variables of terms, and of terms with a substitution applied.
use Rattle.std.proofs.Common.{◌≡◌, ℕ, ◌+◌, ◌≤◌, max, List, [], ◌∷◌, ◌++◌, length, map, sum_by, ap, ◌∙◌, sym, refl, arith, length-append}
use Rattle.std.specs.List.{flat_map}
use Rattle.std.proofs.lemmas.List.{map-append, append-nil}
use Rattle.std.proofs.lemmas.List.Sums.{sum_by-cons, sum_by-append}
use Rattle.std.proofs.lemmas.List.Concat.{flat_map-append}
use Rattle.cd_term.specs.declared.Term.{Term}
use Rattle.cd_term.specs.declared.Term.TheVariants.{Var}
use Rattle.cd_term.specs.Terms.{greatest, size_of, depth_of, bound_of, variables_of, substituted}
use Rattle.cd_term.proofs.TermInduction.{ind, Each}
use Rattle.cd_term.proofs.Equations.{size_of-Var, size_of-App, depth_of-Var, depth_of-App, bound_of-Var, bound_of-App, variables_of-Var, variables_of-App, substituted-Var, substituted-App}
use Rattle.cd_term.proofs.Measures.{greatest-append}

-- what holds of every term holds of each of a list
pub each : (P : Term → Type 0) → ((t : Term) → P t) → (ts : List Term) → Each P ts
each P all [] = tt
each P all (t ∷ ts) = (all t, each P all ts)

levels_le : (ts : List Term) → Each (λ t. (1 ≤ depth_of t) × (depth_of t ≤ size_of t)) ts →
    greatest (map depth_of ts) ≤ sum_by size_of ts
levels_le [] e = omega arith
levels_le (t ∷ ts) e = omega (arith, e.0.1, levels_le ts e.1, sum_by-cons size_of t ts)

pub levels : (t : Term) → (1 ≤ depth_of t) × (depth_of t ≤ size_of t)
levels = ind (λ t. (1 ≤ depth_of t) × (depth_of t ≤ size_of t))
    (λ n. (omega (arith, depth_of-Var n), omega (arith, depth_of-Var n, size_of-Var n)))
    (λ f ts e. (omega (arith, depth_of-App f ts), omega (arith, depth_of-App f ts, size_of-App f ts, levels_le ts e)))

pub bounds_are : (ts : List Term) → Each (λ t. bound_of t ≡ greatest (map (λ n. n + 1) (variables_of t))) ts →
    greatest (map bound_of ts) ≡ greatest (map (λ n. n + 1) (flat_map variables_of ts))
bounds_are [] e = refl
bounds_are (t ∷ ts) e = omega (
  arith,
  e.0,
  bounds_are ts e.1,
  ap greatest (map-append (λ n. n + 1) (variables_of t) (flat_map variables_of ts)),
  greatest-append (map (λ n. n + 1) (variables_of t)) (map (λ n. n + 1) (flat_map variables_of ts)),
)

pub bound_of-variables : (t : Term) → bound_of t ≡ greatest (map (λ n. n + 1) (variables_of t))
bound_of-variables = ind (λ t. bound_of t ≡ greatest (map (λ n. n + 1) (variables_of t)))
    (λ k. omega (arith, bound_of-Var k, ap (λ ns. greatest (map (λ n. n + 1) ns)) (variables_of-Var k)))
    (λ f ts e. bound_of-App f ts ∙ bounds_are ts e ∙ sym (ap (λ ns. greatest (map (λ n. n + 1) ns)) (variables_of-App f ts)))

-- variables after a substitution
variables_follow : (g : ℕ → Term) (ts : List Term) →
    Each (λ t. variables_of (substituted g t) ≡ flat_map (λ n. variables_of (g n)) (variables_of t)) ts →
    flat_map variables_of (map (substituted g) ts) ≡ flat_map (λ n. variables_of (g n)) (flat_map variables_of ts)
variables_follow g [] e = refl
variables_follow g (t ∷ ts) e =
    ap (λ xs. xs ++ flat_map variables_of (map (substituted g) ts)) e.0
    ∙ ap (λ ys. flat_map (λ n. variables_of (g n)) (variables_of t) ++ ys) (variables_follow g ts e.1)
    ∙ sym (flat_map-append (λ n. variables_of (g n)) (variables_of t) (flat_map variables_of ts))

pub variables_of-substituted : (g : ℕ → Term) (t : Term) →
    variables_of (substituted g t) ≡ flat_map (λ n. variables_of (g n)) (variables_of t)
variables_of-substituted g = ind (λ t. variables_of (substituted g t) ≡ flat_map (λ n. variables_of (g n)) (variables_of t))
    (λ k. ap variables_of (substituted-Var g k) ∙ sym (ap (flat_map (λ n. variables_of (g n))) (variables_of-Var k) ∙ append-nil (variables_of (g k))))
    (λ f ts e. ap variables_of (substituted-App g f ts) ∙ variables_of-App f (map (substituted g) ts) ∙ variables_follow g ts e
    ∙ sym (ap (flat_map (λ n. variables_of (g n))) (variables_of-App f ts)))

-- the size after a substitution
abbrev pub SizeFollows : (ℕ → Term) → Term → Type 0
SizeFollows g t = size_of (substituted g t) + length (variables_of t) ≡ size_of t + sum_by (λ n. size_of (g n)) (variables_of t)

sizes_follow : (g : ℕ → Term) (ts : List Term) → Each (SizeFollows g) ts →
    sum_by size_of (map (substituted g) ts) + length (flat_map variables_of ts)
    ≡ sum_by size_of ts + sum_by (λ n. size_of (g n)) (flat_map variables_of ts)
sizes_follow g [] e = refl
sizes_follow g (t ∷ ts) e = omega (
  arith,
  e.0,
  sizes_follow g ts e.1,
  sum_by-cons size_of (substituted g t) (map (substituted g) ts),
  sum_by-cons size_of t ts,
  length-append (variables_of t) (flat_map variables_of ts),
  sum_by-append (λ n. size_of (g n)) (variables_of t) (flat_map variables_of ts),
)

pub size_of-substituted : (g : ℕ → Term) (t : Term) → SizeFollows g t
size_of-substituted g = ind (SizeFollows g)
    (λ k. omega (
      arith,
      ap size_of (substituted-Var g k),
      size_of-Var k,
      ap length (variables_of-Var k),
      ap (sum_by (λ n. size_of (g n))) (variables_of-Var k),
      sum_by-cons (λ n. size_of (g n)) k [],
    ))
    (λ f ts e. omega (
      arith,
      ap size_of (substituted-App g f ts),
      size_of-App f (map (substituted g) ts),
      size_of-App f ts,
      ap length (variables_of-App f ts),
      ap (sum_by (λ n. size_of (g n))) (variables_of-App f ts),
      sizes_follow g ts e,
    ))

-- the depth after a substitution
abbrev pub deepest : (ℕ → Term) → List ℕ → ℕ
deepest g ns = greatest (map (λ n. depth_of (g n)) ns)

deepest-append : (g : ℕ → Term) (xs ys : List ℕ) → deepest g (xs ++ ys) ≡ max (deepest g xs) (deepest g ys)
deepest-append g xs ys = ap greatest (map-append (λ n. depth_of (g n)) xs ys) ∙ greatest-append (map (λ n. depth_of (g n)) xs) (map (λ n. depth_of (g n)) ys)

abbrev pub DepthFollows : (ℕ → Term) → Term → Type 0
DepthFollows g t = (depth_of t ≤ depth_of (substituted g t)) × (deepest g (variables_of t) ≤ depth_of (substituted g t))
    × (depth_of (substituted g t) + 1 ≤ depth_of t + max 1 (deepest g (variables_of t)))

abbrev pub DepthsFollow : (ℕ → Term) → List Term → Type 0
DepthsFollow g ts = (greatest (map depth_of ts) ≤ greatest (map depth_of (map (substituted g) ts)))
    × (deepest g (flat_map variables_of ts) ≤ greatest (map depth_of (map (substituted g) ts)))
    × (greatest (map depth_of (map (substituted g) ts)) + 1 ≤ greatest (map depth_of ts) + max 1 (deepest g (flat_map variables_of ts)))

depths_follow : (g : ℕ → Term) (ts : List Term) → Each (DepthFollows g) ts → DepthsFollow g ts
depths_follow g [] e = (omega arith, omega arith, omega arith)
depths_follow g (t ∷ ts) e =
    let rest = depths_follow g ts e.1 in
    let both = deepest-append g (variables_of t) (flat_map variables_of ts) in
    (omega (arith, e.0.0, rest.0), omega (arith, e.0.1, rest.1, both), omega (arith, e.0.2, rest.2, both))

pub depth_of-substituted : (g : ℕ → Term) (t : Term) → DepthFollows g t
depth_of-substituted g = ind (DepthFollows g)
    (λ k. let same = ap depth_of (substituted-Var g k) in let one = ap (deepest g) (variables_of-Var k) in
    let some = levels (g k) in
    (omega (arith, same, depth_of-Var k, some.0), omega (arith, same, one), omega (arith, same, depth_of-Var k, one)))
    (λ f ts e. let rest = depths_follow g ts e in let all = ap (deepest g) (variables_of-App f ts) in
    let same = ap depth_of (substituted-App g f ts) ∙ depth_of-App f (map (substituted g) ts) in
    (omega (arith, same, depth_of-App f ts, rest.0), omega (arith, same, all, rest.1), omega (arith, same, depth_of-App f ts, all, rest.2)))

-- a renaming
all_small : (p : ℕ → ℕ) (ns : List ℕ) → sum_by (λ n. size_of (Var (p n))) ns ≡ length ns
all_small p [] = refl
all_small p (n ∷ ns) = omega (arith, all_small p ns, sum_by-cons (λ n. size_of (Var (p n))) n ns, size_of-Var (p n))

all_flat : (p : ℕ → ℕ) (ns : List ℕ) → deepest (λ n. Var (p n)) ns ≤ 1
all_flat p [] = omega arith
all_flat p (n ∷ ns) = omega (arith, all_flat p ns, depth_of-Var (p n))

pub renamed_sizes : (p : ℕ → ℕ) (t : Term) →
    (size_of (substituted (λ n. Var (p n)) t) ≡ size_of t) × (depth_of (substituted (λ n. Var (p n)) t) ≡ depth_of t)
renamed_sizes p t =
    let deep = depth_of-substituted (λ n. Var (p n)) t in (
      omega (arith, size_of-substituted (λ n. Var (p n)) t, all_small p (variables_of t)),
      omega (arith, deep.0, deep.2, all_flat p (variables_of t)),
    )
