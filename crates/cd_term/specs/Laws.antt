-- The laws of terms that other crates build on. Each is the contract of a function of the module `laws`.
-- Beyond the headline: no clause of `prove` reaches this file.
use Rattle.std.specs.List.{list_any, flat_map}
use Rattle.std.specs.Prelude.{ℕ, ◌≡◌, ◌⊎◌, ◌+◌, ◌<◌, ◌≤◌, max, false, nat_eq, List, ◌++◌, length, map, sum_by, IsTrue, Some, slice_index, option_and_then}
use Rattle.cd_term.specs.declared.Term.{Term}
use Rattle.cd_term.specs.declared.Term.TheVariants.{Var}
use Rattle.cd_term.specs.Terms.{greatest, size_of, depth_of, bound_of, variables_of, occurs, substituted, applied, one, subterm, replaced, IsNumberedFrom, order_of, rank, unranked, renumbered}

-- two terms are equal or not
abbrev pub TermsDecide : Type 0
TermsDecide = (s t : Term) → (s ≡ t) ⊎ (s ≡ t → ⊥)

-- a term has at least one level, and no more levels than symbols and variables
abbrev pub HaveLevels : Type 0
HaveLevels = (t : Term) → (1 ≤ depth_of t) × (depth_of t ≤ size_of t)

-- a variable occurs where it is among the variables, and the bound is that of the variables
abbrev pub HaveVariables : Type 0
HaveVariables = (t : Term) →
    ((x : ℕ) → occurs x t ≡ list_any (λ y. nat_eq y x) (variables_of t))
    × (bound_of t ≡ greatest (map (λ n. n + 1) (variables_of t)))

-- each occurrence of a variable gives way to the size of its value
abbrev pub SizeAfterSubstitution : Type 0
SizeAfterSubstitution = (g : ℕ → Term) (t : Term) →
    size_of (substituted g t) + length (variables_of t)
    ≡ size_of t + sum_by (λ n. size_of (g n)) (variables_of t)

-- the depth grows by no more than the values have below their root, and it is no smaller than before
-- or than that of a value
abbrev pub DepthAfterSubstitution : Type 0
DepthAfterSubstitution = (g : ℕ → Term) (t : Term) →
    let values = greatest (map (λ n. depth_of (g n)) (variables_of t)) in
    (depth_of t ≤ depth_of (substituted g t)) × (values ≤ depth_of (substituted g t))
    × (depth_of (substituted g t) + 1 ≤ depth_of t + max 1 values)

-- the variables are those of the values, in the order of the occurrences
abbrev pub VariablesAfterSubstitution : Type 0
VariablesAfterSubstitution = (g : ℕ → Term) (t : Term) →
    variables_of (substituted g t) ≡ flat_map (λ n. variables_of (g n)) (variables_of t)

-- the old subterm gives way to the new one
abbrev pub SizeAfterReplacement : Type 0
SizeAfterReplacement = (path : List ℕ) (new t u v : Term) →
    subterm path t ≡ Some u → replaced path new t ≡ Some v →
    size_of v + size_of u ≡ size_of t + size_of new

-- the new subterm stands as deep as the path is long, and nothing else gets deeper
abbrev pub DepthAfterReplacement : Type 0
DepthAfterReplacement = (path : List ℕ) (new t v : Term) → replaced path new t ≡ Some v →
    (length path + depth_of new ≤ depth_of v)
    × (depth_of v ≤ max (depth_of t) (length path + depth_of new))

-- what was put in stands at its path, and what stands there already changes nothing
abbrev pub ReplacementsAreFound : Type 0
ReplacementsAreFound = (path : List ℕ) (new t u : Term) →
    (replaced path new t ≡ Some u → subterm path u ≡ Some new)
    × (subterm path t ≡ Some u → replaced path u t ≡ Some t)

-- one path after another
abbrev pub PathsCompose : Type 0
PathsCompose = (front back : List ℕ) (t : Term) →
    subterm (front ++ back) t ≡ option_and_then (subterm back) (subterm front t)

-- one substitution after another, as functions and as lists; and the one that changes nothing
abbrev pub SubstitutionsCompose : Type 0
SubstitutionsCompose =
    ((g h : ℕ → Term) (t : Term) →
    substituted g (substituted h t) ≡ substituted (λ n. substituted g (h n)) t)
    × ((s r : List Term) (t : Term) → bound_of t ≤ length r →
    applied s (applied r t) ≡ applied (map (applied s) r) t)
    × ((t : Term) → substituted Var t ≡ t)

-- two substitutions give a term one value exactly where they agree on its variables
abbrev pub AgreementDecides : Type 0
AgreementDecides = (g h : ℕ → Term) (t : Term) →
    (((n : ℕ) → IsTrue (occurs n t) → g n ≡ h n) → substituted g t ≡ substituted h t)
    × (substituted g t ≡ substituted h t → (n : ℕ) → IsTrue (occurs n t) → g n ≡ h n)

-- the value of a variable that doesn't occur doesn't matter
abbrev pub AbsentVariablesDontMatter : Type 0
AbsentVariablesDontMatter = (x : ℕ) (u t : Term) → occurs x t ≡ false → substituted (one x u) t ≡ t

-- a substitution changes the subterm at a path, and what is put there, where they stand
abbrev pub SubtermsFollowSubstitution : Type 0
SubtermsFollowSubstitution = (g : ℕ → Term) (path : List ℕ) (new t u : Term) →
    (subterm path t ≡ Some u → subterm path (substituted g t) ≡ Some (substituted g u))
    × (replaced path new t ≡ Some u →
    replaced path (substituted g new) (substituted g t) ≡ Some (substituted g u))

-- a renaming changes neither sizes nor depths
abbrev pub RenamingsKeepSizes : Type 0
RenamingsKeepSizes = (p : ℕ → ℕ) (t : Term) →
    (size_of (substituted (λ n. Var (p n)) t) ≡ size_of t)
    × (depth_of (substituted (λ n. Var (p n)) t) ≡ depth_of t)

-- renumbered terms have their variables in the order of first occurrence, each below the number of
-- different ones, and the renaming has an inverse
abbrev pub RenumberingHasInverse : Type 0
RenumberingHasInverse = (ts : List Term) →
    IsNumberedFrom 0 (flat_map variables_of (renumbered ts))
    × (greatest (map bound_of (renumbered ts)) ≤ length (order_of ts))
    × (map (substituted (unranked (order_of ts))) (renumbered ts) ≡ ts)
    × ((n : ℕ) → n < length (order_of ts) → rank (order_of ts) (slice_index (order_of ts) n) ≡ n)
