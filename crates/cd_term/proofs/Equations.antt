-- The equations of the definitions of terms, at a variable and at a symbol.
use Rattle.std.proofs.Common.{◌≡◌, ℕ, ◌+◌, Bool, nat_eq, List, [], ◌∷◌, map, sum_by, sym, ap, ◌∙◌}
use Rattle.std.specs.List.{list_any, flat_map}
use Rattle.std.proofs.lemmas.List.Sums.{sum-map}
use Rattle.std.proofs.lemmas.List.Folds.{flat_map-map}
use Rattle.cd_term.specs.declared.Term.{Term, fold-Term, fold-roll-Term}
use Rattle.cd_term.specs.declared.Term.TheVariants.{Var, App, rolls-Var, rolls-App}
use Rattle.cd_term.specs.declared.Term.TheOpen.{Term-F}
use Rattle.cd_term.specs.declared.Term.TheOpen as layer
use Rattle.cd_term.specs.Terms.{greatest, size_step, size_of, depth_step, depth_of, bound_step, bound_of, variables_step, variables_of, value_of, substitute_step, substituted, applied, occurs_step, occurs}

-- a fold at a variable, and at a symbol
pub fold-Var : (A : Type 0) (step : Term-F A → A) (n : ℕ) → fold-Term A step (Var n) ≡ step (layer.Var n)
fold-Var A step n = ap (fold-Term A step) (sym (rolls-Var n)) ∙ fold-roll-Term A step (layer.Var n)

pub fold-App : (A : Type 0) (step : Term-F A → A) (f : ℕ) (ts : List Term) →
    fold-Term A step (App f ts) ≡ step (layer.App f (map (fold-Term A step) ts))
fold-App A step f ts = ap (fold-Term A step) (sym (rolls-App f ts)) ∙ fold-roll-Term A step (layer.App f ts)

pub size_of-Var : (n : ℕ) → size_of (Var n) ≡ 1
size_of-Var = fold-Var ℕ size_step

pub size_of-App : (f : ℕ) (ts : List Term) → size_of (App f ts) ≡ 1 + sum_by size_of ts
size_of-App f ts = fold-App ℕ size_step f ts ∙ ap (λ n. 1 + n) (sum-map size_of ts)

pub depth_of-Var : (n : ℕ) → depth_of (Var n) ≡ 1
depth_of-Var = fold-Var ℕ depth_step

pub depth_of-App : (f : ℕ) (ts : List Term) → depth_of (App f ts) ≡ 1 + greatest (map depth_of ts)
depth_of-App = fold-App ℕ depth_step

pub bound_of-Var : (n : ℕ) → bound_of (Var n) ≡ n + 1
bound_of-Var = fold-Var ℕ bound_step

pub bound_of-App : (f : ℕ) (ts : List Term) → bound_of (App f ts) ≡ greatest (map bound_of ts)
bound_of-App = fold-App ℕ bound_step

pub variables_of-Var : (n : ℕ) → variables_of (Var n) ≡ n ∷ []
variables_of-Var = fold-Var (List ℕ) variables_step

pub variables_of-App : (f : ℕ) (ts : List Term) → variables_of (App f ts) ≡ flat_map variables_of ts
variables_of-App f ts = fold-App (List ℕ) variables_step f ts ∙ flat_map-map (λ ns. ns) variables_of ts

pub substituted-Var : (g : ℕ → Term) (n : ℕ) → substituted g (Var n) ≡ g n
substituted-Var g = fold-Var Term (substitute_step g)

pub substituted-App : (g : ℕ → Term) (f : ℕ) (ts : List Term) → substituted g (App f ts) ≡ App f (map (substituted g) ts)
substituted-App g = fold-App Term (substitute_step g)

pub applied-Var : (s : List Term) (n : ℕ) → applied s (Var n) ≡ value_of s n
applied-Var s = substituted-Var (value_of s)

pub applied-App : (s : List Term) (f : ℕ) (ts : List Term) → applied s (App f ts) ≡ App f (map (applied s) ts)
applied-App s = substituted-App (value_of s)

pub occurs-Var : (x n : ℕ) → occurs x (Var n) ≡ nat_eq n x
occurs-Var x = fold-Var Bool (occurs_step x)

pub occurs-App : (x f : ℕ) (ts : List Term) → occurs x (App f ts) ≡ list_any (λ b. b) (map (occurs x) ts)
occurs-App x = fold-App Bool (occurs_step x)

pub ruleset equations = (size_of-Var, size_of-App, depth_of-Var, depth_of-App, bound_of-Var, bound_of-App, applied-Var, applied-App)
