-- Trees: their sizes and depths, and induction.
use Rattle.std.proofs.Common.{◌≡◌, ℕ, ◌+◌, ◌≤◌, List, [], ◌∷◌, length, map, sum_by, subst, sym, arith}
use Rattle.std.proofs.lemmas.List.Sums.{sum_by-cons}
use Rattle.cd_term.specs.Terms.{greatest}
use Rattle.cd_parse.specs.declared.tree.Tree.{Tree, ind-Tree, roll-Tree}
use Rattle.cd_parse.specs.declared.tree.Tree.TheVariants.{Var, App, rolls-Var, rolls-App}
use Rattle.cd_parse.specs.declared.tree.Tree.TheOpen.{Tree-F}
use Rattle.cd_parse.specs.declared.tree.Tree.TheOpen as layer
use Rattle.cd_parse.specs.declared.tree.Tree.TheFolds.{map-Tree}
use Rattle.cd_read.specs.Meaning.{depth_step, depth_of}
use Rattle.cd_parse.proofs.Sizes.{fold-Var, fold-App, size_of-Var, size_of-App}
use Rattle.cd_parse.specs.Trees.{size_of}

pub depth_of-Var : (x : List ℕ) → depth_of (Var x) ≡ 1
depth_of-Var = fold-Var ℕ depth_step

pub depth_of-App : (w : List ℕ) (ts : List Tree) → depth_of (App w ts) ≡ 1 + greatest (map depth_of ts)
depth_of-App = fold-App ℕ depth_step

pub ruleset equations = (size_of-Var, size_of-App, depth_of-Var, depth_of-App)

-- a fact of each item, one item at a time
abbrev pub Each : {A : Type 0} → (A → Type 0) → List A → Type 0
Each P [] = Unit {0}
Each P (x ∷ xs) = P x × Each P xs

all_of : (P : Tree → Type 0) → (es : List ((t : Tree) × P t)) → Each P (map (λ e. e.0) es)
all_of P [] = tt
all_of P (e ∷ es) = (e.1, all_of P es)

layer_of : (P : Tree → Type 0) → ((x : List ℕ) → P (Var x)) → ((w : List ℕ) (ts : List Tree) → Each P ts → P (App w ts)) →
    (y : Tree-F ((t : Tree) × P t)) → P (roll-Tree (map-Tree _ _ (λ e. e.0) y))
layer_of P v a (layer.Var x) = subst P (sym (rolls-Var x)) (v x)
layer_of P v a (layer.App w es) = subst P (sym (rolls-App w (map (λ e. e.0) es))) (a w (map (λ e. e.0) es) (all_of P es))

pub ind : (P : Tree → Type 0) → ((x : List ℕ) → P (Var x)) → ((w : List ℕ) (ts : List Tree) → Each P ts → P (App w ts)) → (t : Tree) → P t
ind P v a = ind-Tree P (λ x y is. subst (λ z. P (roll-Tree z)) is (layer_of P v a y))

pub each : (P : Tree → Type 0) → ((t : Tree) → P t) → (ts : List Tree) → Each P ts
each P all [] = tt
each P all (t ∷ ts) = (all t, each P all ts)

-- each tree has a word
pub some_size : (t : Tree) → 1 ≤ size_of t
some_size = ind (λ t. 1 ≤ size_of t) (λ x. omega (arith, size_of-Var x)) (λ w ts e. omega (arith, size_of-App w ts))

pub few_trees : (ts : List Tree) → length ts ≤ sum_by size_of ts
few_trees [] = omega arith
few_trees (t ∷ ts) = omega (arith, few_trees ts, some_size t, sum_by-cons size_of t ts)
