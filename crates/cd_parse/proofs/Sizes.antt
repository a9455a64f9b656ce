-- The words of trees, at a variable and at a word.
use Rattle.std.proofs.Common.{◌≡◌, ℕ, ◌+◌, List, map, sum_by, sym, ap, ◌∙◌}
use Rattle.std.proofs.lemmas.List.Sums.{sum-map}
use Rattle.cd_parse.specs.declared.tree.Tree.{Tree, fold-Tree, fold-roll-Tree}
use Rattle.cd_parse.specs.declared.tree.Tree.TheVariants.{Var, App, rolls-Var, rolls-App}
use Rattle.cd_parse.specs.declared.tree.Tree.TheOpen.{Tree-F}
use Rattle.cd_parse.specs.declared.tree.Tree.TheOpen as layer
use Rattle.cd_parse.specs.Trees.{size_step, size_of}

-- a fold at a variable, and at a word
pub fold-Var : (A : Type 0) (step : Tree-F A → A) (x : List ℕ) → fold-Tree A step (Var x) ≡ step (layer.Var x)
fold-Var A step x = ap (fold-Tree A step) (sym (rolls-Var x)) ∙ fold-roll-Tree A step (layer.Var x)

pub fold-App : (A : Type 0) (step : Tree-F A → A) (w : List ℕ) (ts : List Tree) →
    fold-Tree A step (App w ts) ≡ step (layer.App w (map (fold-Tree A step) ts))
fold-App A step w ts = ap (fold-Tree A step) (sym (rolls-App w ts)) ∙ fold-roll-Tree A step (layer.App w ts)

pub size_of-Var : (x : List ℕ) → size_of (Var x) ≡ 1
size_of-Var = fold-Var ℕ size_step

pub size_of-App : (w : List ℕ) (ts : List Tree) → size_of (App w ts) ≡ 1 + sum_by size_of ts
size_of-App w ts = fold-App ℕ size_step w ts ∙ ap (λ n. 1 + n) (sum-map size_of ts)
