-- How many words trees have.
use Rattle.std.specs.Prelude.{ℕ, ◌+◌, List, sum, sum_by}
use Rattle.cd_parse.specs.declared.tree.Tree.{Tree, fold-Tree}
use Rattle.cd_parse.specs.declared.tree.Tree.TheOpen.{Tree-F}
use Rattle.cd_parse.specs.declared.tree.Tree.TheOpen as layer
use Rattle.cd_parse.specs.declared.tree.TreeAtom.{TreeAtom}
use Rattle.cd_parse.specs.declared.tree.TreeAtom.TheVariants.{Truth, Pred, Equal}
use Rattle.cd_parse.specs.declared.tree.TreeLiteral.{TreeLiteral}

-- 1 for a variable; 1 and the sizes of the arguments otherwise
abbrev pub size_step : Tree-F ℕ → ℕ
size_step (layer.Var x) = 1
size_step (layer.App w sizes) = 1 + sum sizes

abbrev pub size_of : Tree → ℕ
size_of = fold-Tree ℕ size_step

-- an equation counts itself too
abbrev pub atom_size : TreeAtom → ℕ
atom_size Truth = 1
atom_size (Pred w args) = 1 + sum_by size_of args
atom_size (Equal l r) = 1 + (size_of l + size_of r)

abbrev pub literals_size : List TreeLiteral → ℕ
literals_size ls = sum_by (λ l. atom_size l.atom) ls
