-- What a measure within bounds answers.
-- Beyond the headline: no clause of `prove` reaches this file.
use Rattle.std.specs.Prelude.{◌≡◌, ◌≤◌, ℕ, List, Option, None, Some, map, sum_by}
use Rattle.cd_term.specs.Terms.{greatest}
use Rattle.cd_parse.specs.declared.tree.Tree.{Tree}
use Rattle.cd_parse.specs.declared.tree.TreeAtom.{TreeAtom}
use Rattle.cd_read.specs.Meaning.{depth_of, atom_depth}
use Rattle.cd_parse.specs.Trees.{size_of, atom_size}

abbrev pub IsWithin : ℕ → ℕ → Tree → Type 0
IsWithin symbols levels t = (size_of t ≤ symbols) × (depth_of t ≤ levels)

-- trees that together have no more than so many words, and none of them more than so many levels
abbrev pub TreesWithin : ℕ → ℕ → List Tree → Type 0
TreesWithin symbols levels ts = (sum_by size_of ts ≤ symbols) × (greatest (map depth_of ts) ≤ levels)

abbrev pub IsMeasure : ℕ → ℕ → Tree → Option ℕ → Type 0
IsMeasure symbols levels t None = ¬ IsWithin symbols levels t
IsMeasure symbols levels t (Some n) = (n ≡ size_of t) × IsWithin symbols levels t

abbrev pub AreMeasured : ℕ → ℕ → List Tree → Option ℕ → Type 0
AreMeasured symbols levels ts None = ¬ TreesWithin symbols levels ts
AreMeasured symbols levels ts (Some n) = (n ≡ sum_by size_of ts) × TreesWithin symbols levels ts

abbrev pub AtomWithin : ℕ → TreeAtom → Type 0
AtomWithin symbols a = (atom_size a ≤ symbols) × (atom_depth a ≤ 1000)

abbrev pub IsAtomMeasure : ℕ → TreeAtom → Option ℕ → Type 0
IsAtomMeasure symbols a None = ¬ AtomWithin symbols a
IsAtomMeasure symbols a (Some n) = (n ≡ atom_size a) × AtomWithin symbols a
