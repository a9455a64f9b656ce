-- The laws of contraction that runs are built on. Each is the contract of a function of the module `laws`.
-- Beyond the headline: no clause of `prove` reaches this file.
use Rattle.std.specs.Prelude.{◌≡◌, ◌≤◌, ◌⊎◌, List, Option}
use Rattle.std.specs.declared.cmp.Ordering.TheVariants.{Less, Equal}
use Rattle.cd_term.specs.declared.Term.{Term}
use Rattle.cd_clause.specs.declared.Clause.{Clause}
use Rattle.cd_clause.specs.Clauses.{IsTidied}
use Rattle.cd_kbo.specs.declared.order.Order.{Order}
use Rattle.cd_names.specs.declared.names.Name.{Name}
use Rattle.cd_key.specs.Keys.{key_of, key_compare, forms_compare}
use Rattle.cd_key.specs.Parts.{FormsBelow}
use Rattle.cd_key.specs.Repeats.{repeats_of}
use Rattle.cd_subsume.specs.Subsumption.{Subsumes}
use Rattle.cd_rewrite.specs.Reduction.{Spot, IsReduct}

-- a reduct, tidied or not, has a smaller first part of the key
abbrev pub ReductsFall : Type 0
ReductsFall = (o : Order) (e c d t : Clause) (at : Spot) (s : List Term) → IsReduct o e c at s d → (t ≡ d) ⊎ IsTidied d t → FormsBelow o t c

-- and so a smaller key, whatever the names
abbrev pub ReductsHaveSmallerKeys : Type 0
ReductsHaveSmallerKeys = (o : Order) (e c d t : Clause) (at : Spot) (s : List Term) (n m : Option Name) → IsReduct o e c at s d →
    (t ≡ d) ⊎ IsTidied d t → key_compare o (key_of t n) (key_of c m) ≡ Less

-- the first two parts of a subsumer's key, compared in turn, aren't greater than those of what it subsumes
abbrev pub SubsumersHaveNoGreaterKeys : Type 0
SubsumersHaveNoGreaterKeys = (o : Order) (d c : Clause) → Subsumes d c →
    FormsBelow o d c ⊎ ((forms_compare o d c ≡ Equal) × (repeats_of d.literals ≤ repeats_of c.literals))
