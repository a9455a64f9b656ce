-- What runs are built on: each list of conclusions is there, and its steps begin records of inferences on the clauses that
-- are named, over the symbols of these clauses. Each is the contract of a function of the module `laws`.
-- Beyond the headline: no clause of `prove` reaches this file.
use Rattle.std.specs.Prelude.{◌≡◌, Bool, true, false, List, [], ◌∷◌, IsTrue}
use Rattle.std.specs.List.{AllByRecursion}
use Rattle.cd_list.specs.Decisions.{Decided}
use Rattle.cd_term.specs.Symbols.{Symbols, AreOver}
use Rattle.cd_clause.specs.declared.Clause.{Clause}
use Rattle.cd_clause.specs.Over.{LiteralsOver}
use Rattle.cd_names.specs.declared.names.Name.{Name}
use Rattle.cd_kbo.specs.declared.order.Order.{Order}
use Rattle.cd_steps.specs.declared.Premise.{Premise}
use Rattle.cd_steps.specs.declared.Premise.TheVariants.{Named}
use Rattle.cd_steps.specs.declared.Step.{Step}
use Rattle.cd_steps.specs.declared.Step.TheVariants.{Input, Copy, Resolve, Factor, Refl, EqFac, Para, Rewrite, Tidy}
use Rattle.cd_steps.specs.Bounds.{subst_of}
use Rattle.cd_steps.specs.Premises.{premises}
use Rattle.cd_infer.specs.declared.Conclusion.{Conclusion}
use Rattle.cd_infer.specs.Conclusions.{SoloConcludes, PairConcludes, IsWithin}

-- an inference: a step that begins a record, and neither takes an input clause nor copies one
abbrev pub infers : Step → Bool
infers (Input index) = false
infers (Copy of) = false
infers (Resolve pos i neg j subst) = true
infers (Factor of i j subst) = true
infers (Refl of i subst) = true
infers (EqFac of i s j z subst) = true
infers (Para giver i s taker j at subst) = true
infers (Rewrite by s j at subst) = false
infers Tidy = false

-- an inference on clauses, by their names in their order
pub record IsInferenceOn (ps : List Premise) (x : Conclusion) : Type 0 where
  pub infers : IsTrue (infers x.step)
  pub names : premises x.step ≡ ps

abbrev pub SolosAreInferences : Type 0
SolosAreInferences = (o : Order) (n : Name) (c : Clause) (found : List Conclusion) → SoloConcludes o n c found →
    AllByRecursion (IsInferenceOn (Named n ∷ [])) found

abbrev pub PairsAreInferences : Type 0
PairsAreInferences = (o : Order) (m : Name) (a : Clause) (n : Name) (b : Clause) (found : List Conclusion) → PairConcludes o m a n b found →
    AllByRecursion (IsInferenceOn (Named m ∷ Named n ∷ [])) found

-- the substitution and the clause of a conclusion are over some symbols
pub record IsConclusionOver (y : Symbols) (x : Conclusion) : Type 0 where
  pub subst : AreOver y (subst_of x.step)
  pub clause : LiteralsOver y x.clause.literals

abbrev pub SolosStayOver : Type 0
SolosStayOver = (o : Order) (y : Symbols) (n : Name) (c : Clause) (found : List Conclusion) → LiteralsOver y c.literals → SoloConcludes o n c found →
    AllByRecursion (IsConclusionOver y) found

abbrev pub PairsStayOver : Type 0
PairsStayOver = (o : Order) (y : Symbols) (m : Name) (a : Clause) (n : Name) (b : Clause) (found : List Conclusion) →
    LiteralsOver y a.literals → LiteralsOver y b.literals → PairConcludes o m a n b found → AllByRecursion (IsConclusionOver y) found

-- a list of conclusions is there
abbrev pub SolosExist : Type 0
SolosExist = (o : Order) (n : Name) (c : Clause) → (found : List Conclusion) × SoloConcludes o n c found

abbrev pub PairsExist : Type 0
PairsExist = (o : Order) (m : Name) (a : Clause) (n : Name) (b : Clause) → (found : List Conclusion) × PairConcludes o m a n b found

-- a conclusion is within bounds, or it isn't
abbrev pub BoundsDecide : Type 0
BoundsDecide = (x : Conclusion) → Decided (IsWithin x)
