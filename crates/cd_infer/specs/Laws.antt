-- What is said of all conclusions: each is what its step gives, at most one list fits, and whatever follows by any
-- substitution is an instance of what is listed. Each is the contract of a function of the module `laws`.
-- Beyond the headline: no clause of `prove` reaches this file.
use Rattle.std.specs.Prelude.{◌≡◌, ◌↔◌, ℕ, List, [], ◌∷◌, map, Some, None}
use Rattle.std.specs.List.{AllByRecursion}
use Rattle.std.specs.Cmp.Lexicographic.{slice_cmp}
use Rattle.std.specs.Ordering.{nat_cmp}
use Rattle.std.specs.declared.cmp.Ordering.TheVariants.{Less}
use Rattle.cd_term.specs.declared.Term.{Term}
use Rattle.cd_term.specs.declared.Term.TheVariants.{App}
use Rattle.cd_term.specs.Terms.{substituted, subterm}
use Rattle.cd_clause.specs.declared.Atom.{Atom}
use Rattle.cd_clause.specs.declared.Clause.{Clause}
use Rattle.cd_list.specs.Lists.{Among}
use Rattle.cd_clause.specs.Clauses.{literals_changed, IsTidied, IsWithinBounds}
use Rattle.cd_names.specs.declared.names.Name.{Name}
use Rattle.cd_kbo.specs.declared.order.Order.{Order}
use Rattle.cd_steps.specs.declared.Step.{Step}
use Rattle.cd_clause.specs.Places.{subterm_at}
use Rattle.cd_steps.specs.Rules.{Inference, IsResolution, IsFactoring, IsReflexivity, IsEqualityFactoring, IsParamodulation}
use Rattle.cd_steps.specs.Steps.{StepOk}
use Rattle.cd_infer.specs.declared.Conclusion.{Conclusion}
use Rattle.cd_infer.specs.Paths.{term_paths, atom_paths}
use Rattle.cd_infer.specs.Conclusions.{Concludes, SoloPlace, PairPlace, SoloGives, SoloCan, PairGives, PairCan, solo_places, pair_places, SoloConcludes, PairConcludes, IsWithin, IsUsable}
use Rattle.cd_infer.specs.Listed.{Overflows}

-- every clause that follows by the rule with any substitution is an instance of a conclusion's clause
abbrev pub IsMostGeneral : (Inference → Type 0) → Conclusion → Type 0
IsMostGeneral Rule x = (inference : Inference) (tau : ℕ → Term) → Rule inference → map (substituted tau) inference.left ≡ map (substituted tau) inference.right
    → (r : ℕ → Term) × (literals_changed (substituted tau) inference.conclusion ≡ literals_changed (substituted r) x.clause.literals)

abbrev pub ResolventsAreMostGeneral : Type 0
ResolventsAreMostGeneral = (a b : Clause) (i j : ℕ) (step : List Term → Step) (x : Conclusion) → Concludes (IsResolution a i b j) step x → IsMostGeneral (IsResolution a i b j) x

abbrev pub FactorsAreMostGeneral : Type 0
FactorsAreMostGeneral = (c : Clause) (i j : ℕ) (step : List Term → Step) (x : Conclusion) → Concludes (IsFactoring c i j) step x → IsMostGeneral (IsFactoring c i j) x

abbrev pub ReflexivesAreMostGeneral : Type 0
ReflexivesAreMostGeneral = (c : Clause) (i : ℕ) (step : List Term → Step) (x : Conclusion) → Concludes (IsReflexivity c i) step x → IsMostGeneral (IsReflexivity c i) x

abbrev pub EqualityFactorsAreMostGeneral : Type 0
EqualityFactorsAreMostGeneral =
    (c : Clause) (i s j z : ℕ) (step : List Term → Step) (x : Conclusion) → Concludes (IsEqualityFactoring c i s j z) step x → IsMostGeneral (IsEqualityFactoring c i s j z) x

abbrev pub ParamodulantsAreMostGeneral : Type 0
ParamodulantsAreMostGeneral = (a b : Clause) (i s j : ℕ) (path : List ℕ) (step : List Term → Step) (x : Conclusion)
    → Concludes (IsParamodulation a i s b j path) step x → IsMostGeneral (IsParamodulation a i s b j path) x

-- at most one list fits
abbrev pub SolosConcludeOnce : Type 0
SolosConcludeOnce = (o : Order) (n : Name) (c : Clause) (xs ys : List Conclusion) → SoloConcludes o n c xs → SoloConcludes o n c ys → xs ≡ ys

abbrev pub PairsConcludeOnce : Type 0
PairsConcludeOnce = (o : Order) (m : Name) (a : Clause) (n : Name) (b : Clause) (xs ys : List Conclusion) → PairConcludes o m a n b xs → PairConcludes o m a n b ys → xs ≡ ys

-- each conclusion is what its step gives of the clauses
abbrev pub SolosAreSteps : Type 0
SolosAreSteps = (o : Order) (n : Name) (c : Clause) (found : List Conclusion) → SoloConcludes o n c found →
    AllByRecursion (λ x. StepOk x.step None (Some c) None x.clause) found

abbrev pub PairsAreSteps : Type 0
PairsAreSteps = (o : Order) (m : Name) (a : Clause) (n : Name) (b : Clause) (found : List Conclusion) → PairConcludes o m a n b found →
    AllByRecursion (λ x. StepOk x.step None (Some a) (Some b) x.clause) found

-- wherever a place can give anything with any substitution, its conclusion is listed
abbrev pub SolosAreListed : Type 0
SolosAreListed = (o : Order) (n : Name) (c : Clause) (found : List Conclusion) (k : SoloPlace) → SoloConcludes o n c found →
    Among (λ p. p ≡ k) (solo_places c) → SoloCan o c k → Among (SoloGives o n c k) found

abbrev pub PairsAreListed : Type 0
PairsAreListed = (o : Order) (m : Name) (a : Clause) (n : Name) (b : Clause) (found : List Conclusion) (k : PairPlace) → PairConcludes o m a n b found →
    Among (λ p. p ≡ k) (pair_places a b) → PairCan o a b k → Among (PairGives o m a n b k) found

-- where all that is listed is within bounds, no place gives anything out of bounds
abbrev pub SolosAreWithin : Type 0
SolosAreWithin = (o : Order) (n : Name) (c : Clause) (found : List Conclusion) → SoloConcludes o n c found → AllByRecursion IsWithin found →
    Overflows (SoloGives o n c) IsWithin (solo_places c) → ⊥

abbrev pub PairsAreWithin : Type 0
PairsAreWithin = (o : Order) (m : Name) (a : Clause) (n : Name) (b : Clause) (found : List Conclusion) → PairConcludes o m a n b found → AllByRecursion IsWithin found →
    Overflows (PairGives o m a n b) IsWithin (pair_places a b) → ⊥

-- a path leads to a symbol with its arguments
pub record LeadsToSymbol (path : List ℕ) (t : Term) : Type 0 where
  pub symbol : ℕ
  pub args : List Term
  pub there : subterm path t ≡ Some (App symbol args)

-- the paths of a term are those that lead to a symbol, each smaller than those behind it in the order of lists
abbrev pub IsAscending : List (List ℕ) → Type 0
IsAscending [] = Unit {0}
IsAscending (p ∷ ps) = AllByRecursion (λ q. slice_cmp nat_cmp p q ≡ Less) ps × IsAscending ps

abbrev pub PathsAreSymbols : Type 0
PathsAreSymbols = (t : Term) →
    ((path : List ℕ) → Among (λ p. p ≡ path) (term_paths t) ↔ LeadsToSymbol path t)
    × IsAscending (term_paths t)

-- and so are those of an atom: the places that paramodulation enters
pub record LeadsToSymbolIn (path : List ℕ) (a : Atom) : Type 0 where
  pub symbol : ℕ
  pub args : List Term
  pub there : subterm_at path a ≡ Some (App symbol args)

abbrev pub AtomPathsAreSymbols : Type 0
AtomPathsAreSymbols = (a : Atom) →
    ((path : List ℕ) → Among (λ p. p ≡ path) (atom_paths a) ↔ LeadsToSymbolIn path a)
    × IsAscending (atom_paths a)

-- a tidy clause within bounds can be used
abbrev pub TidyClausesAreUsable : Type 0
TidyClausesAreUsable = (c : Clause) → IsTidied c c → IsWithinBounds c → IsUsable c
