-- What one clause concludes alone, and two together.
-- Beyond the headline: no clause of `prove` reaches IsUsable, IsPairable, IsGiving, HasSideAt, PairAnswers,
--   SoloAnswers.
use Rattle.std.specs.Prelude.{◌≡◌, ◌⊎◌, ◌≤◌, ◌<◌, ℕ, List, [], ◌∷◌, ◌++◌, length, map, Option, Some, None, slice_get, Result, Ok, Err}
use Rattle.std.specs.List.{flat_map, range_with_len, AllByRecursion}
use Rattle.cd_term.specs.declared.TermFault.{TermFault}
use Rattle.cd_term.specs.declared.TermFault.TheVariants.{OutOfBounds, Memory}
use Rattle.cd_term.specs.declared.Term.{Term}
use Rattle.cd_term.specs.Terms.{applied, substituted}
use Rattle.cd_clause.specs.declared.Atom.{Atom}
use Rattle.cd_clause.specs.declared.Atom.TheVariants.{Truth, Pred, Equal}
use Rattle.cd_clause.specs.declared.Literal.{Literal}
use Rattle.cd_clause.specs.declared.Clause.{Clause}
use Rattle.cd_clause.specs.Clauses.{literals_changed, IsWithinBounds, variable_bound_of}
use Rattle.cd_names.specs.declared.names.Name.{Name}
use Rattle.cd_unify.specs.Unifiers.{IsMgu}
use Rattle.cd_kbo.specs.declared.order.Order.{Order}
use Rattle.cd_kbo.specs.Kbo.{Greater}
use Rattle.cd_key.specs.Literals.{IsEligible}
use Rattle.cd_steps.specs.declared.Step.{Step}
use Rattle.cd_steps.specs.declared.Step.TheVariants.{Resolve, Factor, Refl, EqFac, Para}
use Rattle.cd_steps.specs.Bounds.{IsStepWithin, subst_of}
use Rattle.cd_clause.specs.Places.{HasSides}
use Rattle.cd_steps.specs.Rules.{Inference, IsResolution, IsFactoring, IsReflexivity, IsEqualityFactoring, IsParamodulation}
use Rattle.cd_infer.specs.declared.Conclusion.{Conclusion}
use Rattle.cd_infer.specs.Listed.{Listed, Overflows}
use Rattle.cd_infer.specs.Paths.{atom_paths}

-- the places of one clause alone
pub data SoloPlace : Type 0 where
  factor : (i j : ℕ) → SoloPlace
  refl_at : (i : ℕ) → SoloPlace
  eqfac : (i s j z : ℕ) → SoloPlace

-- the places of two clauses
pub data PairPlace : Type 0 where
  resolve : (i j : ℕ) → PairPlace
  para : (i s j : ℕ) (path : List ℕ) → PairPlace

-- a rule gives a step with the most general unifier in normal form, and the clause that follows
pub record Concludes (Rule : Inference → Type 0) (step : List Term → Step) (x : Conclusion) : Type 0 where
  pub inference : Inference
  pub subst : List Term
  pub rule : Rule inference
  pub unifier : IsMgu inference.variables inference.left inference.right subst
  pub step_is : x.step ≡ step subst
  pub clause_is : x.clause.literals ≡ literals_changed (applied subst) inference.conclusion

-- a rule gives something with some substitution
pub record CanConclude (Rule : Inference → Type 0) : Type 0 where
  pub inference : Inference
  pub tau : ℕ → Term
  pub rule : Rule inference
  pub equal : map (substituted tau) inference.left ≡ map (substituted tau) inference.right

-- the atom of literal i has a side s, and the other side isn't greater
pub record IsNotLesser (o : Order) (c : Clause) (i s : ℕ) : Type 0 where
  pub literal : Literal
  pub side : Term
  pub other : Term
  pub there : slice_get c.literals i ≡ Some literal
  pub sides : HasSides s literal.atom side other
  pub order : Greater o other side → ⊥

-- a path leads into a predicate, or into a side of an equation than which the other side isn't greater
abbrev pub EntersAtom : Order → Atom → List ℕ → Type 0
EntersAtom o Truth path = ⊥
EntersAtom o (Pred p args) path = Unit {0}
EntersAtom o (Equal s t) [] = ⊥
EntersAtom o (Equal s t) (k ∷ path) = (side : Term) × (other : Term) × HasSides k (Equal s t) side other × (Greater o other side → ⊥)

pub record Enters (o : Order) (c : Clause) (j : ℕ) (path : List ℕ) : Type 0 where
  pub literal : Literal
  pub there : slice_get c.literals j ≡ Some literal
  pub enters : EntersAtom o literal.atom path

abbrev pub SoloGives : Order → Name → Clause → SoloPlace → Conclusion → Type 0
SoloGives o n c (factor i j) x = (IsEligible o c i ⊎ IsEligible o c j) × Concludes (IsFactoring c i j) (Factor n i j) x
SoloGives o n c (refl_at i) x = IsEligible o c i × Concludes (IsReflexivity c i) (Refl n i) x
SoloGives o n c (eqfac i s j z) x = IsEligible o c i × IsNotLesser o c i s × Concludes (IsEqualityFactoring c i s j z) (EqFac n i s j z) x

abbrev pub PairGives : Order → Name → Clause → Name → Clause → PairPlace → Conclusion → Type 0
PairGives o m a n b (resolve i j) x = IsEligible o a i × IsEligible o b j × Concludes (IsResolution a i b j) (Resolve m i n j) x
PairGives o m a n b (para i s j path) x =
    IsEligible o a i × IsNotLesser o a i s × IsEligible o b j × Enters o b j path × Concludes (IsParamodulation a i s b j path) (Para m i s n j path) x

-- whether a place can give anything: the same conditions, with any substitution
abbrev pub SoloCan : Order → Clause → SoloPlace → Type 0
SoloCan o c (factor i j) = (IsEligible o c i ⊎ IsEligible o c j) × CanConclude (IsFactoring c i j)
SoloCan o c (refl_at i) = IsEligible o c i × CanConclude (IsReflexivity c i)
SoloCan o c (eqfac i s j z) = IsEligible o c i × IsNotLesser o c i s × CanConclude (IsEqualityFactoring c i s j z)

abbrev pub PairCan : Order → Clause → Clause → PairPlace → Type 0
PairCan o a b (resolve i j) = IsEligible o a i × IsEligible o b j × CanConclude (IsResolution a i b j)
PairCan o a b (para i s j path) =
    IsEligible o a i × IsNotLesser o a i s × IsEligible o b j × Enters o b j path × CanConclude (IsParamodulation a i s b j path)

-- the numbers below the count of a clause's literals
abbrev pub places_of : Clause → List ℕ
places_of c = range_with_len 0 (length c.literals)

abbrev pub literal_paths : Option Literal → List (List ℕ)
literal_paths None = []
literal_paths (Some l) = atom_paths l.atom

abbrev pub paths_in : Clause → ℕ → List (List ℕ)
paths_in c j = literal_paths (slice_get c.literals j)

abbrev pub sides : List ℕ
sides = 0 ∷ 1 ∷ []

-- all places, in the order in which their conclusions are listed
abbrev pub factors_from : Clause → ℕ → List SoloPlace
factors_from c i = map (factor i) (places_of c)

abbrev pub factor_places : Clause → List SoloPlace
factor_places c = flat_map (factors_from c) (places_of c)

abbrev pub refl_places : Clause → List SoloPlace
refl_places c = map refl_at (places_of c)

abbrev pub eqfacs_with : ℕ → ℕ → ℕ → List SoloPlace
eqfacs_with i s j = map (eqfac i s j) sides

abbrev pub eqfacs_of_side : Clause → ℕ → ℕ → List SoloPlace
eqfacs_of_side c i s = flat_map (eqfacs_with i s) (places_of c)

abbrev pub eqfacs_from : Clause → ℕ → List SoloPlace
eqfacs_from c i = flat_map (eqfacs_of_side c i) sides

abbrev pub eqfac_places : Clause → List SoloPlace
eqfac_places c = flat_map (eqfacs_from c) (places_of c)

abbrev pub solo_places : Clause → List SoloPlace
solo_places c =
    factor_places c ++ (refl_places c ++ eqfac_places c)

abbrev pub resolves_from : Clause → ℕ → List PairPlace
resolves_from b i = map (resolve i) (places_of b)

abbrev pub resolve_places : Clause → Clause → List PairPlace
resolve_places a b = flat_map (resolves_from b) (places_of a)

abbrev pub paras_into : Clause → ℕ → ℕ → ℕ → List PairPlace
paras_into b i s j = map (para i s j) (paths_in b j)

abbrev pub paras_of_side : Clause → ℕ → ℕ → List PairPlace
paras_of_side b i s = flat_map (paras_into b i s) (places_of b)

abbrev pub paras_from : Clause → ℕ → List PairPlace
paras_from b i = flat_map (paras_of_side b i) sides

abbrev pub para_places : Clause → Clause → List PairPlace
para_places a b = flat_map (paras_from b) (places_of a)

abbrev pub pair_places : Clause → Clause → List PairPlace
pair_places a b = resolve_places a b ++ para_places a b

-- the conclusions of one clause alone, and of two
abbrev pub SoloConcludes : Order → Name → Clause → List Conclusion → Type 0
SoloConcludes o n c found = Listed (SoloGives o n c) (SoloCan o c) (solo_places c) found

abbrev pub PairConcludes : Order → Name → Clause → Name → Clause → List Conclusion → Type 0
PairConcludes o m a n b found = Listed (PairGives o m a n b) (PairCan o a b) (pair_places a b) found

-- the step's substitution and its clause are within bounds
abbrev pub IsWithin : Conclusion → Type 0
IsWithin x = IsStepWithin (subst_of x.step) x.clause

-- a clause that conclusions can be drawn of: within bounds, and with few variables, as a tidy clause within bounds
-- has
pub record IsUsable (c : Clause) : Type 0 where
  pub within : IsWithinBounds c
  pub few : variable_bound_of c ≤ 65535

pub record IsPairable (a b : Clause) : Type 0 where
  pub first : IsUsable a
  pub second : IsUsable b

-- what a walk through the subterms of literal j of b knows: the literals are eligible, and side s of literal i of a
-- isn't the lesser one
pub record IsGiving (o : Order) (a b : Clause) (i s j : ℕ) : Type 0 where
  pub pairable : IsPairable a b
  pub in_a : i < 65536
  pub in_b : j < 65536
  pub giver : IsEligible o a i
  pub taker : IsEligible o b j
  pub side : IsNotLesser o a i s

-- literal j of a clause is an equation with this side and this other side
pub record HasSideAt (c : Clause) (j z : ℕ) (side other : Term) : Type 0 where
  pub literal : Literal
  pub there : slice_get c.literals j ≡ Some literal
  pub sides : HasSides z literal.atom side other

-- what a search for all conclusions answers
abbrev pub PairAnswers : Order → Name → Clause → Name → Clause → Result (List Conclusion) TermFault → Type 0
PairAnswers o m a n b (Ok found) = PairConcludes o m a n b found × AllByRecursion IsWithin found
PairAnswers o m a n b (Err OutOfBounds) = Overflows (PairGives o m a n b) IsWithin (pair_places a b)
PairAnswers o m a n b (Err Memory) = Unit {0}

abbrev pub SoloAnswers : Order → Name → Clause → Result (List Conclusion) TermFault → Type 0
SoloAnswers o n c (Ok found) = SoloConcludes o n c found × AllByRecursion IsWithin found
SoloAnswers o n c (Err OutOfBounds) = Overflows (SoloGives o n c) IsWithin (solo_places c)
SoloAnswers o n c (Err Memory) = Unit {0}
