-- Each conclusion is an inference on the clauses that are named, over their symbols.
use Rattle.std.proofs.Common.{◌≡◌, true, List, [], ◌∷◌, sum_by, map, refl, ap, sym, ◌∙◌, subst}
use Rattle.std.specs.List.{AllByRecursion}
use Rattle.cd_list.proofs.Decisions.{both, at_most}
use Rattle.cd_term.specs.declared.Term.{Term}
use Rattle.cd_term.specs.Terms.{value_of, size_of, depth_of, bound_of, greatest}
use Rattle.cd_term.specs.Symbols.{Symbols, AreOver}
use Rattle.cd_term.proofs.OverLemmas.{value_over}
use Rattle.cd_clause.specs.declared.Clause.{Clause}
use Rattle.cd_clause.specs.Over.{LiteralsOver}
use Rattle.cd_clause.proofs.Deciding.{bounds_decide}
use Rattle.cd_clause.proofs.OverLemmas.{literals_over}
use Rattle.cd_names.specs.declared.names.Name.{Name}
use Rattle.cd_kbo.specs.declared.order.Order.{Order}
use Rattle.cd_unify.proofs.OverLemmas.{unifiers_are_over}
use Rattle.cd_steps.specs.declared.Premise.{Premise}
use Rattle.cd_steps.specs.declared.Premise.TheVariants.{Named}
use Rattle.cd_steps.specs.declared.Step.{Step}
use Rattle.cd_steps.specs.declared.Step.TheVariants as step
use Rattle.cd_steps.specs.Bounds.{subst_of}
use Rattle.cd_steps.specs.Premises.{premises}
use Rattle.cd_steps.specs.Rules.{Inference, IsResolution, IsFactoring, IsReflexivity, IsEqualityFactoring, IsParamodulation}
use Rattle.cd_steps.specs.Laws.{IsRegular}
use Rattle.cd_steps.proofs.Regular.{resolutions_are_regular, factorings_are_regular, reflexivities_are_regular, equality_factorings_are_regular, paramodulations_are_regular}
use Rattle.cd_infer.specs.declared.Conclusion.{Conclusion}
use Rattle.cd_infer.specs.Conclusions.{Concludes, SoloPlace, factor, refl_at, eqfac, SoloGives, SoloCan, solo_places, PairPlace, resolve, para, PairGives, PairCan, pair_places}
use Rattle.cd_infer.specs.RunLaws.{infers, IsInferenceOn, SolosAreInferences, PairsAreInferences, IsConclusionOver, SolosStayOver, PairsStayOver, BoundsDecide}
use Rattle.cd_infer.proofs.Listing.{listed_all}

-- ---- inferences

is_inference : (ps : List Premise) (x : Conclusion) (s : Step) → x.step ≡ s → infers s ≡ true → premises s ≡ ps → IsInferenceOn ps x
is_inference ps x s is a b = record { infers = ap infers is ∙ a; names = ap premises is ∙ b }

solo_inference : (o : Order) (n : Name) (c : Clause) (k : SoloPlace) (x : Conclusion) → SoloGives o n c k x → IsInferenceOn (Named n ∷ []) x
solo_inference o n c (factor i j) x g = is_inference (Named n ∷ []) x (step.Factor n i j g.1.subst) g.1.step_is refl refl
solo_inference o n c (refl_at i) x g = is_inference (Named n ∷ []) x (step.Refl n i g.1.subst) g.1.step_is refl refl
solo_inference o n c (eqfac i s j z) x g = is_inference (Named n ∷ []) x (step.EqFac n i s j z g.2.subst) g.2.step_is refl refl

pair_inference : (o : Order) (m : Name) (a : Clause) (n : Name) (b : Clause) (k : PairPlace) (x : Conclusion) → PairGives o m a n b k x → IsInferenceOn (Named m ∷ Named n ∷ []) x
pair_inference o m a n b (resolve i j) x g = is_inference (Named m ∷ Named n ∷ []) x (step.Resolve m i n j g.2.subst) g.2.step_is refl refl
pair_inference o m a n b (para i s j path) x g = is_inference (Named m ∷ Named n ∷ []) x (step.Para m i s n j path g.4.subst) g.4.step_is refl refl

pub solos_are_inferences : SolosAreInferences
solos_are_inferences o n c found = listed_all (SoloGives o n c) (SoloCan o c) (IsInferenceOn (Named n ∷ [])) (solo_inference o n c) (solo_places c) found

pub pairs_are_inferences : PairsAreInferences
pairs_are_inferences o m a n b found =
    listed_all (PairGives o m a n b) (PairCan o a b) (IsInferenceOn (Named m ∷ Named n ∷ [])) (pair_inference o m a n b) (pair_places a b) found

-- ---- symbols

module _ (y : Symbols) where
  over_of : (cs : List Clause) (Rule : Inference → Type 0) → IsRegular cs Rule → AllByRecursion (λ c. LiteralsOver y c.literals) cs →
      (of : List Term → Step) → ((s : List Term) → subst_of (of s) ≡ s) → (x : Conclusion) → Concludes Rule of x → IsConclusionOver y x
  over_of cs Rule regular all of same x k =
      (let over = regular.over y k.inference all k.rule in
      let values : AreOver y k.subst = unifiers_are_over y k.inference.variables k.inference.left k.inference.right k.subst k.unifier over.left over.right in
      record {
        subst = subst (AreOver y) (sym (ap subst_of k.step_is ∙ same k.subst)) values;
        clause = subst (LiteralsOver y) (sym k.clause_is) (literals_over y (value_of k.subst) (value_over y k.subst values) k.inference.conclusion over.conclusion);
      })

  solo_over : (o : Order) (n : Name) (c : Clause) → LiteralsOver y c.literals → (k : SoloPlace) (x : Conclusion) → SoloGives o n c k x → IsConclusionOver y x
  solo_over o n c all (factor i j) x g = over_of (c ∷ []) (IsFactoring c i j) (factorings_are_regular c i j) (all, tt) (step.Factor n i j) (λ s. refl) x g.1
  solo_over o n c all (refl_at i) x g = over_of (c ∷ []) (IsReflexivity c i) (reflexivities_are_regular c i) (all, tt) (step.Refl n i) (λ s. refl) x g.1
  solo_over o n c all (eqfac i s j z) x g =
      over_of (c ∷ []) (IsEqualityFactoring c i s j z) (equality_factorings_are_regular c i s j z) (all, tt) (step.EqFac n i s j z) (λ s. refl) x g.2

  pair_over : (o : Order) (m : Name) (a : Clause) (n : Name) (b : Clause) → LiteralsOver y a.literals → LiteralsOver y b.literals →
      (k : PairPlace) (x : Conclusion) → PairGives o m a n b k x → IsConclusionOver y x
  pair_over o m a n b first second (resolve i j) x g =
      over_of (a ∷ b ∷ []) (IsResolution a i b j) (resolutions_are_regular a i b j) (first, (second, tt)) (step.Resolve m i n j) (λ s. refl) x g.2
  pair_over o m a n b first second (para i s j path) x g =
      over_of (a ∷ b ∷ []) (IsParamodulation a i s b j path) (paramodulations_are_regular a i s b j path) (first, (second, tt)) (step.Para m i s n j path) (λ s. refl) x g.4

pub solos_stay_over : SolosStayOver
solos_stay_over o y n c found all = listed_all (SoloGives o n c) (SoloCan o c) (IsConclusionOver y) (solo_over y o n c all) (solo_places c) found

pub pairs_stay_over : PairsStayOver
pairs_stay_over o y m a n b found first second =
    listed_all (PairGives o m a n b) (PairCan o a b) (IsConclusionOver y) (pair_over y o m a n b first second) (pair_places a b) found

-- ---- bounds

pub within_decides : BoundsDecide
within_decides x = both
    (both (both (at_most (sum_by size_of (subst_of x.step)) 65535) (at_most (greatest (map depth_of (subst_of x.step))) 1000))
    (at_most (greatest (map bound_of (subst_of x.step))) 65536))
    (bounds_decide x.clause)
