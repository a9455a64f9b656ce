-- What follows with any substitution is an instance of what follows with the most general one; at most one list
-- fits; and each conclusion is what its step gives.
use Rattle.std.proofs.Common.{◌≡◌, ℕ, ◌<◌, ◌≤◌, max, List, [], ◌∷◌, map, Some, None, ap, ap₂, ◌∙◌, sym, refl, subst, arith}
use Rattle.std.proofs.lemmas.List.{map-append}
use Rattle.cd_term.specs.declared.Term.{Term}
use Rattle.cd_term.specs.Terms.{bound_of, greatest, substituted, applied, value_of}
use Rattle.cd_term.proofs.Measures.{greatest-append}
use Rattle.cd_term.proofs.Occurrence.{occurs_below, substituted-agree}
use Rattle.cd_term.proofs.Substitutions.{substituted-substituted}
use Rattle.cd_clause.specs.declared.Atom.{Atom}
use Rattle.cd_clause.specs.declared.Atom.TheVariants.{Truth, Pred, Equal}
use Rattle.cd_clause.specs.declared.Literal.{Literal}
use Rattle.cd_clause.specs.declared.Clause.{Clause}
use Rattle.cd_clause.specs.Clauses.{terms_of, clause_terms, atom_changed, literals_changed}
use Rattle.cd_clause.specs.Places.{signed}
use Rattle.cd_unify.specs.Unifiers.{IsMgu}
use Rattle.cd_unify.proofs.LawLemmas.{unifiers_agree}
use Rattle.cd_steps.specs.declared.Step.{Step}
use Rattle.cd_steps.specs.Rules.{Inference, FollowsBy, IsResolution, IsFactoring, IsReflexivity, IsEqualityFactoring, IsParamodulation}
use Rattle.cd_steps.specs.Steps.{StepOk}
use Rattle.cd_steps.specs.Laws.{IsRegular}
use Rattle.cd_steps.proofs.Unique.{resolution_one, factoring_one, reflexivity_one, equality_factoring_one, paramodulation_one}
use Rattle.cd_steps.proofs.Regular.{resolutions_are_regular, factorings_are_regular, reflexivities_are_regular, equality_factorings_are_regular, paramodulations_are_regular}
use Rattle.cd_names.specs.declared.names.Name.{Name}
use Rattle.cd_kbo.specs.declared.order.Order.{Order}
use Rattle.cd_infer.specs.declared.Conclusion.{Conclusion}
use Rattle.cd_infer.specs.Conclusions.{Concludes, CanConclude, IsWithin, SoloPlace, factor, refl_at, eqfac, SoloGives, SoloCan, solo_places, PairPlace, resolve, para, PairGives, PairCan, pair_places}
use Rattle.cd_infer.specs.Laws.{IsMostGeneral, ResolventsAreMostGeneral, FactorsAreMostGeneral, ReflexivesAreMostGeneral, EqualityFactorsAreMostGeneral, ParamodulantsAreMostGeneral, SolosConcludeOnce, PairsConcludeOnce, SolosAreSteps, PairsAreSteps, SolosAreListed, PairsAreListed, SolosAreWithin, PairsAreWithin}
use Rattle.cd_infer.proofs.Listing.{listed_one, listed_has, listed_all, listed_within}

-- ---- instances

bound_cons : (l : Literal) (ls : List Literal) → greatest (map bound_of (clause_terms (l ∷ ls))) ≡ max (greatest (map bound_of (terms_of l.atom))) (greatest (map bound_of (clause_terms ls)))
bound_cons l ls = ap greatest (map-append bound_of (terms_of l.atom) (clause_terms ls)) ∙ greatest-append (map bound_of (terms_of l.atom)) (map bound_of (clause_terms ls))

module _ (n : ℕ) (tau r : ℕ → Term) (s : List Term) (h : (k : ℕ) → k < n → tau k ≡ substituted r (value_of s k)) where
  term_instance : (t : Term) → bound_of t ≤ n → substituted tau t ≡ substituted r (applied s t)
  term_instance t le =
      substituted-agree tau (λ k. substituted r (value_of s k)) t (λ k o. h k (omega (arith, occurs_below k t o)))
      ∙ sym (substituted-substituted r (value_of s) t)

  terms_instance : (ts : List Term) → greatest (map bound_of ts) ≤ n → map (substituted tau) ts ≡ map (substituted r) (map (applied s) ts)
  terms_instance [] le = refl
  terms_instance (t ∷ ts) le = let here = term_instance t (omega arith) in let rest = terms_instance ts (omega arith) in cc

  atom_instance : (a : Atom) → greatest (map bound_of (terms_of a)) ≤ n → atom_changed (substituted tau) a ≡ atom_changed (substituted r) (atom_changed (applied s) a)
  atom_instance Truth le = refl
  atom_instance (Pred p args) le = ap (Pred p) (terms_instance args le)
  atom_instance (Equal t u) le = ap₂ Equal (term_instance t (omega arith)) (term_instance u (omega arith))

  literals_instance : (ls : List Literal) → greatest (map bound_of (clause_terms ls)) ≤ n
      → literals_changed (substituted tau) ls ≡ literals_changed (substituted r) (literals_changed (applied s) ls)
  literals_instance [] le = refl
  literals_instance (l ∷ ls) le =
      ap₂ (λ (k : Literal) (ks : List Literal). k ∷ ks) (ap (signed l.positive) (atom_instance l.atom (omega (arith, bound_cons l ls)))) (literals_instance ls (omega (arith, bound_cons l ls)))

pub most_general : (Rule : Inference → Type 0) (cs : List Clause) → IsRegular cs Rule → (step : List Term → Step) (x : Conclusion) → Concludes Rule step x → IsMostGeneral Rule x
most_general Rule cs regular step x c inference tau rule equal =
    let same : c.inference ≡ inference = regular.one c.inference inference c.rule rule in
    let e : map (substituted tau) c.inference.left ≡ map (substituted tau) c.inference.right =
    subst (λ (i : Inference). map (substituted tau) i.left ≡ map (substituted tau) i.right) (sym same) equal in
    let g = c.unifier.general tau e in (
      g.0,
      ap (λ (i : Inference). literals_changed (substituted tau) i.conclusion) (sym same)
          ∙ literals_instance c.inference.variables tau g.0 c.subst g.1 c.inference.conclusion (regular.bounded c.inference c.rule).conclusion
          ∙ ap (literals_changed (substituted g.0)) (sym c.clause_is),
    )

-- ---- the rules

pub resolvents_are_most_general : ResolventsAreMostGeneral
resolvents_are_most_general a b i j step x k = most_general (IsResolution a i b j) (a ∷ b ∷ []) (resolutions_are_regular a i b j) step x k

pub factors_are_most_general : FactorsAreMostGeneral
factors_are_most_general c i j step x k = most_general (IsFactoring c i j) (c ∷ []) (factorings_are_regular c i j) step x k

pub reflexives_are_most_general : ReflexivesAreMostGeneral
reflexives_are_most_general c i step x k = most_general (IsReflexivity c i) (c ∷ []) (reflexivities_are_regular c i) step x k

pub equality_factors_are_most_general : EqualityFactorsAreMostGeneral
equality_factors_are_most_general c i s j z step x k = most_general (IsEqualityFactoring c i s j z) (c ∷ []) (equality_factorings_are_regular c i s j z) step x k

pub paramodulants_are_most_general : ParamodulantsAreMostGeneral
paramodulants_are_most_general a b i s j path step x k = most_general (IsParamodulation a i s b j path) (a ∷ b ∷ []) (paramodulations_are_regular a i s b j path) step x k

-- ---- at most one list

clause_of : List Literal → Clause
clause_of ls = record { literals = ls }

conclusion_of : Step → Clause → Conclusion
conclusion_of s c = record { step = s; clause = c }

pub concluded_one : (Rule : Inference → Type 0) → ((x y : Inference) → Rule x → Rule y → x ≡ y) → (step : List Term → Step) (x y : Conclusion) → Concludes Rule step x → Concludes Rule step y → x ≡ y
unfolding clause_of conclusion_of
concluded_one Rule one step x y p q =
    let same : p.inference ≡ q.inference = one p.inference q.inference p.rule q.rule in
    let u : IsMgu q.inference.variables q.inference.left q.inference.right p.subst = subst (λ (i : Inference). IsMgu i.variables i.left i.right p.subst) same p.unifier in
    let substs : p.subst ≡ q.subst = unifiers_agree q.inference.variables q.inference.left q.inference.right p.subst q.subst u q.unifier in
    ap₂ conclusion_of (p.step_is ∙ ap step substs ∙ sym q.step_is)
    (ap clause_of (p.clause_is ∙ ap₂ (λ (t : List Term) (i : Inference). literals_changed (applied t) i.conclusion) substs same ∙ sym q.clause_is))

pub can_of : (Rule : Inference → Type 0) (step : List Term → Step) (x : Conclusion) → Concludes Rule step x → CanConclude Rule
can_of Rule step x c = record { inference = c.inference; tau = value_of c.subst; rule = c.rule; equal = c.unifier.unifies }

pair_one : (o : Order) (m : Name) (a : Clause) (n : Name) (b : Clause) (k : PairPlace) (x y : Conclusion) → PairGives o m a n b k x → PairGives o m a n b k y → x ≡ y
pair_one o m a n b (resolve i j) x y g h = concluded_one (IsResolution a i b j) (resolution_one a i b j) _ x y g.2 h.2
pair_one o m a n b (para i s j path) x y g h = concluded_one (IsParamodulation a i s b j path) (paramodulation_one a i s b j path) _ x y g.4 h.4

pair_can : (o : Order) (m : Name) (a : Clause) (n : Name) (b : Clause) (k : PairPlace) (x : Conclusion) → PairGives o m a n b k x → PairCan o a b k
pair_can o m a n b (resolve i j) x g = (g.0, g.1, can_of (IsResolution a i b j) _ x g.2)
pair_can o m a n b (para i s j path) x g = (g.0, g.1, g.2, g.3, can_of (IsParamodulation a i s b j path) _ x g.4)

solo_one : (o : Order) (n : Name) (c : Clause) (k : SoloPlace) (x y : Conclusion) → SoloGives o n c k x → SoloGives o n c k y → x ≡ y
solo_one o n c (factor i j) x y g h = concluded_one (IsFactoring c i j) (factoring_one c i j) _ x y g.1 h.1
solo_one o n c (refl_at i) x y g h = concluded_one (IsReflexivity c i) (reflexivity_one c i) _ x y g.1 h.1
solo_one o n c (eqfac i s j z) x y g h = concluded_one (IsEqualityFactoring c i s j z) (equality_factoring_one c i s j z) _ x y g.2 h.2

solo_can : (o : Order) (n : Name) (c : Clause) (k : SoloPlace) (x : Conclusion) → SoloGives o n c k x → SoloCan o c k
solo_can o n c (factor i j) x g = (g.0, can_of (IsFactoring c i j) _ x g.1)
solo_can o n c (refl_at i) x g = (g.0, can_of (IsReflexivity c i) _ x g.1)
solo_can o n c (eqfac i s j z) x g = (g.0, g.1, can_of (IsEqualityFactoring c i s j z) _ x g.2)

pub pairs_conclude_once : PairsConcludeOnce
pairs_conclude_once o m a n b = listed_one (PairGives o m a n b) (PairCan o a b) (pair_one o m a n b) (pair_can o m a n b) (pair_places a b)

pub solos_conclude_once : SolosConcludeOnce
solos_conclude_once o n c = listed_one (SoloGives o n c) (SoloCan o c) (solo_one o n c) (solo_can o n c) (solo_places c)

-- ---- what is listed

pub pairs_are_listed : PairsAreListed
pairs_are_listed o m a n b found k is there can =
    listed_has (PairGives o m a n b) (PairCan o a b) (λ p. p ≡ k) (PairGives o m a n b k) (pair_places a b) found
    (λ p e. subst (PairCan o a b) (sym e) can) (λ p x e g. subst (λ (q : PairPlace). PairGives o m a n b q x) e g) is there

pub solos_are_listed : SolosAreListed
solos_are_listed o n c found k is there can =
    listed_has (SoloGives o n c) (SoloCan o c) (λ p. p ≡ k) (SoloGives o n c k) (solo_places c) found
    (λ p e. subst (SoloCan o c) (sym e) can) (λ p x e g. subst (λ (q : SoloPlace). SoloGives o n c q x) e g) is there

pub pairs_are_within : PairsAreWithin
pairs_are_within o m a n b found =
    listed_within (PairGives o m a n b) (PairCan o a b) IsWithin (pair_one o m a n b) (pair_can o m a n b) (pair_places a b) found

pub solos_are_within : SolosAreWithin
solos_are_within o n c found = listed_within (SoloGives o n c) (SoloCan o c) IsWithin (solo_one o n c) (solo_can o n c) (solo_places c) found

-- ---- steps

followed : (Rule : Inference → Type 0) (step : List Term → Step) (x : Conclusion) (k : Concludes Rule step x) → FollowsBy Rule k.subst x.clause
followed Rule step x k = (k.inference, k.rule, record { covers = k.unifier.covers; equal = k.unifier.unifies; literals = k.clause_is })

solo_step : (o : Order) (n : Name) (c : Clause) (k : SoloPlace) (x : Conclusion) → SoloGives o n c k x → StepOk x.step None (Some c) None x.clause
solo_step o n c (factor i j) x g = subst (λ (t : Step). StepOk t None (Some c) None x.clause) (sym g.1.step_is) (followed (IsFactoring c i j) _ x g.1)
solo_step o n c (refl_at i) x g = subst (λ (t : Step). StepOk t None (Some c) None x.clause) (sym g.1.step_is) (followed (IsReflexivity c i) _ x g.1)
solo_step o n c (eqfac i s j z) x g = subst (λ (t : Step). StepOk t None (Some c) None x.clause) (sym g.2.step_is) (followed (IsEqualityFactoring c i s j z) _ x g.2)

pair_step : (o : Order) (m : Name) (a : Clause) (n : Name) (b : Clause) (k : PairPlace) (x : Conclusion) → PairGives o m a n b k x → StepOk x.step None (Some a) (Some b) x.clause
pair_step o m a n b (resolve i j) x g = subst (λ (t : Step). StepOk t None (Some a) (Some b) x.clause) (sym g.2.step_is) (followed (IsResolution a i b j) _ x g.2)
pair_step o m a n b (para i s j path) x g =
    subst (λ (t : Step). StepOk t None (Some a) (Some b) x.clause) (sym g.4.step_is) (followed (IsParamodulation a i s b j path) _ x g.4)

pub solos_are_steps : SolosAreSteps
solos_are_steps o n c found = listed_all (SoloGives o n c) (SoloCan o c) (λ x. StepOk x.step None (Some c) None x.clause) (solo_step o n c) (solo_places c) found

pub pairs_are_steps : PairsAreSteps
pairs_are_steps o m a n b found =
    listed_all (PairGives o m a n b) (PairCan o a b) (λ x. StepOk x.step None (Some a) (Some b) x.clause) (pair_step o m a n b) (pair_places a b) found
