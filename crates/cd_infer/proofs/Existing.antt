-- Every clause, and every two clauses, have a list of conclusions.
use Rattle.std.proofs.Common.{◌≡◌, ◌⊎◌, inl, inr, ℕ, List, [], ◌∷◌, map, Some, slice_get, refl, sym, ◌∙◌, subst}
use Rattle.std.proofs.lemmas.Option.{same_Some}
use Rattle.cd_list.specs.Decisions.{Decided}
use Rattle.cd_list.proofs.Decisions.{both, either, given, never}
use Rattle.cd_term.specs.declared.Term.{Term}
use Rattle.cd_term.specs.Terms.{substituted, applied}
use Rattle.cd_clause.specs.declared.Atom.{Atom}
use Rattle.cd_clause.specs.declared.Atom.TheVariants.{Truth, Pred, Equal}
use Rattle.cd_clause.specs.declared.Literal.{Literal}
use Rattle.cd_clause.specs.declared.Clause.{Clause}
use Rattle.cd_clause.specs.Clauses.{literals_changed}
use Rattle.cd_clause.specs.Places.{HasSides}
use Rattle.cd_names.specs.declared.names.Name.{Name}
use Rattle.cd_unify.proofs.UnifierDecisions.{unifiers_decide}
use Rattle.cd_kbo.specs.declared.order.Order.{Order}
use Rattle.cd_kbo.specs.Kbo.{Greater}
use Rattle.cd_kbo.proofs.Greaters.{greater}
use Rattle.cd_key.proofs.EligibleLiterals.{eligibility_decides}
use Rattle.cd_steps.specs.declared.Step.{Step}
use Rattle.cd_steps.specs.declared.Step.TheVariants as step
use Rattle.cd_steps.specs.Rules.{Inference, IsResolution, IsFactoring, IsReflexivity, IsEqualityFactoring, IsParamodulation}
use Rattle.cd_steps.specs.Laws.{IsRegular}
use Rattle.cd_steps.proofs.Regular.{resolutions_are_regular, factorings_are_regular, reflexivities_are_regular, equality_factorings_are_regular, paramodulations_are_regular}
use Rattle.cd_infer.specs.declared.Conclusion.{Conclusion}
use Rattle.cd_infer.specs.Listed.{Listed}
use Rattle.cd_infer.specs.Conclusions.{SoloPlace, factor, refl_at, eqfac, PairPlace, resolve, para, Concludes, CanConclude, IsNotLesser, EntersAtom, Enters, SoloGives, PairGives, SoloCan, PairCan, solo_places, pair_places}
use Rattle.cd_infer.specs.RunLaws.{SolosExist, PairsExist}
use Rattle.cd_infer.proofs.Choosing.{SomeOf, SidesOf, sides_of, sides_one, some_of, resolutions, factorings, reflexivities, equality_factorings, paramodulations}

listed : {K X : Type 0} (Gives : K → X → Type 0) (Can : K → Type 0) → ((k : K) → ((x : X) × Gives k x) ⊎ (Can k → ⊥)) → (ks : List K) → (xs : List X) × Listed Gives Can ks xs
listed Gives Can f [] = ([], refl)
listed Gives Can f (k ∷ ks) = (let rest = listed Gives Can f ks in elim (f k) [
  | inl x ↦ (x.0 ∷ rest.0, inl (x.0, rest.0, x.1, rest.1, refl))
  | inr none ↦ (rest.0, inr (none, rest.1))
])

-- what a rule gives at a place
concludes : (cs : List Clause) (Rule : Inference → Type 0) → IsRegular cs Rule → (of : List Term → Step) → Decided (SomeOf Rule) →
    ((x : Conclusion) × Concludes Rule of x) ⊎ (CanConclude Rule → ⊥)
concludes cs Rule regular of (inr none) = inr (λ c. none (c.inference, c.rule))
concludes cs Rule regular of (inl i) =
    (let x = i.0 in
    let bounded = regular.bounded x i.1 in
    elim (unifiers_decide x.variables x.left x.right bounded.left bounded.right) [
      | inl s ↦ inl (
        record { step = of s.0; clause = record { literals = literals_changed (applied s.0) x.conclusion } },
        record { inference = x; subst = s.0; rule = i.1; unifier = s.1; step_is = refl; clause_is = refl },
      )
      | inr none ↦ inr (λ c. none.none c.tau (subst (λ (y : Inference). map (substituted c.tau) y.left ≡ map (substituted c.tau) y.right) (regular.one c.inference x c.rule i.1) c.equal))
    ])

module _ (o : Order) where
  not_lesser : (c : Clause) (i s : ℕ) → Decided (IsNotLesser o c i s)
  not_lesser c i s = at (some_of (slice_get c.literals i))
    where
      put : (l : Literal) → slice_get c.literals i ≡ Some l → Decided (SidesOf s l.atom) → Decided (IsNotLesser o c i s)
      put l e (inr none) = inr (λ x. none (x.side, x.other, subst (λ (m : Literal). HasSides s m.atom x.side x.other) (same_Some x.literal l (sym x.there ∙ e)) x.sides))
      put l e (inl u) = given (λ n. record { literal = l; side = u.0; other = u.1; there = e; sides = u.2; order = n })
          (λ x. let same = sides_one s l.atom x.side x.other u.0 u.1 (subst (λ (m : Literal). HasSides s m.atom x.side x.other) (same_Some x.literal l (sym x.there ∙ e)) x.sides) u.2 in
          (λ g. x.order (subst (λ z. Greater o z x.side) (sym same.1) (subst (λ z. Greater o u.1 z) (sym same.0) g))))
          (never (greater o u.1 u.0))

      at : Decided ((l : Literal) × (slice_get c.literals i ≡ Some l)) → Decided (IsNotLesser o c i s)
      at (inr none) = inr (λ x. none (x.literal, x.there))
      at (inl l) = put l.0 l.1 (sides_of s l.0.atom)

  enters_atom : (a : Atom) (path : List ℕ) → Decided (EntersAtom o a path)
  enters_atom Truth path = inr (λ e. e)
  enters_atom (Pred p ts) path = inl tt
  enters_atom (Equal s t) [] = inr (λ e. e)
  enters_atom (Equal s t) (k ∷ path) = at (sides_of k (Equal s t))
    where
      at : Decided (SidesOf k (Equal s t)) → Decided (EntersAtom o (Equal s t) (k ∷ path))
      at (inr none) = inr (λ x. none (x.0, x.1, x.2))
      at (inl u) = given (λ n. (u.0, u.1, u.2, n))
          (λ x. let same = sides_one k (Equal s t) x.0 x.1 u.0 u.1 x.2 u.2 in
          (λ g. x.3 (subst (λ z. Greater o z x.0) (sym same.1) (subst (λ z. Greater o u.1 z) (sym same.0) g))))
          (never (greater o u.1 u.0))

  enters : (c : Clause) (j : ℕ) (path : List ℕ) → Decided (Enters o c j path)
  enters c j path = at (some_of (slice_get c.literals j))
    where
      at : Decided ((l : Literal) × (slice_get c.literals j ≡ Some l)) → Decided (Enters o c j path)
      at (inr none) = inr (λ x. none (x.literal, x.there))
      at (inl l) = given (λ e. record { literal = l.0; there = l.1; enters = e }) (λ x. subst (λ (m : Literal). EntersAtom o m.atom path) (same_Some x.literal l.0 (sym x.there ∙ l.1)) x.enters) (enters_atom l.0.atom path)

  -- a condition, and then what a rule gives
  under : {A X C : Type 0} → Decided A → (X ⊎ (C → ⊥)) → (A × X) ⊎ (A × C → ⊥)
  under (inr no_a) f = inr (λ e. no_a e.0)
  under (inl a) (inl x) = inl (a, x)
  under (inl a) (inr none) = inr (λ e. none e.1)

  solo_place : (n : Name) (c : Clause) (k : SoloPlace) → ((x : Conclusion) × SoloGives o n c k x) ⊎ (SoloCan o c k → ⊥)
  solo_place n c (factor i j) =
      elim (under (either (eligibility_decides o c i) (eligibility_decides o c j)) (concludes (c ∷ []) (IsFactoring c i j) (factorings_are_regular c i j) (step.Factor n i j) (factorings c i j))) [
        | inl x ↦ inl (x.1.0, (x.0, x.1.1))
        | inr none ↦ inr none
      ]
  solo_place n c (refl_at i) =
      elim (under (eligibility_decides o c i) (concludes (c ∷ []) (IsReflexivity c i) (reflexivities_are_regular c i) (step.Refl n i) (reflexivities c i))) [
        | inl x ↦ inl (x.1.0, (x.0, x.1.1))
        | inr none ↦ inr none
      ]
  solo_place n c (eqfac i s j z) =
      elim (under (both (eligibility_decides o c i) (not_lesser c i s)) (concludes (c ∷ []) (IsEqualityFactoring c i s j z) (equality_factorings_are_regular c i s j z) (step.EqFac n i s j z) (equality_factorings c i s j z))) [
        | inl x ↦ inl (x.1.0, (x.0.0, x.0.1, x.1.1))
        | inr none ↦ inr (λ e. none ((e.0, e.1), e.2))
      ]

  pair_place : (m : Name) (a : Clause) (n : Name) (b : Clause) (k : PairPlace) → ((x : Conclusion) × PairGives o m a n b k x) ⊎ (PairCan o a b k → ⊥)
  pair_place m a n b (resolve i j) =
      elim (under (both (eligibility_decides o a i) (eligibility_decides o b j)) (concludes (a ∷ b ∷ []) (IsResolution a i b j) (resolutions_are_regular a i b j) (step.Resolve m i n j) (resolutions a i b j))) [
        | inl x ↦ inl (x.1.0, (x.0.0, x.0.1, x.1.1))
        | inr none ↦ inr (λ e. none ((e.0, e.1), e.2))
      ]
  pair_place m a n b (para i s j path) =
      elim (under (both (both (eligibility_decides o a i) (not_lesser a i s)) (both (eligibility_decides o b j) (enters b j path))) (concludes (a ∷ b ∷ []) (IsParamodulation a i s b j path) (paramodulations_are_regular a i s b j path) (step.Para m i s n j path) (paramodulations a i s b j path))) [
        | inl x ↦ inl (x.1.0, (x.0.0.0, x.0.0.1, x.0.1.0, x.0.1.1, x.1.1))
        | inr none ↦ inr (λ e. none (((e.0, e.1), (e.2, e.3)), e.4))
      ]

pub solos_exist : SolosExist
solos_exist o n c = listed (SoloGives o n c) (SoloCan o c) (solo_place o n c) (solo_places c)

pub pairs_exist : PairsExist
pairs_exist o m a n b = listed (PairGives o m a n b) (PairCan o a b) (pair_place o m a n b) (pair_places a b)
