-- Conclusions: each is right over the records of its names, within bounds and over the symbols.
use Rattle.std.proofs.Common.{◌≡◌, Bool, true, false, MatchBool, List, [], ◌∷◌, length, map, refl, ap, ap₂, sym, ◌∙◌, subst}
use Rattle.std.specs.Prelude.{Option, Some, None}
use Rattle.std.specs.List.{list_any}
use Rattle.std.specs.List.{AllByRecursion as Each}
use Rattle.cd_clause.specs.declared.Clause.{Clause}
use Rattle.cd_names.specs.declared.names.Name.{Name}
use Rattle.cd_kbo.specs.declared.order.Order.{Order}
use Rattle.cd_read.specs.declared.problem.Problem.{Problem}
use Rattle.cd_steps.specs.declared.Premise.TheVariants.{Named}
use Rattle.cd_steps.specs.declared.Step.{Step}
use Rattle.cd_steps.specs.declared.Step.TheVariants as step
use Rattle.cd_steps.specs.Steps.{StepOk}
use Rattle.cd_steps.specs.Premises.{premises, is_before, goes_on, IsRightOver}
use Rattle.cd_infer.specs.declared.Conclusion.{Conclusion}
use Rattle.cd_infer.specs.RunLaws.{infers, IsInferenceOn, IsConclusionOver}
use Rattle.cd_infer.proofs.InstanceLemmas.{solos_conclude_once, pairs_conclude_once, solos_are_steps, pairs_are_steps}
use Rattle.cd_infer.proofs.RunLemmas.{solos_are_inferences, pairs_are_inferences, solos_stay_over, pairs_stay_over}
use Rattle.cd_ledger.specs.declared.records.Record.{Record}
use Rattle.cd_ledger.specs.Records.{Registry, begins, is_copy, is_input}
use Rattle.cd_machine.specs.Rules.{symbols_of, IsConclusionWithin, IsFit, SoloConcludes, PairConcludes}
use Rattle.cd_machine.specs.Right.{standing}
use Rattle.cd_laws.specs.Premises.{IsRightConclusion}
use Rattle.cd_premises.proofs.Steps.{at_record}

-- an inference begins a record, and neither copies nor takes an input
inferring : (s : Step) → infers s ≡ true → (begins s ≡ true) × (is_copy s ≡ false) × (is_input s ≡ false)
inferring (step.Input k) h = absurd (let f : false ≡ true = h in cc)
inferring (step.Copy n) h = absurd (let f : false ≡ true = h in cc)
inferring (step.Resolve a i b j t) h = (refl, refl, refl)
inferring (step.Factor a i j t) h = (refl, refl, refl)
inferring (step.Refl a i t) h = (refl, refl, refl)
inferring (step.EqFac a i s j z t) h = (refl, refl, refl)
inferring (step.Para a i s b j path t) h = (refl, refl, refl)
inferring (step.Rewrite a s j path t) h = absurd (let f : false ≡ true = h in cc)
inferring step.Tidy h = absurd (let f : false ≡ true = h in cc)

right_conclusion : (p : Problem) (R : Registry) (x : Conclusion) → infers x.step ≡ true → IsRightOver (standing p R None) x.step x.clause → IsConclusionWithin x → IsConclusionOver (symbols_of p) x → IsRightConclusion p R x
unfolding IsConclusionWithin
right_conclusion p R x h right within over =
    let i = inferring x.step h in
    let fit : IsFit p x.clause = record { within = within.1; over = over.clause } in
    (i.0, i.1, record { right = right; fit = fit; subst = record { within = within.0; over = over.subst } }, fit, i.2)

module _ (p : Problem) (R : Registry) (a : Name) (r : Record) (at_a : R a ≡ Some r) where
  right_one : (s : Step) (c : Clause) → premises s ≡ Named a ∷ [] → StepOk s None (Some r.clause) None c → IsRightOver (standing p R None) s c
  right_one s c names ok =
      let goes : goes_on s ≡ false = ap (list_any is_before) names in
      record {
        clauses = r.clause ∷ [];
        are = ap (map (standing p R None)) names ∙ ap (λ (o : Option Clause). o ∷ []) (at_record R a r at_a);
        right = (
          sym (ap length names),
          subst (λ (b : Bool). MatchBool b (StepOk s (Some r.clause) None None c) (StepOk s None (Some r.clause) None c)) (sym goes) ok,
        );
      }

  right_two : (b : Name) (q : Record) → R b ≡ Some q → (s : Step) (c : Clause) → premises s ≡ Named a ∷ Named b ∷ [] → StepOk s None (Some r.clause) (Some q.clause) c → IsRightOver (standing p R None) s c
  right_two b q at_b s c names ok =
      let goes : goes_on s ≡ false = ap (list_any is_before) names in
      record {
        clauses = r.clause ∷ q.clause ∷ [];
        are = ap (map (standing p R None)) names ∙ ap₂ (λ (o u : Option Clause). o ∷ u ∷ []) (at_record R a r at_a) (at_record R b q at_b);
        right = (
          sym (ap length names),
          subst (λ (x : Bool). MatchBool x (StepOk s (Some r.clause) (Some q.clause) None c) (StepOk s None (Some r.clause) (Some q.clause) c)) (sym goes) ok,
        );
      }

  solo_all : (fit : IsFit p r.clause) (found : List Conclusion) → Each (λ x. StepOk x.step None (Some r.clause) None x.clause) found → Each (IsInferenceOn (Named a ∷ [])) found
      → Each (IsConclusionOver (symbols_of p)) found → Each IsConclusionWithin found → Each (IsRightConclusion p R) found
  solo_all fit [] steps inferences over within = tt
  solo_all fit (x ∷ found) steps inferences over within =
      (right_conclusion p R x inferences.0.infers (right_one x.step x.clause inferences.0.names steps.0) within.0 over.0, solo_all fit found steps.1 inferences.1 over.1 within.1)

  pair_all : (b : Name) (q : Record) → R b ≡ Some q → (found : List Conclusion) → Each (λ x. StepOk x.step None (Some r.clause) (Some q.clause) x.clause) found
      → Each (IsInferenceOn (Named a ∷ Named b ∷ [])) found → Each (IsConclusionOver (symbols_of p)) found → Each IsConclusionWithin found → Each (IsRightConclusion p R) found
  pair_all b q at_b [] steps inferences over within = tt
  pair_all b q at_b (x ∷ found) steps inferences over within =
      (right_conclusion p R x inferences.0.infers (right_two b q at_b x.step x.clause inferences.0.names steps.0) within.0 over.0, pair_all b q at_b found steps.1 inferences.1 over.1 within.1)

pub solo_right : (order : Order) (p : Problem) (R : Registry) (a : Name) (r : Record) (found : List Conclusion) → R a ≡ Some r → IsFit p r.clause
    → SoloConcludes order a r.clause found → Each IsConclusionWithin found → Each (IsRightConclusion p R) found
unfolding SoloConcludes
solo_right order p R a r found at_a fit is within =
    solo_all p R a r at_a fit found (solos_are_steps order a r.clause found is) (solos_are_inferences order a r.clause found is)
    (solos_stay_over order (symbols_of p) a r.clause found fit.over is) within

pub pair_right : (order : Order) (p : Problem) (R : Registry) (a b : Name) (r q : Record) (found : List Conclusion) → R a ≡ Some r → R b ≡ Some q → IsFit p r.clause → IsFit p q.clause
    → PairConcludes order a r.clause b q.clause found → Each IsConclusionWithin found → Each (IsRightConclusion p R) found
unfolding PairConcludes
pair_right order p R a b r q found at_a at_b fit_a fit_b is within =
    pair_all p R a r at_a b q at_b found (pairs_are_steps order a r.clause b q.clause found is) (pairs_are_inferences order a r.clause b q.clause found is)
    (pairs_stay_over order (symbols_of p) a r.clause b q.clause found fit_a.over fit_b.over is) within

pub solo_once : (order : Order) (a : Name) (c : Clause) (f g : List Conclusion) → SoloConcludes order a c f → SoloConcludes order a c g → f ≡ g
unfolding SoloConcludes
solo_once order a c f g x y = solos_conclude_once order a c f g x y

pub pair_once : (order : Order) (a b : Name) (c d : Clause) (f g : List Conclusion) → PairConcludes order a c b d f → PairConcludes order a c b d g → f ≡ g
unfolding PairConcludes
pair_once order a b c d f g x y = pairs_conclude_once order a c b d f g x y
