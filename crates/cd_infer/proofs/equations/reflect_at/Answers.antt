use Rattle.std.proofs.Common.{ℕ, List, [], ◌∷◌, refl, arith}
use Rattle.std.proofs.lemmas.Bool.{false≢true}
use Rattle.cd_term.specs.declared.Term.{Term}
use Rattle.cd_key.proofs.BoundLemmas.{bounded_clauses}
use Rattle.cd_steps.specs.declared.Step.TheVariants.{Refl}
use Rattle.cd_steps.specs.Rules.{IsReflexivity}
use Rattle.cd_steps.specs.Drafts.{inference_of}
use Rattle.cd_steps.proofs.Unique.{reflexivity_one}
use Rattle.cd_infer.specs.Conclusions.{SoloGives, SoloCan, IsWithin, refl_at}
use Rattle.cd_infer.proofs.Listing.{adds_none}
use Rattle.cd_infer.proofs.BoundLemmas.{reflexivity_bounded}
use Rattle.cd_infer.proofs.Giving.{fault_gathers, concludes_none, concludes_outside, concluded_none, usable_short}
use Rattle.cd_infer.proofs.equations.reflect_at.Goals as goal

pub returns-in_default : goal.returns-in_default
returns-in_default c =
    adds_none (SoloGives c.args.one.now.order.now c.args.one.now.name c.args.one.now.c.now) (SoloCan c.args.one.now.order.now c.args.one.now.c.now) IsWithin (refl_at c.args.i ∷ []) c.args.found.now ((λ g. c.in_default.ensures g.1.inference g.1.rule), tt)

pub overflow_cast-i : goal.overflow_cast-i
overflow_cast-i c =
    omega (arith, c.requires.place, usable_short c.args.one.now.c.now c.requires.usable)

pub eligible-requires-clause-literals : goal.eligible-requires-clause-literals
eligible-requires-clause-literals c =
    bounded_clauses c.args.one.now.c.now c.requires.usable.within

pub returns-then-not-eligible : goal.returns-then-not-eligible
returns-then-not-eligible c =
    adds_none (SoloGives c.args.one.now.order.now c.args.one.now.name c.args.one.now.c.now) (SoloCan c.args.one.now.order.now c.args.one.now.c.now) IsWithin (refl_at c.args.i ∷ []) c.args.found.now ((λ g. false≢true (c.if-not-eligible.ensures.1 g.0)), tt)

pub conclude-requires : goal.conclude-requires
conclude-requires c =
    reflexivity_bounded c.args.one.now.c.now c.args.i c.in-Some.draft c.requires.usable c.in-Some.ensures.0 c.in-Some.ensures.1

pub overflow_cast-step : goal.overflow_cast-step
overflow_cast-step c =
    omega (arith, c.requires.place, usable_short c.args.one.now.c.now c.requires.usable)

pub returns-in-Err : goal.returns-in-Err
returns-in-Err c =
    fault_gathers ℕ (SoloGives c.args.one.now.order.now c.args.one.now.name c.args.one.now.c.now) (SoloCan c.args.one.now.order.now c.args.one.now.c.now) (refl_at c.args.i) [] [] (inference_of c.in-Some.draft) c.in-Err.fault c.in-Err.ensures (λ o.
    let x = concludes_outside (IsReflexivity c.args.one.now.c.now c.args.i) (reflexivity_one c.args.one.now.c.now c.args.i) (λ (s : List Term). Refl c.args.one.now.name c.args.i s) (inference_of c.in-Some.draft) (λ s. refl) c.in-Some.ensures.0 o in
    (x.0, (c.if-not-eligible.ensures.0 refl, x.1), x.2))

pub returns-in-Ok-None : goal.returns-in-Ok-None
returns-in-Ok-None c =
    adds_none (SoloGives c.args.one.now.order.now c.args.one.now.name c.args.one.now.c.now) (SoloCan c.args.one.now.order.now c.args.one.now.c.now) IsWithin (refl_at c.args.i ∷ []) c.args.found.now (
      (λ g.
          concludes_none (IsReflexivity c.args.one.now.c.now c.args.i) (reflexivity_one c.args.one.now.c.now c.args.i) (λ (s : List Term). Refl c.args.one.now.name c.args.i s) (inference_of c.in-Some.draft) c.in-Some.ensures.0
          (concluded_none (inference_of c.in-Some.draft) c.in-Ok-None.field-0 c.in-Ok-None.field-0-is c.in-Ok-None.ensures) g.1),
      tt,
    )
