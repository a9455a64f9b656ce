use Rattle.std.proofs.Common.{ℕ, List, [], ◌∷◌, refl, arith}
use Rattle.cd_term.specs.declared.Term.{Term}
use Rattle.cd_steps.specs.declared.Step.TheVariants.{EqFac}
use Rattle.cd_steps.specs.Rules.{IsEqualityFactoring}
use Rattle.cd_steps.specs.Drafts.{inference_of}
use Rattle.cd_steps.proofs.Unique.{equality_factoring_one}
use Rattle.cd_infer.specs.Conclusions.{SoloGives, SoloCan, IsWithin, eqfac}
use Rattle.cd_infer.proofs.Listing.{adds_none}
use Rattle.cd_infer.proofs.BoundLemmas.{equality_factoring_bounded}
use Rattle.cd_infer.proofs.Giving.{fault_gathers, concludes_none, concludes_outside, concluded_none, usable_short}
use Rattle.cd_infer.proofs.equations.equate_at.Goals as goal

pub returns-in_default : goal.returns-in_default
returns-in_default c =
    adds_none (SoloGives c.args.one.now.order.now c.args.one.now.name c.args.one.now.c.now) (SoloCan c.args.one.now.order.now c.args.one.now.c.now) IsWithin (eqfac c.args.i c.args.s c.args.j c.args.z ∷ []) c.args.found.now ((λ g. c.in_default.ensures g.2.inference g.2.rule), tt)

pub conclude-requires : goal.conclude-requires
conclude-requires c =
    equality_factoring_bounded c.args.one.now.c.now c.args.i c.args.s c.args.j c.args.z c.in-Some.draft c.requires.usable c.in-Some.ensures.0 c.in-Some.ensures.1

pub overflow_cast-step : goal.overflow_cast-step
overflow_cast-step c =
    omega (arith, c.requires.in_first, usable_short c.args.one.now.c.now c.requires.usable)

pub overflow_cast-step-in-Ok-Some : goal.overflow_cast-step-in-Ok-Some
overflow_cast-step-in-Ok-Some c =
    omega (arith, c.requires.in_second, usable_short c.args.one.now.c.now c.requires.usable)

pub returns-in-Err : goal.returns-in-Err
returns-in-Err c =
    fault_gathers ℕ (SoloGives c.args.one.now.order.now c.args.one.now.name c.args.one.now.c.now) (SoloCan c.args.one.now.order.now c.args.one.now.c.now) (eqfac c.args.i c.args.s c.args.j c.args.z) [] [] (inference_of c.in-Some.draft) c.in-Err.fault c.in-Err.ensures (λ o.
    let x = concludes_outside (IsEqualityFactoring c.args.one.now.c.now c.args.i c.args.s c.args.j c.args.z) (equality_factoring_one c.args.one.now.c.now c.args.i c.args.s c.args.j c.args.z) (λ (s : List Term). EqFac c.args.one.now.name c.args.i c.args.s c.args.j c.args.z s) (inference_of c.in-Some.draft) (λ s. refl) c.in-Some.ensures.0 o in
    (x.0, (c.requires.is_eligible, c.requires.side, x.1), x.2))

pub returns-in-Ok-None : goal.returns-in-Ok-None
returns-in-Ok-None c =
    adds_none (SoloGives c.args.one.now.order.now c.args.one.now.name c.args.one.now.c.now) (SoloCan c.args.one.now.order.now c.args.one.now.c.now) IsWithin (eqfac c.args.i c.args.s c.args.j c.args.z ∷ []) c.args.found.now (
      (λ g.
          concludes_none (IsEqualityFactoring c.args.one.now.c.now c.args.i c.args.s c.args.j c.args.z) (equality_factoring_one c.args.one.now.c.now c.args.i c.args.s c.args.j c.args.z) (λ (s : List Term). EqFac c.args.one.now.name c.args.i c.args.s c.args.j c.args.z s) (inference_of c.in-Some.draft) c.in-Some.ensures.0
          (concluded_none (inference_of c.in-Some.draft) c.in-Ok-None.field-0 c.in-Ok-None.field-0-is c.in-Ok-None.ensures) g.2),
      tt,
    )
