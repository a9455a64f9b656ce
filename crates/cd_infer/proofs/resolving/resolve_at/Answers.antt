use Rattle.std.proofs.Common.{ℕ, [], ◌∷◌, List, refl, arith}
use Rattle.std.proofs.lemmas.Bool.{false≢true}
use Rattle.cd_term.specs.declared.Term.{Term}
use Rattle.cd_steps.specs.declared.Step.TheVariants.{Resolve}
use Rattle.cd_steps.specs.Rules.{IsResolution}
use Rattle.cd_steps.specs.Drafts.{inference_of}
use Rattle.cd_steps.proofs.Unique.{resolution_one}
use Rattle.cd_infer.specs.Conclusions.{PairGives, PairCan, IsWithin, resolve}
use Rattle.cd_infer.proofs.Listing.{adds_none}
use Rattle.cd_infer.proofs.BoundLemmas.{resolution_bounded}
use Rattle.cd_infer.proofs.Giving.{fault_gathers, concludes_none, concludes_outside, concluded_none, usable_short}
use Rattle.cd_infer.proofs.resolving.resolve_at.Goals as goal

pub returns-in_default : goal.returns-in_default
returns-in_default c = adds_none (PairGives c.args.two.now.order.now c.args.two.now.a_name c.args.two.now.a.now c.args.two.now.b_name c.args.two.now.b.now) (PairCan c.args.two.now.order.now c.args.two.now.a.now c.args.two.now.b.now) IsWithin (resolve c.args.i c.args.j ∷ []) c.args.found.now ((λ g. c.in_default.ensures g.2.inference g.2.rule), tt)

pub overflow_cast-step : goal.overflow_cast-step
overflow_cast-step c = omega (arith, c.requires.in_a, usable_short c.args.two.now.a.now c.requires.pairable.first)

pub overflow_cast-step-in-Ok-Some : goal.overflow_cast-step-in-Ok-Some
overflow_cast-step-in-Ok-Some c = omega (arith, c.requires.in_b, usable_short c.args.two.now.b.now c.requires.pairable.second)

pub returns-then-not-eligible : goal.returns-then-not-eligible
returns-then-not-eligible c = adds_none (PairGives c.args.two.now.order.now c.args.two.now.a_name c.args.two.now.a.now c.args.two.now.b_name c.args.two.now.b.now) (PairCan c.args.two.now.order.now c.args.two.now.a.now c.args.two.now.b.now) IsWithin (resolve c.args.i c.args.j ∷ []) c.args.found.now ((λ g. false≢true (c.if-not-eligible.ensures.1 g.1)), tt)

pub conclude-requires : goal.conclude-requires
conclude-requires c = resolution_bounded c.args.two.now.a.now c.args.two.now.b.now c.args.i c.args.j c.in-Some.draft c.requires.pairable c.in-Some.ensures.0 c.in-Some.ensures.1

pub returns-in-Err : goal.returns-in-Err
returns-in-Err c =
    fault_gathers ℕ (PairGives c.args.two.now.order.now c.args.two.now.a_name c.args.two.now.a.now c.args.two.now.b_name c.args.two.now.b.now) (PairCan c.args.two.now.order.now c.args.two.now.a.now c.args.two.now.b.now) (resolve c.args.i c.args.j) [] [] (inference_of c.in-Some.draft) c.in-Err.fault c.in-Err.ensures (λ o.
    let x = concludes_outside (IsResolution c.args.two.now.a.now c.args.i c.args.two.now.b.now c.args.j) (resolution_one c.args.two.now.a.now c.args.i c.args.two.now.b.now c.args.j)
    (λ (s : List Term). Resolve c.args.two.now.a_name c.args.i c.args.two.now.b_name c.args.j s) (inference_of c.in-Some.draft) (λ s. refl) c.in-Some.ensures.0 o in
    (x.0, (c.requires.giver, c.if-not-eligible.ensures.0 refl, x.1), x.2))

pub returns-in-Ok-None : goal.returns-in-Ok-None
returns-in-Ok-None c =
    adds_none (PairGives c.args.two.now.order.now c.args.two.now.a_name c.args.two.now.a.now c.args.two.now.b_name c.args.two.now.b.now) (PairCan c.args.two.now.order.now c.args.two.now.a.now c.args.two.now.b.now) IsWithin (resolve c.args.i c.args.j ∷ []) c.args.found.now (
      (λ g.
          concludes_none (IsResolution c.args.two.now.a.now c.args.i c.args.two.now.b.now c.args.j) (resolution_one c.args.two.now.a.now c.args.i c.args.two.now.b.now c.args.j)
          (λ (s : List Term). Resolve c.args.two.now.a_name c.args.i c.args.two.now.b_name c.args.j s) (inference_of c.in-Some.draft) c.in-Some.ensures.0
          (concluded_none (inference_of c.in-Some.draft) c.in-Ok-None.field-0 c.in-Ok-None.field-0-is c.in-Ok-None.ensures) g.2),
      tt,
    )
