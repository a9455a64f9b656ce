use Rattle.std.proofs.Common.{ℕ, [], ◌∷◌, List, refl, sym, subst}
use Rattle.cd_term.specs.declared.Term.{Term}
use Rattle.cd_steps.specs.declared.Step.{Step}
use Rattle.cd_infer.specs.declared.Conclusion.{Conclusion}
use Rattle.cd_steps.specs.declared.Step.TheVariants.{Para}
use Rattle.cd_steps.specs.Bounds.{IsStepWithin, subst_of}
use Rattle.cd_steps.specs.Rules.{IsParamodulation}
use Rattle.cd_steps.specs.Drafts.{inference_of}
use Rattle.cd_steps.proofs.Unique.{paramodulation_one}
use Rattle.cd_infer.specs.Conclusions.{PairGives, PairCan, IsWithin, para}
use Rattle.cd_infer.proofs.Listing.{adds_none, adds_one}
use Rattle.cd_infer.proofs.BoundLemmas.{paramodulation_bounded}
use Rattle.cd_infer.proofs.Giving.{fault_gathers, concludes_none, concludes_outside, concluded_none, concluded_some}
use Rattle.cd_infer.proofs.paramodulating.para_at.Goals as goal

pub returns-then-clashes_at : goal.returns-then-clashes_at
returns-then-clashes_at c = adds_none (PairGives c.args.two.now.order.now c.args.two.now.a_name c.args.two.now.a.now c.args.two.now.b_name c.args.two.now.b.now) (PairCan c.args.two.now.order.now c.args.two.now.a.now c.args.two.now.b.now) IsWithin (para c.args.places.i c.args.places.s c.args.places.j c.args.steps.now ∷ []) c.args.found.now ((λ g. c.clashes_at.ensures c.if-clashes_at.true g.4), tt)

pub returns-in_default : goal.returns-in_default
returns-in_default c = adds_none (PairGives c.args.two.now.order.now c.args.two.now.a_name c.args.two.now.a.now c.args.two.now.b_name c.args.two.now.b.now) (PairCan c.args.two.now.order.now c.args.two.now.a.now c.args.two.now.b.now) IsWithin (para c.args.places.i c.args.places.s c.args.places.j c.args.steps.now ∷ []) c.args.found.now ((λ g. c.in_default.ensures g.4.inference g.4.rule), tt)

pub conclude-requires : goal.conclude-requires
conclude-requires c =
    paramodulation_bounded c.args.two.now.a.now c.args.two.now.b.now c.args.places.i c.args.places.s c.args.places.j c.args.steps.now c.in-Some.draft c.requires.giving.pairable c.in-Some.ensures.0 c.in-Some.ensures.1

pub returns-in-Err : goal.returns-in-Err
returns-in-Err c =
    fault_gathers ℕ (PairGives c.args.two.now.order.now c.args.two.now.a_name c.args.two.now.a.now c.args.two.now.b_name c.args.two.now.b.now) (PairCan c.args.two.now.order.now c.args.two.now.a.now c.args.two.now.b.now) (para c.args.places.i c.args.places.s c.args.places.j c.args.steps.now) [] [] (inference_of c.in-Some.draft) c.in-Err.fault c.in-Err.ensures (λ o.
    let x = concludes_outside (IsParamodulation c.args.two.now.a.now c.args.places.i c.args.places.s c.args.two.now.b.now c.args.places.j c.args.steps.now) (paramodulation_one c.args.two.now.a.now c.args.places.i c.args.places.s c.args.two.now.b.now c.args.places.j c.args.steps.now) (λ (s : List Term). Para c.args.two.now.a_name c.args.places.i c.args.places.s c.args.two.now.b_name c.args.places.j c.args.steps.now s) (inference_of c.in-Some.draft) (λ s. refl) c.in-Some.ensures.0 o in
    (x.0, (c.requires.giving.giver, c.requires.giving.side, c.requires.giving.taker, c.requires.enters, x.1), x.2))

pub returns-in-Ok-None : goal.returns-in-Ok-None
returns-in-Ok-None c =
    adds_none (PairGives c.args.two.now.order.now c.args.two.now.a_name c.args.two.now.a.now c.args.two.now.b_name c.args.two.now.b.now) (PairCan c.args.two.now.order.now c.args.two.now.a.now c.args.two.now.b.now) IsWithin (para c.args.places.i c.args.places.s c.args.places.j c.args.steps.now ∷ []) c.args.found.now (
      (λ g.
          concludes_none (IsParamodulation c.args.two.now.a.now c.args.places.i c.args.places.s c.args.two.now.b.now c.args.places.j c.args.steps.now) (paramodulation_one c.args.two.now.a.now c.args.places.i c.args.places.s c.args.two.now.b.now c.args.places.j c.args.steps.now) (λ (s : List Term). Para c.args.two.now.a_name c.args.places.i c.args.places.s c.args.two.now.b_name c.args.places.j c.args.steps.now s) (inference_of c.in-Some.draft) c.in-Some.ensures.0
          (concluded_none (inference_of c.in-Some.draft) c.in-Ok-None.field-0 c.in-Ok-None.field-0-is c.in-Ok-None.ensures) g.4),
      tt,
    )

pub returns-in-Ok : goal.returns-in-Ok
returns-in-Ok c =
    let i = inference_of c.in-Some.draft in
    let h = concluded_some i c.in-Ok-Some.field-0 c.in-Ok-Some.concluded c.in-Ok-Some.field-0-is c.in-Ok-Some.ensures in
    let rule = c.in-Some.ensures in
    let x : Conclusion = record { step = c.in_ok-step-in-Ok-Some.step; clause = c.in-Ok-Some.concluded.clause } in
    adds_one (PairGives c.args.two.now.order.now c.args.two.now.a_name c.args.two.now.a.now c.args.two.now.b_name c.args.two.now.b.now) (PairCan c.args.two.now.order.now c.args.two.now.a.now c.args.two.now.b.now) IsWithin (para c.args.places.i c.args.places.s c.args.places.j c.args.steps.now) x c.args.found.now c.push.new.self (
      c.requires.giving.giver,
      c.requires.giving.side,
      c.requires.giving.taker,
      c.requires.enters,
      record { inference = i; subst = c.in-Ok-Some.concluded.subst; rule = rule.0; unifier = h.unifier; step_is = c.in_ok-step-in-Ok-Some.ensures; clause_is = h.clause_is },
    )
    (subst (λ (st : Step). IsStepWithin (subst_of st) c.in-Ok-Some.concluded.clause) (sym c.in_ok-step-in-Ok-Some.ensures) h.within)
    c.in-Ok.ensures.ok
