use Rattle.std.proofs.Common.{rules, ◌≡◌, ◌∙◌, [], Some, None, subst, sym, ap}
use Rattle.cd_parse.specs.Steps.{app_step}
use Rattle.cd_parse.specs.Code.{Turns, state_of}
use Rattle.cd_parse.specs.declared.terminal.Terminal.{Terminal}
use Rattle.cd_parse.specs.declared.terminal.Terminal.TheVariants.{Sign}
use Rattle.cd_parse.specs.declared.terminal.Sign.TheVariants.{Equal, Unequal}
use Rattle.cd_parse.proofs.CodeLemmas.{app_in_frame, app_alone_is}
use Rattle.cd_parse.proofs.machine.after_app.Goals as goal

pub returns-in-Some-clause-turns : goal.returns-in-Some-clause-turns
returns-in-Some-clause-turns c =
    app_in_frame _ _ c.args.held.now c.args.word c.args.args c.in-Some.frame _ c.args.token.now c.in-Some.ensures c.in_frame.ensures.turns

pub returns-in-Some-take-clause-turns : goal.returns-in-Some-take-clause-turns
returns-in-Some-take-clause-turns c = λ k.
    subst (Turns c.end_equation.new.held c.end_equation.result)
    (sym (app_alone_is k c.args.held.now c.args.word c.args.args c.args.token.now [] (Some c.in-Some-take.left) c.in_default.ensures.0 (sym c.take.ensures.value ∙ c.in-Some-take.is)))
    (c.end_equation.ensures.turns k)

pub returns-in-Sign-Equal-clause-turns : goal.returns-in-Sign-Equal-clause-turns
returns-in-Sign-Equal-clause-turns c = λ k.
    let e : c.args.token.now ≡ Sign Equal = search rules in
    app_alone_is k c.args.held.now c.args.word c.args.args c.args.token.now [] None c.in_default.ensures.0
    (sym c.take.ensures.value ∙ c.in_default-take.is)
    ∙ ap (λ (u : Terminal). app_step (state_of k (record c.args.held.now { left = None })) c.args.word c.args.args [] u) e
    ∙ c.right_side.ensures.turns k

pub returns-in-Sign-Unequal-clause-turns : goal.returns-in-Sign-Unequal-clause-turns
returns-in-Sign-Unequal-clause-turns c = λ k.
    let e : c.args.token.now ≡ Sign Unequal = search rules in
    app_alone_is k c.args.held.now c.args.word c.args.args c.args.token.now [] None c.in_default.ensures.0
    (sym c.take.ensures.value ∙ c.in_default-take.is)
    ∙ ap (λ (u : Terminal). app_step (state_of k (record c.args.held.now { left = None })) c.args.word c.args.args [] u) e
    ∙ c.right_side-in-Sign-Unequal.ensures.turns k
