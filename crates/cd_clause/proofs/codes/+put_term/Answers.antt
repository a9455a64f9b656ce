use Rattle.std.proofs.Common.{◌∙◌, ◌++◌, ◌∷◌, [], ℕ, ap}
use Rattle.cd_clause.proofs.CodeLemmas.{on_ok, variable_put, application_begun, argument_put, application_end}
use Rattle.cd_clause.proofs.codes.+put_term.Goals as goal

pub loop-arg-init : goal.loop-arg-init
loop-arg-init t c =
    application_begun c.args.term.now c.in-App.f c.in-App.args c.as_slice-arg-items.result.now c.args.into.now c.push-in-App.new.self c.push-in-App-2.new.self
    c.in-App.is c.as_slice-arg-items.ensures c.in_ok-push-in-App.ensures.ok
    (c.in_ok-push-in-App-2.ensures.ok ∙ ap (λ (n : ℕ). c.push-in-App.new.self ++ n ∷ []) c.from.ensures)

pub loop-arg-preserved : goal.loop-arg-preserved
loop-arg-preserved t c = argument_put _ _ _ _ _ _ c.loop-arg-test.true c.arg-item.is c.loop-arg.invariant c.in_ok-put_term-in-App.ensures

pub returns-in_ok-push-in-Var : goal.returns-in_ok-push-in-Var
returns-in_ok-push-in-Var t c =
    on_ok c.push-in-Var.result (λ put. variable_put c.args.term.now c.in-Var.n c.args.into.now c.push.new.self c.push-in-Var.new.self c.in-Var.is c.in_ok-push-in-Var.ensures.ok put)
    c.push-in-Var.ensures.ok

pub returns-after-loop-arg : goal.returns-after-loop-arg
returns-after-loop-arg t c =
    on_ok c.push-in-App-3.result (λ put. application_end _ _ _ _ _ c.loop-arg-test.false c.loop-arg.invariant put) c.push-in-App-3.ensures.ok
