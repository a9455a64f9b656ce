use Rattle.std.proofs.Common.{◌∙◌, [], ◌∷◌, ◌++◌, ap, length, replicate, subst, sym}
use Rattle.cd_peer.specs.Plain.{plain}
use Rattle.cd_peer.specs.Whole.{IsWhole}
use Rattle.cd_top.specs.Running.{HasRun}
use Rattle.cd_top.proofs.Runs.{alone_run}
use Rattle.cd_top.proofs.running.run_alone.Goals as goal

pub returns : goal.returns
returns c =
    let o = c.args.options.now in
    let p = c.args.problem.now in
    let done = c.in_ok-peer.ensures.finished in
    let state = c.into_state-state.result in
    let is = c.into_state-state.ensures.local in
    let whole = subst (λ q. IsWhole plain q state) c.in_ok-peer.ensures.problem (c.into_state-state.ensures.whole c.in_ok-peer.ensures.standing) in
    let events = c.as_slice.ensures ∙ ap (λ s. s.journal) is in
    let order = c.in_ok-order.ensures {u = tt} ∙ ap (λ es. replicate (length es) 0) events in
    let items = (c.in_ok-push.ensures {u = tt}).items ∙ ap (λ ss. ss ++ state ∷ []) (c.in_ok-states.ensures {u = tt}).items in
    subst (λ ss. HasRun o p ss c.in_ok-order.order) (sym items)
    (alone_run o p done.underway.start c.in_ok-peer.peer.local state c.requires.free c.requires.one done.underway.starting done.underway.run done.ended is whole c.in_ok-order.order order)
