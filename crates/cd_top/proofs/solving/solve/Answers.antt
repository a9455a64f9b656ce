use Rattle.std.proofs.Common.{◌<◌, ◌^◌, Some, sym, subst, length, map}
use Rattle.cd_acts.specs.View.{local_of}
use Rattle.cd_peer.specs.Plain.{plain}
use Rattle.cd_top.specs.Ends.{IsSolved, IsTold}
use Rattle.cd_top.proofs.Accepting.{text_accepted}
use Rattle.cd_top.proofs.Ending.{DerivationsAreAccepted, RunLaws, account_of, solved_is}
use Rattle.cd_top.proofs.Runs.{few_states}
use Rattle.cd_top.proofs.solving.solve.Goals as goal

pub told-requires-clause-few : goal.told-requires-clause-few
told-requires-clause-few c =
    subst (λ ss. length ss < 2 ^ 16) (sym c.deref.ensures.value)
    (few_states c.args.options.now c.args.problem c.in_ok-states.field-0.states.items c.in_ok-states.field-0.order
    (subst (λ n. n < 2 ^ 16) c.peers_of-peers.ensures c.peers_of-peers.type_inv) (c.in_ok-states.ensures {u = tt}))

pub returns : goal.returns
returns c =
    let p = c.args.problem in
    let laws : RunLaws = record { chosen = c.chosen_are_runs.ensures; say = c.runs_say.ensures; journalled = c.runs_are_journalled.ensures; live = c.live_names_are_one.ensures } in
    let accepts : DerivationsAreAccepted p = λ s lines going refuted derivation. text_accepted c.refutations_are_accepted.ensures p lines (c.derivations_refute.ensures plain p s lines c.requires.formed going refuted derivation) in
    let order = c.in_ok-states.field-0.order in
    subst (λ n. IsSolved c.args.options.now p c.in_ok-answer.answer
    (record (account_of c.args.options.now p c.in_ok-journals.journals order c.in_ok-answer.text) { asked = Some c.in_ok-asked.asked; peers = n })) (sym c.peers_of-peers.ensures)
    (solved_is laws c.args.options.now c.in_ok-asked.asked p accepts c.in_ok-states.field-0.states.items order (c.in_ok-states.ensures {u = tt}) (c.in_ok-asked.ensures {u = tt})
    c.in_ok-journals.journals (c.in_ok-journals.ensures {u = tt}) c.in_ok-answer.answer c.in_ok-answer.text
    (subst (λ ss. IsTold c.args.options.now p (map local_of ss) c.in_ok-answer.answer c.in_ok-answer.text) c.deref.ensures.value (c.in_ok-answer.ensures {u = tt})))
