use Rattle.std.proofs.Common.{◌<◌, ◌+◌, Bool, cond, List, length, sym, ap, ◌∙◌, subst}
use Rattle.cd_ledger.specs.declared.letters.Letter.{Letter}
use Rattle.cd_peer.specs.Peers.{PeerView}
use Rattle.cd_world.specs.Schedule.{InRange, IsDrawnFrom, Picks, is_token_choice, offered}
use Rattle.cd_world.specs.Worlds.{IsWorld, WorldView, locals_of, world_of}
use Rattle.cd_world.proofs.Worlds.{few_peers}
use Rattle.cd_world.proofs.Picks.{drawn_there, in_range, may_step, picks, some_here}
use Rattle.cd_world.proofs.world.World.pick.Goals as goal

pub draw_choice-choice-requires-clause-few : goal.draw_choice-choice-requires-clause-few
draw_choice-choice-requires-clause-few c =
    subst (λ (vs : List PeerView). length vs < 65536) (sym (c.deref.ensures.value ∙ ap (λ (v : WorldView). v.parts.peers) c.self.view_is))
    (few_peers c.args.self.now (subst IsWorld c.self.view_is c.self.invariant) c.requires.standing)

pub draw_choice-choice-requires-clause-some : goal.draw_choice-choice-requires-clause-some
draw_choice-choice-requires-clause-some c =
    subst (λ (vs : List PeerView). 0 < length (offered c.args.counter (record { locals = locals_of vs; travelling = c.as_slice.result.now }))) (sym (c.deref.ensures.value ∙ ap (λ (v : WorldView). v.parts.peers) c.self.view_is))
    (subst (λ (ls : List Letter). 0 < length (offered c.args.counter (record { locals = locals_of c.args.self.now.parts.peers; travelling = ls }))) (sym (c.as_slice.ensures ∙ ap (λ (v : WorldView). v.parts.travelling) c.self.view_is))
    (some_here c.args.self.now (subst IsWorld c.self.view_is c.self.invariant) c.requires.standing c.requires.running c.args.counter))

pub is_token_choice-token-requires-clause-within : goal.is_token_choice-token-requires-clause-within
is_token_choice-token-requires-clause-within c =
    let ps = c.deref.ensures.value ∙ ap (λ (v : WorldView). v.parts.peers) c.self.view_is in
    let ls = c.as_slice.ensures ∙ ap (λ (v : WorldView). v.parts.travelling) c.self.view_is in
    let d = subst (λ (vs : List PeerView). IsDrawnFrom c.args.counter (record { locals = locals_of vs; travelling = c.args.self.now.parts.travelling }) c.draw_choice-choice.new.generator.state c.draw_choice-choice.result) ps
    (subst (λ (xs : List Letter). IsDrawnFrom c.args.counter (record { locals = locals_of c.deref.result.now; travelling = xs }) c.draw_choice-choice.new.generator.state c.draw_choice-choice.result) ls c.draw_choice-choice.ensures.choice) in
    subst (λ (vs : List PeerView). InRange vs c.as_slice-2.result.now c.draw_choice-choice.result) (sym (c.deref-2.ensures.value ∙ ap (λ (v : WorldView). v.parts.peers) c.self.view_is))
    (subst (λ (xs : List Letter). InRange c.args.self.now.parts.peers xs c.draw_choice-choice.result) (sym (c.as_slice-2.ensures ∙ ap (λ (v : WorldView). v.parts.travelling) c.self.view_is))
    (in_range c.args.self.now.parts.peers c.args.self.now.parts.travelling c.draw_choice-choice.result
    (drawn_there (world_of c.args.self.now.parts) c.args.counter c.draw_choice-choice.new.generator.state c.draw_choice-choice.result d)))

pub step-requires-clause-may : goal.step-requires-clause-may
step-requires-clause-may c =
    let ps = c.deref.ensures.value ∙ ap (λ (v : WorldView). v.parts.peers) c.self.view_is in
    let ls = c.as_slice.ensures ∙ ap (λ (v : WorldView). v.parts.travelling) c.self.view_is in
    let d = subst (λ (vs : List PeerView). IsDrawnFrom c.args.counter (record { locals = locals_of vs; travelling = c.args.self.now.parts.travelling }) c.draw_choice-choice.new.generator.state c.draw_choice-choice.result) ps
    (subst (λ (xs : List Letter). IsDrawnFrom c.args.counter (record { locals = locals_of c.deref.result.now; travelling = xs }) c.draw_choice-choice.new.generator.state c.draw_choice-choice.result) ls c.draw_choice-choice.ensures.choice) in
    may_step c.args.self.now (subst IsWorld c.self.view_is c.self.invariant) c.requires.standing c.requires.running c.draw_choice-choice.result
    (drawn_there (world_of c.args.self.now.parts) c.args.counter c.draw_choice-choice.new.generator.state c.draw_choice-choice.result d)

pub returns-clause-ok : goal.returns-clause-ok
returns-clause-ok c =
    let ps = c.deref.ensures.value ∙ ap (λ (v : WorldView). v.parts.peers) c.self.view_is in
    let ls = c.as_slice.ensures ∙ ap (λ (v : WorldView). v.parts.travelling) c.self.view_is in
    let d = subst (λ (vs : List PeerView). IsDrawnFrom c.args.counter (record { locals = locals_of vs; travelling = c.args.self.now.parts.travelling }) c.draw_choice-choice.new.generator.state c.draw_choice-choice.result) ps
    (subst (λ (xs : List Letter). IsDrawnFrom c.args.counter (record { locals = locals_of c.deref.result.now; travelling = xs }) c.draw_choice-choice.new.generator.state c.draw_choice-choice.result) ls c.draw_choice-choice.ensures.choice) in
    let n = c.counted-next.ensures ∙ ap (λ (b : Bool). cond b (c.args.counter + 1) 0) (c.is_token_choice-token.ensures
    ∙ (ap (λ (vs : List PeerView). is_token_choice (record { locals = locals_of vs; travelling = c.as_slice-2.result.now }) c.draw_choice-choice.result) (c.deref-2.ensures.value ∙ ap (λ (v : WorldView). v.parts.peers) c.self.view_is)
    ∙ ap (λ (xs : List Letter). is_token_choice (record { locals = locals_of c.args.self.now.parts.peers; travelling = xs }) c.draw_choice-choice.result) (c.as_slice-2.ensures ∙ ap (λ (v : WorldView). v.parts.travelling) c.self.view_is))) in
    subst (λ (w : WorldView). Picks c.args.self.now w c.args.generator.now.state c.draw_choice-choice.new.generator.state c.args.counter c.counted-next.result) (sym c.in_ok-step.ensures.ok.rest)
    (picks c.args.self.now (subst IsWorld c.self.view_is c.self.invariant) c.requires.standing c.requires.running c.args.generator.now.state c.draw_choice-choice.new.generator.state c.args.counter c.counted-next.result
    c.draw_choice-choice.result c.step.new.self.parts c.in_ok-step.field-0 c.draw_choice-choice.ensures.next d n c.in_ok-step.ensures.ok.done)
