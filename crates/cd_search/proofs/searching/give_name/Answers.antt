use Rattle.std.proofs.Common.{refl, ◌∙◌}
use Rattle.cd_search.proofs.Advancing.{far_at, given_at, most_at, untrue}
use Rattle.cd_search.proofs.Steps.{most_near, turn_less}
use Rattle.cd_search.proofs.searching.give_name.Goals as goal

pub has_names-requires : goal.has_names-requires
has_names-requires c = let s = c.requires in (c.turns.invariant.stays s.0 s.1 s.2).standing

pub take_turn-requires-clause-searching : goal.take_turn-requires-clause-searching
take_turn-requires-clause-searching c = let s = c.requires in (s.0, s.1, c.turns.invariant.stays s.0 s.1 s.2)

pub turns-init : goal.turns-init
turns-init c = record { stays = λ policy limits s. s; problem = refl; most = most_at _ _ c.args.peer.now.local c.units_left-units.ensures c.names_left-names.ensures }

pub turns-smaller : goal.turns-smaller
turns-smaller c =
    let s = c.requires in
    let now = c.turns.invariant.stays s.0 s.1 s.2 in
    turn_less _ _ c.turns.peer.local c.take_turn.new.peer.local (c.turns-test.ensures.0 refl) (far_at s.0 s.1 c.take_turn.new.peer (c.in_ok-take_turn.ensures.stays s.0 s.1 now)) c.in_ok-take_turn.ensures.nearer

pub turns-preserved : goal.turns-preserved
turns-preserved c = record {
  stays = λ policy limits s. c.in_ok-take_turn.ensures.stays policy limits (c.turns.invariant.stays policy limits s);
  problem = c.in_ok-take_turn.ensures.problem ∙ c.turns.invariant.problem;
  most = most_near _ _ c.turns.peer.local c.take_turn.new.peer.local (c.turns-test.ensures.0 refl) c.in_ok-take_turn.ensures.nearer;
}

pub returns-clause-given : goal.returns-clause-given
returns-clause-given c = given_at _ _ c.args.peer.now.local c.turns.peer.local c.units_left-units.ensures c.names_left-names.ensures c.turns.invariant.most (untrue c.turns-test.ensures.1)
