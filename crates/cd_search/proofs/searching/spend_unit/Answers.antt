use Rattle.std.proofs.Common.{refl, ◌∙◌}
use Rattle.cd_search.proofs.Advancing.{few_at, spent_at, untrue}
use Rattle.cd_search.proofs.Steps.{few_given, name_less}
use Rattle.cd_search.proofs.searching.spend_unit.Goals as goal

pub has_units-requires : goal.has_units-requires
has_units-requires c = let s = c.requires in (c.names.invariant.stays s.0 s.1 s.2).standing

pub give_name-requires : goal.give_name-requires
give_name-requires c = let s = c.requires in (s.0, s.1, c.names.invariant.stays s.0 s.1 s.2)

pub names-init : goal.names-init
names-init c = record { stays = λ policy limits s. s; problem = refl; few = few_at _ c.args.peer.now.local c.units_left-units.ensures }

pub names-smaller : goal.names-smaller
names-smaller c = name_less _ c.names.peer.local c.give_name.new.peer.local (c.names-test.ensures.0 refl) c.in_ok-give_name.ensures.given

pub names-preserved : goal.names-preserved
names-preserved c = record {
  stays = λ policy limits s. c.in_ok-give_name.ensures.stays policy limits (c.names.invariant.stays policy limits s);
  problem = c.in_ok-give_name.ensures.problem ∙ c.names.invariant.problem;
  few = few_given _ c.names.peer.local c.give_name.new.peer.local (c.names-test.ensures.0 refl) c.in_ok-give_name.ensures.given;
}

pub returns-clause-spent : goal.returns-clause-spent
returns-clause-spent c = spent_at _ c.args.peer.now.local c.names.peer.local c.units_left-units.ensures c.names.invariant.few (untrue c.names-test.ensures.1)
