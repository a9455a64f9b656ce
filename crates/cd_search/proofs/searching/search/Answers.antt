use Rattle.std.proofs.Common.{refl, ◌∙◌}
use Rattle.cd_search.proofs.Advancing.{finished, started, untrue}
use Rattle.cd_search.proofs.Steps.{unit_less}
use Rattle.cd_search.proofs.searching.search.Goals as goal

pub units-init : goal.units-init
units-init c = record {
  searching = started c.args.problem.now c.args.policy c.args.limits _ c.requires.fit c.in_ok-peer.ensures;
  problem = c.in_ok-peer.ensures.problem;
}

pub spend_unit-requires : goal.spend_unit-requires
spend_unit-requires c = (c.args.policy, c.args.limits, c.units.invariant.searching)

pub units-smaller : goal.units-smaller
units-smaller c = unit_less c.units.peer.local c.spend_unit.new.peer.local (c.units-test.ensures.0 refl) c.in_ok-spend_unit.ensures.spent

pub units-preserved : goal.units-preserved
units-preserved c = record {
  searching = c.in_ok-spend_unit.ensures.stays c.args.policy c.args.limits c.units.invariant.searching;
  problem = c.in_ok-spend_unit.ensures.problem ∙ c.units.invariant.problem;
}

pub returns-clause-problem : goal.returns-clause-problem
returns-clause-problem c = c.units.invariant.problem

pub returns-clause-standing : goal.returns-clause-standing
returns-clause-standing c = c.units.invariant.searching.standing

pub returns-clause-finished : goal.returns-clause-finished
returns-clause-finished c = finished c.args.problem.now c.args.policy c.args.limits c.units.peer c.units.invariant.searching c.units.invariant.problem (untrue c.units-test.ensures.1)
