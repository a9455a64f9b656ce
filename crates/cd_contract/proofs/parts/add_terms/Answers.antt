use Rattle.std.proofs.Common.{refl}
use Rattle.cd_rewrite.proofs.FirstPaths.{none_next}
use Rattle.cd_rewrite.proofs.FirstPlaces.{none_among}
use Rattle.cd_contract.specs.Parts.{Lacks}
use Rattle.cd_contract.proofs.Parting.{adds_both, before_stays}
use Rattle.cd_contract.proofs.parts.add_terms.Goals as goal

pub loop-t-preserved : goal.loop-t-preserved
loop-t-preserved c = record {
  adds = adds_both c.args.parts.now.items c.loop-t.parts.items c.add_term.new.parts.items c.loop-t.invariant.adds c.in_ok-add_term.ensures.adds;
  all = none_next (Lacks c.add_term.new.parts.items) c.args.ts.now c.loop-t.t-index c.t-item.result c.loop-t-test.true c.t-item.is
      (before_stays c.loop-t.parts.items c.add_term.new.parts.items c.args.ts.now c.loop-t.t-index c.in_ok-add_term.ensures.adds c.loop-t.invariant.all)
      c.in_ok-add_term.ensures.all;
}

pub returns-clause-all : goal.returns-clause-all
returns-clause-all c = none_among (Lacks c.loop-t.parts.items) c.args.ts.now c.args.ts.now c.loop-t.t-index refl c.loop-t-test.false c.loop-t.invariant.all
