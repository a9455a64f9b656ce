use Rattle.std.proofs.Common.{sym, ◌∙◌}
use Rattle.cd_contract.proofs.Naming.{none_next, none_end, place_found}
use Rattle.cd_contract.proofs.held.place_of.Goals as goal

pub returns-then-eq : goal.returns-then-eq
returns-then-eq c =
    place_found c.args.name c.args.kept.now c.loop-i.i c.index-kept-i.result c.loop-i-test.true c.index-kept-i.is (sym c.eq.ensures ∙ c.if-eq.true) c.loop-i.invariant

pub loop-i-preserved : goal.loop-i-preserved
loop-i-preserved c =
    none_next c.args.name c.args.kept.now c.loop-i.i c.index-kept-i.result c.loop-i-test.true c.index-kept-i.is (sym c.eq.ensures ∙ c.if-eq.false) c.loop-i.invariant

pub returns : goal.returns
returns c = none_end c.args.name c.args.kept.now c.loop-i.i c.loop-i-test.false c.loop-i.invariant
