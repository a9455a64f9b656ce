use Rattle.cd_rewrite.proofs.FirstPlaces.{no_literal_next}
use Rattle.cd_contract.specs.Parts.{Lacks}
use Rattle.cd_contract.proofs.Parting.{literals_stay}
use Rattle.cd_contract.proofs.parts.parts_of.Goals as goal

pub loop-literal-preserved : goal.loop-literal-preserved
loop-literal-preserved c = record {
  all = no_literal_next (Lacks c.add_atom.new.parts.items) c.as_slice-literal-items.result.now c.loop-literal.literal-index c.literal-item.result c.loop-literal-test.true
      c.literal-item.is
      (literals_stay c.loop-literal.parts.items c.add_atom.new.parts.items c.as_slice-literal-items.result.now c.loop-literal.literal-index c.in_ok-add_atom.ensures.adds
      c.loop-literal.invariant.all) c.in_ok-add_atom.ensures.all;
  small = c.in_ok-add_atom.ensures.adds.small c.loop-literal.invariant.small;
}
