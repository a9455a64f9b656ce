use Rattle.cd_rewrite.proofs.FirstPlaces.{none_in_equation}
use Rattle.cd_contract.specs.Parts.{Lacks}
use Rattle.cd_contract.proofs.Parting.{none_stays}
use Rattle.cd_contract.proofs.parts.add_atom.Goals as goal

pub returns-in_ok-add_term-in-Equal-2-clause-all : goal.returns-in_ok-add_term-in-Equal-2-clause-all
returns-in_ok-add_term-in-Equal-2-clause-all c =
    none_in_equation (Lacks c.add_term-in-Equal.new.parts.items) c.args.a.now c.in-Equal.s c.in-Equal.t c.in-Equal.is
    (none_stays c.add_term.new.parts.items c.add_term-in-Equal.new.parts.items c.in-Equal.s c.in_ok-add_term-in-Equal-2.ensures.adds c.in_ok-add_term-in-Equal.ensures.all)
    c.in_ok-add_term-in-Equal-2.ensures.all
