use Rattle.cd_subsume.specs.Literals.{LiteralBinds}
use Rattle.cd_subsume.proofs.Binding.{binds_none, literal_ok, literal_stuck, signs_same}
use Rattle.cd_subsume.proofs.literals.bind_literal.Goals as goal

pub returns-then-branch-clause-fits : goal.returns-then-branch-clause-fits
returns-then-branch-clause-fits c = λ le.
    literal_ok _ _ c.args.is_exchanged _ c.args.l.now c.args.m.now c.if-branch.true (signs_same c.args.l.now.positive c.args.m.now.positive c.if-l-m.false) (c.in_ok-bind_atom.ensures.fits le)

pub returns-clause-fits : goal.returns-clause-fits
returns-clause-fits c = λ le.
    literal_stuck _ _ _ c.args.is_exchanged _ c.args.l.now c.args.m.now c.if-branch.false (c.in_ok-bind_atom.ensures.fits le)

pub returns-then-not-may_become-clause-fits : goal.returns-then-not-may_become-clause-fits
returns-then-not-may_become-clause-fits c = λ le.
    binds_none (LiteralBinds c.args.is_exchanged c.args.l.now c.args.m.now) _ _ (c.may_become.ensures c.if-not-may_become.true)
