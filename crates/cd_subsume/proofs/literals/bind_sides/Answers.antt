use Rattle.std.proofs.Common.{arith}
use Rattle.cd_unify.proofs.Trails.{trail_more}
use Rattle.cd_subsume.proofs.Binding.{pair_stuck, pair_bound}
use Rattle.cd_subsume.proofs.literals.bind_sides.Goals as goal

pub returns-then-not-branch-clause-fits : goal.returns-then-not-branch-clause-fits
returns-then-not-branch-clause-fits c = λ bs bt.
    pair_stuck _ _ c.args.s.now c.args.t.now c.args.u.now c.args.v.now _ (c.in_ok-bind.ensures.fits bs) c.if-not-branch.true

pub returns-clause-fits : goal.returns-clause-fits
returns-clause-fits c = λ bs bt.
    pair_bound _ _ _ c.args.s.now c.args.t.now c.args.u.now c.args.v.now _ _ (c.in_ok-bind.ensures.fits bs) c.if-not-branch.false
    (c.in_ok-answer.ensures.fits (omega (arith, c.bind.ensures.covers, bt)))

pub returns-clause-noted : goal.returns-clause-noted
returns-clause-noted c = trail_more _ _ _ _ _ _ c.in_ok-bind.ensures.noted c.in_ok-answer.ensures.noted
