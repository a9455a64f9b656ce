use Rattle.cd_unify.specs.Bindings.{room_in}
use Rattle.cd_subsume.proofs.Binding.{predicate_bound, straight_bound, turned_bound, side_bounds, argument_bounds}
use Rattle.cd_subsume.proofs.literals.bind_atom.Goals as goal

pub returns-then-is_exchanged-2-clause-fits : goal.returns-then-is_exchanged-2-clause-fits
returns-then-is_exchanged-2-clause-fits c = λ le.
    let m = c.in-Equal-Equal in
    let parts = side_bounds c.args.a.now m.s m.t (room_in c.args.bindings.now) m.is-0 le in
    turned_bound _ _ c.args.a.now c.args.b.now m.s m.t m.u m.v c.args.is_exchanged _ m.is-0 m.is-1 c.if-is_exchanged-2.true
    (c.in_ok-turned-in-Equal-Equal.ensures.fits parts.1 parts.0)

pub returns-in_ok-answer-in-Pred-Pred-clause-fits : goal.returns-in_ok-answer-in-Pred-Pred-clause-fits
returns-in_ok-answer-in-Pred-Pred-clause-fits c = λ le.
    let m = c.in-Pred-Pred in
    predicate_bound _ _ c.args.a.now c.args.b.now m.p m.q m.args m.others _ _ c.args.is_exchanged _ m.is-0 m.is-1 c.if-p-q.false
    c.as_slice.ensures c.as_slice-in-Pred-Pred.ensures c.if-is_exchanged.false
    (c.in_ok-answer-in-Pred-Pred.ensures.fits (argument_bounds c.args.a.now m.p m.args _ _ m.is-0 c.as_slice.ensures le))

pub returns-in_ok-straight-in-Equal-Equal-clause-fits : goal.returns-in_ok-straight-in-Equal-Equal-clause-fits
returns-in_ok-straight-in-Equal-Equal-clause-fits c = λ le.
    let m = c.in-Equal-Equal in
    let parts = side_bounds c.args.a.now m.s m.t (room_in c.args.bindings.now) m.is-0 le in
    straight_bound _ _ c.args.a.now c.args.b.now m.s m.t m.u m.v c.args.is_exchanged _ m.is-0 m.is-1 c.if-is_exchanged-2.false
    (c.in_ok-straight-in-Equal-Equal.ensures.fits parts.0 parts.1)
