use Rattle.cd_rewrite.proofs.FirstPlaces.{found_left, found_right}
use Rattle.cd_rewrite.proofs.places.first_in_atom.Goals as goal

pub returns-in-Some : goal.returns-in-Some
returns-in-Some c =
    found_left c.args.order.now _ c.args.eq.now.variables c.args.atom.now c.in-Equal.s c.in-Equal.t _ _ _ _ _ c.in-Equal.is (rw c.in-Some.is at c.in_ok-lowering-in-Equal.ensures)
    c.in_ok-push-in-Equal.ensures.items

pub returns-in-Some-2 : goal.returns-in-Some-2
returns-in-Some-2 c =
    let none = rw c.in_default.is at c.in_ok-lowering-in-Equal.ensures in
    found_right c.args.order.now _ c.args.eq.now.variables c.args.atom.now c.in-Equal.s c.in-Equal.t _ _ _ _ _ _ c.in-Equal.is none.0 none.1
    (rw c.in-Some-2.is at c.in_ok-lowering-in-Equal-2.ensures) c.in_ok-push-in-Equal-2.ensures.items
