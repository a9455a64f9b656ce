use Rattle.std.proofs.Common.{◌≡◌, ◌+◌, ◌-◌, true, subst, sym, ap, arith}
use Rattle.cd_verdict.specs.Views.{has}
use Rattle.cd_verdict.proofs.Steps.{declares}
use Rattle.cd_verdict.proofs.Seats.{same_table, declared_seated, tells_one}
use Rattle.cd_verdict.proofs.word.declare.Goals as goal

pub compare_exchange-found-requires : goal.compare_exchange-found-requires
compare_exchange-found-requires c = (same_table c.args.seat.now c.args.bell.now _ _ _ _ _ c.seat.view_is c.requires c.bell.view_is, (let w = c.bell.invariant in omega arith), declares c.bell.inside.table.shared.key _ c.seat.inside.seat.id c.from-new.result c.seat.inside.seat.me (subst (λ k. has k c.seat.inside.seat.me.0.marks ≡ true) (sym c.from-new.ensures) c.seat.invariant.own))

pub invariant_of-seat : goal.invariant_of-seat
invariant_of-seat c = declared_seated c.seat.inside.number ((c.from-new.result + 1) - 1) c.compare_exchange-found.result c.seat.inside.seat c.compare_exchange-found.new.seat c.seat.invariant c.compare_exchange-found.ensures.2.0

pub returns : goal.returns
returns c =
    tells_one c.seat.inside.number (c.from-new.result + 1) c.compare_exchange-found.result c.args.seat.now c.seat.inside.seat c.compare_exchange-found.new.seat c.seat.view_is (ap (λ k. k + 1) c.from-new.ensures) c.seat.invariant.own c.compare_exchange-found.ensures.0 c.compare_exchange-found.ensures.2.0 c.compare_exchange-found.ensures.2.1
