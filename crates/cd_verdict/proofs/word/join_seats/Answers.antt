use Rattle.std.proofs.Common.{arith, ap, sym, ◌∙◌}
use Rattle.cd_verdict.specs.Known.{Known}
use Rattle.cd_verdict.proofs.Steps.{joins}
use Rattle.cd_verdict.proofs.Seats.{same_table, joined_seated}
use Rattle.cd_verdict.proofs.word.join_seats.Goals as goal

pub join_seat-requires : goal.join_seat-requires
join_seat-requires c = (
  same_table c.args.seat.now c.args.bell.now _ _ _ _ _ c.seat.view_is c.requires.bell.0 c.bell.view_is,
  same_table c.args.other c.args.bell.now _ _ _ _ _ c.other.view_is c.requires.bell.1 c.bell.view_is,
  c.other.invariant.empty,
  (let w = c.bell.invariant in omega arith),
  joins c.bell.inside.table.shared.key c.seat.inside.seat.id c.other.inside.seat.id c.seat.inside.seat.me.0 c.other.inside.seat.me.0 (ap (λ (k : Known). k.view.peers) c.seat.view_is ∙ c.requires.peers ∙ sym (ap (λ (k : Known). k.view.peers) c.other.view_is)),
)

pub invariant_of-seat : goal.invariant_of-seat
invariant_of-seat c = joined_seated c.seat.inside.number c.seat.inside.seat c.join_seat.new.seat c.other.inside.seat.me.0 c.seat.invariant c.join_seat.ensures.2
