use Rattle.std.proofs.Common.{◌-◌, ap, arith}
use Rattle.atomic_table.specs.Table.{Me}
use Rattle.cd_verdict.specs.declared.rule.View.{View}
use Rattle.cd_verdict.proofs.Steps.{gives}
use Rattle.cd_verdict.proofs.Seats.{rest_given}
use Rattle.cd_verdict.proofs.word.give.Goals as goal

pub split_seat-seat-requires : goal.split_seat-seat-requires
split_seat-seat-requires c = (
  c.requires.rest.bell,
  (let w = c.requires.table in omega arith),
  gives c.args.table.now.shared.key c.args.table.now.shared.key c.args.rest.now.id c.args.number (c.args.table.now.shared.key - c.args.number) c.args.rest.now.me.0 (let n = c.requires.number in omega arith) (ap (λ (y : Me (Unit {0}) View). y.0) c.requires.rest.me),
)

pub returns-clause-rest : goal.returns-clause-rest
returns-clause-rest c = rest_given c.args.table.now.shared.table_id c.args.table.now.shared.key c.args.number c.args.rest.now c.split_seat-seat.new.seat c.requires.rest c.split_seat-seat.ensures.0 c.split_seat-seat.ensures.2
