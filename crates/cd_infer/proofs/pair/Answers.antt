use Rattle.std.proofs.Common.{subst, sym}
use Rattle.cd_infer.specs.Marks.{AreMarks}
use Rattle.cd_infer.proofs.pair.Goals as goal

pub pair_marked-requires-clause-first_marks : goal.pair_marked-requires-clause-first_marks
pair_marked-requires-clause-first_marks c = subst (AreMarks c.args.order.now c.args.a.now) (sym c.as_slice.ensures) c.in_ok-first.ensures

pub pair_marked-requires-clause-second_marks : goal.pair_marked-requires-clause-second_marks
pair_marked-requires-clause-second_marks c = subst (AreMarks c.args.order.now c.args.b.now) (sym c.as_slice-2.ensures) c.in_ok-second.ensures
