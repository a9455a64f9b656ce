use Rattle.std.proofs.Common.{arith}
use Rattle.cd_steps.specs.Drafts.{part_under}
use Rattle.cd_steps.proofs.Giving.{more_before, more_outside, more_measured}
use Rattle.cd_steps.proofs.building.measure_more.Goals as goal

pub returns-in_default : goal.returns-in_default
returns-in_default c = λ ls m. more_before ls (part_under c.args.s.now c.args.r.now c.args.part) c.args.so_far c.in_default.is m

pub returns-in_default-measure_part : goal.returns-in_default-measure_part
returns-in_default-measure_part c = λ ls m.
    more_outside ls (part_under c.args.s.now c.args.r.now c.args.part) c.args.so_far c.in-Some.total c.saturating_sub-room.result c.in-Some.is
    (omega (arith, c.saturating_sub-room.ensures)) c.in_default-measure_part.ensures m

pub returns : goal.returns
returns c = λ ls m.
    more_measured ls (part_under c.args.s.now c.args.r.now c.args.part) c.args.so_far c.in-Some.total c.saturating_sub-room.result c.in-Some-measure_part.more c.saturating_add.result c.in-Some.is
    (omega (arith, c.saturating_sub-room.ensures)) c.in-Some-measure_part.ensures (λ small. omega (arith, c.saturating_add.ensures, small)) m
