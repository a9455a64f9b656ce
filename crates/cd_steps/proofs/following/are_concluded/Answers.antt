use Rattle.cd_steps.specs.Drafts.{part_under}
use Rattle.cd_steps.proofs.Stripping.{strip_two, strip_three, strip_four, strip_five}
use Rattle.cd_steps.proofs.following.are_concluded.Goals as goal

pub returns-in_default-strip_part : goal.returns-in_default-strip_part
returns-in_default-strip_part c =
    let d = c.args.draft.now in let s = c.args.s.now in let r = c.args.r.now in
    strip_two (part_under s r d.one) (part_under s r d.two) (part_under s r d.three) (part_under s r d.four) (part_under s r d.five) c.args.literals.now
    _ c.in-Some.ensures.some c.in_default-strip_part.ensures.none

pub returns-in_default-strip_part-2 : goal.returns-in_default-strip_part-2
returns-in_default-strip_part-2 c =
    let d = c.args.draft.now in let s = c.args.s.now in let r = c.args.r.now in
    strip_three (part_under s r d.one) (part_under s r d.two) (part_under s r d.three) (part_under s r d.four) (part_under s r d.five) c.args.literals.now
    _ c.in-Some.ensures.some _ c.in-Some-strip_part.ensures.some c.in_default-strip_part-2.ensures.none

pub returns-in_default-strip_part-3 : goal.returns-in_default-strip_part-3
returns-in_default-strip_part-3 c =
    let d = c.args.draft.now in let s = c.args.s.now in let r = c.args.r.now in
    strip_four (part_under s r d.one) (part_under s r d.two) (part_under s r d.three) (part_under s r d.four) (part_under s r d.five) c.args.literals.now
    _ c.in-Some.ensures.some _ c.in-Some-strip_part.ensures.some _ c.in-Some-strip_part-2.ensures.some c.in_default-strip_part-3.ensures.none

pub returns-in_default-strip_part-4 : goal.returns-in_default-strip_part-4
returns-in_default-strip_part-4 c =
    let d = c.args.draft.now in let s = c.args.s.now in let r = c.args.r.now in
    strip_five (part_under s r d.one) (part_under s r d.two) (part_under s r d.three) (part_under s r d.four) (part_under s r d.five) c.args.literals.now
    _ c.in-Some.ensures.some _ c.in-Some-strip_part.ensures.some _ c.in-Some-strip_part-2.ensures.some _ c.in-Some-strip_part-3.ensures.some c.in_default-strip_part-4.ensures.none
