use Rattle.cd_steps.specs.Drafts.{part_under}
use Rattle.cd_steps.proofs.Giving.{five_measured}
use Rattle.cd_steps.proofs.building.measure_concluded.Goals as goal

pub returns : goal.returns
returns c =
    let d = c.args.draft.now in let s = c.args.s.now in let r = c.args.r.now in
    five_measured (part_under s r d.one) (part_under s r d.two) (part_under s r d.three) (part_under s r d.four) (part_under s r d.five) _ _ _ _ _
    c.measure_more-one.ensures c.measure_more-two.ensures c.measure_more-three.ensures c.measure_more-four.ensures c.measure_more.ensures
