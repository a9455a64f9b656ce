use Rattle.std.proofs.Common.{refl}
use Rattle.cd_contract.proofs.Meeting.{meets_here}
use Rattle.cd_contract.proofs.Parting.{put_in, stands}
use Rattle.cd_contract.proofs.parts.add_part.Goals as goal

pub returns-clause-adds : goal.returns-clause-adds
returns-clause-adds c = put_in c.args.parts.now.items c.push.new.self.items _ c.in_ok-push.ensures.items c.requires.small

pub returns-clause-there : goal.returns-clause-there
returns-clause-there c =
    let met = meets_here c.mark_parts.new.marks c.args.t.now c.args.symbol c.from.result c.args.args.now c.args.args.now c.requires.is refl c.from.ensures
    (c.mark_parts.ensures.kept 0 c.new-marks.ensures) c.mark_parts.ensures.parts in
    stands c.args.parts.now.items c.push.new.self.items _ c.args.t.now c.in_ok-push.ensures.items refl
    (record { shapes = λ g p is. c.brief.ensures _ (met.shapes g p is) })
