use Rattle.std.proofs.Common.{ap, sym}
use Rattle.std.specs.Option.{option_copied}
use Rattle.cd_contract.proofs.Shaping.{some_part, part_read}
use Rattle.cd_contract.proofs.shapes.heads_of_part.Goals as goal

pub returns-in-Some : goal.returns-in-Some
returns-in-Some c = part_read 1 _ _ _ (sym (ap option_copied c.in-Some.is)) (some_part 1 c.in-Some.t.now _ c.heads.ensures)
