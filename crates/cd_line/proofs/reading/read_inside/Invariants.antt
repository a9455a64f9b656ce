use Rattle.std.proofs.Common.{◌≡◌, length, false}
use Rattle.cd_line.specs.Reading.{inside_read, with_front}
use Rattle.cd_line.proofs.reading.read_inside.Given as goal

abbrev pub invariant-loop-rest : goal.invariant-loop-rest
invariant-loop-rest l = with_front l.content (inside_read l.escaped l.rest) ≡ inside_read false l.fn.text

abbrev pub decreases-loop-rest : goal.decreases-loop-rest
decreases-loop-rest l = length l.rest
