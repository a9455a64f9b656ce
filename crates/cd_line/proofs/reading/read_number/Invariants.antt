use Rattle.std.proofs.Common.{◌≡◌, length}
use Rattle.cd_line.specs.Reading.{number_from}
use Rattle.cd_line.proofs.reading.read_number.Given as goal

abbrev pub invariant-loop-rest : goal.invariant-loop-rest
invariant-loop-rest l = number_from l.value l.rest ≡ number_from 0 l.fn.text

abbrev pub decreases-loop-rest : goal.decreases-loop-rest
decreases-loop-rest l = length l.rest
