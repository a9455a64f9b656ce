use Rattle.std.proofs.Common.{◌≡◌, length}
use Rattle.cd_line.specs.Reading.{stripped}
use Rattle.cd_line.proofs.reading.strip.Given as goal

abbrev pub invariant-loop-wanted : goal.invariant-loop-wanted
invariant-loop-wanted l = stripped l.wanted l.rest ≡ stripped l.fn.front l.fn.text

abbrev pub decreases-loop-wanted : goal.decreases-loop-wanted
decreases-loop-wanted l = length l.wanted
