use Rattle.std.proofs.Common.{◌≡◌, length}
use Rattle.cd_line.specs.Lines.{digits_from, capped}
use Rattle.cd_line.proofs.names.read_digits_from.Given as goal

abbrev pub invariant-loop-rest : goal.invariant-loop-rest
invariant-loop-rest l = digits_from capped l.value l.rest ≡ digits_from capped l.fn.start l.fn.text

abbrev pub decreases-loop-rest : goal.decreases-loop-rest
decreases-loop-rest l = length l.rest
