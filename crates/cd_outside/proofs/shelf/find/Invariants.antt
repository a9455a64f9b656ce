use Rattle.std.proofs.Common.{◌≡◌, length}
use Rattle.cd_outside.specs.Shelf.{bytes_of}
use Rattle.cd_outside.proofs.shelf.find.Given as goal

abbrev pub invariant-loop-rest : goal.invariant-loop-rest
invariant-loop-rest l = bytes_of l.rest l.path ≡ bytes_of l.files l.path

abbrev pub decreases-loop-rest : goal.decreases-loop-rest
decreases-loop-rest l = length l.rest
