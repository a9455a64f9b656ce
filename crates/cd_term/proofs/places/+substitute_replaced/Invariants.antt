use Rattle.std.proofs.Common.{length}
use Rattle.cd_term.proofs.places.+substitute_replaced.Given as goal

abbrev pub decreases-substitute_replaced : goal.decreases-substitute_replaced
decreases-substitute_replaced l = length l.path.now
