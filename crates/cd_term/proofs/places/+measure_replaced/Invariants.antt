use Rattle.std.proofs.Common.{length}
use Rattle.cd_term.proofs.places.+measure_replaced.Given as goal

abbrev pub decreases-measure_replaced : goal.decreases-measure_replaced
decreases-measure_replaced l = length l.path.now
