use Rattle.std.proofs.Common.{arith, drop, Contains}
use Rattle.std.proofs.lemmas.Option.{slice_get_within}
use Rattle.cd_read.proofs.LabelLemmas.{all_below}
use Rattle.cd_read.proofs.state.first_missing.Goals as goal

pub returns : goal.returns
returns c = all_below (λ l. Contains (drop c.args.from c.args.seen.now) l) c.args.labels.now
    (λ j m at. c.loop-k.invariant j m (omega (arith, slice_get_within c.args.labels.now j m at, c.loop-k-test.false)) at)
