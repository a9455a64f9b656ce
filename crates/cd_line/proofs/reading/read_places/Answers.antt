use Rattle.std.proofs.Common.{codes, length}
use Rattle.cd_line.specs.Reading.{joined_read, number_read}
use Rattle.cd_line.proofs.Fronts.{goes_on}
use Rattle.cd_line.proofs.reading.read_places.Goals as goal

pub loop-preserved : goal.loop-preserved
loop-preserved c =
    rw c.in_ok-push-2.ensures.ok (goes_on (codes ",") number_read (length c.args.text.now) c.loop.counter c.loop.places c.loop.rest.now c.in-Some.behind.now c.in_ok-place.place c.in_ok-place.after.now (joined_read (codes ",") number_read c.args.text.now) c.loop-test.true c.in-Some.ensures c.in_ok-place.ensures c.loop.invariant)
