use Rattle.std.proofs.Common.{codes, length}
use Rattle.cd_line.specs.Reading.{joined_read, literal_read}
use Rattle.cd_line.proofs.Fronts.{goes_on}
use Rattle.cd_line.proofs.reading.read_literals_joined.Goals as goal

pub loop-preserved : goal.loop-preserved
loop-preserved c =
    rw c.in_ok-push-2.ensures.ok (goes_on (codes " | ") (λ x. literal_read c.args.symbols.now c.args.levels x) (length c.args.text.now) c.loop.counter c.loop.literals c.loop.rest.now c.in-Some.behind.now c.in_ok-literal.literal c.in_ok-literal.after.now (joined_read (codes " | ") (λ x. literal_read c.args.symbols.now c.args.levels x) c.args.text.now) c.loop-test.true c.in-Some.ensures c.in_ok-literal.ensures c.loop.invariant)
