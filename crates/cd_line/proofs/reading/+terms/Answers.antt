use Rattle.std.proofs.Common.{codes, length}
use Rattle.cd_line.specs.Reading.{joined_read, term_read}
use Rattle.cd_line.proofs.Fronts.{goes_on}
use Rattle.cd_line.proofs.reading.+terms.Goals as goal

pub read_terms_joined-loop-preserved : goal.read_terms_joined-loop-preserved
read_terms_joined-loop-preserved t c =
    rw c.in_ok-push-2.ensures.ok (goes_on (codes ",") (λ x. term_read c.args.symbols.now c.args.levels x) (length c.args.text.now) c.loop.counter c.loop.args c.loop.rest.now c.in-Some.behind.now c.in_ok-term.term c.in_ok-term.after.now (joined_read (codes ",") (λ x. term_read c.args.symbols.now c.args.levels x) c.args.text.now) c.loop-test.true c.in-Some.ensures c.in_ok-term.ensures c.loop.invariant)
