use Rattle.std.proofs.Common.{◌≡◌, ◌+◌, ◌-◌, ◌*◌, codes, length}
use Rattle.cd_line.specs.Reading.{with_front, further_read, joined_read, term_read}
use Rattle.cd_line.proofs.reading.+terms.Given as goal

abbrev pub decreases-read_term : goal.decreases-read_term
decreases-read_term l = 3 * l.levels

abbrev pub decreases-read_applied : goal.decreases-read_applied
decreases-read_applied l = 3 * l.levels + 2

abbrev pub decreases-read_terms_joined : goal.decreases-read_terms_joined
decreases-read_terms_joined l = 3 * l.levels + 1

abbrev pub invariant-read_terms_joined-loop : goal.invariant-read_terms_joined-loop
invariant-read_terms_joined-loop l =
    with_front l.args (further_read (codes ",") (λ t. term_read l.symbols l.levels t) (length l.text - l.counter) l.rest) ≡ joined_read (codes ",") (λ t. term_read l.symbols l.levels t) l.text
