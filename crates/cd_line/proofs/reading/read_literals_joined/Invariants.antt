use Rattle.std.proofs.Common.{◌≡◌, ◌-◌, codes, length}
use Rattle.cd_line.specs.Reading.{further_read, joined_read, literal_read, with_front}
use Rattle.cd_line.proofs.reading.read_literals_joined.Given as goal

abbrev pub invariant-loop : goal.invariant-loop
invariant-loop l =
    with_front l.literals (further_read (codes " | ") (λ t. literal_read l.symbols l.levels t) (length l.text - l.counter) l.rest) ≡ joined_read (codes " | ") (λ t. literal_read l.symbols l.levels t) l.text
