use Rattle.std.proofs.Common.{◌≡◌, ◌-◌, codes, length}
use Rattle.cd_line.specs.Reading.{further_read, joined_read, number_read, with_front}
use Rattle.cd_line.proofs.reading.read_places.Given as goal

abbrev pub invariant-loop : goal.invariant-loop
invariant-loop l =
    with_front l.places (further_read (codes ",") number_read (length l.text - l.counter) l.rest) ≡ joined_read (codes ",") number_read l.text
