use Rattle.std.proofs.Common.{◌≡◌, length}
use Rattle.cd_lex.specs.Bytes.{is_word_byte}
use Rattle.cd_line.specs.Reading.{run_read, with_front}
use Rattle.cd_line.proofs.reading.read_word_run.Given as goal

abbrev pub invariant-loop-rest : goal.invariant-loop-rest
invariant-loop-rest l = with_front l.content (run_read is_word_byte l.rest) ≡ run_read is_word_byte l.fn.text

abbrev pub decreases-loop-rest : goal.decreases-loop-rest
decreases-loop-rest l = length l.rest
