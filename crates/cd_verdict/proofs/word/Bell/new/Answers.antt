use Rattle.cd_verdict.proofs.Steps.{begins}
use Rattle.cd_verdict.proofs.word.Bell.new.Goals as goal

pub of_words-requires : goal.of_words-requires
of_words-requires c = begins c.from-key.result
