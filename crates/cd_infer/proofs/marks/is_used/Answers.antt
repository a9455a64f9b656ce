use Rattle.std.proofs.Common.{sym}
use Rattle.cd_infer.proofs.MarkLemmas.{some_mark}
use Rattle.cd_infer.proofs.marks.is_used.Goals as goal

pub returns-in-None : goal.returns-in-None
returns-in-None c = absurd (some_mark c.args.marks.now c.args.i _ c.requires.marks.as_many c.requires.place (sym c.in-None.ensures))
