use Rattle.std.proofs.Common.{arith}
use Rattle.cd_contract.proofs.Marking.{one_marked, word_kept}
use Rattle.cd_contract.proofs.marks.Marks.mark.Goals as goal

pub returns-clause-marked : goal.returns-clause-marked
returns-clause-marked c = (c.requires, one_marked c.args.self.now.words c.from-i.result _ _ (omega arith) c.from-i.ensures (omega arith))

pub returns-clause-kept : goal.returns-clause-kept
returns-clause-kept c = λ k on. (on.0, word_kept c.args.self.now.words c.from-i.result _ _ _ (omega arith) on.1)
