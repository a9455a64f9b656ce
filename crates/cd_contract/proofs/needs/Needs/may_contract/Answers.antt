use Rattle.std.proofs.Common.{subst}
use Rattle.cd_contract.specs.Hits.{Contracts}
use Rattle.cd_contract.specs.Marks.{Marked}
use Rattle.cd_contract.proofs.Needing.{false_test, subsumer_needs}
use Rattle.cd_contract.proofs.needs.Needs.may_contract.Goals as goal

pub returns-in-Subsumes : goal.returns-in-Subsumes
returns-in-Subsumes c = λ out o d e needs sought by.
    false_test _ (Marked c.args.marks.now c.args.self.now.literal) c.has.ensures out
    (subsumer_needs (Marked c.args.marks.now) o d e c.args.self.now needs sought (subst (λ h. Contracts o h d e) c.in-Subsumes.is by))

pub returns-in-Reduces : goal.returns-in-Reduces
returns-in-Reduces c = λ out o d e needs sought by. c.may_reduce.ensures out o d e needs sought (subst (λ h. Contracts o h d e) c.in-Reduces.is by)
