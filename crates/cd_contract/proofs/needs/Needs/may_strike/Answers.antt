use Rattle.cd_contract.specs.Marks.{BrieflyMarked}
use Rattle.cd_contract.proofs.Needing.{false_test, neither, subsumer_needs, reducer_needs}
use Rattle.cd_contract.proofs.needs.Needs.may_strike.Goals as goal

pub returns : goal.returns
returns c = λ out o d e needs sought. (
  λ by. false_test _ (BrieflyMarked c.args.marks.now c.args.self.now.literal) c.has.ensures c.if-has.false
      (subsumer_needs (BrieflyMarked c.args.marks.now) o d e c.args.self.now needs sought by),
  λ by. neither _ _ (BrieflyMarked c.args.marks.now c.args.self.now.left) (BrieflyMarked c.args.marks.now c.args.self.now.right) c.has-2.ensures c.has-3.ensures c.if-has-2.false out
      (reducer_needs (BrieflyMarked c.args.marks.now) o d e c.args.self.now needs sought by),
)
