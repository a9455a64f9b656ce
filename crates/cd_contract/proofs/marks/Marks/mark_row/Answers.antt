use Rattle.std.proofs.Common.{subst, arith}
use Rattle.cd_contract.specs.Shapes.{mix}
use Rattle.cd_contract.specs.Marks.{Marked}
use Rattle.cd_contract.proofs.Marking.{among_next, among_all}
use Rattle.cd_contract.proofs.marks.Marks.mark_row.Goals as goal

pub loop-y-preserved : goal.loop-y-preserved
loop-y-preserved c = record {
  kept = λ k on. c.mark.ensures.kept k (c.loop-y.invariant.kept k on);
  last = subst (Marked c.mark.new.self) c.mixed.ensures.value c.mark.ensures.marked;
  row = among_next (λ y. Marked c.mark.new.self (mix c.args.symbol c.args.x y)) c.args.ys.now c.loop-y.y-index (omega arith)
      (λ y among. c.mark.ensures.kept _ (c.loop-y.invariant.row y among))
      (subst (Marked c.mark.new.self) c.mixed.ensures.value c.mark.ensures.marked);
}

pub returns-clause-row : goal.returns-clause-row
returns-clause-row c =
    among_all (λ y. Marked c.loop-y.self (mix c.args.symbol c.args.x y)) c.args.ys.now c.loop-y.y-index (omega arith) c.loop-y.invariant.row
