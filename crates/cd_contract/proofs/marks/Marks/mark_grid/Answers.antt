use Rattle.std.proofs.Common.{arith}
use Rattle.cd_contract.specs.Shapes.{mix}
use Rattle.cd_contract.specs.Marks.{MarksRow}
use Rattle.cd_contract.proofs.Marking.{among_next, among_all}
use Rattle.cd_contract.proofs.marks.Marks.mark_grid.Goals as goal

pub loop-x-preserved : goal.loop-x-preserved
loop-x-preserved c = record {
  kept = λ k on. c.mark_row.ensures.kept k (c.loop-x.invariant.kept k on);
  last = c.mark_row.ensures.row;
  grid = among_next (λ x. MarksRow c.mark_row.new.self (mix c.args.symbol x) c.args.ys.now) c.args.xs.now c.loop-x.x-index (omega arith)
      (λ x among y in_row. c.mark_row.ensures.kept _ (c.loop-x.invariant.grid x among y in_row)) c.mark_row.ensures.row;
}

pub returns-clause-grid : goal.returns-clause-grid
returns-clause-grid c =
    among_all (λ x. MarksRow c.loop-x.self (mix c.args.symbol x) c.args.ys.now) c.args.xs.now c.loop-x.x-index (omega arith) c.loop-x.invariant.grid
