use Rattle.std.proofs.Common.{ℕ, take}
use Rattle.std.specs.Prelude.{IfSome}
use Rattle.cd_contract.specs.Shapes.{mix, Among}
use Rattle.cd_contract.specs.Marks.{MarksRow, Keeps}
use Rattle.cd_contract.proofs.marks.Marks.mark_grid.Given as goal

abbrev pub invariant-loop-x : goal.invariant-loop-x
invariant-loop-x l = record {
  kept : Keeps l.fn.self l.self;
  last : IfSome l.last (λ x. MarksRow l.self (mix l.symbol x) l.ys);
  grid : (x : ℕ) → Among x (take l.x-index l.xs) → MarksRow l.self (mix l.symbol x) l.ys;
}
