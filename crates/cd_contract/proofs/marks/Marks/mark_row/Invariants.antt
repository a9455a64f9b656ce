use Rattle.std.proofs.Common.{ℕ, take}
use Rattle.std.specs.Prelude.{IfSome}
use Rattle.cd_contract.specs.Shapes.{mix, Among}
use Rattle.cd_contract.specs.Marks.{Marked, Keeps}
use Rattle.cd_contract.proofs.marks.Marks.mark_row.Given as goal

abbrev pub invariant-loop-y : goal.invariant-loop-y
invariant-loop-y l = record {
  kept : Keeps l.fn.self l.self;
  last : IfSome l.last (λ y. Marked l.self (mix l.symbol l.x y));
  row : (y : ℕ) → Among y (take l.y-index l.ys) → Marked l.self (mix l.symbol l.x y);
}
