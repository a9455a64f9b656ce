-- Marks of the literals of clauses: which of them are eligible, and which sides of equations aren't the lesser ones.
-- Beyond the headline: no clause of `prove` reaches this file.
use Rattle.std.specs.Prelude.{◌≡◌, ◌↔◌, ℕ, IsTrue, List, length, slice_get, Some}
use Rattle.cd_clause.specs.declared.Clause.{Clause}
use Rattle.cd_kbo.specs.declared.order.Order.{Order}
use Rattle.cd_key.specs.Literals.{IsEligible}
use Rattle.cd_infer.specs.declared.marks.Mark.{Mark}
use Rattle.cd_infer.specs.declared.marks.Marks.{Marks}
use Rattle.cd_infer.specs.Conclusions.{IsNotLesser}

-- what a mark tells of literal k
pub record IsMark (o : Order) (c : Clause) (k : ℕ) (m : Mark) : Type 0 where
  pub eligible : IsTrue m.eligible ↔ IsEligible o c k
  pub left : IsTrue m.left ↔ IsNotLesser o c k 0
  pub right : IsTrue m.right ↔ IsNotLesser o c k 1

-- a mark for each literal
pub record AreMarks (o : Order) (c : Clause) (marks : List Mark) : Type 0 where
  pub as_many : length marks ≡ length c.literals
  pub each : (k : ℕ) (m : Mark) → slice_get marks k ≡ Some m → IsMark o c k m

pub record AreMarked (o : Order) (a b : Clause) (marks : Marks) : Type 0 where
  pub first : AreMarks o a marks.first.now
  pub second : AreMarks o b marks.second.now
