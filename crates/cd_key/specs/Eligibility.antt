-- The laws of the order of literals and of eligible literals. Each is the contract of a function of the module `laws`.
-- Beyond the headline: no clause of `prove` reaches this file.
use Rattle.std.specs.Prelude.{ℕ, ◌≡◌, ◌≢◌, ◌<◌, [], length}
use Rattle.std.specs.List.{AllByRecursion}
use Rattle.std.specs.declared.cmp.Ordering.TheVariants as answer
use Rattle.cd_list.specs.Decisions.{Decided}
use Rattle.cd_clause.specs.declared.Literal.{Literal}
use Rattle.cd_clause.specs.declared.Clause.{Clause}
use Rattle.cd_kbo.specs.declared.order.Order.{Order}
use Rattle.cd_kbo.specs.Kbo.{IsGround}
use Rattle.cd_key.specs.Literals.{sides, IsLiteralGreater, IsEligible}
use Rattle.cd_key.specs.Forms.{literal_compare}

-- a literal without variables
abbrev pub IsGroundLiteral : Literal → Type 0
IsGroundLiteral l = AllByRecursion IsGround (sides l.atom)

-- no literal is greater than itself; the order is transitive on literals without variables; and what is greater has the
-- greater ground form
pub record IsLiteralOrder (o : Order) : Type 0 where
  pub irreflexive : (l : Literal) → IsLiteralGreater o l l → ⊥
  pub transitive : (l m n : Literal) → IsGroundLiteral l → IsGroundLiteral m → IsGroundLiteral n →
      IsLiteralGreater o l m → IsLiteralGreater o m n → IsLiteralGreater o l n
  pub above : (l m : Literal) → IsLiteralGreater o l m → literal_compare o l m ≡ answer.Greater

abbrev pub LiteralsAreOrdered : Type 0
LiteralsAreOrdered = (o : Order) → IsLiteralOrder o

-- a clause that isn't empty has an eligible literal
abbrev pub SomeLiteralIsEligible : Type 0
SomeLiteralIsEligible = (o : Order) (c : Clause) → c.literals ≢ [] → (i : ℕ) × (i < length c.literals) × IsEligible o c i

-- a literal is eligible, or it isn't
abbrev pub EligibilityDecides : Type 0
EligibilityDecides = (o : Order) (c : Clause) (i : ℕ) → Decided (IsEligible o c i)
