use Rattle.std.proofs.Common.{◌≡◌, ◌≤◌, ◌<◌, ℕ, true, false, Some, slice_get}
use Rattle.cd_term.specs.declared.Term.{Term}
use Rattle.cd_clause.specs.declared.Literal.{Literal}
use Rattle.cd_subsume.specs.Literals.{LiteralBinds}
use Rattle.cd_subsume.proofs.partners.partners.Given as goal

abbrev pub invariant-loop-m : goal.invariant-loop-m
invariant-loop-m l = record {
  few : l.count ≤ l.m-index;
  none : l.count ≡ 0 → (place : ℕ) (m : Literal) → place < l.m-index → slice_get l.ms place ≡ Some m → (g : ℕ → Term) →
      (LiteralBinds false l.l m g → ⊥) × (LiteralBinds true l.l m g → ⊥);
}
