-- Terms over the symbols of a table.
use Rattle.std.proofs.Common.{◌≡◌, ◌↔◌, ℕ, true, false, List, length, refl, sym, ◌∙◌, subst}
use Rattle.std.specs.Prelude.{IsTrue}
use Rattle.std.proofs.lemmas.Bool.{false≢true}
use Rattle.cd_term.specs.declared.Term.{Term}
use Rattle.cd_term.specs.declared.Term.TheVariants.{App}
use Rattle.cd_term.specs.Symbols.{AreOver, Symbols, is_over}
use Rattle.cd_term.proofs.OverLemmas.{parts_over, whole_over}

module _ (y : Symbols) (t : Term) (f : ℕ) (ts : List Term) (is : t ≡ App f ts) where
  over_parts : is_over y t ≡ true → (y.is_function f (length ts) ≡ true) × AreOver y ts
  over_parts e = parts_over y f ts (subst (λ (u : Term). is_over y u ≡ true) is e)

  pub no_function : y.is_function f (length ts) ≡ false → IsTrue false ↔ IsTrue (is_over y t)
  no_function h = ((λ e. absurd (false≢true e)), (λ e. absurd (false≢true (sym h ∙ (over_parts e).0))))

  pub some_not_over : (AreOver y ts → ⊥) → IsTrue false ↔ IsTrue (is_over y t)
  some_not_over h = ((λ e. absurd (false≢true e)), (λ e. absurd (h (over_parts e).1)))

  pub all_over : y.is_function f (length ts) ≡ true → AreOver y ts → IsTrue true ↔ IsTrue (is_over y t)
  all_over h all = ((λ e. subst (λ (u : Term). is_over y u ≡ true) (sym is) (whole_over y f ts h all)), (λ e. refl))
