-- Induction over terms, with the arguments as a list.
use Rattle.std.proofs.Common.{ℕ, List, [], ◌∷◌, map, subst, sym}
use Rattle.cd_term.specs.declared.Term.{Term, ind-Term, roll-Term}
use Rattle.cd_term.specs.declared.Term.TheVariants.{Var, App, rolls-Var, rolls-App}
use Rattle.cd_term.specs.declared.Term.TheOpen.{Term-F}
use Rattle.cd_term.specs.declared.Term.TheOpen as layer
use Rattle.cd_term.specs.declared.Term.TheFolds.{map-Term}

-- a fact of each item, one item at a time
abbrev pub Each : {A : Type 0} → (A → Type 0) → List A → Type 0
Each P [] = Unit {0}
Each P (x ∷ xs) = P x × Each P xs

all_of : (P : Term → Type 0) → (es : List ((t : Term) × P t)) → Each P (map (λ e. e.0) es)
all_of P [] = tt
all_of P (e ∷ es) = (e.1, all_of P es)

layer_of : (P : Term → Type 0) →
    ((n : ℕ) → P (Var n)) →
    ((f : ℕ) (ts : List Term) → Each P ts → P (App f ts)) →
    (y : Term-F ((t : Term) × P t)) → P (roll-Term (map-Term _ _ (λ e. e.0) y))
layer_of P v a (layer.Var n) = subst P (sym (rolls-Var n)) (v n)
layer_of P v a (layer.App f es) = subst P (sym (rolls-App f (map (λ e. e.0) es))) (a f (map (λ e. e.0) es) (all_of P es))

pub ind : (P : Term → Type 0) →
    ((n : ℕ) → P (Var n)) →
    ((f : ℕ) (ts : List Term) → Each P ts → P (App f ts)) →
    (t : Term) → P t
ind P v a = ind-Term P (λ x y is. subst (λ z. P (roll-Term z)) is (layer_of P v a y))
