-- Terms are equal or not.
use Rattle.std.proofs.Common.{◌≡◌, inl, inr, ℕ, List, [], ◌∷◌, refl, ap, ap₂, sym}
use Rattle.cd_list.specs.Decisions.{Decided}
use Rattle.cd_list.proofs.Decisions.{number}
use Rattle.cd_term.specs.declared.Term.{Term}
use Rattle.cd_term.specs.declared.Term.TheVariants.{Var, App}
use Rattle.cd_term.specs.Laws.{TermsDecide}
use Rattle.cd_term.proofs.TermInduction.{ind, Each}
use Rattle.cd_term.proofs.VariableLaws.{App-injective}
use Rattle.cd_term.proofs.MarkLemmas.{Var-injective, Var-App-apart}

-- lists of terms, each of which is equal to another one or not
lists_decide : (ts : List Term) → Each (λ t. (u : Term) → Decided (t ≡ u)) ts → (us : List Term) → Decided (ts ≡ us)
lists_decide [] each [] = inl refl
lists_decide [] each (u ∷ us) = inr (λ e. absurd cc)
lists_decide (t ∷ ts) each [] = inr (λ e. absurd cc)
lists_decide (t ∷ ts) each (u ∷ us) = heads (each.0 u) (lists_decide ts each.1 us)
  where
    heads : Decided (t ≡ u) → Decided (ts ≡ us) → Decided (t ∷ ts ≡ u ∷ us)
    heads (inl e) (inl f) = inl (ap₂ (λ (x : Term) (xs : List Term). x ∷ xs) e f)
    heads (inl e) (inr f) = inr (λ same. f cc)
    heads (inr e) f = inr (λ same. e cc)

variable_decides : (n : ℕ) (t : Term) → Decided (Var n ≡ t)
variable_decides n = ind (λ t. Decided (Var n ≡ t))
    (λ m. elim (number n m) [ inl e ↦ inl (ap Var e) | inr e ↦ inr (λ same. e (Var-injective n m same)) ])
    (λ f ts each. inr (λ same. Var-App-apart n f ts same))

symbol_decides : (f : ℕ) (ts : List Term) → Each (λ t. (u : Term) → Decided (t ≡ u)) ts → (t : Term) → Decided (App f ts ≡ t)
symbol_decides f ts each = ind (λ t. Decided (App f ts ≡ t))
    (λ m. inr (λ same. Var-App-apart m f ts (sym same)))
    (λ g us others. heads g us (number f g) (lists_decide ts each us))
  where
    heads : (g : ℕ) (us : List Term) → Decided (f ≡ g) → Decided (ts ≡ us) → Decided (App f ts ≡ App g us)
    heads g us (inl e) (inl same) = inl (ap₂ App e same)
    heads g us (inl e) (inr apart) = inr (λ whole. apart (App-injective f g ts us whole).1)
    heads g us (inr apart) same = inr (λ whole. apart (App-injective f g ts us whole).0)

pub terms_decide : TermsDecide
terms_decide = ind (λ s. (t : Term) → Decided (s ≡ t)) variable_decides symbol_decides

each_term : (ts : List Term) → Each (λ t. (u : Term) → Decided (t ≡ u)) ts
each_term [] = tt
each_term (t ∷ ts) = (terms_decide t, each_term ts)

pub all_terms_decide : (ts us : List Term) → Decided (ts ≡ us)
all_terms_decide ts us = lists_decide ts (each_term ts) us
