-- Terms with different symbols are never made equal.
use Rattle.std.proofs.Common.{◌≡◌, ℕ, List, map, ap, ◌∙◌, sym}
use Rattle.cd_term.specs.declared.Term.{Term}
use Rattle.cd_term.specs.declared.Term.TheVariants.{App}
use Rattle.cd_term.specs.Terms.{substituted}
use Rattle.cd_term.proofs.Equations.{substituted-App}
use Rattle.cd_term.proofs.VariableLaws.{App-injective}

pub heads_differ : (g h : ℕ → Term) (f k : ℕ) (t u : Term) (xs ys : List Term) → t ≡ App f xs → u ≡ App k ys → (f ≡ k → ⊥) → substituted g t ≡ substituted h u → ⊥
heads_differ g h f k t u xs ys is at differ e =
    differ (App-injective f k (map (substituted g) xs) (map (substituted h) ys)
    (sym (substituted-App g f xs) ∙ sym (ap (substituted g) is) ∙ e ∙ ap (substituted h) at ∙ substituted-App h k ys)).0
