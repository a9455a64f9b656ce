-- Terms compared under substitutions.
use Rattle.std.proofs.Common.{◌≡◌, ℕ, Bool, true, false, List, [], ◌∷◌, map, Option, Some, None, slice_get, unwrap_or, ap, ◌∙◌, sym, refl}
use Rattle.std.proofs.lemmas.Bool.{false≢true}
use Rattle.cd_term.specs.declared.Term.{Term}
use Rattle.cd_term.specs.declared.Term.TheVariants.{Var, App}
use Rattle.cd_term.specs.Terms.{applied, substituted, value_of}
use Rattle.cd_term.proofs.Equations.{substituted-App, substituted-Var}
use Rattle.cd_term.proofs.Substitutions.{substituted-identity, substituted-same}
use Rattle.cd_term.proofs.VariableLaws.{App-injective}
use Rattle.cd_term.proofs.MarkLemmas.{Var-App-apart}

-- what a comparison answers
abbrev pub Tells : {A : Type 0} → A → A → Bool → Type 0
Tells x y b = (b ≡ true → x ≡ y) × (x ≡ y → b ≡ true)

pub tells_of : {A : Type 0} (x y z w : A) (b : Bool) → x ≡ z → y ≡ w → Tells z w b → Tells x y b
tells_of x y z w b left right t = ((λ e. left ∙ t.0 e ∙ sym right), (λ e. t.1 (sym left ∙ e ∙ right)))

pub tells_turned : {A : Type 0} (x y : A) (b : Bool) → Tells y x b → Tells x y b
tells_turned x y b t = ((λ e. sym (t.0 e)), (λ e. t.1 (sym e)))

-- the empty substitution changes nothing
pub applied_none : (t : Term) → applied [] t ≡ t
applied_none t = substituted-same (value_of []) Var (λ k. refl) t ∙ substituted-identity t

pub applied_nones : (ts : List Term) → map (applied []) ts ≡ ts
applied_nones [] = refl
applied_nones (t ∷ ts) = let here = applied_none t in let rest = applied_nones ts in cc

pub all_unchanged : (ts : List Term) → map (substituted Var) ts ≡ ts
all_unchanged [] = refl
all_unchanged (t ∷ ts) = let here = substituted-identity t in let rest = all_unchanged ts in cc

-- the value of a variable
pub value_there : (s : List Term) (k : ℕ) (t v : Term) → t ≡ Var k → Some v ≡ slice_get s k → applied s t ≡ v
value_there s k t v is there =
    ap (applied s) is ∙ substituted-Var (value_of s) k ∙ ap (λ (o : Option Term). unwrap_or o (Var k)) (sym there)

pub value_missing : (s : List Term) (k : ℕ) (t : Term) → t ≡ Var k → None ≡ slice_get s k → applied s t ≡ t
value_missing s k t is missing =
    ap (applied s) is ∙ substituted-Var (value_of s) k ∙ ap (λ (o : Option Term). unwrap_or o (Var k)) (sym missing) ∙ sym is

-- symbols with their arguments
pub apps_refused : (g h : ℕ → Term) (f k : ℕ) (t u : Term) (xs ys ts us : List Term) → t ≡ App f xs → u ≡ App k ys → ts ≡ xs → us ≡ ys →
    (map (substituted g) ts ≡ map (substituted h) us → ⊥) → Tells (substituted g t) (substituted h u) false
apps_refused g h f k t u xs ys ts us is at left right differ = (
  (λ e. absurd (false≢true e)),
  (λ e. absurd (differ (ap (map (substituted g)) left
      ∙ (App-injective f k (map (substituted g) xs) (map (substituted h) ys)
      (sym (substituted-App g f xs) ∙ sym (ap (substituted g) is) ∙ e ∙ ap (substituted h) at ∙ substituted-App h k ys)).1
      ∙ sym (ap (map (substituted h)) right)))),
)

pub apps_same : (g h : ℕ → Term) (f k : ℕ) (t u : Term) (xs ys ts us : List Term) → t ≡ App f xs → u ≡ App k ys → ts ≡ xs → us ≡ ys →
    f ≡ k → map (substituted g) ts ≡ map (substituted h) us → Tells (substituted g t) (substituted h u) true
apps_same g h f k t u xs ys ts us is at left right same e = (
  (λ _. ap (substituted g) is ∙ substituted-App g f xs ∙ ap (λ (n : ℕ). App n (map (substituted g) xs)) same
      ∙ ap (App k) (sym (ap (map (substituted g)) left) ∙ e ∙ ap (map (substituted h)) right) ∙ sym (ap (substituted h) at ∙ substituted-App h k ys)),
  (λ _. refl),
)

pub tells_unchanged : (x u : Term) (b : Bool) → Tells x (substituted Var u) b → Tells x u b
tells_unchanged x u b t = tells_of x u x (substituted Var u) b refl (sym (substituted-identity u)) t

pub never_variable : (g : ℕ → Term) (f n : ℕ) (t u : Term) (xs : List Term) → t ≡ App f xs → u ≡ Var n → Tells (substituted g t) u false
never_variable g f n t u xs is at = (
  (λ e. absurd (false≢true e)),
  (λ e. absurd (Var-App-apart n f (map (substituted g) xs) (sym at ∙ sym e ∙ ap (substituted g) is ∙ substituted-App g f xs))),
)
