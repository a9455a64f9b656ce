-- Substitutions as functions: composition, one binding, and occurrence.
use Rattle.std.proofs.Common.{◌≡◌, ℕ, Bool, true, false, List, [], ◌∷◌, map, nat_eq, ap, refl, sym, ◌∙◌, arith, if◌then◌else◌}
use Rattle.cd_term.specs.declared.Term.{Term}
use Rattle.cd_term.specs.declared.Term.TheVariants.{Var, App}
use Rattle.cd_term.specs.Terms.{substituted, one}
use Rattle.cd_term.proofs.TermInduction.{ind, Each}
use Rattle.cd_term.proofs.Equations.{substituted-Var, substituted-App}

-- equal at each variable
pub substituted-same : (g h : ℕ → Term) → ((k : ℕ) → g k ≡ h k) → (t : Term) → substituted g t ≡ substituted h t
substituted-same g h e t = ap (λ f. substituted f t) (λ i k. e k i)

each_same : {A : Type 0} (g h : Term → A) (ts : List Term) → Each (λ t. g t ≡ h t) ts → map g ts ≡ map h ts
each_same g h [] e = refl
each_same g h (t ∷ ts) e = let here = e.0 in let rest = each_same g h ts e.1 in cc

map_map : {A : Type 0} (g : Term → A) (h : Term → Term) (ts : List Term) → map g (map h ts) ≡ map (λ t. g (h t)) ts
map_map g h [] = refl
map_map g h (t ∷ ts) = ap (λ us. g (h t) ∷ us) (map_map g h ts)

-- one substitution after another
pub substituted-substituted : (g h : ℕ → Term) (t : Term) →
    substituted g (substituted h t) ≡ substituted (λ k. substituted g (h k)) t
substituted-substituted g h = ind (λ t. substituted g (substituted h t) ≡ substituted (λ k. substituted g (h k)) t)
    (λ n. ap (substituted g) (substituted-Var h n) ∙ sym (substituted-Var (λ k. substituted g (h k)) n))
    (λ f ts e. ap (substituted g) (substituted-App h f ts) ∙ substituted-App g f (map (substituted h) ts)
    ∙ ap (App f) (map_map (substituted g) (substituted h) ts ∙ each_same (λ t. substituted g (substituted h t)) (substituted (λ k. substituted g (h k))) ts e)
    ∙ sym (substituted-App (λ k. substituted g (h k)) f ts))

list_id : (g : Term → Term) (ts : List Term) → Each (λ t. g t ≡ t) ts → map g ts ≡ ts
list_id g [] e = refl
list_id g (t ∷ ts) e = let here = e.0 in let rest = list_id g ts e.1 in cc

pub substituted-identity : (t : Term) → substituted Var t ≡ t
substituted-identity = ind (λ t. substituted Var t ≡ t)
    (λ n. substituted-Var Var n)
    (λ f ts e. substituted-App Var f ts ∙ ap (App f) (list_id (substituted Var) ts e))

-- a solution of x ≡ u doesn't see the binding of x
one_absorbed : (g : ℕ → Term) (x : ℕ) (u : Term) → g x ≡ substituted g u → (k : ℕ) (b : Bool) → nat_eq k x ≡ b →
    substituted g (if b then u else Var k) ≡ g k
one_absorbed g x u e k true is = sym e ∙ ap g (sym (grind (arith, is)))
one_absorbed g x u e k false is = substituted-Var g k

pub substituted-one : (g : ℕ → Term) (x : ℕ) (u t : Term) → g x ≡ substituted g u →
    substituted g (substituted (one x u) t) ≡ substituted g t
substituted-one g x u t e = substituted-substituted g (one x u) t
    ∙ substituted-same (λ k. substituted g (one x u k)) g (λ k. one_absorbed g x u e k (nat_eq k x) refl) t
