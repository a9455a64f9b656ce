-- Most general unifiers of terms over symbols are over them.
use Rattle.std.proofs.Common.{◌≡◌, ℕ, suc, ◌<◌, Bool, true, false, if◌then◌else◌, List, [], ◌∷◌, length, map, get_or, refl, ap, sym, ◌∙◌, arith}
use Rattle.std.specs.List.{AllByRecursion}
use Rattle.std.proofs.lemmas.List.{length-map}
use Rattle.cd_term.specs.declared.Term.{Term, fold-Term}
use Rattle.cd_term.specs.declared.Term.TheVariants.{Var, App}
use Rattle.cd_term.specs.declared.Term.TheOpen.{Term-F}
use Rattle.cd_term.specs.declared.Term.TheOpen as layer
use Rattle.cd_term.specs.Terms.{substituted, value_of}
use Rattle.cd_term.specs.Symbols.{Symbols, is_over, AreOver}
use Rattle.cd_term.proofs.TermInduction.{ind, Each}
use Rattle.cd_term.proofs.Equations.{fold-Var, fold-App, substituted-Var, substituted-App}
use Rattle.cd_term.proofs.SizeLaws.{each}
use Rattle.cd_term.proofs.OverLemmas.{over-Var, parts_over, whole_over}
use Rattle.cd_unify.specs.Laws.{UnifiersAreOver}
use Rattle.cd_unify.proofs.LawLemmas.{value_of-get}

module _ (y : Symbols) where
  -- an instance over the symbols is one of a term over them
  instances_back : (g : ℕ → Term) (ts : List Term) → Each (λ t. is_over y (substituted g t) ≡ true → is_over y t ≡ true) ts → AreOver y (map (substituted g) ts) → AreOver y ts
  instances_back g [] each all = tt
  instances_back g (t ∷ ts) each all = (each.0 all.0, instances_back g ts each.1 all.1)

  instance_back : (g : ℕ → Term) (t : Term) → is_over y (substituted g t) ≡ true → is_over y t ≡ true
  instance_back g = ind (λ t. is_over y (substituted g t) ≡ true → is_over y t ≡ true)
      (λ n e. over-Var y n)
      (λ f ts each e. (let parts = parts_over y f (map (substituted g) ts) (sym (ap (is_over y) (substituted-App g f ts)) ∙ e) in
      whole_over y f ts (sym (ap (λ n. y.is_function f n) (length-map ts (substituted g))) ∙ parts.0) (instances_back g ts each parts.1)))

  -- a term whose parts that aren't over the symbols gave way to a variable
  pruned_step : Term-F Term → Term
  pruned_step (layer.Var n) = Var n
  pruned_step (layer.App f ts) = if y.is_function f (length ts) then App f ts else Var 0

  pruned : Term → Term
  pruned = fold-Term Term pruned_step

  pruned-Var : (n : ℕ) → pruned (Var n) ≡ Var n
  unfolding pruned_step pruned
  pruned-Var n = fold-Var Term pruned_step n

  pruned-App : (f : ℕ) (ts : List Term) → pruned (App f ts) ≡ (if y.is_function f (length ts) then App f (map pruned ts) else Var 0)
  unfolding pruned_step pruned
  pruned-App f ts = fold-App Term pruned_step f ts ∙ ap (λ n. if y.is_function f n then App f (map pruned ts) else Var 0) (length-map ts pruned)

  kept_whole : (f : ℕ) (ts : List Term) → y.is_function f (length ts) ≡ true → pruned (App f ts) ≡ App f (map pruned ts)
  kept_whole f ts e = pruned-App f ts ∙ ap (λ (b : Bool). if b then App f (map pruned ts) else Var 0) e

  all_pruned : (ts : List Term) → Each (λ t. is_over y (pruned t) ≡ true) ts → AreOver y (map pruned ts)
  all_pruned [] e = tt
  all_pruned (t ∷ ts) e = (e.0, all_pruned ts e.1)

  pruned_over : (t : Term) → is_over y (pruned t) ≡ true
  pruned_over = ind (λ t. is_over y (pruned t) ≡ true)
      (λ n. ap (is_over y) (pruned-Var n) ∙ over-Var y n)
      (λ f ts e. at f ts e (y.is_function f (length ts)) refl)
    where
      at : (f : ℕ) (ts : List Term) → Each (λ t. is_over y (pruned t) ≡ true) ts → (b : Bool) → y.is_function f (length ts) ≡ b → is_over y (pruned (App f ts)) ≡ true
      at f ts e true is = ap (is_over y) (kept_whole f ts is) ∙ whole_over y f (map pruned ts) (ap (λ n. y.is_function f n) (length-map ts pruned) ∙ is) (all_pruned ts e)
      at f ts e false is = ap (is_over y) (pruned-App f ts ∙ ap (λ (b : Bool). if b then App f (map pruned ts) else Var 0) is) ∙ over-Var y 0

  -- pruning after a substitution is a substitution of pruned terms, in a term over the symbols
  Commutes : (ℕ → Term) → Term → Type 0
  Commutes g t = is_over y t ≡ true → pruned (substituted g t) ≡ substituted (λ k. pruned (g k)) t

  pruned_instances : (g : ℕ → Term) (ts : List Term) → Each (Commutes g) ts → AreOver y ts →
      map pruned (map (substituted g) ts) ≡ map (substituted (λ k. pruned (g k))) ts
  unfolding Commutes
  pruned_instances g [] e all = refl
  pruned_instances g (t ∷ ts) e all = ap (λ x. x ∷ map pruned (map (substituted g) ts)) (e.0 all.0) ∙ ap (λ xs. substituted (λ k. pruned (g k)) t ∷ xs) (pruned_instances g ts e.1 all.1)

  pruned_instance : (g : ℕ → Term) (t : Term) → Commutes g t
  unfolding Commutes
  pruned_instance g = ind (Commutes g)
      (λ n e. ap pruned (substituted-Var g n) ∙ sym (substituted-Var (λ k. pruned (g k)) n))
      (λ f ts e all. (let parts = parts_over y f ts all in
      ap pruned (substituted-App g f ts)
      ∙ kept_whole f (map (substituted g) ts) (ap (λ n. y.is_function f n) (length-map ts (substituted g)) ∙ parts.0)
      ∙ ap (App f) (pruned_instances g ts e parts.1)
      ∙ sym (substituted-App (λ k. pruned (g k)) f ts)))

  all_instances : (g : ℕ → Term) (ts : List Term) → AreOver y ts → map pruned (map (substituted g) ts) ≡ map (substituted (λ k. pruned (g k))) ts
  all_instances g ts all = pruned_instances g ts (each (Commutes g) (pruned_instance g) ts) all

-- what holds of each value holds of all
all_values : (P : Term → Type 0) (d : Term) (s : List Term) → ((k : ℕ) → k < length s → P (get_or s k d)) → AllByRecursion P s
all_values P d [] h = tt
all_values P d (t ∷ s) h = (h 0 (omega arith), all_values P d s (λ k lt. h (suc k) (omega arith)))

pub unifiers_are_over : UnifiersAreOver
unifiers_are_over y vars left right s u over_left over_right =
    let g : ℕ → Term = λ k. pruned y (value_of s k) in
    let unifies : map (substituted g) left ≡ map (substituted g) right
    = sym (all_instances y (value_of s) left over_left) ∙ ap (map (pruned y)) u.unifies ∙ all_instances y (value_of s) right over_right in
    let general = u.general g unifies in
    all_values (λ t. is_over y t ≡ true) (Var 0) s (λ k lt. ap (is_over y) (sym (value_of-get s k lt))
    ∙ instance_back y general.0 (value_of s k) (sym (ap (is_over y) (general.1 k (omega (arith, lt, u.covers)))) ∙ pruned_over y (value_of s k)))
