-- Terms over symbols: under substitutions, and their subterms and replacements.
use Rattle.std.proofs.Common.{◌≡◌, ℕ, zero, suc, Bool, true, ◌&&◌, List, [], ◌∷◌, length, map, Some, slice_get, slice_set, unwrap_or, refl, ap, sym, ◌∙◌}
use Rattle.std.specs.List.{list_all}
use Rattle.std.proofs.lemmas.Bool.{and_parts, and_from}
use Rattle.std.proofs.lemmas.List.{length-map, length-set}
use Rattle.std.proofs.lemmas.Option.{same_Some}
use Rattle.cd_list.proofs.Lists.{all_get, all_set}
use Rattle.cd_term.specs.declared.Term.{Term}
use Rattle.cd_term.specs.declared.Term.TheVariants.{Var, App}
use Rattle.cd_term.specs.Terms.{substituted, value_of, subterm, replaced}
use Rattle.cd_term.specs.Symbols.{Symbols, over_step, is_over, AreOver}
use Rattle.cd_term.proofs.TermInduction.{ind, Each}
use Rattle.cd_term.proofs.Equations.{fold-Var, fold-App, substituted-Var, substituted-App}
use Rattle.cd_term.proofs.PathLaws.{steps_to, puts_in}

module _ (y : Symbols) where
  pub over-Var : (n : ℕ) → is_over y (Var n) ≡ true
  over-Var = fold-Var Bool (over_step y)

  each_over : List Term → Bool
  each_over ts = list_all (λ b. b) (map (is_over y) ts)

  over-App : (f : ℕ) (ts : List Term) → is_over y (App f ts) ≡ (y.is_function f (length ts) && each_over ts)
  unfolding each_over
  over-App f ts = fold-App Bool (over_step y) f ts ∙ ap (λ n. y.is_function f n && list_all (λ b. b) (map (is_over y) ts)) (length-map ts (is_over y))

  all_over : (ts : List Term) → each_over ts ≡ true → AreOver y ts
  unfolding each_over
  all_over [] e = tt
  all_over (t ∷ ts) e = (let both = and_parts (is_over y t) (list_all (λ b. b) (map (is_over y) ts)) e in (both.0, all_over ts both.1))

  over_all : (ts : List Term) → AreOver y ts → each_over ts ≡ true
  unfolding each_over
  over_all [] e = refl
  over_all (t ∷ ts) e = and_from (is_over y t) (list_all (λ b. b) (map (is_over y) ts)) e.0 (over_all ts e.1)

  pub parts_over : (f : ℕ) (ts : List Term) → is_over y (App f ts) ≡ true → (y.is_function f (length ts) ≡ true) × AreOver y ts
  parts_over f ts e = (let both = and_parts (y.is_function f (length ts)) (each_over ts) (sym (over-App f ts) ∙ e) in (both.0, all_over ts both.1))

  pub whole_over : (f : ℕ) (ts : List Term) → y.is_function f (length ts) ≡ true → AreOver y ts → is_over y (App f ts) ≡ true
  whole_over f ts e all = over-App f ts ∙ and_from (y.is_function f (length ts)) (each_over ts) e (over_all ts all)

  -- an instance by terms over the symbols
  each_instance : (g : ℕ → Term) (ts : List Term) → Each (λ t. is_over y t ≡ true → is_over y (substituted g t) ≡ true) ts → AreOver y ts → AreOver y (map (substituted g) ts)
  each_instance g [] each all = tt
  each_instance g (t ∷ ts) each all = (each.0 all.0, each_instance g ts each.1 all.1)

  pub instance_over : (g : ℕ → Term) → ((k : ℕ) → is_over y (g k) ≡ true) → (t : Term) → is_over y t ≡ true → is_over y (substituted g t) ≡ true
  instance_over g values = ind (λ t. is_over y t ≡ true → is_over y (substituted g t) ≡ true)
      (λ n e. ap (is_over y) (substituted-Var g n) ∙ values n)
      (λ f ts each e. (let parts = parts_over f ts e in
      ap (is_over y) (substituted-App g f ts)
      ∙ whole_over f (map (substituted g) ts) (ap (λ n. y.is_function f n) (length-map ts (substituted g)) ∙ parts.0) (each_instance g ts each parts.1)))

  pub instances_over : (g : ℕ → Term) → ((k : ℕ) → is_over y (g k) ≡ true) → (ts : List Term) → AreOver y ts → AreOver y (map (substituted g) ts)
  instances_over g values [] all = tt
  instances_over g values (t ∷ ts) all = (instance_over g values t all.0, instances_over g values ts all.1)

  -- a value in a list of terms over the symbols
  pub value_over : (s : List Term) → AreOver y s → (k : ℕ) → is_over y (value_of s k) ≡ true
  value_over s all k = go s all k k
    where
      go : (s : List Term) → AreOver y s → (k n : ℕ) → is_over y (unwrap_or (slice_get s k) (Var n)) ≡ true
      go [] all k n = over-Var n
      go (t ∷ s) all zero n = all.0
      go (t ∷ s) all (suc k) n = go s all.1 k n

  -- subterms and replacements
  pub subterm_over : (path : List ℕ) (t u : Term) → subterm path t ≡ Some u → is_over y t ≡ true → is_over y u ≡ true
  subterm_over [] t u e all = ap (is_over y) (sym (same_Some t u e)) ∙ all
  subterm_over (i ∷ path) t u e all =
      (let s = steps_to i path u t e in
      let parts = parts_over s.symbol s.args (sym (ap (is_over y) s.is) ∙ all) in
      subterm_over path s.arg u s.rest (all_get (λ x. is_over y x ≡ true) s.args i s.arg parts.1 s.here))

  pub replaced_over : (path : List ℕ) (new t v : Term) → replaced path new t ≡ Some v → is_over y new ≡ true → is_over y t ≡ true → is_over y v ≡ true
  replaced_over [] new t v e some all = ap (is_over y) (sym (same_Some new v e)) ∙ some
  replaced_over (i ∷ path) new t v e some all =
      (let s = puts_in i path new v t e in
      let parts = parts_over s.symbol s.args (sym (ap (is_over y) s.is) ∙ all) in
      let here = all_get (λ x. is_over y x ≡ true) s.args i s.arg parts.1 s.here in
      ap (is_over y) s.result
      ∙ whole_over s.symbol (slice_set s.args i s.changed) (ap (λ n. y.is_function s.symbol n) (length-set s.args i s.changed) ∙ parts.0)
      (all_set (λ x. is_over y x ≡ true) s.args i s.changed parts.1 (replaced_over path new s.arg s.changed s.rest some here)))
