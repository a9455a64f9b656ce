-- What a substitution that matches a term takes from what it makes of it: sizes, depths, variables and symbols.
use Rattle.std.proofs.Common.{◌≡◌, ◌≢◌, inl, inr, ℕ, zero, suc, ◌+◌, ◌<◌, ◌≤◌, max, Bool, true, false, nat_eq, List, [], ◌∷◌, length, map, sum_by, Some, slice_get, refl, ap, sym, ◌∙◌, arith}
use Rattle.std.specs.Prelude.{unwrap_or}
use Rattle.std.specs.List.{list_any}
use Rattle.std.proofs.lemmas.Option.{same_Some}
use Rattle.std.proofs.lemmas.Bool.{or_cases, or_left, or_right, eqb-true, false≢true}
use Rattle.std.proofs.lemmas.List.Sums.{sum_by-cons}
use Rattle.cd_list.proofs.Numbers.{equal_itself}
use Rattle.cd_term.specs.declared.Term.{Term}
use Rattle.cd_term.specs.declared.Term.TheVariants.{Var, App}
use Rattle.cd_term.specs.Terms.{greatest, size_of, depth_of, bound_of, variables_of, occurs, substituted, value_of, subterm, IsNumberedFrom}
use Rattle.cd_term.proofs.TermInduction.{ind, Each}
use Rattle.cd_term.proofs.Equations.{size_of-App, depth_of-App, bound_of-App, occurs-Var, occurs-App, substituted-Var, substituted-App}
use Rattle.cd_term.proofs.SizeLaws.{size_of-substituted}
use Rattle.cd_term.proofs.NumberedSizes.{variables_le}
use Rattle.cd_term.proofs.VariableLaws.{known, occurs-variables}
use Rattle.cd_term.proofs.PathLaws.{steps_to}
use Rattle.cd_term.specs.Symbols.{Symbols, is_over, AreOver}
use Rattle.cd_term.proofs.OverLemmas.{parts_over}

-- ---- a measure that no argument exceeds

abbrev pub Grows : (Term → ℕ) → Type 0
Grows m = (f : ℕ) (ts : List Term) → greatest (map m ts) ≤ m (App f ts)

greatest_le_sum : (ts : List Term) → greatest (map size_of ts) ≤ sum_by size_of ts
greatest_le_sum [] = omega arith
greatest_le_sum (t ∷ ts) = omega (arith, greatest_le_sum ts, sum_by-cons size_of t ts)

pub size_grows : Grows size_of
size_grows f ts = omega (arith, size_of-App f ts, greatest_le_sum ts)

pub depth_grows : Grows depth_of
depth_grows f ts = omega (arith, depth_of-App f ts)

pub bound_grows : Grows bound_of
bound_grows f ts = omega (arith, bound_of-App f ts)

pub greatest_at : (m : Term → ℕ) (ts : List Term) (i : ℕ) (t : Term) → slice_get ts i ≡ Some t → m t ≤ greatest (map m ts)
greatest_at m [] i t e = absurd (cc)
greatest_at m (u ∷ ts) zero t e = omega (arith, ap m (same_Some u t e))
greatest_at m (u ∷ ts) (suc i) t e = omega (arith, greatest_at m ts i t e)

pub subterm_le : (m : Term → ℕ) → Grows m → (path : List ℕ) (t u : Term) → subterm path t ≡ Some u → m u ≤ m t
subterm_le m grows [] t u e = omega (arith, ap m (same_Some t u e))
subterm_le m grows (i ∷ path) t u e =
    let s = steps_to i path u t e in
    omega (arith, subterm_le m grows path s.arg u s.rest, greatest_at m s.args i s.arg s.here, grows s.symbol s.args, ap m s.is)

-- the value of a variable that occurs
pub values_le : (m : Term → ℕ) (g : ℕ → Term) (k : ℕ) (ts : List Term) → Each (λ t. occurs k t ≡ true → m (g k) ≤ m (substituted g t)) ts →
    list_any (λ b. b) (map (occurs k) ts) ≡ true → m (g k) ≤ greatest (map m (map (substituted g) ts))
values_le m g k [] each o = absurd (cc)
values_le m g k (t ∷ ts) each o = elim (or_cases (occurs k t) (list_any (λ b. b) (map (occurs k) ts)) o) [
  | inl here ↦ omega (arith, each.0 here)
  | inr there ↦ omega (arith, values_le m g k ts each.1 there)
]

pub value_le : (m : Term → ℕ) → Grows m → (g : ℕ → Term) (k : ℕ) (t : Term) → occurs k t ≡ true → m (g k) ≤ m (substituted g t)
value_le m grows g k = ind (λ t. occurs k t ≡ true → m (g k) ≤ m (substituted g t))
    (λ n o. (let is : n ≡ k = eqb-true n k (sym (occurs-Var k n) ∙ o) in omega (arith, ap m (substituted-Var g n), ap (λ i. m (g i)) is)))
    (λ f ts each o. omega (arith, ap m (substituted-App g f ts), grows f (map (substituted g) ts), values_le m g k ts each (sym (occurs-App k f ts) ∙ o)))

values_over : (y : Symbols) (g : ℕ → Term) (k : ℕ) (ts : List Term) → Each (λ t. occurs k t ≡ true → is_over y (substituted g t) ≡ true → is_over y (g k) ≡ true) ts →
    list_any (λ b. b) (map (occurs k) ts) ≡ true → AreOver y (map (substituted g) ts) → is_over y (g k) ≡ true
values_over y g k [] each o all = absurd (cc)
values_over y g k (t ∷ ts) each o all = elim (or_cases (occurs k t) (list_any (λ b. b) (map (occurs k) ts)) o) [
  | inl here ↦ each.0 here all.0
  | inr there ↦ values_over y g k ts each.1 there all.1
]

pub value_is_over : (y : Symbols) (g : ℕ → Term) (k : ℕ) (t : Term) → occurs k t ≡ true → is_over y (substituted g t) ≡ true → is_over y (g k) ≡ true
value_is_over y g k = ind (λ t. occurs k t ≡ true → is_over y (substituted g t) ≡ true → is_over y (g k) ≡ true)
    (λ n o all. (let is : n ≡ k = eqb-true n k (sym (occurs-Var k n) ∙ o) in sym (ap (λ i. is_over y (g i)) is) ∙ sym (ap (is_over y) (substituted-Var g n)) ∙ all))
    (λ f ts each o all. values_over y g k ts each (sym (occurs-App k f ts) ∙ o) (parts_over y f (map (substituted g) ts) (sym (ap (is_over y) (substituted-App g f ts)) ∙ all)).1)

-- ---- one occurrence taken out of a list

record Without (k : ℕ) (vs : List ℕ) : Type 0 where
  pub rest : List ℕ
  pub sums : (h : ℕ → ℕ) → sum_by h vs ≡ h k + sum_by h rest
  pub others : (i : ℕ) → i ≢ k → known i vs ≡ true → known i rest ≡ true

without : (k : ℕ) (vs : List ℕ) → known k vs ≡ true → Without k vs
without k [] e = absurd (cc)
without k (v ∷ vs) e = at (nat_eq v k) refl (without k vs)
  where
    here : v ≡ k → Without k (v ∷ vs)
    here is = record {
      rest = vs;
      sums = λ h. omega (arith, sum_by-cons h v vs, ap h is);
      others = λ i apart o. elim (or_cases (nat_eq v i) (known i vs) o) [
        | inl same ↦ absurd (apart (sym (eqb-true v i same) ∙ is))
        | inr there ↦ there
      ];
    }

    later : Without k vs → Without k (v ∷ vs)
    later w = record {
      rest = v ∷ w.rest;
      sums = λ h. omega (arith, sum_by-cons h v vs, sum_by-cons h v w.rest, w.sums h);
      others = λ i apart o. elim (or_cases (nat_eq v i) (known i vs) o) [
        | inl same ↦ or_left (nat_eq v i) (known i w.rest) same
        | inr rest ↦ or_right (nat_eq v i) (known i w.rest) (w.others i apart rest)
      ];
    }

    at : (b : Bool) → nat_eq v k ≡ b → (known k vs ≡ true → Without k vs) → Without k (v ∷ vs)
    at true is rest = here (eqb-true v k is)
    at false is rest = elim (or_cases (nat_eq v k) (known k vs) e) [
      | inl same ↦ here (eqb-true v k same)
      | inr there ↦ later (rest there)
    ]

-- ---- a list of values

abbrev pub Gives : (ℕ → Term) → ℕ → List Term → Type 0
Gives g a [] = Unit {0}
Gives g a (t ∷ ts) = (g a ≡ t) × Gives g (suc a) ts

gives_from : (g : ℕ → Term) (a : ℕ) (ts : List Term) → ((k i : ℕ) (u : Term) → k ≡ a + i → slice_get ts i ≡ Some u → g k ≡ u) → Gives g a ts
gives_from g a [] f = tt
gives_from g a (t ∷ ts) f = (f a zero t (omega arith) refl, gives_from g (suc a) ts (λ k i u e at. f k (suc i) u (omega (arith, e)) at))

pub list_gives : (s : List Term) → Gives (value_of s) zero s
list_gives s = gives_from (value_of s) zero s (λ k i u e at. (let same : k ≡ i = omega (arith, e) in ap (λ n. unwrap_or (slice_get s n) (Var k)) same ∙ ap (λ o. unwrap_or o (Var k)) at))

pub sizes_le : (g : ℕ → Term) (a : ℕ) (s : List Term) (vs : List ℕ) → Gives g a s → ((k : ℕ) → a ≤ k → k < a + length s → known k vs ≡ true) →
    sum_by size_of s ≤ sum_by (λ n. size_of (g n)) vs
sizes_le g a [] vs is all = omega arith
sizes_le g a (t ∷ s) vs is all =
    let w = without a vs (all a (omega arith) (omega arith)) in
    omega (
      arith,
      sum_by-cons size_of t s,
      w.sums (λ n. size_of (g n)),
      ap size_of is.0,
      sizes_le g (suc a) s w.rest is.1 (λ k le lt. w.others k (λ e. omega (arith, e, le)) (all k (omega (arith, le)) (omega (arith, lt)))),
    )

pub measures_le : (m : Term → ℕ) (most : ℕ) (g : ℕ → Term) (a : ℕ) (s : List Term) → Gives g a s → ((k : ℕ) → a ≤ k → k < a + length s → m (g k) ≤ most) → greatest (map m s) ≤ most
measures_le m most g a [] is all = omega arith
measures_le m most g a (t ∷ s) is all =
    omega (arith, ap m is.0, all a (omega arith) (omega arith), measures_le m most g (suc a) s is.1 (λ k le lt. all k (omega (arith, le)) (omega (arith, lt))))

pub list_over : (y : Symbols) (g : ℕ → Term) (a : ℕ) (s : List Term) → Gives g a s → ((k : ℕ) → a ≤ k → k < a + length s → is_over y (g k) ≡ true) → AreOver y s
list_over y g a [] is all = tt
list_over y g a (t ∷ s) is all = (sym (ap (is_over y) is.0) ∙ all a (omega arith) (omega arith), list_over y g (suc a) s is.1 (λ k le lt. all k (omega (arith, le)) (omega (arith, lt))))

-- ---- the values of a match

pub match_size : (s : List Term) (t : Term) → ((k : ℕ) → k < length s → occurs k t ≡ true) → sum_by size_of s ≤ size_of (substituted (value_of s) t)
match_size s t all =
    omega (
      arith,
      sizes_le (value_of s) zero s (variables_of t) (list_gives s) (λ k le lt. sym (occurs-variables t k) ∙ all k (omega (arith, lt))),
      size_of-substituted (value_of s) t,
      variables_le t,
    )

pub match_measure : (m : Term → ℕ) → Grows m → (s : List Term) (t : Term) → ((k : ℕ) → k < length s → occurs k t ≡ true) → greatest (map m s) ≤ m (substituted (value_of s) t)
match_measure m grows s t all = measures_le m (m (substituted (value_of s) t)) (value_of s) zero s (list_gives s) (λ k le lt. value_le m grows (value_of s) k t (all k (omega (arith, lt))))

pub match_over : (y : Symbols) (s : List Term) (t : Term) → ((k : ℕ) → k < length s → occurs k t ≡ true) → is_over y (substituted (value_of s) t) ≡ true → AreOver y s
match_over y s t all over = list_over y (value_of s) zero s (list_gives s) (λ k le lt. value_is_over y (value_of s) k t (all k (omega (arith, lt))) over)

-- ---- numbered variables

pub numbered_known : (a k : ℕ) (vs : List ℕ) → IsNumberedFrom a vs → a ≤ k → k < greatest (map (λ n. n + 1) vs) → known k vs ≡ true
numbered_known a k [] numbered le lt = absurd (omega (arith, lt))
numbered_known a k (v ∷ vs) numbered le lt = at (nat_eq v k) refl (λ more below. numbered_known (max a (v + 1)) k vs numbered.1 more below)
  where
    at : (b : Bool) → nat_eq v k ≡ b → (max a (v + 1) ≤ k → k < greatest (map (λ n. n + 1) vs) → known k vs ≡ true) → known k (v ∷ vs) ≡ true
    at true is rest = or_left (nat_eq v k) (known k vs) is
    at false is rest =
        let apart : v ≢ k = (λ e. false≢true (sym is ∙ ap (λ n. nat_eq n k) e ∙ equal_itself k)) in
        or_right (nat_eq v k) (known k vs) (rest (omega (arith, numbered.0, le, apart)) (omega (arith, lt, numbered.0, le, apart)))
