-- Whether two lists of terms have a unifier is decided: by the first difference of two terms, which is put into both, as
-- often as there are variables.
use Rattle.std.proofs.Common.{◌≡◌, ◌≢◌, ◌⊎◌, inl, inr, ℕ, zero, suc, ◌+◌, ◌-◌, ◌<◌, ◌≤◌, Bool, true, false, List, [], ◌∷◌, ◌++◌, length, map, get_or, refl, ap, sym, ◌∙◌, subst, arith, length-append}
use Rattle.std.proofs.lemmas.Bool.{or_left, or_right, cases_lt}
use Rattle.std.proofs.lemmas.Option.{unwrap_or-slice_get}
use Rattle.std.proofs.lemmas.List.{get_or-append-add}
use Rattle.std.proofs.Math.ListN.{get_or-append}
use Rattle.cd_list.proofs.Decisions.{number}
use Rattle.cd_list.proofs.Numbers.{equal_itself}
use Rattle.cd_term.specs.declared.Term.{Term}
use Rattle.cd_term.specs.declared.Term.TheVariants.{Var, App}
use Rattle.cd_term.specs.Terms.{occurs, one, substituted, renumbered}
use Rattle.cd_term.proofs.TermInduction.{ind, Each}
use Rattle.cd_term.proofs.Equations.{substituted-Var, occurs-Var}
use Rattle.cd_term.proofs.MarkLemmas.{Var-injective, Var-App-apart}
use Rattle.cd_unify.specs.Unifiers.{IsMgu, HaveNoUnifier}
use Rattle.cd_unify.specs.Robinson.{HasNoUnifier, IsForced, IsSolution, IsIdentity}
use Rattle.cd_unify.specs.Laws.{UnifiersDecide}
use Rattle.cd_unify.proofs.Differences.{clash_head, clash_length, clash_arg, forced_arg}
use Rattle.cd_unify.proofs.Solving.{Solving, live, solving_begun, solved, clashes, circular, bound_next, live_bound}
use Rattle.cd_unify.proofs.UnifierLemmas.{wrapped, none_of_none, bound_of_args, absorbed_mgu}

-- ---- the first difference of two terms

-- two terms are equal, or no substitution makes them so, or each that does so makes a binding true
data Differs (l r : Term) : Type 0 where
  nowhere : l ≡ r → Differs l r
  clash : HasNoUnifier l r → Differs l r
  bind : (x : ℕ) (u : Term) → IsForced l r x u → Differs l r

Differing : Term → Type 0
Differing l = (r : Term) → Differs l r

forced_left : (x : ℕ) (u : Term) → u ≢ Var x → IsForced (Var x) u x u
forced_left x u apart = record {
  apart = apart;
  forced = λ g e. sym (substituted-Var g x) ∙ e;
  here = or_left (occurs x (Var x)) (occurs x u) (occurs-Var x x ∙ equal_itself x);
  within = λ k o. or_right (occurs k (Var x)) (occurs k u) o;
}

forced_right : (x : ℕ) (u : Term) → u ≢ Var x → IsForced u (Var x) x u
forced_right x u apart = record {
  apart = apart;
  forced = λ g e. sym (substituted-Var g x) ∙ sym e;
  here = or_right (occurs x u) (occurs x (Var x)) (occurs-Var x x ∙ equal_itself x);
  within = λ k o. or_left (occurs k u) (occurs k (Var x)) o;
}

of_variable : (x : ℕ) → Differing (Var x)
unfolding Differing
of_variable x = ind (Differs (Var x))
    (λ n. at n (number n x))
    (λ f ts e. bind x (App f ts) (forced_left x (App f ts) (λ same. Var-App-apart x f ts (sym same))))
  where
    at : (n : ℕ) → (n ≡ x) ⊎ (n ≡ x → ⊥) → Differs (Var x) (Var n)
    at n (inl same) = nowhere (ap Var (sym same))
    at n (inr apart) = bind x (Var n) (forced_left x (Var n) (λ same. apart (Var-injective n x same)))

-- the first difference of two lists of one length
data AllDiffer (ts us : List Term) : Type 0 where
  all_same : ts ≡ us → AllDiffer ts us
  clash_at : (i : ℕ) → i < length ts → HasNoUnifier (get_or ts i (Var 0)) (get_or us i (Var 0)) → AllDiffer ts us
  bind_at : (i : ℕ) → i < length ts → (x : ℕ) (u : Term) → IsForced (get_or ts i (Var 0)) (get_or us i (Var 0)) x u → AllDiffer ts us

compare_all : (ts : List Term) → Each Differing ts → (us : List Term) → length ts ≡ length us → AllDiffer ts us
unfolding Differing
compare_all [] e [] many = all_same refl
compare_all [] e (u ∷ us) many = absurd (omega (arith, many))
compare_all (t ∷ ts) e [] many = absurd (omega (arith, many))
compare_all (t ∷ ts) e (u ∷ us) many = at (e.0 u) (compare_all ts e.1 us (omega (arith, many)))
  where
    at : Differs t u → AllDiffer ts us → AllDiffer (t ∷ ts) (u ∷ us)
    at (clash none) rest = clash_at 0 (omega arith) none
    at (bind x v is) rest = bind_at 0 (omega arith) x v is
    at (nowhere same) (all_same rest) = all_same (ap (λ z. z ∷ ts) same ∙ ap (λ zs. u ∷ zs) rest)
    at (nowhere same) (clash_at i lt none) = clash_at (suc i) (omega (arith, lt)) none
    at (nowhere same) (bind_at i lt x v is) = bind_at (suc i) (omega (arith, lt)) x v is

of_arguments : (f : ℕ) (ts us : List Term) → length ts ≡ length us → AllDiffer ts us → Differs (App f ts) (App f us)
of_arguments f ts us many (all_same same) = nowhere (ap (App f) same)
of_arguments f ts us many (clash_at i lt none) =
    clash (clash_arg (App f ts) (App f us) f f ts us i (Var 0) (Var 0) refl refl lt (omega (arith, lt, many)) none)
of_arguments f ts us many (bind_at i lt x v is) =
    bind x v (forced_arg (App f ts) (App f us) f f ts us i (Var 0) (Var 0) x v refl refl lt (omega (arith, lt, many)) is)

of_symbols : (f : ℕ) (ts : List Term) → Each Differing ts → (g : ℕ) (us : List Term) → Differs (App f ts) (App g us)
of_symbols f ts e g us = heads (number f g)
  where
    lengths : f ≡ g → (length ts ≡ length us) ⊎ (length ts ≡ length us → ⊥) → Differs (App f ts) (App g us)
    lengths same (inr apart) = clash (clash_length (App f ts) (App g us) f g ts us refl refl apart)
    lengths same (inl many) = subst (λ h. Differs (App f ts) (App h us)) same (of_arguments f ts us many (compare_all ts e us many))

    heads : (f ≡ g) ⊎ (f ≡ g → ⊥) → Differs (App f ts) (App g us)
    heads (inr apart) = clash (clash_head (App f ts) (App g us) f g ts us refl refl apart)
    heads (inl same) = lengths same (number (length ts) (length us))

of_symbol : (f : ℕ) (ts : List Term) → Each Differing ts → Differing (App f ts)
unfolding Differing
of_symbol f ts e = ind (Differs (App f ts))
    (λ n. bind n (App f ts) (forced_right n (App f ts) (λ same. Var-App-apart n f ts (sym same))))
    (λ g us each. of_symbols f ts e g us)

compare : (l : Term) → Differing l
compare = ind Differing of_variable of_symbol

-- ---- the substitution that changes nothing

identity : ℕ → List Term
identity zero = []
identity (suc n) = identity n ++ Var n ∷ []

identity_length : (n : ℕ) → length (identity n) ≡ n
unfolding identity
identity_length zero = refl
identity_length (suc n) = length-append (identity n) (Var n ∷ []) ∙ (let e : length (identity n) + 1 ≡ suc n = omega (arith, identity_length n) in e)

identity_get : (n k : ℕ) → get_or (identity n) k (Var k) ≡ Var k
unfolding identity
identity_get zero k = refl
identity_get (suc n) k = at (identity_get n k) (cases_lt k n)
  where
    past : (j : ℕ) → k ≡ length (identity n) + j → get_or (identity n ++ Var n ∷ []) k (Var k) ≡ Var k
    past zero e = ap (λ i. get_or (identity n ++ Var n ∷ []) i (Var k)) e
        ∙ get_or-append-add (identity n) (Var n ∷ []) zero (Var k)
        ∙ ap Var (let same : n ≡ k = omega (arith, e, identity_length n) in same)
    past (suc j) e = ap (λ i. get_or (identity n ++ Var n ∷ []) i (Var k)) e ∙ get_or-append-add (identity n) (Var n ∷ []) (suc j) (Var k)

    at : get_or (identity n) k (Var k) ≡ Var k → (k < n) ⊎ (n ≤ k) → get_or (identity n ++ Var n ∷ []) k (Var k) ≡ Var k
    at before (inl lt) = get_or-append (identity n) (Var n ∷ []) (Var k) k (omega (arith, lt, identity_length n)) ∙ before
    at before (inr le) = past (k - n) (omega (arith, le, identity_length n))

identity_is : (n : ℕ) → IsIdentity n (identity n)
identity_is n = record { covers = identity_length n; same = λ k. unwrap_or-slice_get (identity n) k (Var k) ∙ identity_get n k }

-- ---- one binding after another

Solved : ℕ → Term → Term → Type 0
Solved vars left right = ((s : List Term) × IsSolution vars left right s) ⊎ HasNoUnifier left right

abbrev Next : ℕ → Term → Term → ℕ → Type 0
Next vars left right n = (s : List Term) (l r : Term) → Solving vars left right s l r → live vars l r < n → Solved vars left right

solution : (vars : ℕ) (left right : Term) (n : ℕ) → Next vars left right n
unfolding Solved Differing
solution vars left right zero s l r is fewer = absurd (omega (arith, fewer))
solution vars left right (suc n) s l r is fewer = at (solution vars left right n) (compare l r)
  where
    binding : Next vars left right n → (x : ℕ) (u : Term) → IsForced l r x u → (b : Bool) → occurs x u ≡ b → Solved vars left right
    binding next x u by true within = inr (circular vars left right s l r x u is by within)
    binding next x u by false out = next (map (substituted (one x u)) s) (substituted (one x u) l) (substituted (one x u) r)
        (bound_next vars left right s l r x u (map (substituted (one x u)) s) (substituted (one x u) l) (substituted (one x u) r) is by out refl refl refl)
        (omega (arith, fewer, live_bound vars left right s l r x u (substituted (one x u) l) (substituted (one x u) r) is by out refl refl))

    at : Next vars left right n → Differs l r → Solved vars left right
    at next (nowhere same) = inl (s, solved vars left right s l r is same)
    at next (clash none) = inr (clashes vars left right s l r is none)
    at next (bind x u by) = binding next x u by (occurs x u) refl

pub unifiers_decide : UnifiersDecide
unfolding Solved Differing
unifiers_decide vars left right lb rb =
    at (solution vars (App 0 left) (App 0 right) (suc (live vars (App 0 left) (App 0 right))) (identity vars) (App 0 left) (App 0 right)
    (solving_begun vars (App 0 left) (App 0 right) (identity vars) (App 0 left) (App 0 right) (identity_is vars) refl refl (bound_of_args vars left lb) (bound_of_args vars right rb))
    (omega arith))
  where
    at : Solved vars (App 0 left) (App 0 right) → ((s : List Term) × IsMgu vars left right s) ⊎ HaveNoUnifier left right
    at (inl x) = inl (renumbered x.0, absorbed_mgu vars left right x.0 (wrapped vars left right x.0 x.1) lb rb)
    at (inr none) = inr (none_of_none left right none)
