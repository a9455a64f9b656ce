-- Which arrivals pass, and what links pass over.
use Rattle.std.proofs.Common.{◌≡◌, ◌≢◌, ◌∙◌, ◌⊎◌, inl, inr, ℕ, zero, suc, ◌+◌, ◌<◌, ◌≤◌, Bool, false, List, [], ◌∷◌, length, get_or, slice_set, refl, sym, ap, subst, arith, get_or-set_same, get_or-set_other, length-set}
use Rattle.std.proofs.lemmas.Bool.{cases_order}
use Rattle.cd_tasks.specs.declared.Arrival.{Arrival}
use Rattle.cd_tasks.specs.Links.{passes_at, NonePass, AreLinks}

pub passes_get : (test : Arrival → Bool) (es : List Arrival) (k : ℕ) (x : Arrival) → k < length es → passes_at test es k ≡ test (get_or es k x)
passes_get test [] k x within = absurd (omega (arith, within))
passes_get test (e ∷ es) zero x within = refl
passes_get test (e ∷ es) (suc k) x within = passes_get test es k x (omega (arith, within))

-- the arrival that was read passes as its place does
pub passes_read : (test : Arrival → Bool) (es : List Arrival) (k : ℕ) (x : Arrival) → k < length es → x ≡ get_or es k x → passes_at test es k ≡ test x
passes_read test es k x within is = passes_get test es k x within ∙ ap test (sym is)

pub none_here : (test : Arrival → Bool) (es : List Arrival) (i : ℕ) → NonePass test es i i
unfolding NonePass
none_here test es i k from to = absurd (omega (arith, from, to))

-- none up to a place, not there, and none behind it
pub none_join : (test : Arrival → Bool) (es : List Arrival) (i j k : ℕ) → NonePass test es i j → passes_at test es j ≡ false → NonePass test es (j + 1) k → NonePass test es i k
unfolding NonePass
none_join test es i j k front here back n from to = by (cases_order n j)
  where
    by : (n ≡ j) ⊎ ((n < j) ⊎ (j < n)) → passes_at test es n ≡ false
    by (inl e) = ap (passes_at test es) e ∙ here
    by (inr (inl lt)) = front n from lt
    by (inr (inr lt)) = back n (omega (arith, lt)) to

pub none_less : (test : Arrival → Bool) (es : List Arrival) (i j k : ℕ) → k ≤ j → NonePass test es i j → NonePass test es i k
unfolding NonePass
none_less test es i j k less front n from to = front n from (omega (arith, less, to))

pub none_back : (test : Arrival → Bool) (es : List Arrival) (i j k : ℕ) → i ≤ k → NonePass test es i j → NonePass test es k j
unfolding NonePass
none_back test es i j k less front n from to = front n (omega (arith, less, from)) to

-- where a link may lead from a place
record Fine (test : Arrival → Bool) (es : List Arrival) (k to : ℕ) : Type 0 where
  up : k < to
  within : to ≤ length es
  over : NonePass test es (k + 1) to

fine_after : (test : Arrival → Bool) (es : List Arrival) (links : List ℕ) (i j : ℕ) → AreLinks test es links → Fine test es i j
    → (k : ℕ) → k < length es → Fine test es k (get_or (slice_set links i j) k 0)
fine_after test es links i j are fine k lt = by (cases_order k i)
  where
    other : k ≢ i → Fine test es k (get_or (slice_set links i j) k 0)
    other ne = subst (Fine test es k) (sym (get_or-set_other links i k j 0 ne)) (record { up = are.up k lt; within = are.within k lt; over = are.over k lt })

    by : (k ≡ i) ⊎ ((k < i) ⊎ (i < k)) → Fine test es k (get_or (slice_set links i j) k 0)
    by (inl e) =
        let there : i < length links = omega (arith, are.same_length, e, lt) in
        subst (λ (n : ℕ). Fine test es n (get_or (slice_set links i j) n 0)) (sym e) (subst (Fine test es i) (sym (get_or-set_same links i j 0 there)) fine)
    by (inr (inl less)) = other (λ e. omega (arith, e, less))
    by (inr (inr more)) = other (λ e. omega (arith, e, more))

-- a link is led up to another place
pub relink : (test : Arrival → Bool) (es : List Arrival) (links : List ℕ) (i j : ℕ) → AreLinks test es links → i < j → j ≤ length es → NonePass test es (i + 1) j → AreLinks test es (slice_set links i j)
relink test es links i j are up within none =
    let fine = fine_after test es links i j are (record { up = up; within = within; over = none }) in
    record {
      same_length = length-set links i j ∙ are.same_length;
      up = λ k lt. (fine k lt).up;
      within = λ k lt. (fine k lt).within;
      over = λ k lt. (fine k lt).over;
    }
