-- What is left to be done, as a number that every turn lowers.
use Rattle.std.proofs.Common.{◌≡◌, ◌≢◌, ℕ, ◌+◌, ◌*◌, ◌<◌, ◌≤◌, Bool, true, false, cond, ◌&&◌, ◌==◌, refl, arith, inl, inr, ◌⊎◌}
use Rattle.std.specs.Prelude.{Option, Some, None}
use Rattle.std.proofs.lemmas.Bool.{and_right, cases_lt, eq-eqb, eqb-true, ne_eqb}
use Rattle.cd_ledger.specs.declared.events.Verdict.{Verdict}
use Rattle.cd_ledger.specs.declared.local.Local.{Local}
use Rattle.cd_laws.specs.Measure.{names_left, third, units_left}
use Rattle.cd_laws.specs.Schedule.{far}
use Rattle.cd_search.specs.Search.{alone}
use Rattle.cd_search.specs.Steps.{HasGiven, HasNames, HasSpent, HasUnits, Nearer}

abbrev pub is_none : Option Verdict → Bool
is_none None = true
is_none (Some v) = false

-- the units, where there is no verdict
abbrev pub unit_work : Local → ℕ
unit_work s = cond (is_none s.verdict) (units_left s + 1) 0

-- the names, where also so many units are left
abbrev pub name_work : ℕ → Local → ℕ
name_work u s = cond (is_none s.verdict && (units_left s == u)) (names_left s + 1) 0

-- what else is left, where also so many names are left
abbrev pub turn_work : ℕ → ℕ → Local → ℕ
turn_work u n s = cond ((is_none s.verdict && (units_left s == u)) && (names_left s == n)) (10 * third (alone s) + far (alone s) + 1) 0

-- ---- the flags

none_flag : (o : Option Verdict) → o ≡ None → is_none o ≡ true
none_flag None h = refl
none_flag (Some v) h = cc

some_flag : (o : Option Verdict) → o ≢ None → is_none o ≡ false
some_flag None h = absurd (h refl)
some_flag (Some v) h = refl

less_flag : (a b : ℕ) → a < b → (a == b) ≡ false
less_flag a b h = ne_eqb a b (λ e. omega (arith, e, h))

and_false : (a : Bool) → (a && false) ≡ false
and_false a = and_right a false refl

at_most : (f : Bool) (x : ℕ) → cond f (x + 1) 0 ≤ x + 1
at_most true x = omega arith
at_most false x = omega arith

-- ---- each is lowered

pub unit_less : (s next : Local) → s.verdict ≡ None → HasSpent s next → unit_work next < unit_work s
unit_less s next running h = go h
  where
    old : unit_work s ≡ units_left s + 1
    old = let f = none_flag s.verdict running in rw f refl

    go : HasSpent s next → unit_work next < unit_work s
    go (inl ended) = let f = some_flag next.verdict ended in let z : unit_work next ≡ 0 = rw f refl in omega (arith, z, old)
    go (inr less) = omega (arith, at_most (is_none next.verdict) (units_left next), old, less)

pub name_less : (u : ℕ) (s next : Local) → HasUnits u s → HasGiven s next → name_work u next < name_work u s
name_less u s next has h = go h
  where
    old : name_work u s ≡ names_left s + 1
    old = let f = none_flag s.verdict has.0 in let g = eq-eqb (units_left s) u has.1 in rw (f, g) refl

    go : HasGiven s next → name_work u next < name_work u s
    go (inl (inl ended)) = let f = some_flag next.verdict ended in let z : name_work u next ≡ 0 = rw f refl in omega (arith, z, old)
    go (inl (inr less)) =
        let f = less_flag (units_left next) u (omega (arith, less, has.1)) in
        let g = and_false (is_none next.verdict) in
        let z : name_work u next ≡ 0 = rw (f, g) refl in omega (arith, z, old)
    go (inr (same, less)) = omega (arith, at_most (is_none next.verdict && (units_left next == u)) (names_left next), old, less)

pub turn_less : (u n : ℕ) (s next : Local) → HasNames u n s → far (alone next) ≤ 9 → Nearer s next → turn_work u n next < turn_work u n s
turn_less u n s next has few h = go h
  where
    old : turn_work u n s ≡ 10 * third (alone s) + far (alone s) + 1
    old = let f = none_flag s.verdict has.0.0 in let g = eq-eqb (units_left s) u has.0.1 in let k = eq-eqb (names_left s) n has.1 in rw (f, g, k) refl

    most : turn_work u n next ≤ 10 * third (alone next) + far (alone next) + 1
    most = at_most ((is_none next.verdict && (units_left next == u)) && (names_left next == n)) (10 * third (alone next) + far (alone next))

    go : Nearer s next → turn_work u n next < turn_work u n s
    go (inl ended) = let f = some_flag next.verdict ended in let z : turn_work u n next ≡ 0 = rw f refl in omega (arith, z, old)
    go (inr (inl (inl less))) =
        let f = less_flag (units_left next) u (omega (arith, less, has.0.1)) in
        let g = and_false (is_none next.verdict) in
        let z : turn_work u n next ≡ 0 = rw (f, g) refl in omega (arith, z, old)
    go (inr (inl (inr (same, inl less)))) =
        let f = less_flag (names_left next) n (omega (arith, less, has.1)) in
        let g = and_false (is_none next.verdict && (units_left next == u)) in
        let z : turn_work u n next ≡ 0 = rw (f, g) refl in omega (arith, z, old)
    go (inr (inl (inr (same, inr (names, less))))) = omega (arith, most, old, few, less)
    go (inr (inr (same, less))) = omega (arith, most, old, same.2, less)

-- ---- while so much is left

less_of : (a b : ℕ) → a ≤ b → a ≢ b → a < b
less_of a b le ne = elim (cases_lt a b) [ inl l ↦ l | inr ge ↦ absurd (ne (omega (arith, le, ge))) ]

-- there is a verdict, or a unit was used, or none was and no name is more than there were
abbrev pub AtMost : ℕ → ℕ → Local → Type 0
AtMost u n s = (s.verdict ≢ None) ⊎ ((units_left s < u) ⊎ ((units_left s ≡ u) × (names_left s ≤ n)))

pub most_now : (s : Local) → AtMost (units_left s) (names_left s) s
most_now s = inr (inr (refl, omega arith))

pub most_near : (u n : ℕ) (s next : Local) → HasNames u n s → Nearer s next → AtMost u n next
most_near u n s next has (inl ended) = inl ended
most_near u n s next has (inr (inl (inl less))) = inr (inl (omega (arith, less, has.0.1)))
most_near u n s next has (inr (inl (inr (same, inl less)))) = inr (inr (omega (arith, same, has.0.1), omega (arith, less, has.1)))
most_near u n s next has (inr (inl (inr (same, inr (names, less))))) = inr (inr (omega (arith, same, has.0.1), omega (arith, names, has.1)))
most_near u n s next has (inr (inr (same, less))) = inr (inr (omega (arith, same.0, has.0.1), omega (arith, same.1, has.1)))

pub given_of : (s next : Local) → AtMost (units_left s) (names_left s) next → (HasNames (units_left s) (names_left s) next → ⊥) → HasGiven s next
given_of s next (inl ended) none = inl (inl ended)
given_of s next (inr (inl less)) none = inl (inr less)
given_of s next (inr (inr (same, most))) none = go next.verdict refl (names_left next == names_left s) refl
  where
    go : (o : Option Verdict) → next.verdict ≡ o → (f : Bool) → (names_left next == names_left s) ≡ f → HasGiven s next
    go (Some v) is f flag = inl (inl (λ h. absurd (cc (is, h))))
    go None is true flag = absurd (none ((is, same), eqb-true (names_left next) (names_left s) flag))
    go None is false flag = inr (same, (let ne : names_left next ≢ names_left s = (λ h. absurd (let t = eq-eqb (names_left next) (names_left s) h in cc (t, flag))) in less_of (names_left next) (names_left s) most ne))

-- there is a verdict, or no unit is more than there were
abbrev pub FewUnits : ℕ → Local → Type 0
FewUnits u s = (s.verdict ≢ None) ⊎ (units_left s ≤ u)

pub few_now : (s : Local) → FewUnits (units_left s) s
few_now s = inr (omega arith)

pub few_given : (u : ℕ) (s next : Local) → HasUnits u s → HasGiven s next → FewUnits u next
few_given u s next has (inl (inl ended)) = inl ended
few_given u s next has (inl (inr less)) = inr (omega (arith, less, has.1))
few_given u s next has (inr (same, less)) = inr (omega (arith, same, has.1))

pub spent_of : (s next : Local) → FewUnits (units_left s) next → (HasUnits (units_left s) next → ⊥) → HasSpent s next
spent_of s next (inl ended) none = inl ended
spent_of s next (inr most) none = go next.verdict refl (units_left next == units_left s) refl
  where
    go : (o : Option Verdict) → next.verdict ≡ o → (f : Bool) → (units_left next == units_left s) ≡ f → HasSpent s next
    go (Some v) is f flag = inl (λ h. absurd (cc (is, h)))
    go None is true flag = absurd (none (is, eqb-true (units_left next) (units_left s) flag))
    go None is false flag = inr (let ne : units_left next ≢ units_left s = (λ h. absurd (let t = eq-eqb (units_left next) (units_left s) h in cc (t, flag))) in less_of (units_left next) (units_left s) most ne)
