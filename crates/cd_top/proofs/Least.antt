-- The least peer of which something holds.
use Rattle.std.proofs.Common.{◌≡◌, ℕ, zero, suc, ◌+◌, ◌<◌, Bool, true, false, cond, List, [], ◌∷◌, length, Option, Some, None, refl, ap, ◌∙◌, subst, arith}
use Rattle.std.specs.Prelude.{slice_index_or, option_map}
use Rattle.cd_ledger.specs.declared.events.Bound.{Bound}
use Rattle.cd_ledger.specs.declared.events.Verdict.{Verdict}
use Rattle.cd_ledger.specs.declared.events.Verdict.TheVariants as verdict
use Rattle.cd_ledger.specs.declared.local.Local.{Local}
use Rattle.cd_machine.specs.World.{nobody}
use Rattle.cd_top.specs.Finding.{is_refuted, least_bound, or_later}
use Rattle.cd_top.specs.Headline.{is_limit, least, met_bound}

-- the peer with this number among those from k on
pub record IsAt (k peer : ℕ) (ss : List Local) (Holds : Local → Type 0) : Type 0 where
  pub place : ℕ
  pub number : peer ≡ k + place
  pub inside : place < length ss
  pub holds : Holds (slice_index_or ss place nobody)

at_later : (k peer : ℕ) (s : Local) (ss : List Local) (Holds : Local → Type 0) → IsAt (k + 1) peer ss Holds → IsAt k peer (s ∷ ss) Holds
at_later k peer s ss Holds h = record { place = suc h.place; number = omega (arith, h.number); inside = omega (arith, h.inside); holds = h.holds }

pub at_first : (peer : ℕ) (ss : List Local) (Holds : Local → Type 0) → IsAt 0 peer ss Holds → (peer < length ss) × Holds (slice_index_or ss peer nobody)
at_first peer ss Holds h =
    let same : h.place ≡ peer = omega (arith, h.number) in
    (omega (arith, same, h.inside), subst (λ (q : ℕ). Holds (slice_index_or ss q nobody)) same h.holds)

-- tests that agree on each of the states find the same
pub least_same : (f g : Local → Bool) (k : ℕ) (ss : List Local) → ((q : ℕ) → q < length ss → f (slice_index_or ss q nobody) ≡ g (slice_index_or ss q nobody)) → least f k ss ≡ least g k ss
least_same f g k [] h = refl
least_same f g k (s ∷ ss) h =
    ap (λ (b : Bool). cond b (Some k) (least f (k + 1) ss)) (h 0 (omega arith))
    ∙ ap (λ (later : Option ℕ). cond (g s) (Some k) later) (least_same f g (k + 1) ss (λ q l. h (suc q) (omega (arith, l))))

-- what is found passes the test
passes_by : (f : Local → Bool) (k : ℕ) (s : Local) (ss : List Local) (peer : ℕ) (b : Bool) → f s ≡ b → (least f (k + 1) ss ≡ Some peer → IsAt (k + 1) peer ss (λ s. f s ≡ true))
    → cond b (Some k) (least f (k + 1) ss) ≡ Some peer → IsAt k peer (s ∷ ss) (λ s. f s ≡ true)
passes_by f k s ss peer true is later h =
    let x : ◌≡◌ {A = Option ℕ} (Some k) (Some peer) = h in
    let same : k ≡ peer = cc in
    record { place = 0; number = omega (arith, same); inside = omega arith; holds = is }
passes_by f k s ss peer false is later h = at_later k peer s ss (λ s. f s ≡ true) (later h)

pub least_passes : (f : Local → Bool) (k : ℕ) (ss : List Local) (peer : ℕ) → least f k ss ≡ Some peer → IsAt k peer ss (λ s. f s ≡ true)
least_passes f k [] peer h = absurd (cc h)
least_passes f k (s ∷ ss) peer h = passes_by f k s ss peer (f s) refl (least_passes f (k + 1) ss peer) h

-- where nothing is found, nothing passes
none_by : (f : Local → Bool) (k : ℕ) (s : Local) (ss : List Local) (b : Bool) → f s ≡ b → (least f (k + 1) ss ≡ None → (q : ℕ) → q < length ss → f (slice_index_or ss q nobody) ≡ false)
    → cond b (Some k) (least f (k + 1) ss) ≡ None → (q : ℕ) → q < length (s ∷ ss) → f (slice_index_or (s ∷ ss) q nobody) ≡ false
none_by f k s ss true is later h q l = absurd (cc h)
none_by f k s ss false is later h zero l = is
none_by f k s ss false is later h (suc q) l = later h q (omega (arith, l))

pub none_passes : (f : Local → Bool) (k : ℕ) (ss : List Local) → least f k ss ≡ None → (q : ℕ) → q < length ss → f (slice_index_or ss q nobody) ≡ false
none_passes f k [] h q l = absurd (omega (arith, l))
none_passes f k (s ∷ ss) h q l = none_by f k s ss (f s) refl (none_passes f (k + 1) ss) h q l

pub refuted_is : (v : Option Verdict) → is_refuted v ≡ true → v ≡ Some verdict.Refuted
refuted_is None h = absurd (cc h)
refuted_is (Some verdict.Refuted) h = refl
refuted_is (Some verdict.Saturated) h = absurd (cc h)
refuted_is (Some verdict.Spent) h = absurd (cc h)
refuted_is (Some (verdict.Limit b)) h = absurd (cc h)

-- ---- bounds

found_by : (k : ℕ) (v : Option Verdict) (later : Option (ℕ × Bound)) (less : Option ℕ) → less ≡ option_map (λ x. x.0) later
    → cond (is_limit v) (Some k) less ≡ option_map (λ x. x.0) (or_later k v later)
found_by k None later less h = h
found_by k (Some verdict.Refuted) later less h = h
found_by k (Some verdict.Saturated) later less h = h
found_by k (Some verdict.Spent) later less h = h
found_by k (Some (verdict.Limit b)) later less h = refl

-- the least peer that ended at a bound
pub bound_least : (k : ℕ) (ss : List Local) → least met_bound k ss ≡ option_map (λ x. x.0) (least_bound k ss)
bound_least k [] = refl
bound_least k (s ∷ ss) = found_by k s.verdict (least_bound (k + 1) ss) (least met_bound (k + 1) ss) (bound_least (k + 1) ss)

-- and its bound
bound_by : (k : ℕ) (s : Local) (ss : List Local) (peer : ℕ) (b : Bound) (v : Option Verdict) → s.verdict ≡ v → (least_bound (k + 1) ss ≡ Some (peer, b) → IsAt (k + 1) peer ss (λ s. s.verdict ≡ Some (verdict.Limit b)))
    → or_later k v (least_bound (k + 1) ss) ≡ Some (peer, b) → IsAt k peer (s ∷ ss) (λ s. s.verdict ≡ Some (verdict.Limit b))
bound_by k s ss peer b None is later h = at_later k peer s ss (λ s. s.verdict ≡ Some (verdict.Limit b)) (later h)
bound_by k s ss peer b (Some verdict.Refuted) is later h = at_later k peer s ss (λ s. s.verdict ≡ Some (verdict.Limit b)) (later h)
bound_by k s ss peer b (Some verdict.Saturated) is later h = at_later k peer s ss (λ s. s.verdict ≡ Some (verdict.Limit b)) (later h)
bound_by k s ss peer b (Some verdict.Spent) is later h = at_later k peer s ss (λ s. s.verdict ≡ Some (verdict.Limit b)) (later h)
bound_by k s ss peer b (Some (verdict.Limit c)) is later h =
    let x : ◌≡◌ {A = Option (ℕ × Bound)} (Some (k, c)) (Some (peer, b)) = h in
    let pair : ◌≡◌ {A = ℕ × Bound} (k, c) (peer, b) = cc in
    let number : k ≡ peer = ap (λ (y : ℕ × Bound). y.0) pair in
    let bound : c ≡ b = ap (λ (y : ℕ × Bound). y.1) pair in
    record { place = 0; number = omega (arith, number); inside = omega arith; holds = is ∙ ap (λ (d : Bound). let v : Option Verdict = Some (verdict.Limit d) in v) bound }

pub bound_passes : (k : ℕ) (ss : List Local) (peer : ℕ) (b : Bound) → least_bound k ss ≡ Some (peer, b) → IsAt k peer ss (λ s. s.verdict ≡ Some (verdict.Limit b))
bound_passes k [] peer b h = absurd (cc h)
bound_passes k (s ∷ ss) peer b h = bound_by k s ss peer b s.verdict refl (bound_passes (k + 1) ss peer b) h
