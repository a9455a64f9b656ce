-- Records behind references, sorted by their names.
use Rattle.std.proofs.Common.{◌≡◌, ℕ, zero, suc, ◌+◌, ◌<◌, false, List, [], ◌∷◌, length, map, refl, ap, ◌∙◌, arith}
use Rattle.std.specs.Prelude.{IsSortedByKey, slice_index_or}
use Rattle.std.specs.Ordering.{is_lt}
use Rattle.std.proofs.lemmas.List.{length-map}
use denote.Bor.{Bor}
use Rattle.cd_ledger.specs.declared.records.Record.{Record}
use Rattle.cd_names.specs.Orders.{name_cmp}
use Rattle.cd_recorded.specs.Live.{name_of}

-- an element behind a reference
index_through : (rs : List (Bor Record)) (k : ℕ) (d : Bor Record) (e : Record) → k < length rs → slice_index_or (map (λ r. r.now) rs) k e ≡ (slice_index_or rs k d).now
index_through [] k d e l = absurd (omega (arith, l))
index_through (r ∷ rs) zero d e l = refl
index_through (r ∷ rs) (suc k) d e l = index_through rs k d e (omega (arith, l))

sorted_by : (rs : List (Bor Record)) (d : Bor Record) → IsSortedByKey (λ r. name_of r.now) name_cmp rs → (k : ℕ) (e : Record) → k + 1 < length rs
    → is_lt (name_cmp (name_of (slice_index_or (map (λ r. r.now) rs) (k + 1) e)) (name_of (slice_index_or (map (λ r. r.now) rs) k e))) ≡ false
sorted_by rs d h k e l =
    let later = index_through rs (k + 1) d e l in
    let first = index_through rs k d e (omega (arith, l)) in
    ap (λ (x : Record). is_lt (name_cmp (name_of x) (name_of (slice_index_or (map (λ r. r.now) rs) k e)))) later
    ∙ ap (λ (x : Record). is_lt (name_cmp (name_of (slice_index_or rs (k + 1) d).now) (name_of x))) first
    ∙ h k d (omega arith) l

-- what holds through the references holds of the records
pub sorted_through : (rs : List (Bor Record)) → IsSortedByKey (λ r. name_of r.now) name_cmp rs → IsSortedByKey name_of name_cmp (map (λ r. r.now) rs)
sorted_through [] h = λ k e low l. absurd (omega (arith, l))
sorted_through (r ∷ rs) h = λ k e low l. sorted_by (r ∷ rs) r h k e (omega (arith, l, length-map (r ∷ rs) (λ r. r.now)))
