-- A number of a literal that is no smaller in its instances: summed up, no subsumer has more of it.
use Rattle.std.proofs.Common.{◌≡◌, ◌≢◌, ℕ, suc, ◌+◌, ◌<◌, ◌≤◌, inl, inr, List, [], ◌∷◌, length, map, sum_by, ap, refl, sym, ◌∙◌, arith, Some, slice_get, slice_index, slice_set, option_map}
use Rattle.std.proofs.lemmas.List.{get_or-set_other, set_past, get_or_past}
use Rattle.std.proofs.lemmas.List.Sums.{sum_by-cons, sum_by-set}
use Rattle.std.proofs.lemmas.Option.{slice_get-map, get_or_from_slice_get}
use Rattle.std.proofs.lemmas.Bool.{cases_lt}
use Rattle.cd_term.specs.declared.Term.{Term}
use Rattle.cd_clause.specs.declared.Literal.{Literal}
use Rattle.cd_clause.specs.declared.Clause.{Clause}
use Rattle.cd_subsume.specs.declared.picks.Pick.{Pick}
use Rattle.cd_subsume.specs.Subsumption.{IsPicked, ArePicked, Subsumes}
use Rattle.cd_subsume.specs.Laws.{NeverFalls}

pub zero_put : (ns : List ℕ) (k : ℕ) → sum_by (λ n. n) (slice_set ns k 0) + slice_index ns k ≡ sum_by (λ n. n) ns
zero_put ns k = elim (cases_lt k (length ns)) [
  | inl lt ↦ omega (arith, sum_by-set (λ n. n) ns k 0 0 lt)
  | inr past ↦ omega (arith, ap (sum_by (λ n. n)) (set_past ns k 0 past), get_or_past ns k 0 past)
]

-- no pick of a list has a place
abbrev pub NotIn : ℕ → List Pick → Type 0
NotIn k [] = Unit {0}
NotIn k (p ∷ ps) = (p.place ≢ k) × NotIn k ps

abbrev pub Apart : List Pick → Type 0
Apart [] = Unit {0}
Apart (p ∷ ps) = NotIn p.place ps × Apart ps

not_in : (k : ℕ) (ps : List Pick) → ((j : ℕ) (q : Pick) → slice_get ps j ≡ Some q → k ≢ q.place) → NotIn k ps
not_in k [] h = tt
not_in k (p ∷ ps) h = ((λ e. h 0 p refl (sym e)), not_in k ps (λ j q at. h (suc j) q at))

pub apart : (ps : List Pick) → ((i j : ℕ) (p q : Pick) → i < j → slice_get ps i ≡ Some p → slice_get ps j ≡ Some q → p.place ≢ q.place) → Apart ps
apart [] h = tt
apart (p ∷ ps) h = (
  not_in p.place ps (λ j q at. h 0 (suc j) p q (omega arith) refl at),
  apart ps (λ i j x y lt a b. h (suc i) (suc j) x y (omega (arith, lt)) a b),
)

pub others : (ns : List ℕ) (k : ℕ) (ps : List Pick) → NotIn k ps →
    sum_by (λ p. slice_index (slice_set ns k 0) p.place) ps ≡ sum_by (λ p. slice_index ns p.place) ps
others ns k [] none = refl
others ns k (p ∷ ps) none = omega (
  arith,
  sum_by-cons (λ (q : Pick). slice_index (slice_set ns k 0) q.place) p ps,
  sum_by-cons (λ (q : Pick). slice_index ns q.place) p ps,
  others ns k ps none.1,
  get_or-set_other ns k p.place 0 0 none.0,
)

pub places_sum : (ns : List ℕ) (ps : List Pick) → Apart ps → sum_by (λ p. slice_index ns p.place) ps ≤ sum_by (λ n. n) ns
places_sum ns [] all = omega arith
places_sum ns (p ∷ ps) all = omega (
  arith,
  sum_by-cons (λ (q : Pick). slice_index ns q.place) p ps,
  others ns p.place ps all.0,
  places_sum (slice_set ns p.place 0) ps all.1,
  zero_put ns p.place,
)

pub picked_sum : (h : Literal → ℕ) → NeverFalls h → (g : ℕ → Term) (ms ls : List Literal) (ps : List Pick) → length ps ≡ length ls →
    ((i : ℕ) (l : Literal) (p : Pick) → slice_get ls i ≡ Some l → slice_get ps i ≡ Some p → IsPicked g l ms p) →
    sum_by h ls ≤ sum_by (λ p. slice_index (map h ms) p.place) ps
picked_sum h grows g ms [] ps e each = omega arith
picked_sum h grows g ms (l ∷ ls) [] e each = absurd (omega (arith, e))
picked_sum h grows g ms (l ∷ ls) (p ∷ ps) e each =
    let here = each 0 l p refl refl in
    omega (
      arith,
      sum_by-cons h l ls,
      sum_by-cons (λ (q : Pick). slice_index (map h ms) q.place) p ps,
      picked_sum h grows g ms ls ps (omega (arith, e)) (λ i k q a b. each (suc i) k q a b),
      grows.at_each g l here.literal p.is_exchanged here.sign here.atom,
      get_or_from_slice_get (map h ms) p.place (h here.literal) 0 (slice_get-map h ms p.place ∙ ap (option_map h) here.place),
    )

pub whole : (h : Literal → ℕ) (ms : List Literal) → sum_by (λ n. n) (map h ms) ≡ sum_by h ms
whole h [] = refl
whole h (m ∷ ms) = omega (arith, sum_by-cons h m ms, sum_by-cons (λ (n : ℕ). n) (h m) (map h ms), whole h ms)

pub never_more : (h : Literal → ℕ) → NeverFalls h → (g : ℕ → Term) (ls ms : List Literal) (picks : List Pick) → ArePicked g ls ms picks →
    sum_by h ls ≤ sum_by h ms
never_more h grows g ls ms picks are = omega (
  arith,
  picked_sum h grows g ms ls picks are.as_many are.each,
  places_sum (map h ms) picks (apart picks are.distinct),
  whole h ms,
)

pub no_more : (h : Literal → ℕ) → NeverFalls h → (d c : Clause) → Subsumes d c → sum_by h d.literals ≤ sum_by h c.literals
no_more h grows d c by = never_more h grows by.0 d.literals c.literals by.1.0 by.1.1
