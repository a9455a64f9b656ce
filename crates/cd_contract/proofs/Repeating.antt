-- Where a subsumer has the same ground forms, its variables are repeated no more often.
use Rattle.std.proofs.Common.{◌≡◌, ◌≢◌, ℕ, zero, suc, ◌+◌, ◌<◌, ◌≤◌, ◌&&◌, ◌⊎◌, Bool, true, false, not, inl, inr, cond, if◌then◌else◌, List, [], ◌∷◌, length, map, sum_by, nat_eq, nat_lt, ap, refl, sym, ◌∙◌, arith, Option, Some, None, slice_get, slice_index, slice_set, option_map, length-append}
use Rattle.std.specs.List.{flat_map}
use Rattle.std.specs.Cmp.Lexicographic.{slice_cmp}
use Rattle.std.specs.Ordering.{ordering_then, is_lt}
use Rattle.std.specs.Option.{option_cmp}
use Rattle.std.specs.declared.cmp.Ordering.{Ordering}
use Rattle.std.specs.declared.cmp.Ordering.TheVariants.{Less, Equal, Greater}
use Rattle.std.proofs.lemmas.Cmp.{tied_itself}
use Rattle.std.proofs.lemmas.Bool.{eqb-true}
use Rattle.std.proofs.lemmas.Bool.Decides.{nat_tests}
use Rattle.std.proofs.lemmas.List.{get_or-set_other}
use Rattle.std.proofs.lemmas.List.Sums.{sum_by-cons, sum_by-append}
use Rattle.std.proofs.lemmas.Option.{same_Some, slice_get-map, get_or_from_slice_get}
use Rattle.cd_term.specs.declared.Term.{Term}
use Rattle.cd_term.specs.declared.Term.TheVariants.{Var, App}
use Rattle.cd_term.specs.Terms.{substituted, variables_of, size_of, greatest, bound_of}
use Rattle.cd_term.proofs.TermInduction.{Each, ind}
use Rattle.cd_term.proofs.Equations.{substituted-App, variables_of-Var, variables_of-App, size_of-App, size_of-Var}
use Rattle.cd_term.proofs.SizeLaws.{levels, size_of-substituted, variables_of-substituted}
use Rattle.cd_clause.specs.declared.Atom.{Atom}
use Rattle.cd_clause.specs.declared.Atom.TheVariants.{Truth, Pred, Equal as Equation}
use Rattle.cd_clause.specs.declared.Literal.{Literal}
use Rattle.cd_clause.specs.declared.Clause.{Clause}
use Rattle.cd_clause.specs.Clauses.{atom_changed}
use Rattle.cd_kbo.specs.declared.order.Order.{Order}
use Rattle.cd_kbo.specs.Kbo.{ground_compare, occurrences}
use Rattle.cd_kbo.specs.Laws.{grounded}
use Rattle.cd_kbo.proofs.LawsOfOrders.{ground_laws}
use Rattle.cd_key.specs.Forms.{greater_side, lesser_side, literal_compare}
use Rattle.cd_key.specs.Literals.{sides}
use Rattle.cd_key.specs.Multisets.{put_down, sorted_down}
use Rattle.cd_key.specs.Repeats.{variable_count, clause_sides, occurrences_in, count_below, distinct_of, repeats_of}
use Rattle.cd_key.specs.Keys.{forms_compare}
use Rattle.cd_key.proofs.RepeatLemmas.{inside_bound}
use Rattle.cd_kbo.proofs.KboEquations.{occurrences-Var}
use Rattle.cd_list.proofs.Numbers.{equal_itself}
use Rattle.cd_term.proofs.MarkLemmas.{Var-injective, Var-App-apart}
use Rattle.cd_term.proofs.Substitutions.{substituted-identity}
use Rattle.cd_key.proofs.FormLemmas.{forms_total}
use Rattle.cd_key.proofs.MultisetLemmas.{back_greater}
use Rattle.cd_subsume.proofs.Counts.{zero_put, others, Apart, apart, places_sum, whole}
use Rattle.cd_kbo.proofs.Stable.{occurrences_instance}
use Rattle.cd_contract.proofs.SubsumerForms.{literal_up, never_falls, subsumer_forms}
use Rattle.cd_subsume.specs.declared.picks.Pick.{Pick}
use Rattle.cd_subsume.specs.Subsumption.{IsTurned, IsPicked, ArePicked, Subsumes}

-- ---- lists that compare as equal have equal sums

module _ {X : Type 0} (R : X → X → Ordering) (h : X → ℕ) where
  sum_put : (x : X) (ys : List X) → sum_by h (put_down R x ys) ≡ h x + sum_by h ys
  sum_put x [] = sum_by-cons h x []
  sum_put x (y ∷ ys) =
      elim (is_lt (R x y)) as (λ b. sum_by h (if b then y ∷ put_down R x ys else x ∷ y ∷ ys) ≡ h x + sum_by h (y ∷ ys)) [
        | true ↦ omega (arith, sum_by-cons h y (put_down R x ys), sum_put x ys, sum_by-cons h y ys)
        | false ↦ sum_by-cons h x (y ∷ ys)
      ]

  sum_sorted : (xs : List X) → sum_by h (sorted_down R xs) ≡ sum_by h xs
  sum_sorted [] = refl
  sum_sorted (x ∷ xs) = omega (arith, sum_put x (sorted_down R xs), sum_sorted xs, sum_by-cons h x xs)

  sums_step : (x y : X) (xs ys : List X) (r : Ordering) → R x y ≡ r → ((a b : X) → R a b ≡ Equal → h a ≡ h b) →
      ordering_then r (slice_cmp R xs ys) ≡ Equal → (slice_cmp R xs ys ≡ Equal → sum_by h xs ≡ sum_by h ys) → sum_by h (x ∷ xs) ≡ sum_by h (y ∷ ys)
  sums_step x y xs ys Less is alike e rest = absurd (cc)
  sums_step x y xs ys Greater is alike e rest = absurd (cc)
  sums_step x y xs ys Equal is alike e rest = omega (arith, alike x y is, rest e, sum_by-cons h x xs, sum_by-cons h y ys)

  sums_same : ((a b : X) → R a b ≡ Equal → h a ≡ h b) → (xs ys : List X) → slice_cmp R xs ys ≡ Equal → sum_by h xs ≡ sum_by h ys
  sums_same alike [] [] e = refl
  sums_same alike [] (y ∷ ys) e = absurd (cc)
  sums_same alike (x ∷ xs) [] e = absurd (cc)
  sums_same alike (x ∷ xs) (y ∷ ys) e = sums_step x y xs ys (R x y) refl alike e (sums_same alike xs ys)

  -- whatever compares alike sums up alike over lists that are the same once sorted
  pub totals_same : ((a b : X) → R a b ≡ Equal → h a ≡ h b) → (xs ys : List X) → slice_cmp R (sorted_down R xs) (sorted_down R ys) ≡ Equal →
      sum_by h xs ≡ sum_by h ys
  totals_same alike xs ys e = sym (sum_sorted xs) ∙ sums_same alike (sorted_down R xs) (sorted_down R ys) e ∙ sum_sorted ys

-- ---- what ground forms tell of the terms

then_equal : (a b : Ordering) → ordering_then a b ≡ Equal → (a ≡ Equal) × (b ≡ Equal)
then_equal Less b e = absurd (cc)
then_equal Equal b e = (refl, e)
then_equal Greater b e = absurd (cc)

module _ (o : Order) (F : Term → ℕ) (alike : (t : Term) → F (grounded t) ≡ F t) where
  same_ground : (s t : Term) → ground_compare o s t ≡ Equal → F s ≡ F t
  same_ground s t e = sym (alike s) ∙ ap F ((ground_laws o).same s t e) ∙ alike t

  abbrev of_side : Option Term → ℕ
  of_side None = 0
  of_side (Some t) = F t

  side_same : (a b : Option Term) → option_cmp (ground_compare o) a b ≡ Equal → of_side a ≡ of_side b
  side_same None None e = refl
  side_same None (Some t) e = absurd (cc)
  side_same (Some s) None e = absurd (cc)
  side_same (Some s) (Some t) e = same_ground s t e

  two_sides : (s t : Term) → sum_by F (s ∷ t ∷ []) ≡ F s + F t
  two_sides s t = omega (arith, sum_by-cons F s (t ∷ []), sum_by-cons F t [])

  one_side : (s : Term) → sum_by F (s ∷ []) ≡ F s
  one_side s = omega (arith, sum_by-cons F s [])

  atom_parts : (a : Atom) → sum_by F (sides a) ≡ of_side (greater_side o a) + of_side (lesser_side o a)
  atom_parts Truth = refl
  atom_parts (Pred p args) = omega (arith, one_side (App p args))
  atom_parts (Equation s t) =
      elim (is_lt (ground_compare o s t)) as (λ b. sum_by F (s ∷ t ∷ []) ≡ F (if b then t else s) + F (if b then s else t)) [
        | true ↦ omega (arith, two_sides s t)
        | false ↦ two_sides s t
      ]

  pub literal_same : (l m : Literal) → literal_compare o l m ≡ Equal → sum_by F (sides l.atom) ≡ sum_by F (sides m.atom)
  literal_same l m e =
      let parts = then_equal _ _ e in let rest = then_equal _ _ parts.1 in
      omega (
        arith,
        atom_parts l.atom,
        atom_parts m.atom,
        side_same (greater_side o l.atom) (greater_side o m.atom) parts.0,
        side_same (lesser_side o l.atom) (lesser_side o m.atom) rest.1,
      )

lengths : (g : ℕ → Term) (ns : List ℕ) → length (flat_map (λ n. variables_of (g n)) ns) ≡ sum_by (λ n. variable_count (g n)) ns
lengths g [] = refl
lengths g (n ∷ ns) = omega (
  arith,
  length-append (variables_of (g n)) (flat_map (λ m. variables_of (g m)) ns),
  lengths g ns,
  sum_by-cons (λ m. variable_count (g m)) n ns,
)

-- the variables of an instance, and its size
pub counts_instance : (g : ℕ → Term) (t : Term) → variable_count (substituted g t) ≡ sum_by (λ n. variable_count (g n)) (variables_of t)
counts_instance g t = ap length (variables_of-substituted g t) ∙ lengths g (variables_of t)

ones_sum : (ns : List ℕ) → sum_by (λ (n : ℕ). 1) ns ≡ length ns
ones_sum [] = refl
ones_sum (n ∷ ns) = omega (arith, ones_sum ns, sum_by-cons (λ (m : ℕ). 1) n ns)

sum_as : (f h : ℕ → ℕ) → ((n : ℕ) → f n ≡ h n) → (ns : List ℕ) → sum_by f ns ≡ sum_by h ns
sum_as f h e [] = refl
sum_as f h e (n ∷ ns) = omega (arith, e n, sum_as f h e ns, sum_by-cons f n ns, sum_by-cons h n ns)

bots_counted : (t : Term) → variable_count (grounded t) ≡ variable_count t
bots_counted t = counts_instance (λ n. Var 0) t
    ∙ sum_as (λ n. variable_count (Var 0)) (λ n. 1) (λ n. ap length (variables_of-Var 0)) (variables_of t) ∙ ones_sum (variables_of t)

bots_sized : (t : Term) → size_of (grounded t) ≡ size_of t
bots_sized t = omega (
  arith,
  size_of-substituted (λ n. Var 0) t,
  sum_as (λ n. size_of (Var 0)) (λ n. 1) (λ n. size_of-Var 0) (variables_of t),
  ones_sum (variables_of t),
)

-- ---- all places are picked

zero_sum : (ns : List ℕ) → sum_by (λ n. n) ns ≡ 0 → (k : ℕ) → slice_index ns k ≡ 0
zero_sum [] e k = refl
zero_sum (n ∷ ns) e zero = omega (arith, e, sum_by-cons (λ (m : ℕ). m) n ns)
zero_sum (n ∷ ns) e (suc k) = zero_sum ns (omega (arith, e, sum_by-cons (λ (m : ℕ). m) n ns)) k

all_zero : (ns : List ℕ) → ((k : ℕ) → slice_index ns k ≡ 0) → sum_by (λ n. n) ns ≡ 0
all_zero [] z = refl
all_zero (n ∷ ns) z =
    let here : n ≡ 0 = z 0 in omega (arith, here, all_zero ns (λ k. z (suc k)), sum_by-cons (λ (m : ℕ). m) n ns)

zero_at : (ns : List ℕ) (k : ℕ) → slice_index (slice_set ns k 0) k ≡ 0
zero_at [] k = refl
zero_at (n ∷ ns) zero = refl
zero_at (n ∷ ns) (suc k) = zero_at ns k

zeros_kept : (ns ones : List ℕ) (j : ℕ) → ((k : ℕ) → slice_index ones k ≡ 0 → slice_index ns k ≡ 0) → (k : ℕ) (b : Bool) → nat_eq k j ≡ b →
    slice_index (slice_set ones j 0) k ≡ 0 → slice_index (slice_set ns j 0) k ≡ 0
zeros_kept ns ones j kept k true e z = let same : k ≡ j = eqb-true k j e in ap (slice_index (slice_set ns j 0)) same ∙ zero_at ns j
zeros_kept ns ones j kept k false e z =
    let other : k ≢ j = λ same. apart_numbers k j e same in
    get_or-set_other ns j k 0 0 other ∙ kept k (sym (get_or-set_other ones j k 0 0 other) ∙ z)
  where
    apart_numbers : (m n : ℕ) → nat_eq m n ≡ false → m ≡ n → ⊥
    apart_numbers m n e same = grind (arith, e, same)

full_sum : (ns ones : List ℕ) (ps : List Pick) → ((k : ℕ) → slice_index ones k ≡ 0 → slice_index ns k ≡ 0) → Apart ps →
    sum_by (λ n. n) ones ≤ sum_by (λ p. slice_index ones p.place) ps → sum_by (λ n. n) ns ≤ sum_by (λ p. slice_index ns p.place) ps
full_sum ns ones [] kept all le =
    omega (arith, all_zero ns (λ k. kept k (zero_sum ones (omega (arith, le)) k)))
full_sum ns ones (p ∷ ps) kept all le = omega (
  arith,
  zero_put ns p.place,
  others ns p.place ps all.0,
  sum_by-cons (λ (q : Pick). slice_index ns q.place) p ps,
  full_sum (slice_set ns p.place 0) (slice_set ones p.place 0) ps (λ k. zeros_kept ns ones p.place kept k (nat_eq k p.place) refl) all.1
      (omega (arith, le, zero_put ones p.place, others ones p.place ps all.0, sum_by-cons (λ (q : Pick). slice_index ones q.place) p ps)),
)

ones_zero : (h : Literal → ℕ) (ms : List Literal) (k : ℕ) → slice_index (map (λ m. 1) ms) k ≡ 0 → slice_index (map h ms) k ≡ 0
ones_zero h [] k e = refl
ones_zero h (m ∷ ms) zero e = absurd (omega (arith, e))
ones_zero h (m ∷ ms) (suc k) e = ones_zero h ms k e

ones_length : (ms : List Literal) → sum_by (λ n. n) (map (λ (m : Literal). 1) ms) ≡ length ms
ones_length [] = refl
ones_length (m ∷ ms) = omega (arith, ones_length ms, sum_by-cons (λ (n : ℕ). n) 1 (map (λ (k : Literal). 1) ms))

picked_value : (h : Literal → ℕ) (g : ℕ → Term) (l : Literal) (ms : List Literal) (p : Pick) (x : IsPicked g l ms p) → slice_index (map h ms) p.place ≡ h x.literal
picked_value h g l ms p x = get_or_from_slice_get (map h ms) p.place (h x.literal) 0 (slice_get-map h ms p.place ∙ ap (option_map h) x.place)

ones_picked : (g : ℕ → Term) (ms ls : List Literal) (ps : List Pick) → length ps ≡ length ls →
    ((i : ℕ) (l : Literal) (p : Pick) → slice_get ls i ≡ Some l → slice_get ps i ≡ Some p → IsPicked g l ms p) →
    sum_by (λ p. slice_index (map (λ (m : Literal). 1) ms) p.place) ps ≡ length ps
ones_picked g ms ls [] e each = refl
ones_picked g ms [] (p ∷ ps) e each = absurd (omega (arith, e))
ones_picked g ms (l ∷ ls) (p ∷ ps) e each = omega (
  arith,
  sum_by-cons (λ (q : Pick). slice_index (map (λ (m : Literal). 1) ms) q.place) p ps,
  picked_value (λ m. 1) g l ms p (each 0 l p refl refl),
  ones_picked g ms ls ps (omega (arith, e)) (λ i k q a b. each (suc i) k q a b),
)

-- where there are as many literals, each one is picked
pub all_picked_sum : (h : Literal → ℕ) (g : ℕ → Term) (ls ms : List Literal) (ps : List Pick) → ArePicked g ls ms ps → length ms ≤ length ls →
    sum_by h ms ≤ sum_by (λ p. slice_index (map h ms) p.place) ps
all_picked_sum h g ls ms ps are few = omega (
  arith,
  whole h ms,
  full_sum (map h ms) (map (λ m. 1) ms) ps (ones_zero h ms) (apart ps are.distinct)
      (omega (arith, ones_length ms, ones_picked g ms ls ps are.as_many are.each, are.as_many, few)),
)

-- ---- each literal compares as equal to its pick

below_each : (h : Literal → ℕ) (k : Pick → ℕ) (ls : List Literal) (ps : List Pick) → length ps ≡ length ls →
    ((i : ℕ) (l : Literal) (p : Pick) → slice_get ls i ≡ Some l → slice_get ps i ≡ Some p → h l ≤ k p) → sum_by h ls ≤ sum_by k ps
below_each h k [] ps e each = omega arith
below_each h k (l ∷ ls) [] e each = absurd (omega (arith, e))
below_each h k (l ∷ ls) (p ∷ ps) e each = omega (
  arith,
  sum_by-cons h l ls,
  sum_by-cons k p ps,
  each 0 l p refl refl,
  below_each h k ls ps (omega (arith, e)) (λ i m q a b. each (suc i) m q a b),
)

same_each : (h : Literal → ℕ) (k : Pick → ℕ) (ls : List Literal) (ps : List Pick) → length ps ≡ length ls →
    ((i : ℕ) (l : Literal) (p : Pick) → slice_get ls i ≡ Some l → slice_get ps i ≡ Some p → h l ≤ k p) → sum_by k ps ≤ sum_by h ls →
    (i : ℕ) (l : Literal) (p : Pick) → slice_get ls i ≡ Some l → slice_get ps i ≡ Some p → h l ≡ k p
same_each h k [] ps e each le i l p li pi = absurd (cc)
same_each h k (x ∷ ls) [] e each le i l p li pi = absurd (cc)
same_each h k (x ∷ ls) (q ∷ ps) e each le zero l p li pi =
    let one : x ≡ l = same_Some x l li in let two : q ≡ p = same_Some q p pi in
    omega (
      arith,
      le,
      sum_by-cons h x ls,
      sum_by-cons k q ps,
      each 0 x q refl refl,
      below_each h k ls ps (omega (arith, e)) (λ j m r a b. each (suc j) m r a b),
      ap h one,
      ap k two,
    )
same_each h k (x ∷ ls) (q ∷ ps) e each le (suc i) l p li pi =
    same_each h k ls ps (omega (arith, e)) (λ j m r a b. each (suc j) m r a b)
    (omega (arith, le, sum_by-cons h x ls, sum_by-cons k q ps, each 0 x q refl refl)) i l p li pi

compares : (r s : Ordering) → r ≢ Less → (r ≡ Greater → s ≡ Less) → s ≢ Less → r ≡ Equal
compares Less s h k n = absurd (h refl)
compares Equal s h k n = refl
compares Greater s h k n = absurd (n (k refl))

not_zero : (r s : Ordering) → ◌≡◌ {A = ℕ} (cond (is_lt r) 0 1) (cond (is_lt s) 0 1) → s ≡ Equal → r ≢ Less
not_zero r s e same less =
    let one : ◌≡◌ {A = ℕ} (cond (is_lt s) 0 1) 1 = ap {B = ℕ} (λ x. cond (is_lt x) 0 1) same in
    let none : ◌≡◌ {A = ℕ} (cond (is_lt r) 0 1) 0 = ap {B = ℕ} (λ x. cond (is_lt x) 0 1) less in omega (arith, e, one, none)

pub picks_compare : (o : Order) (g : ℕ → Term) (ls ms : List Literal) (ps : List Pick) (are : ArePicked g ls ms ps) →
    slice_cmp (literal_compare o) (sorted_down (literal_compare o) ls) (sorted_down (literal_compare o) ms) ≡ Equal →
    (i : ℕ) (l : Literal) (p : Pick) (li : slice_get ls i ≡ Some l) (pi : slice_get ps i ≡ Some p) → literal_compare o l (are.each i l p li pi).literal ≡ Equal
picks_compare o g ls ms ps are e i l p li pi =
    let x = are.each i l p li pi in let m = x.literal in
    let h = λ (k : Literal). cond (is_lt (literal_compare o k m)) 0 1 in
    let grows = never_falls o m in
    let total : sum_by h ls ≡ sum_by h ms = totals_same (literal_compare o) h
    (λ a b f. ap {B = ℕ} (λ r. cond (is_lt r) 0 1) ((forms_total o).congr a b m f)) ls ms e in
    let same : h l ≡ slice_index (map h ms) p.place = same_each h (λ q. slice_index (map h ms) q.place) ls ps are.as_many
    (λ j k q a b. let y = are.each j k q a b in omega (arith, grows.at_each g k y.literal q.is_exchanged y.sign y.atom, picked_value h g k ms q y))
    (omega (arith, total, places_sum (map h ms) ps (apart ps are.distinct), whole h ms)) i l p li pi in
    compares (literal_compare o l m) (literal_compare o m l)
    (not_zero (literal_compare o l m) (literal_compare o m m) (same ∙ picked_value h g l ms p x) (tied_itself (forms_total o) m))
    (back_greater (literal_compare o) (forms_total o) l m)
    (literal_up o g l m p.is_exchanged x.sign x.atom)

-- ---- the variables of a literal and of its pick

abbrev variables_at : Atom → List ℕ
variables_at a = flat_map variables_of (sides a)

list_sum : (F : Term → ℕ) (h : ℕ → ℕ) → ((t : Term) → F t ≡ sum_by h (variables_of t)) → (ts : List Term) → sum_by F ts ≡ sum_by h (flat_map variables_of ts)
list_sum F h e [] = refl
list_sum F h e (t ∷ ts) = omega (
  arith,
  sum_by-cons F t ts,
  e t,
  list_sum F h e ts,
  sum_by-append h (variables_of t) (flat_map variables_of ts),
)

pair_sum : (F : Term → ℕ) (s t : Term) → sum_by F (s ∷ t ∷ []) ≡ F s + F t
pair_sum F s t = omega (arith, sum_by-cons F s (t ∷ []), sum_by-cons F t [])

single_sum : (F : Term → ℕ) (s : Term) → sum_by F (s ∷ []) ≡ F s
single_sum F s = omega (arith, sum_by-cons F s [])

straight_sides : (F : Term → ℕ) (g : ℕ → Term) (a : Atom) → sum_by F (sides (atom_changed (substituted g) a)) ≡ sum_by (λ t. F (substituted g t)) (sides a)
straight_sides F g Truth = refl
straight_sides F g (Pred p args) = omega (
  arith,
  single_sum F (App p (map (substituted g) args)),
  single_sum (λ t. F (substituted g t)) (App p args),
  ap F (substituted-App g p args),
)
straight_sides F g (Equation s t) = omega (arith, pair_sum F (substituted g s) (substituted g t), pair_sum (λ u. F (substituted g u)) s t)

picked_sides : (F : Term → ℕ) (g : ℕ → Term) (e : Bool) (a b : Atom) → IsTurned e (atom_changed (substituted g) a) b →
    sum_by F (sides b) ≡ sum_by (λ t. F (substituted g t)) (sides a)
picked_sides F g false a b is = ap (λ x. sum_by F (sides x)) (sym is) ∙ straight_sides F g a
picked_sides F g true Truth b is = absurd is
picked_sides F g true (Pred p args) b is = absurd is
picked_sides F g true (Equation s t) b is = omega (
  arith,
  ap (λ x. sum_by F (sides x)) is,
  pair_sum F (substituted g t) (substituted g s),
  pair_sum (λ u. F (substituted g u)) s t,
)

sizes_all : (g : ℕ → Term) (ts : List Term) →
    sum_by (λ t. size_of (substituted g t)) ts + length (flat_map variables_of ts) ≡ sum_by size_of ts + sum_by (λ n. size_of (g n)) (flat_map variables_of ts)
sizes_all g [] = refl
sizes_all g (t ∷ ts) = omega (
  arith,
  sizes_all g ts,
  size_of-substituted g t,
  sum_by-cons (λ u. size_of (substituted g u)) t ts,
  sum_by-cons size_of t ts,
  length-append (variables_of t) (flat_map variables_of ts),
  sum_by-append (λ n. size_of (g n)) (variables_of t) (flat_map variables_of ts),
)

counts_all : (ts : List Term) → sum_by variable_count ts ≡ length (flat_map variables_of ts)
counts_all [] = refl
counts_all (t ∷ ts) = omega (arith, counts_all ts, sum_by-cons variable_count t ts, length-append (variables_of t) (flat_map variables_of ts))

at_least : (h : ℕ → ℕ) → ((n : ℕ) → 1 ≤ h n) → (ns : List ℕ) → length ns ≤ sum_by h ns
at_least h some [] = omega arith
at_least h some (n ∷ ns) = omega (arith, some n, at_least h some ns, sum_by-cons h n ns)

all_ones : (h : ℕ → ℕ) → ((n : ℕ) → 1 ≤ h n) → (ns : List ℕ) → sum_by h ns ≤ length ns → (i n : ℕ) → slice_get ns i ≡ Some n → h n ≡ 1
all_ones h some [] e i n at = absurd (cc)
all_ones h some (x ∷ ns) e zero n at = omega (arith, e, some x, at_least h some ns, sum_by-cons h x ns, ap h (same_Some x n at))
all_ones h some (x ∷ ns) e (suc i) n at = all_ones h some ns (omega (arith, e, some x, sum_by-cons h x ns)) i n at

at_most : (h : ℕ → ℕ) (ns : List ℕ) → ((i n : ℕ) → slice_get ns i ≡ Some n → h n ≤ 1) → sum_by h ns ≤ length ns
at_most h [] few = omega arith
at_most h (n ∷ ns) few = omega (arith, few 0 n refl, at_most h ns (λ i m at. few (suc i) m at), sum_by-cons h n ns)

all_counted : (h : ℕ → ℕ) (ns : List ℕ) → ((i n : ℕ) → slice_get ns i ≡ Some n → h n ≤ 1) → length ns ≤ sum_by h ns → (i n : ℕ) → slice_get ns i ≡ Some n → h n ≡ 1
all_counted h [] few e i n at = absurd (cc)
all_counted h (x ∷ ns) few e zero n at =
    omega (arith, e, few 0 x refl, at_most h ns (λ j m b. few (suc j) m b), sum_by-cons h x ns, ap h (same_Some x n at))
all_counted h (x ∷ ns) few e (suc i) n at =
    all_counted h ns (λ j m b. few (suc j) m b) (omega (arith, e, few 0 x refl, sum_by-cons h x ns)) i n at

counts_sized : (ts : List Term) → Each (λ t. variable_count t ≤ size_of t) ts → sum_by variable_count ts ≤ sum_by size_of ts
counts_sized [] e = omega arith
counts_sized (t ∷ ts) e = omega (arith, e.0, counts_sized ts e.1, sum_by-cons variable_count t ts, sum_by-cons size_of t ts)

count_size : (t : Term) → variable_count t ≤ size_of t
count_size = ind (λ t. variable_count t ≤ size_of t)
    (λ n. omega (arith, ap length (variables_of-Var n), size_of-Var n))
    (λ f ts e. omega (arith, ap length (variables_of-App f ts), counts_all ts, counts_sized ts e, size_of-App f ts))

no_size : (ts : List Term) → sum_by size_of ts ≡ 0 → length (flat_map variables_of ts) ≡ 0
no_size [] e = refl
no_size (t ∷ ts) e = absurd (omega (arith, e, sum_by-cons size_of t ts, (levels t).0, (levels t).1))

-- a term of one symbol that has a variable is that variable
one_variable : (t : Term) → size_of t ≡ 1 → variable_count t ≡ 1 → (k : ℕ) × (t ≡ Var k)
one_variable = ind (λ t. size_of t ≡ 1 → variable_count t ≡ 1 → (k : ℕ) × (t ≡ Var k))
    (λ n a b. (n, refl))
    (λ f ts e a b. absurd (omega (
      arith,
      a,
      b,
      size_of-App f ts,
      ap length (variables_of-App f ts),
      no_size ts (omega (arith, a, size_of-App f ts)),
    )))

-- where a literal compares as equal to its pick, its variables stay variables
pub stay_variables : (o : Order) (g : ℕ → Term) (e : Bool) (l m : Literal) → IsTurned e (atom_changed (substituted g) l.atom) m.atom → literal_compare o l m ≡ Equal →
    (i n : ℕ) → slice_get (variables_at l.atom) i ≡ Some n → (k : ℕ) × (g n ≡ Var k)
stay_variables o g e l m is equal i n at =
    let sized = all_ones (λ j. size_of (g j)) (λ j. positive (g j)) (variables_at l.atom) (omega (
      arith,
      picked_sides size_of g e l.atom m.atom is,
      literal_same o size_of bots_sized l m equal,
      sizes_all g (sides l.atom),
    )) in
    let counted = all_counted (λ j. variable_count (g j)) (variables_at l.atom)
    (λ j x b. omega (arith, count_size (g x), sized j x b))
    (omega (
      arith,
      picked_sides variable_count g e l.atom m.atom is,
      literal_same o variable_count bots_counted l m equal,
      list_sum (λ t. variable_count (substituted g t)) (λ j. variable_count (g j)) (counts_instance g) (sides l.atom),
      counts_all (sides l.atom),
    )) in
    one_variable (g n) (sized i n at) (counted i n at)
  where
    positive : (t : Term) → 1 ≤ size_of t
    positive t = omega (arith, (levels t).0, (levels t).1)

-- ---- counting images

step_none : (p : ℕ → Bool) (n : ℕ) (b : Bool) → p n ≡ b → (p n ≡ true → ⊥) → count_below p n ≡ 0 → count_below p (suc n) ≡ 0
step_none p n true e none rest = absurd (none e)
step_none p n false e none rest = omega (arith, rest, ap {B = ℕ} (λ c. if c then 1 else 0) e)

below_none : (p : ℕ → Bool) (n : ℕ) → ((k : ℕ) → k < n → p k ≡ true → ⊥) → count_below p n ≡ 0
below_none p zero none = refl
below_none p (suc n) none = step_none p n (p n) refl (none n (omega arith)) (below_none p n (λ k lt e. none k (omega (arith, lt)) e))

-- a test without one number
abbrev without : (ℕ → Bool) → ℕ → ℕ → Bool
without p j k = p k && not (nat_eq k j)

and_true : (b : Bool) → (b && true) ≡ b
and_true true = refl
and_true false = refl

other_bit : (p : ℕ → Bool) (j n : ℕ) → nat_eq n j ≡ false → ◌≡◌ {A = ℕ} (if without p j n then 1 else 0) (if p n then 1 else 0)
other_bit p j n e = ap {B = ℕ} (λ c. if c then 1 else 0) (ap (λ x. p n && not x) e ∙ and_true (p n))

apart_test : (m n : ℕ) (b : Bool) → nat_eq m n ≡ b → m < n → nat_eq m n ≡ false
apart_test m n true e lt = absurd (omega (arith, lt, eqb-true m n e))
apart_test m n false e lt = e

count_same : (p : ℕ → Bool) (j n : ℕ) → n ≤ j → count_below (without p j) n ≡ count_below p n
count_same p j zero le = refl
count_same p j (suc n) le =
    omega (arith, count_same p j n (omega (arith, le)), other_bit p j n (apart_test n j (nat_eq n j) refl (omega (arith, le))))

at_most_one : (b : Bool) → (if b then 1 else 0) ≤ 1
at_most_one true = omega arith
at_most_one false = omega arith

without_step : (p : ℕ → Bool) (j n : ℕ) (b : Bool) → nat_eq n j ≡ b → count_below p n ≤ 1 + count_below (without p j) n →
    count_below p (suc n) ≤ 1 + count_below (without p j) (suc n)
without_step p j n true e rest =
    omega (arith, at_most_one (p n), count_same p j n (omega (arith, eqb-true n j e)))
without_step p j n false e rest = omega (arith, rest, other_bit p j n e)

count_without : (p : ℕ → Bool) (j n : ℕ) → count_below p n ≤ 1 + count_below (without p j) n
count_without p j zero = omega arith
count_without p j (suc n) = without_step p j n (nat_eq n j) refl (count_without p j n)

is_variable : (t : Term) → ((k : ℕ) × (t ≡ Var k)) ⊎ ((k : ℕ) → t ≢ Var k)
is_variable = ind (λ t. ((k : ℕ) × (t ≡ Var k)) ⊎ ((k : ℕ) → t ≢ Var k))
    (λ n. inl (n, refl))
    (λ f ts e. inr (λ k same. Var-App-apart k f ts (sym same)))

-- each number that passes is the image of one below m that passes
abbrev HasImage : (ℕ → Term) → (ℕ → Bool) → ℕ → (ℕ → Bool) → ℕ → Type 0
HasImage g q m p n = (k : ℕ) → k < n → p k ≡ true → (x : ℕ) × (x < m) × (q x ≡ true) × (g x ≡ Var k)

less_or : (x m : ℕ) → x < suc m → (x ≡ m → ⊥) → x < m
less_or x m lt other = grind (arith, lt, other)

false_true : (b : Bool) → b ≡ false → b ≡ true → ⊥
false_true b e f = let both : false ≡ true = sym e ∙ f in cc

and_parts : (a b : Bool) → (a && not b) ≡ true → (a ≡ true) × (b ≡ false)
and_parts true true e = absurd (cc)
and_parts true false e = (refl, refl)
and_parts false b e = absurd (cc)

image_rest : (g : ℕ → Term) (q : ℕ → Bool) (m : ℕ) (p : ℕ → Bool) (n : ℕ) → HasImage g q (suc m) p n →
    ((k : ℕ) → p k ≡ true → q m ≡ true → g m ≡ Var k → ⊥) → HasImage g q m p n
image_rest g q m p n has apart_ k lt e =
    let w = has k lt e in
    (w.0, less_or w.0 m w.1 (λ same. apart_ k e (ap q (sym same) ∙ w.2) (ap g (sym same) ∙ w.3)), w.2, w.3)

image_test : (g : ℕ → Term) (q : ℕ → Bool) (m : ℕ) (p : ℕ → Bool) (n : ℕ) (b : Bool) → q m ≡ b → ((k : ℕ) × (g m ≡ Var k)) ⊎ ((k : ℕ) → g m ≢ Var k) →
    HasImage g q (suc m) p n → ((r : ℕ → Bool) → HasImage g q m r n → count_below r n ≤ count_below q m) → count_below p n ≤ count_below q (suc m)
image_test g q m p n false e v has rest =
    omega (arith, rest p (image_rest g q m p n has (λ k a f s. false_true (q m) e f)))
image_test g q m p n true e (inr none) has rest =
    omega (arith, rest p (image_rest g q m p n has (λ k a f s. none k s)))
image_test g q m p n true e (inl one) has rest = omega (
  arith,
  count_without p one.0 n,
  rest (without p one.0) (image_rest g q m (without p one.0) n (λ k lt a. has k lt (and_parts (p k) (nat_eq k one.0) a).0)
      (λ k a f s. same_variable k (and_parts (p k) (nat_eq k one.0) a).1 (Var-injective one.0 k (sym one.1 ∙ s)))),
  ap {B = ℕ} (λ c. if c then 1 else 0) e,
)
  where
    same_variable : (k : ℕ) → nat_eq k one.0 ≡ false → one.0 ≡ k → ⊥
    same_variable k f s = false_true (nat_eq k one.0) f (ap (nat_eq k) s ∙ equal_itself k)

no_number : (x : ℕ) → x < zero → ⊥
no_number x lt = omega (arith, lt)

image_count : (g : ℕ → Term) (q : ℕ → Bool) (m : ℕ) (p : ℕ → Bool) (n : ℕ) → HasImage g q m p n → count_below p n ≤ count_below q m
image_count g q zero p n has = omega (arith, below_none p n (λ k lt e. no_number (has k lt e).0 (has k lt e).1))
image_count g q (suc m) p n has = image_test g q m p n (q m) refl (is_variable (g m)) has (λ r. image_count g q m r n)

-- ---- the whole

clause_sum : (F : Term → ℕ) (ls : List Literal) → sum_by F (clause_sides ls) ≡ sum_by (λ l. sum_by F (sides l.atom)) ls
clause_sum F [] = refl
clause_sum F (l ∷ ls) = omega (
  arith,
  sum_by-append F (sides l.atom) (clause_sides ls),
  clause_sum F ls,
  sum_by-cons (λ (m : Literal). sum_by F (sides m.atom)) l ls,
)

some_here : {A : Type 0} (f : A → ℕ) (y : A) (ys : List A) (n : ℕ) → f y ≡ n → 1 ≤ sum_by f (y ∷ ys) →
    (1 ≤ sum_by f ys → (i : ℕ) × (z : A) × (slice_get ys i ≡ Some z) × (1 ≤ f z)) → (i : ℕ) × (z : A) × (slice_get (y ∷ ys) i ≡ Some z) × (1 ≤ f z)
some_here f y ys zero is e rest = let r = rest (omega (arith, e, is, sum_by-cons f y ys)) in (suc r.0, r.1, r.2, r.3)
some_here f y ys (suc n) is e rest = (0, y, refl, omega (arith, is))

some_one : {A : Type 0} (h : A → ℕ) (xs : List A) → 1 ≤ sum_by h xs → (i : ℕ) × (x : A) × (slice_get xs i ≡ Some x) × (1 ≤ h x)
some_one h [] e = absurd (omega (arith, e))
some_one h (x ∷ xs) e = some_here h x xs (h x) refl e (some_one h xs)

sum_holds : {A : Type 0} (h : A → ℕ) (xs : List A) (i : ℕ) (x : A) → slice_get xs i ≡ Some x → h x ≤ sum_by h xs
sum_holds h [] i x at = absurd (cc)
sum_holds h (y ∷ xs) zero x at = omega (arith, sum_by-cons h y xs, ap h (same_Some y x at))
sum_holds h (y ∷ xs) (suc i) x at = omega (arith, sum_by-cons h y xs, sum_holds h xs i x at)

get_there : {A : Type 0} (ys : List A) (j : ℕ) → j < length ys → (y : A) × (slice_get ys j ≡ Some y)
get_there [] j lt = absurd (omega (arith, lt))
get_there (y ∷ ys) zero lt = (y, refl)
get_there (y ∷ ys) (suc j) lt = get_there ys j (omega (arith, lt))

get_inside : {A : Type 0} (ys : List A) (j : ℕ) (y : A) → slice_get ys j ≡ Some y → j < length ys
get_inside [] j y e = absurd (cc)
get_inside (y ∷ ys) zero z e = omega arith
get_inside (y ∷ ys) (suc j) z e = omega (arith, get_inside ys j z e)

positive_test : (n : ℕ) → nat_lt 0 n ≡ true → 1 ≤ n
positive_test zero e = absurd (cc)
positive_test (suc n) e = omega arith

test_positive : (n : ℕ) → 1 ≤ n → nat_lt 0 n ≡ true
test_positive n le = grind (arith, nat_tests, le)

one_test : (m k : ℕ) (b : Bool) → nat_eq m k ≡ b → 1 ≤ (if b then 1 else 0) → m ≡ k
one_test m k true e le = eqb-true m k e
one_test m k false e le = absurd (omega (arith, le))

same_occurs : (k m : ℕ) → 1 ≤ occurrences k (Var m) → m ≡ k
same_occurs k m le = one_test m k (nat_eq m k) refl (omega (arith, le, occurrences-Var k m))

itself_occurs : (n : ℕ) → occurrences n (Var n) ≡ 1
itself_occurs n = occurrences-Var n n ∙ ap {B = ℕ} (λ b. if b then 1 else 0) (equal_itself n)

lengths_same : (o : Order) (ls ms : List Literal) → slice_cmp (literal_compare o) (sorted_down (literal_compare o) ls) (sorted_down (literal_compare o) ms) ≡ Equal →
    length ls ≡ length ms
lengths_same o ls ms e = sym (count ls) ∙ totals_same (literal_compare o) (λ l. 1) (λ a b f. refl) ls ms e ∙ count ms
  where
    count : (ks : List Literal) → sum_by (λ (l : Literal). 1) ks ≡ length ks
    count [] = refl
    count (k ∷ ks) = omega (arith, count ks, sum_by-cons (λ (l : Literal). 1) k ks)

module _ (o : Order) (g : ℕ → Term) (ls ms : List Literal) (ps : List Pick) (are : ArePicked g ls ms ps)
    (equal : slice_cmp (literal_compare o) (sorted_down (literal_compare o) ls) (sorted_down (literal_compare o) ms) ≡ Equal) where
  -- a variable of the other clause is the image of one
  image_of : (k : ℕ) → 1 ≤ occurrences_in k ms → (x : ℕ) × (1 ≤ occurrences_in x ls) × (g x ≡ Var k)
  image_of k some =
      let h = λ (l : Literal). sum_by (occurrences k) (sides l.atom) in
      let pick = some_one (λ p. slice_index (map h ms) p.place) ps
      (omega (arith, some, clause_sum (occurrences k) ms, all_picked_sum h g ls ms ps are (omega (arith, lengths_same o ls ms equal)))) in
      let l = get_there ls pick.0 (omega (arith, get_inside ps pick.0 pick.1 pick.2, are.as_many)) in
      let x = are.each pick.0 l.0 pick.1 l.1 pick.2 in
      let same = picks_compare o g ls ms ps are equal pick.0 l.0 pick.1 l.1 pick.2 in
      let found = some_one (λ n. occurrences k (g n)) (variables_at l.0.atom) (omega (
        arith,
        pick.3,
        picked_value h g l.0 ms pick.1 x,
        picked_sides (occurrences k) g pick.1.is_exchanged l.0.atom x.literal.atom x.atom,
        list_sum (λ t. occurrences k (substituted g t)) (λ n. occurrences k (g n)) (occurrences_instance k g) (sides l.0.atom),
      )) in
      let variable = stay_variables o g pick.1.is_exchanged l.0 x.literal x.atom same found.0 found.1 found.2 in
      let is : variable.0 ≡ k = same_occurs k variable.0 (omega (arith, found.3, ap (occurrences k) variable.1)) in (
        found.1,
        omega (
          arith,
          clause_sum (occurrences found.1) ls,
          sum_holds (λ (m : Literal). sum_by (occurrences found.1) (sides m.atom)) ls pick.0 l.0 l.1,
          list_sum (occurrences found.1) (λ m. occurrences found.1 (Var m))
              (λ t. ap (occurrences found.1) (sym (substituted-identity t)) ∙ occurrences_instance found.1 Var t) (sides l.0.atom),
          sum_holds (λ m. occurrences found.1 (Var m)) (variables_at l.0.atom) found.0 found.1 found.2,
          itself_occurs found.1,
        ),
        variable.1 ∙ ap Var is,
      )

  distinct_same : distinct_of ms ≤ distinct_of ls
  distinct_same = image_count g (λ k. nat_lt 0 (occurrences_in k ls)) (greatest (map bound_of (clause_sides ls)))
      (λ k. nat_lt 0 (occurrences_in k ms)) (greatest (map bound_of (clause_sides ms)))
      (λ k lt e. let x = image_of k (positive_test (occurrences_in k ms) e) in
      (x.0, inside_bound ls x.0 x.1, test_positive (occurrences_in x.0 ls) x.1, x.2))

  pub repeats_fewer : repeats_of ls ≤ repeats_of ms
  repeats_fewer = omega (
    arith,
    distinct_same,
    clause_sum variable_count ls,
    clause_sum variable_count ms,
    totals_same (literal_compare o) (λ (l : Literal). sum_by variable_count (sides l.atom)) (λ a b f. literal_same o variable_count bots_counted a b f) ls ms equal,
  )

-- where the ground forms of a subsumer are the same, its variables are repeated no more often
pub subsumer_repeats : (o : Order) (d c : Clause) → Subsumes d c → forms_compare o d c ≡ Equal → repeats_of d.literals ≤ repeats_of c.literals
subsumer_repeats o d c by equal = repeats_fewer o by.0 d.literals c.literals by.1.0 by.1.1 equal

in_turn : (r : Ordering) (A : Type 0) → r ≢ Greater → (r ≡ Equal → A) → (r ≡ Less) ⊎ ((r ≡ Equal) × A)
in_turn Less A h a = inl refl
in_turn Equal A h a = inr (refl, a refl)
in_turn Greater A h a = absurd (h refl)

-- the first two parts of a subsumer's key, compared in turn, aren't greater
pub subsumer_keys : (o : Order) (d c : Clause) → Subsumes d c →
    (forms_compare o d c ≡ Less) ⊎ ((forms_compare o d c ≡ Equal) × (repeats_of d.literals ≤ repeats_of c.literals))
subsumer_keys o d c by =
    in_turn (forms_compare o d c) (repeats_of d.literals ≤ repeats_of c.literals) (subsumer_forms o d c by) (subsumer_repeats o d c by)
