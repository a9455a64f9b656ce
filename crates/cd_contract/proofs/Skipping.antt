-- Held clauses that are passed over by their columns.
use Rattle.std.proofs.Common.{◌≡◌, inr, ℕ, zero, suc, ◌+◌, ◌-◌, ◌<◌, ◌≤◌, false, List, [], ◌∷◌, length, get_or, None, Some, slice_get, subst, refl, sym, arith}
use Rattle.std.proofs.lemmas.Option.{slice_get-get_or}
use Rattle.cd_clause.specs.declared.Clause.{Clause}
use Rattle.cd_kbo.specs.declared.order.Order.{Order}
use Rattle.cd_names.specs.declared.names.Name.{Name}
use Rattle.cd_contract.specs.declared.held.Entry.{Entry}
use Rattle.cd_contract.specs.declared.held.Kept.{Kept}
use Rattle.cd_contract.specs.declared.held.Struck.{Struck}
use Rattle.cd_contract.specs.declared.needs.Needs.{Needs}
use Rattle.cd_contract.specs.declared.marks.Brief.{Brief}
use Rattle.cd_contract.specs.Rows.{entries_of}
use Rattle.cd_contract.specs.Hits.{IsWay}
use Rattle.cd_contract.specs.Needs.{AreInStep, HasNeeds, HasMarks}
use Rattle.cd_contract.proofs.Columns.{step_length, step_at}
use Rattle.cd_contract.proofs.Hitting.{Answers, answers_next, Collects, collects_none}

item_there : {A : Type 0} (ks : List A) (i : ℕ) → i < length ks → (k : A) × (k ≡ get_or ks i k)
item_there [] i lt = absurd (omega (arith, lt))
item_there (k ∷ ks) zero lt = (k, refl)
item_there (k ∷ ks) (suc i) lt = item_there ks i (omega (arith, lt))

pub beside : {B : Type 0} (R : Entry → B → Type 0) (ks : List Kept) (ys : List B) (i : ℕ) (k : Kept) (y : B) → AreInStep R (entries_of ks) ys → i < length ys → k ≡ get_or ks i k →
    R k.entry (get_or ys i y)
beside R ks ys i k y step lt at = subst (λ (x : Kept). R x.entry (get_or ys i y)) (sym at) (step_at R ks ys i k y step lt)

pub answers_skip : (o : Order) (P : Entry → Type 0) (ks : List Kept) (ns : List Needs) (i : ℕ) (n : Needs) → AreInStep (HasNeeds o) (entries_of ks) ns → i < length ns →
    ((e : Entry) → HasNeeds o e (get_or ns i n) → P e → ⊥) → Answers P ks i → Answers P ks (i + 1)
answers_skip o P ks ns i n step lt none so_far =
    let inside : i < length ks = omega (arith, lt, step_length (HasNeeds o) ks ns step) in
    let there = item_there ks i inside in
    answers_next P ks i there.0 false inside there.1
    ((λ e. absurd (cc)), (λ p. absurd (none there.0.entry (beside (HasNeeds o) ks ns i there.0 n step lt there.1) p))) refl so_far

pub collects_skip : (o : Order) (d : Clause) (n : Name) (ks : List Kept) (es : List Entry) (ms : List Brief) (i : ℕ) (m : Brief) (hits : List Struck) →
    entries_of ks ≡ es → AreInStep HasMarks es ms → i < length ms → ((e : Entry) → HasMarks e (get_or ms i m) → IsWay o d e.clause None) → Collects o d n ks i hits →
    Collects o d n ks (i + 1) hits
collects_skip o d n ks es ms i m hits is step lt none so_far =
    let here : AreInStep HasMarks (entries_of ks) ms = subst (λ xs. AreInStep HasMarks xs ms) (sym is) step in
    let inside : i < length ks = omega (arith, lt, step_length HasMarks ks ms here) in
    let there = item_there ks i inside in
    collects_none o d n ks i there.0 None hits inside there.1 (inr (none there.0.entry (beside HasMarks ks ms i there.0 m here lt there.1))) refl so_far

pub marked_within : (ks : List Kept) (es : List Entry) (ms : List Brief) (i : ℕ) → entries_of ks ≡ es → AreInStep HasMarks es ms → i < length ms → i < length ks
marked_within ks es ms i is step lt = omega (arith, lt, step_length HasMarks ks ms (subst (λ xs. AreInStep HasMarks xs ms) (sym is) step))

pub all_marked : (ks : List Kept) (es : List Entry) (ms : List Brief) (i : ℕ) → entries_of ks ≡ es → AreInStep HasMarks es ms → length ms ≤ i → length ks ≤ i
all_marked ks es ms i is step le = omega (arith, le, step_length HasMarks ks ms (subst (λ xs. AreInStep HasMarks xs ms) (sym is) step))

-- the marks beside a held clause are its own
pub marked_beside : (ks : List Kept) (es : List Entry) (ms : List Brief) (i : ℕ) (k : Kept) (m : Brief) → entries_of ks ≡ es → AreInStep HasMarks es ms → i < length ms →
    k ≡ get_or ks i k → HasMarks k.entry (get_or ms i m)
marked_beside ks es ms i k m is step lt at = beside HasMarks ks ms i k m (subst (λ xs. AreInStep HasMarks xs ms) (sym is) step) lt at

-- nor is a clause that is passed over
pub answers_over : (o : Order) (P : Entry → Type 0) (ks : List Kept) (ns : List Needs) (from k : ℕ) → AreInStep (HasNeeds o) (entries_of ks) ns → from + k ≤ length ns →
    ((i : ℕ) (n : Needs) → from ≤ i → i < from + k → slice_get ns i ≡ Some n → (e : Entry) → HasNeeds o e n → P e → ⊥) → Answers P ks from → Answers P ks (from + k)
answers_over o P ks ns from zero step le none so_far = subst (Answers P ks) (omega arith) so_far
answers_over o P ks ns from (suc k) step le none so_far =
    let inside : from + k < length ns = omega (arith, le) in
    let there = item_there ns (from + k) inside in
    subst (Answers P ks) (omega arith)
    (answers_skip o P ks ns (from + k) there.0 step inside
    (λ e needs p. none (from + k) (get_or ns (from + k) there.0) (omega arith) (omega arith) (slice_get-get_or ns (from + k) there.0 inside) e needs p)
    (answers_over o P ks ns from k step (omega (arith, le)) (λ i n above below. none i n above (omega (arith, below))) so_far))

pub answers_to : (o : Order) (P : Entry → Type 0) (ks : List Kept) (ns : List Needs) (from to : ℕ) → AreInStep (HasNeeds o) (entries_of ks) ns → from ≤ to → to ≤ length ns →
    ((i : ℕ) (n : Needs) → from ≤ i → i < to → slice_get ns i ≡ Some n → (e : Entry) → HasNeeds o e n → P e → ⊥) → Answers P ks from → Answers P ks to
answers_to o P ks ns from to step above le none so_far =
    let same : from + (to - from) ≡ to = omega (arith, above) in
    subst (Answers P ks) same (answers_over o P ks ns from (to - from) step (omega (arith, same, le)) (λ i n up down. none i n up (omega (arith, down, same))) so_far)
