-- Each kind of step keeps the rule.
use Rattle.std.proofs.Common.{◌≡◌, ◌≢◌, ℕ, zero, suc, ◌+◌, ◌-◌, ◌<◌, ◌≤◌, ◌==◌, ◌||◌, ◌⊎◌, Bool, true, false, cond, List, [], ◌∷◌, ◌++◌, length, set, get_or, refl, sym, ap, ◌∙◌, subst, ⊎_elim, inl, inr, arith, eq-eqb, ne_eqb, length-set, true≢false}
use Rattle.std.proofs.lemmas.Bool.{eqb-true, and_parts, and_from, and_left, or_parts, or_from, or_right, or_cases, cases_Bool, cond-true, cond-false, false_from_ne_true}
use Rattle.std.proofs.lemmas.List.{get_or-set_same}
use Rattle.std.proofs.lemmas.List.Elements.{All-nil, All-push, All-append}
use mathlib.Core.Option.{none, some, some-injective, some-ne-none}
use lib.ListN.{get_elem?}
use prog.Atomic.{either}
use Rattle.atomic_table.specs.Table.{State, Me, keeps, step, stepped, Allows, Splits, Joins, opening}
use Rattle.atomic_table.proofs.Lists.{at_set}
use Rattle.cd_verdict.specs.declared.rule.Mark.{Mark}
use Rattle.cd_verdict.specs.declared.rule.View.{View}
use Rattle.cd_verdict.specs.Views.{mark, view, has, is_marked, AgreesWith, marks_from, newest, nothing, after_load, mark_in, after_declare, first_mark, other_marks, first_alone, others, joined}
use Rattle.cd_verdict.specs.Rule.{Fits, IsRung, Learns, Looked, Marked}

-- ---- views in their places

abbrev Each : (ℕ → View → Type 0) → List View → Type 0
Each F views = (seat : ℕ) (v : View) → get_elem? views seat ≡ some v → F seat v

-- after a change of one view
each_set : (F : ℕ → View → Type 0) (views : List View) (seat : ℕ) (w : View) → F seat w → ((j : ℕ) (u : View) → j ≢ seat → get_elem? views j ≡ some u → F j u) → Each F (set views seat w)
each_set F views seat w mine rest j u e =
    ⊎_elim (λ (x : (j ≡ seat) × (w ≡ u)). subst (λ (y : ℕ × View). F y.0 y.1) (λ i. (sym x.0 i, x.1 i)) mine)
    (λ (x : (j ≢ seat) × (get_elem? views j ≡ some u)). rest j u x.0 x.1) (at_set views seat j w u e)

at_more : (views : List View) (w u : View) (j : ℕ) → get_elem? (views ++ w ∷ []) j ≡ some u → (get_elem? views j ≡ some u) ⊎ ((j ≡ length views) × (w ≡ u))
at_more [] w u zero e = inr (refl, some-injective w u e)
at_more [] w u (suc j) e = absurd (some-ne-none u (sym e))
at_more (x ∷ xs) w u zero e = inl e
at_more (x ∷ xs) w u (suc j) e = ⊎_elim (λ y. inl y) (λ (y : (j ≡ length xs) × (w ≡ u)). inr (ap suc y.0, y.1)) (at_more xs w u j e)

-- with a new view at the end
each_more : (F : ℕ → View → Type 0) (views : List View) (w : View) → Each F views → F (length views) w → Each F (views ++ w ∷ [])
each_more F views w old new j u e =
    ⊎_elim (λ (x : get_elem? views j ≡ some u). old j u x)
    (λ (x : (j ≡ length views) × (w ≡ u)). subst (λ (y : ℕ × View). F y.0 y.1) (λ i. (sym x.0 i, x.1 i)) new) (at_more views w u j e)

-- ---- marks

pub has_mark : (n m : ℕ) (ms : List Mark) → has m (mark_in n ms) ≡ has m ms
has_mark n m [] = refl
has_mark n m (x ∷ xs) = elim (x.number == n) as (λ b. has m (cond b (mark x.number true) x ∷ mark_in n xs) ≡ has m (x ∷ xs)) [
  | true ↦ ap (λ b. (x.number == m) || b) (has_mark n m xs)
  | false ↦ ap (λ b. (x.number == m) || b) (has_mark n m xs)
]

pub marks_same : (n : ℕ) (ms : List Mark) → is_marked n (mark_in n ms) ≡ true
marks_same n [] = refl
marks_same n (x ∷ xs) = by (x.number == n) refl (marks_same n xs)
  where
    by : (b : Bool) → (x.number == n) ≡ b → is_marked n (mark_in n xs) ≡ true → is_marked n (mark_in n (x ∷ xs)) ≡ true
    by true is ih = simp is ih
    by false is ih = simp is ih

-- what was marked stays so
marks_other : (n m : ℕ) (ms : List Mark) → is_marked m ms ≡ true → is_marked m (mark_in n ms) ≡ true
marks_other n m [] e = refl
marks_other n m (x ∷ xs) e =
    let both = and_parts (cond (x.number == m) x.marked true) (is_marked m xs) e in
    elim (x.number == n) as (λ b. is_marked m (cond b (mark x.number true) x ∷ mark_in n xs) ≡ true) [
      | true ↦ and_from (cond (x.number == m) true true) (is_marked m (mark_in n xs)) (elim (x.number == m) as (λ b. cond b true true ≡ true) [ true ↦ refl | false ↦ refl ]) (marks_other n m xs both.1)
      | false ↦ and_from (cond (x.number == m) x.marked true) (is_marked m (mark_in n xs)) both.0 (marks_other n m xs both.1)
    ]

marks_absent : (n : ℕ) (ms : List Mark) → has n ms ≡ false → is_marked n ms ≡ true
marks_absent n [] e = refl
marks_absent n (x ∷ xs) e =
    let neither = or_parts (x.number == n) (has n xs) e in
    and_from (cond (x.number == n) x.marked true) (is_marked n xs) (cond-false (x.number == n) x.marked true neither.0) (marks_absent n xs neither.1)

pub has_append : (n : ℕ) (xs ys : List Mark) → has n (xs ++ ys) ≡ (has n xs || has n ys)
has_append n [] ys = refl
has_append n (x ∷ xs) ys = elim (x.number == n) as (λ b. (b || has n (xs ++ ys)) ≡ ((b || has n xs) || has n ys)) [ true ↦ refl | false ↦ has_append n xs ys ]

pub marked_parts : (n : ℕ) (xs ys : List Mark) → is_marked n (xs ++ ys) ≡ true → (is_marked n xs ≡ true) × (is_marked n ys ≡ true)
marked_parts n [] ys e = (refl, e)
marked_parts n (x ∷ xs) ys e =
    let both = and_parts (cond (x.number == n) x.marked true) (is_marked n (xs ++ ys)) e in
    let rest = marked_parts n xs ys both.1 in (and_from (cond (x.number == n) x.marked true) (is_marked n xs) both.0 rest.0, rest.1)

marked_append : (n : ℕ) (xs ys : List Mark) → is_marked n xs ≡ true → is_marked n ys ≡ true → is_marked n (xs ++ ys) ≡ true
marked_append n [] ys p q = q
marked_append n (x ∷ xs) ys p q =
    let both = and_parts (cond (x.number == n) x.marked true) (is_marked n xs) p in
    and_from (cond (x.number == n) x.marked true) (is_marked n (xs ++ ys)) both.0 (marked_append n xs ys both.1 q)

has_from_below : (n a k : ℕ) → n < a → has n (marks_from a k) ≡ false
has_from_below n a zero lt = refl
has_from_below n a (suc k) lt = or_from (a == n) (has n (marks_from (a + 1) k)) (ne_eqb a n (λ e. omega arith)) (has_from_below n (a + 1) k (omega arith))

below_from : (n a k : ℕ) → has n (marks_from a k) ≡ true → n < a + k
below_from n a zero e = absurd (true≢false (sym e))
below_from n a (suc k) e = ⊎_elim (λ (here : (a == n) ≡ true). let f = eqb-true a n here in omega arith) (λ (later : has n (marks_from (a + 1) k) ≡ true). let lt = below_from n (a + 1) k later in omega arith) (or_cases (a == n) (has n (marks_from (a + 1) k)) e)

pub others_from : (a n : ℕ) → other_marks (marks_from a n) ≡ marks_from (a + 1) (n - 1)
others_from a zero = refl
others_from a (suc k) = ap (marks_from (a + 1)) (omega arith)

pub first_from : (a n : ℕ) → 0 < n → first_mark (marks_from a n) ≡ mark a false ∷ []
first_from a zero lt = absurd (omega arith)
first_from a (suc k) lt = refl

-- ---- load, compare and exchange

-- the fact of each word that was noted
abbrev Is : ℕ → ℕ → Type 0
Is word m = (m ≡ word) × (m ≢ 0)

-- while the word is 0, nothing was noted
none_noted : (word new : ℕ) (noted : List ℕ) → AgreesWith word noted → word ≡ 0 → AgreesWith new noted
none_noted word new noted a z k d lt = let h = a k d lt in absurd (h.1 (h.0 ∙ z))

nothing_fits : (peers word : ℕ) (holder : ℕ → ℕ) (seat : ℕ) → Fits peers word holder seat nothing
nothing_fits peers word holder seat = record {
  knows = λ n hn. absurd (true≢false (sym hn));
  below = λ n hn. absurd (true≢false (sym hn));
  alone = λ n hn. absurd (true≢false (sym hn));
  named = λ n hn. absurd (true≢false (sym hn));
  noted = All-nil (Is word);
}

-- what a step tells of the word that it finds
learns : (peers seat : ℕ) (s : State (Unit {0}) View) (v : View) → IsRung peers s → get_elem? s.views seat ≡ some v → Learns v (get_or s.words 0 0)
learns peers seat s v h at = let f = h.fits seat v at in record {
  below = λ n hn. subst (λ k. get_or s.words 0 0 ≤ k) (sym (f.knows n hn)) h.word;
  marked = λ n is hn. f.named n hn is;
  noted = f.noted;
}

-- The word stays, or it was 0 and now names a number that this seat holds: then what the other seats know stays right.
moves : (peers seat : ℕ) (s : State (Unit {0}) View) (carried : List (ℕ × Unit {0})) (v w : View) (x : ℕ) (h : IsRung peers s) → get_elem? s.views seat ≡ some v → x ≤ peers → Fits peers x h.holder seat w
    → ((x ≡ get_or s.words 0 0) ⊎ ((get_or s.words 0 0 ≡ 0) × ((m : ℕ) × (x ≡ m + 1) × (h.holder m ≡ seat)))) → IsRung peers (stepped s 0 x seat carried w keeps)
moves peers seat s carried v w x h at le mine how =
    let here : get_or (set s.words 0 x) 0 0 ≡ x = get_or-set_same s.words 0 x 0 (let o = h.one in omega arith) in record {
      one = length-set s.words 0 x ∙ h.one;
      holder = h.holder;
      word = subst (λ y. y ≤ peers) (sym here) le;
      fits = subst (λ y. Each (Fits peers y h.holder) (set s.views seat w)) (sym here)
          (each_set (Fits peers x h.holder) s.views seat w mine
          (λ j u ne e. let g = h.fits j u e in record {
            knows = g.knows;
            below = g.below;
            alone = g.alone;
            named = λ n hn is. ⊎_elim (λ (same : x ≡ get_or s.words 0 0). g.named n hn (sym same ∙ is))
                (λ (new : (get_or s.words 0 0 ≡ 0) × ((m : ℕ) × (x ≡ m + 1) × (h.holder m ≡ seat))).
                let m : ℕ = new.1.0 in let xm : x ≡ m + 1 = new.1.1 in let nm : n ≡ m = omega arith in
                absurd (ne (sym (g.alone n hn) ∙ ap h.holder nm ∙ new.1.2))) how;
            noted = ⊎_elim (λ (same : x ≡ get_or s.words 0 0). subst (λ y. AgreesWith y u.noted) (sym same) g.noted)
                (λ (new : (get_or s.words 0 0 ≡ 0) × ((m : ℕ) × (x ≡ m + 1) × (h.holder m ≡ seat))). none_noted (get_or s.words 0 0) x u.noted g.noted new.0) how;
          }));
    }

-- the word that is found is noted, unless it is 0
notes : (word : ℕ) (noted : List ℕ) → AgreesWith word noted → (b : Bool) → (word == 0) ≡ b → AgreesWith word (cond b noted (noted ++ word ∷ []))
notes word noted a true z = a
notes word noted a false z = All-push (Is word) noted word a (refl, λ e. true≢false (sym (eq-eqb word 0 e) ∙ z))

pub looks : (peers slots seat : ℕ) (me : Me (Unit {0}) View) → Allows (IsRung peers) slots seat me 0 (λ n. n) (Looked (step slots 0 0 0 none) me)
looks peers slots seat me s h _ at _ =
    let x : ℕ = get_or s.words 0 0 in
    let v : View = me.0 in
    let f = h.fits seat v at in (
      after_load x v,
      keeps,
      tt,
      moves peers seat s me.1 v (after_load x v) x h at h.word
          (record { knows = f.knows; below = f.below; alone = f.alone; named = f.named; noted = notes x v.noted f.noted (x == 0) refl })
          (inl refl),
      (refl, learns peers seat s v h at),
    )

declared_fits : (peers seat k word x : ℕ) (holder : ℕ → ℕ) (v : View) → Fits peers word holder seat v → AgreesWith x (after_declare k word v).noted → ((n : ℕ) → x ≡ n + 1 → (k ≡ n) ⊎ (word ≡ n + 1)) → Fits peers x holder seat (after_declare k word v)
declared_fits peers seat k word x holder v f noted names =
    let was : (n : ℕ) → has n (mark_in k v.marks) ≡ true → has n v.marks ≡ true = λ n hn. sym (has_mark k n v.marks) ∙ hn in record {
      knows = λ n hn. f.knows n (was n hn);
      below = λ n hn. f.below n (was n hn);
      alone = λ n hn. f.alone n (was n hn);
      named = λ n hn is. ⊎_elim (λ (own : k ≡ n). subst (λ m. is_marked m (mark_in k v.marks) ≡ true) own (marks_same k v.marks))
          (λ (old : word ≡ n + 1). marks_other k n v.marks (f.named n (was n hn) old)) (names n is);
      noted = noted;
    }

-- a declaration that finds 0 notes its own word, and any other one the word that it finds
rings : (k word : ℕ) (noted : List ℕ) → AgreesWith word noted → (word == 0) ≡ true → AgreesWith (k + 1) (noted ++ cond (word == 0) (k + 1) word ∷ [])
rings k word noted a z =
    let is : cond (word == 0) (k + 1) word ≡ k + 1 = cond-true (word == 0) (k + 1) word z in
    All-push (Is (k + 1)) noted (cond (word == 0) (k + 1) word) (none_noted word (k + 1) noted a (eqb-true word 0 z)) (is, λ e. let no : k + 1 ≡ 0 = sym is ∙ e in absurd (omega arith))

finds : (k word : ℕ) (noted : List ℕ) → AgreesWith word noted → (word == 0) ≡ false → AgreesWith word (noted ++ cond (word == 0) (k + 1) word ∷ [])
finds k word noted a z =
    let is : cond (word == 0) (k + 1) word ≡ word = cond-false (word == 0) (k + 1) word z in
    All-push (Is word) noted (cond (word == 0) (k + 1) word) a (is, λ e. true≢false (sym (eq-eqb word 0 (sym is ∙ e)) ∙ z))

pub declares : (peers slots seat k : ℕ) (me : Me (Unit {0}) View) → has k me.0.marks ≡ true → Allows (IsRung peers) slots seat me 0 (λ n. either (n == 0) (k + 1) n) (Marked (step slots 0 0 (k + 1) none) me)
declares peers slots seat k me holds s h _ at _ =
    let x : ℕ = get_or s.words 0 0 in
    let v : View = me.0 in
    let f = h.fits seat v at in
    let own : (k + 1) - 1 ≡ k = omega arith in (
      after_declare k x v,
      keeps,
      tt,
      elim (x == 0) as (λ b. (x == 0) ≡ b → IsRung peers (stepped s 0 (either b (k + 1) x) seat me.1 (after_declare k x v) keeps)) [
        | true ↦ λ z. moves peers seat s me.1 v (after_declare k x v) (k + 1) h at (let l = f.below k holds in omega arith)
            (declared_fits peers seat k x (k + 1) h.holder v f (rings k x v.noted f.noted z) (λ n e. let is : k ≡ n = omega arith in inl is))
            (inr (eqb-true x 0 z, (k, refl, f.alone k holds)))
        | false ↦ λ z. moves peers seat s me.1 v (after_declare k x v) x h at h.word (declared_fits peers seat k x x h.holder v f (finds k x v.noted f.noted z) (λ n e. inr e)) (inl refl)
      ] refl,
      (ap (λ m. (after_declare m x v, me.1)) (sym own), learns peers seat s v h at),
    )

-- ---- split

gives_at : (peers p seat a k : ℕ) → Splits (IsRung peers) seat (view p (marks_from a (suc k)) [] []) (view p (marks_from (a + 1) k) [] []) (view p (mark a false ∷ []) [] [])
gives_at peers p seat a k s h at =
    let x : ℕ = get_or s.words 0 0 in
    let v : View = view p (marks_from a (suc k)) [] [] in
    let left : View = view p (marks_from (a + 1) k) [] [] in
    let right : View = view p (mark a false ∷ []) [] [] in
    let f = h.fits seat v at in
    let had : has a v.marks ≡ true = ap (λ b. b || has a (marks_from (a + 1) k)) (eq-eqb a a refl) in
    let vs : List View = set s.views seat left in
    let holder : ℕ → ℕ = λ n. cond (a == n) (length vs) (h.holder n) in
    let gone : (n : ℕ) → a ≢ n → holder n ≡ h.holder n = λ n ne. cond-false (a == n) (length vs) (h.holder n) (ne_eqb a n ne) in
    let was : (n : ℕ) → has n left.marks ≡ true → has n v.marks ≡ true = λ n hn. or_right (a == n) (has n (marks_from (a + 1) k)) hn in
    let not_left : (n : ℕ) → has n left.marks ≡ true → a ≢ n = λ n hn e. true≢false (sym hn ∙ ap (λ m. has m (marks_from (a + 1) k)) (sym e) ∙ has_from_below a (a + 1) k (omega arith)) in
    let is : (n : ℕ) → has n right.marks ≡ true → a ≡ n = λ n hn. ⊎_elim (λ (here : (a == n) ≡ true). eqb-true a n here) (λ (none : false ≡ true). absurd (true≢false (sym none))) (or_cases (a == n) false hn) in
    let not_named : (n : ℕ) → a ≡ n → x ≡ n + 1 → ⊥ = λ n e w. true≢false (sym (f.named a had (w ∙ ap (λ m. m + 1) (sym e))) ∙ and_left (cond (a == a) false true) (is_marked a (marks_from (a + 1) k)) (cond-true (a == a) false true (eq-eqb a a refl))) in record {
      one = h.one;
      holder = holder;
      word = h.word;
      fits = each_more (Fits peers x holder) vs right
          (each_set (Fits peers x holder) s.views seat left
          (record {
            knows = λ n hn. f.knows n (was n hn);
            below = λ n hn. f.below n (was n hn);
            alone = λ n hn. gone n (not_left n hn) ∙ f.alone n (was n hn);
            named = λ n hn w. (and_parts (cond (a == n) false true) (is_marked n (marks_from (a + 1) k)) (f.named n (was n hn) w)).1;
            noted = All-nil (Is x);
          })
          (λ j u ne e. let g = h.fits j u e in record {
            knows = g.knows;
            below = g.below;
            alone = λ n hn. gone n (λ same. ne (sym (g.alone n hn) ∙ ap h.holder (sym same) ∙ f.alone a had)) ∙ g.alone n hn;
            named = g.named;
            noted = g.noted;
          }))
          (record {
            knows = λ n hn. f.knows a had;
            below = λ n hn. subst (λ m. m < peers) (is n hn) (f.below a had);
            alone = λ n hn. cond-true (a == n) (length vs) (h.holder n) (eq-eqb a n (is n hn));
            named = λ n hn w. absurd (not_named n (is n hn) w);
            noted = All-nil (Is x);
          });
    }

-- the first number of a view with more than none
pub gives : (peers p seat a n : ℕ) (v : View) → 0 < n → v ≡ view p (marks_from a n) [] [] → Splits (IsRung peers) seat v (others v) (first_alone v)
gives peers p seat a zero v lt is = absurd (omega arith)
gives peers p seat a (suc k) v lt is = subst (λ (y : View). Splits (IsRung peers) seat y (others y) (first_alone y)) (sym is) (gives_at peers p seat a k)

-- ---- join

join_fits : (peers word seat other : ℕ) (holder : ℕ → ℕ) (v w : View) → v.peers ≡ w.peers → Fits peers word holder seat v → Fits peers word holder other w → Fits peers word (λ n. cond (has n w.marks) seat (holder n)) seat (joined v w)
join_fits peers word seat other holder v w same mine theirs =
    let either_has : (n : ℕ) → has n (joined v w).marks ≡ true → (has n v.marks ≡ true) ⊎ (has n w.marks ≡ true) = λ n hn. or_cases (has n v.marks) (has n w.marks) (sym (has_append n v.marks w.marks) ∙ hn) in
    let right : (u : View) (j n : ℕ) → Fits peers word holder j u → word ≡ n + 1 → is_marked n u.marks ≡ true = λ u j n f e. ⊎_elim (λ (a : has n u.marks ≡ true). f.named n a e) (λ (b : has n u.marks ≡ false). marks_absent n u.marks b) (cases_Bool (has n u.marks)) in record {
      knows = λ n hn. ⊎_elim (λ (a : has n v.marks ≡ true). mine.knows n a) (λ (b : has n w.marks ≡ true). same ∙ theirs.knows n b) (either_has n hn);
      below = λ n hn. ⊎_elim (λ (a : has n v.marks ≡ true). mine.below n a) (λ (b : has n w.marks ≡ true). theirs.below n b) (either_has n hn);
      alone = λ n hn. ⊎_elim (λ (b : has n w.marks ≡ true). cond-true (has n w.marks) seat (holder n) b)
          (λ (no : has n w.marks ≡ false). cond-false (has n w.marks) seat (holder n) no ∙ ⊎_elim (λ (a : has n v.marks ≡ true). mine.alone n a) (λ (b : has n w.marks ≡ true). absurd (true≢false (sym b ∙ no))) (either_has n hn)) (cases_Bool (has n w.marks));
      named = λ n hn e. marked_append n v.marks w.marks (right v seat n mine e) (right w other n theirs e);
      noted = All-append (Is word) v.noted w.noted mine.noted theirs.noted;
    }

pub joins : (peers seat other : ℕ) (v w : View) → v.peers ≡ w.peers → Joins (IsRung peers) seat v other w (joined v w) nothing
joins peers seat other v w same s h at two at' =
    let x : ℕ = get_or s.words 0 0 in
    let was : get_elem? s.views other ≡ some w = ⊎_elim (λ y. absurd (two y.0)) (λ y. y.1) (at_set s.views seat other (joined v w) w at') in
    let theirs = h.fits other w was in
    let holder : ℕ → ℕ = λ n. cond (has n w.marks) seat (h.holder n) in
    let F : ℕ → View → Type 0 = λ j u. j ≢ other → Fits peers x holder j u in
    let now : Each F (set s.views seat (joined v w)) =
    each_set F s.views seat (joined v w) (λ _. join_fits peers x seat other h.holder v w same (h.fits seat v at) theirs)
    (λ j u ne e no. let g = h.fits j u e in
    let out : (n : ℕ) → has n u.marks ≡ true → has n w.marks ≡ false = λ n hn. false_from_ne_true (has n w.marks) (λ t. no (sym (g.alone n hn) ∙ theirs.alone n t)) in record {
      knows = g.knows;
      below = g.below;
      alone = λ n hn. cond-false (has n w.marks) seat (h.holder n) (out n hn) ∙ g.alone n hn;
      named = g.named;
      noted = g.noted;
    }) in record {
      one = h.one;
      holder = holder;
      word = h.word;
      fits = each_set (Fits peers x holder) (set s.views seat (joined v w)) other nothing (nothing_fits peers x holder other) (λ j u no e. now j u e no);
    }

-- ---- the first seat

pub begins : (peers : ℕ) → IsRung peers (opening (0 ∷ []) [] (newest peers))
begins peers = record {
  one = refl;
  holder = λ n. 0;
  word = omega arith;
  fits = each_more (Fits peers 0 (λ n. 0)) [] (newest peers) (λ j u e. absurd (some-ne-none u (sym e)))
      (record {
        knows = λ n hn. refl;
        below = λ n hn. let lt = below_from n 0 peers hn in omega arith;
        alone = λ n hn. refl;
        named = λ n hn z. let no : 0 ≡ n + 1 = z in absurd (omega arith);
        noted = All-nil (Is 0);
      });
}
