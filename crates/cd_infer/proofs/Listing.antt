-- Lists of what places give, made of parts.
use Rattle.std.proofs.Common.{◌≡◌, inl, inr, ℕ, zero, suc, ◌+◌, ◌<◌, List, [], ◌∷◌, ◌++◌, map, Err, ap, ap₂, ◌∙◌, sym, subst, refl, arith, append-nil, append_assoc}
use Rattle.std.specs.List.{flat_map, range_with_len, AllByRecursion}
use Rattle.std.proofs.lemmas.List.{map-append}
use Rattle.std.proofs.lemmas.List.Concat.{flat_map-append}
use Rattle.cd_list.proofs.Lists.{all_append}
use Rattle.cd_term.specs.declared.TermFault.{TermFault}
use Rattle.cd_term.specs.declared.TermFault.TheVariants.{OutOfBounds, Memory}
use Rattle.cd_list.specs.Lists.{Among}
use Rattle.cd_infer.specs.Listed.{Listed, Adds, Overflows, Gathers}

pub listed_append : {K X : Type 0} (Gives : K → X → Type 0) (Can : K → Type 0) (ks ls : List K) (xs ys : List X) → Listed Gives Can ks xs → Listed Gives Can ls ys → Listed Gives Can (ks ++ ls) (xs ++ ys)
listed_append {K} {X} Gives Can [] ls xs ys p q = subst (λ (zs : List X). Listed Gives Can ls zs) (sym (ap (λ (z : List X). z ++ ys) p)) q
listed_append {K} {X} Gives Can (k ∷ ks) ls xs ys p q = elim p [
  | inl g ↦ inl (g.0, g.1 ++ ys, g.2, listed_append Gives Can ks ls g.1 ys g.3 q, ap (λ (z : List X). z ++ ys) g.4)
  | inr n ↦ inr (n.0, listed_append Gives Can ks ls xs ys n.1 q)
]

-- where a place gives at most one item, and only where it can, at most one list fits
pub listed_one : {K X : Type 0} (Gives : K → X → Type 0) (Can : K → Type 0) → ((k : K) (x y : X) → Gives k x → Gives k y → x ≡ y) → ((k : K) (x : X) → Gives k x → Can k)
    → (ks : List K) (xs ys : List X) → Listed Gives Can ks xs → Listed Gives Can ks ys → xs ≡ ys
listed_one Gives Can one can [] xs ys p q = p ∙ sym q
listed_one {K} {X} Gives Can one can (k ∷ ks) xs ys p q = elim p [
  | inl g ↦ elim q [
    | inl h ↦ g.4 ∙ ap₂ (λ (x : X) (zs : List X). x ∷ zs) (one k g.0 h.0 g.2 h.2) (listed_one Gives Can one can ks g.1 h.1 g.3 h.3) ∙ sym h.4
    | inr n ↦ absurd (n.0 (can k g.0 g.2))
  ]
  | inr n ↦ elim q [
    | inl h ↦ absurd (n.0 (can k h.0 h.2))
    | inr m ↦ listed_one Gives Can one can ks xs ys n.1 m.1
  ]
]

-- what a place can give is in the list: of each place that has P and can give something, the list has an item that
-- has Q
pub listed_has : {K X : Type 0} (Gives : K → X → Type 0) (Can : K → Type 0) (P : K → Type 0) (Q : X → Type 0) (ks : List K) (xs : List X)
    → ((k : K) → P k → Can k) → ((k : K) (x : X) → P k → Gives k x → Q x) → Listed Gives Can ks xs → Among P ks → Among Q xs
listed_has Gives Can P Q [] xs can fit p some = absurd some
listed_has {K} {X} Gives Can P Q (k ∷ ks) xs can fit p some = elim p [
  | inl g ↦ subst (λ (zs : List X). Among Q zs) (sym g.4) (elim some [
    | inl here ↦ inl (fit k g.0 here g.2)
    | inr there ↦ inr (listed_has Gives Can P Q ks g.1 can fit g.3 there)
  ])
  | inr n ↦ elim some [
    | inl here ↦ absurd (n.0 (can k here))
    | inr there ↦ listed_has Gives Can P Q ks xs can fit n.1 there
  ]
]

-- what each place gives has a property
pub listed_all : {K X : Type 0} (Gives : K → X → Type 0) (Can : K → Type 0) (Q : X → Type 0) → ((k : K) (x : X) → Gives k x → Q x) → (ks : List K) (xs : List X) →
    Listed Gives Can ks xs → AllByRecursion Q xs
listed_all Gives Can Q fit [] xs p = subst (λ zs. AllByRecursion Q zs) (sym p) tt
listed_all {K} {X} Gives Can Q fit (k ∷ ks) xs p = elim p [
  | inl g ↦ subst (λ (zs : List X). AllByRecursion Q zs) (sym g.4) (fit k g.0 g.2, listed_all Gives Can Q fit ks g.1 g.3)
  | inr n ↦ listed_all Gives Can Q fit ks xs n.1
]

-- where all items are fine, no place gives one that isn't
no_other : {X : Type 0} (P : X → Type 0) (xs : List X) → AllByRecursion P xs → Among (λ x. P x → ⊥) xs → ⊥
no_other P [] all some = some
no_other P (x ∷ xs) all some = elim some [ inl here ↦ here all.0 | inr there ↦ no_other P xs all.1 there ]

pub listed_within : {K X : Type 0} (Gives : K → X → Type 0) (Can : K → Type 0) (IsFine : X → Type 0) → ((k : K) (x y : X) → Gives k x → Gives k y → x ≡ y) →
    ((k : K) (x : X) → Gives k x → Can k) → (ks : List K) (xs : List X) → Listed Gives Can ks xs → AllByRecursion IsFine xs → Overflows Gives IsFine ks → ⊥
listed_within {K} {X} Gives Can IsFine one can ks xs p all out =
    no_other IsFine xs all
    (listed_has Gives Can (λ k. (x : X) × Gives k x × (IsFine x → ⊥)) (λ x. IsFine x → ⊥) ks xs (λ k o. can k o.0 o.1)
    (λ k x o g fine. o.2 (subst IsFine (one k x o.0 g o.1) fine)) p out)

-- places that can't give anything
pub listed_none : {K X : Type 0} (Gives : K → X → Type 0) (Can : K → Type 0) (ks : List K) → AllByRecursion (λ k. Can k → ⊥) ks → Listed Gives Can ks []
listed_none Gives Can [] none = refl
listed_none Gives Can (k ∷ ks) none = inr (none.0, listed_none Gives Can ks none.1)

-- ---- lists that grow

module _ {K X : Type 0} (Gives : K → X → Type 0) (Can : K → Type 0) (IsFine : X → Type 0) where
  pub adds_nothing : (xs ys : List X) → ys ≡ xs → Adds Gives Can IsFine [] xs ys
  adds_nothing xs ys is = record { part = []; listed = refl; fine = tt; appended = is ∙ sym (append-nil xs) }

  pub adds_none : (ks : List K) (xs : List X) → AllByRecursion (λ k. Can k → ⊥) ks → Adds Gives Can IsFine ks xs xs
  adds_none ks xs none = record { part = []; listed = listed_none Gives Can ks none; fine = tt; appended = sym (append-nil xs) }

  pub adds_one : (k : K) (x : X) (xs ys : List X) → Gives k x → IsFine x → ys ≡ xs ++ x ∷ [] → Adds Gives Can IsFine (k ∷ []) xs ys
  adds_one k x xs ys gives fine is = record { part = x ∷ []; listed = inl (x, [], gives, refl, refl); fine = (fine, tt); appended = is }

  pub adds_append : (ks ls : List K) (a b c : List X) → Adds Gives Can IsFine ks a b → Adds Gives Can IsFine ls b c → Adds Gives Can IsFine (ks ++ ls) a c
  adds_append ks ls a b c p q = record {
    part = p.part ++ q.part;
    listed = listed_append Gives Can ks ls p.part q.part p.listed q.listed;
    fine = all_append IsFine p.part q.part p.fine q.fine;
    appended = q.appended ∙ ap (λ (z : List X). z ++ q.part) p.appended ∙ append_assoc a p.part q.part;
  }

  pub adds_to : (ks ls : List K) (a b : List X) → ks ≡ ls → Adds Gives Can IsFine ks a b → Adds Gives Can IsFine ls a b
  adds_to ks ls a b is p = subst (λ (ms : List K). Adds Gives Can IsFine ms a b) is p

  pub among_left : (P : K → Type 0) (ks ls : List K) → Among P ks → Among P (ks ++ ls)
  among_left P [] ls some = absurd some
  among_left P (k ∷ ks) ls some = elim some [
    | inl here ↦ inl here
    | inr there ↦ inr (among_left P ks ls there)
  ]

  pub among_right : (P : K → Type 0) (ks ls : List K) → Among P ls → Among P (ks ++ ls)
  among_right P [] ls some = some
  among_right P (k ∷ ks) ls some = inr (among_right P ks ls some)

  -- an error is passed on
  pub gathers_err : (U V : Type 0) (ks ls : List K) (a b c d : List X) (fault : TermFault) → (Overflows Gives IsFine ks → Overflows Gives IsFine ls)
      → Gathers {U = U} Gives Can IsFine ks a b (Err fault) → Gathers {U = V} Gives Can IsFine ls c d (Err fault)
  gathers_err U V ks ls a b c d OutOfBounds more g = more g
  gathers_err U V ks ls a b c d Memory more g = tt

-- one more number
pub range_more : (a n : ℕ) → range_with_len a (n + 1) ≡ range_with_len a n ++ (a + n) ∷ []
range_more a zero = ap (λ (k : ℕ). k ∷ []) (omega arith)
range_more a (suc n) =
    let here : suc n + 1 ≡ suc (n + 1) = omega arith in
    let last : a + 1 + n ≡ a + suc n = omega arith in
    ap (λ (k : ℕ). range_with_len a k) here ∙ ap (λ (l : List ℕ). a ∷ l) (range_more (a + 1) n ∙ ap (λ (k : ℕ). range_with_len (a + 1) n ++ k ∷ []) last)

-- the places of the numbers below n, and of the next
pub flat_more : {K : Type 0} (f : ℕ → List K) (n : ℕ) → flat_map f (range_with_len 0 (n + 1)) ≡ flat_map f (range_with_len 0 n) ++ f n
flat_more f n =
    ap (flat_map f) (range_more 0 n) ∙ flat_map-append f (range_with_len 0 n) ((0 + n) ∷ [])
    ∙ ap (λ ks. flat_map f (range_with_len 0 n) ++ ks) (append-nil (f (0 + n)) ∙ ap f (omega arith))

pub map_more : {K : Type 0} (f : ℕ → K) (n : ℕ) → map f (range_with_len 0 (n + 1)) ≡ map f (range_with_len 0 n) ++ f n ∷ []
map_more f n = ap (map f) (range_more 0 n) ∙ map_append (range_with_len 0 n) ∙ ap (λ k. map f (range_with_len 0 n) ++ k ∷ []) (ap f (omega arith))
  where
    map_append : (ns : List ℕ) → map f (ns ++ (0 + n) ∷ []) ≡ map f ns ++ f (0 + n) ∷ []
    map_append [] = refl
    map_append (m ∷ ns) = ap (λ ks. f m ∷ ks) (map_append ns)

module _ {K X : Type 0} (Gives : K → X → Type 0) (Can : K → Type 0) (IsFine : X → Type 0) where
  pub adds_next : (f : ℕ → List K) (n : ℕ) (a b c : List X) → Adds Gives Can IsFine (flat_map f (range_with_len 0 n)) a b → Adds Gives Can IsFine (f n) b c
      → Adds Gives Can IsFine (flat_map f (range_with_len 0 (n + 1))) a c
  adds_next f n a b c p q = adds_to Gives Can IsFine _ _ a c (sym (flat_more f n)) (adds_append Gives Can IsFine (flat_map f (range_with_len 0 n)) (f n) a b c p q)

  pub adds_next_one : (f : ℕ → K) (n : ℕ) (a b c : List X) → Adds Gives Can IsFine (map f (range_with_len 0 n)) a b → Adds Gives Can IsFine (f n ∷ []) b c
      → Adds Gives Can IsFine (map f (range_with_len 0 (n + 1))) a c
  adds_next_one f n a b c p q = adds_to Gives Can IsFine _ _ a c (sym (map_more f n)) (adds_append Gives Can IsFine (map f (range_with_len 0 n)) (f n ∷ []) a b c p q)

  -- what one number's places overflow, those of all numbers below a greater one do
  split_range : (a i n : ℕ) → i < n → (back : List ℕ) × (range_with_len a n ≡ range_with_len a i ++ (a + i) ∷ back)
  split_range a i zero lt = absurd (omega arith)
  split_range a zero (suc n) lt = (range_with_len (a + 1) n, ap (λ (k : ℕ). k ∷ range_with_len (a + 1) n) (omega arith))
  split_range a (suc i) (suc n) lt =
      let rest = split_range (a + 1) i n (omega arith) in
      let last : a + 1 + i ≡ a + suc i = omega arith in
      (rest.0, ap (λ (l : List ℕ). a ∷ l) (rest.1 ∙ ap (λ (k : ℕ). range_with_len (a + 1) i ++ k ∷ rest.0) last))

  pub overflow_at : (f : ℕ → List K) (i n : ℕ) → i < n → Overflows Gives IsFine (f i) → Overflows Gives IsFine (flat_map f (range_with_len 0 n))
  overflow_at f i n lt some =
      let s = split_range 0 i n lt in
      let P : K → Type 0 = λ k. (x : X) × Gives k x × (IsFine x → ⊥) in
      let whole : flat_map f (range_with_len 0 n) ≡ flat_map f (range_with_len 0 i) ++ (f i ++ flat_map f s.0) =
      ap (flat_map f) s.1 ∙ flat_map-append f (range_with_len 0 i) ((0 + i) ∷ s.0)
      ∙ ap (λ (k : ℕ). flat_map f (range_with_len 0 i) ++ (f k ++ flat_map f s.0)) (omega arith) in
      subst (λ (ks : List K). Among P ks) (sym whole)
      (among_right Gives Can IsFine P (flat_map f (range_with_len 0 i)) (f i ++ flat_map f s.0) (among_left Gives Can IsFine P (f i) (flat_map f s.0) some))

  pub overflow_one_at : (f : ℕ → K) (i n : ℕ) → i < n → Overflows Gives IsFine (f i ∷ []) → Overflows Gives IsFine (map f (range_with_len 0 n))
  overflow_one_at f i n lt some =
      let s = split_range 0 i n lt in
      let P : K → Type 0 = λ k. (x : X) × Gives k x × (IsFine x → ⊥) in
      let whole : map f (range_with_len 0 n) ≡ map f (range_with_len 0 i) ++ (f i ∷ map f s.0) =
      ap (map f) s.1 ∙ map-append f (range_with_len 0 i) ((0 + i) ∷ s.0) ∙ ap (λ (k : ℕ). map f (range_with_len 0 i) ++ (f k ∷ map f s.0)) (omega arith) in
      subst (λ (ks : List K). Among P ks) (sym whole)
      (among_right Gives Can IsFine P (map f (range_with_len 0 i)) (f i ∷ map f s.0) (elim some [
        | inl here ↦ inl here
        | inr none ↦ absurd none
      ]))
