-- Renamings told by the places of single variables, and variables numbered in the order of first occurrence.
use Rattle.std.proofs.Common.{◌≡◌, ℕ, zero, suc, ◌+◌, ◌<◌, ◌≤◌, max, Bool, true, false, ◌||◌, Option, None, Some, option_map, ◌⊎◌, inl, inr, List, [], ◌∷◌, ◌++◌, length, map, get_or, nat_eq, nat_lt, ap, refl, sym, ◌∙◌, arith, if◌then◌else◌, length-append}
use Rattle.std.specs.List.{flat_map}
use Rattle.std.proofs.lemmas.Bool.{false≢true, or_left, or_right, or_cases, or_from, lt-ltb, le-ltb, cases_lt, ne_eqb, eqb-true}
use Rattle.std.proofs.lemmas.List.Folds.{list_any-append}
use Rattle.cd_list.proofs.Numbers.{equal_itself, below_next}
use Rattle.cd_term.specs.declared.Term.{Term}
use Rattle.cd_term.specs.declared.Term.TheVariants.{Var, App}
use Rattle.cd_term.specs.Terms.{greatest, bound_of, variables_of, substituted, IsNumberedFrom, firsts_after, rank, ranked, renamed_by, mark, marked, first_from}
use Rattle.cd_term.proofs.TermInduction.{ind, Each}
use Rattle.cd_term.proofs.Equations.{substituted-Var, substituted-App, bound_of-Var, bound_of-App}
use Rattle.cd_term.proofs.Substitutions.{substituted-substituted, substituted-identity}
use Rattle.cd_term.proofs.Occurrence.{substituted-agree}
use Rattle.cd_term.proofs.SizeLaws.{each, bounds_are, bound_of-variables}
use Rattle.cd_term.proofs.Firsts.{rank_known, rank_new}
use Rattle.cd_term.proofs.VariableLaws.{known, occurs-variables, agrees-substituted, ArePlaces}
use Rattle.cd_term.proofs.MarkLemmas.{Var-injective, marked-Var, marked-App, marked_apps, marked_apart, Var-App-apart}

abbrev bit : Bool → ℕ
bit b = if b then 1 else 0

-- a variable or an application
abbrev pub IsEither : Term → Type 0
IsEither t = ((n : ℕ) × (t ≡ Var n)) ⊎ ((f : ℕ) × (ts : List Term) × (t ≡ App f ts))

either : (t : Term) → IsEither t
either = ind IsEither (λ n. inl (n, refl)) (λ f ts e. inr (f, ts, refl))

-- each variable n below a number stands in the second term exactly where its image stands in the first
abbrev pub HavePlaces : (ℕ → ℕ) → ℕ → Term → Term → Type 0
HavePlaces p bound t u = (n : ℕ) → n < bound → marked (p n) t ≡ marked n u

abbrev pub AllHavePlaces : (ℕ → ℕ) → ℕ → List Term → List Term → Type 0
AllHavePlaces p bound ts us = (n : ℕ) → n < bound → map (marked (p n)) ts ≡ map (marked n) us

abbrev pub IsImage : (ℕ → ℕ) → ℕ → Term → Type 0
IsImage p bound u = (t : Term) → HavePlaces p bound t u → bound_of u ≤ bound → t ≡ renamed_by p u

image_variable : (p : ℕ → ℕ) (bound m : ℕ) → IsImage p bound (Var m)
image_variable p bound m = λ t places le. elim (either t) [
  | inl v ↦ v.1 ∙ ap Var (same v.0 (nat_eq v.0 (p m)) refl (Var-injective (if nat_eq v.0 (p m) then 1 else 0) (if nat_eq m m then 1 else 0)
      (sym (marked-Var (p m) v.0) ∙ sym (ap (marked (p m)) v.1) ∙ places m (below le) ∙ marked-Var m m)))
      ∙ sym (substituted-Var (λ n. Var (p n)) m)
  | inr a ↦ absurd (Var-App-apart (if nat_eq m m then 1 else 0) a.0 (map (marked (p m)) a.1)
      (sym (marked-Var m m) ∙ sym (places m (below le)) ∙ ap (marked (p m)) a.2 ∙ marked-App (p m) a.0 a.1))
]
  where
    below : bound_of (Var m) ≤ bound → m < bound
    below le = omega (arith, le, bound_of-Var m)

    same : (k : ℕ) (b : Bool) → nat_eq k (p m) ≡ b → ◌≡◌ {A = ℕ} (if b then 1 else 0) (if nat_eq m m then 1 else 0) → k ≡ p m
    same k true is e = eqb-true k (p m) is
    same k false is e = absurd (omega (arith, e, ap bit (equal_itself m)))

image_terms : (p : ℕ → ℕ) (bound : ℕ) → 0 < bound → (us : List Term) → Each (IsImage p bound) us → (ts : List Term) →
    AllHavePlaces p bound ts us → greatest (map bound_of us) ≤ bound → ts ≡ map (renamed_by p) us
image_terms p bound some [] e [] places le = refl
image_terms p bound some [] e (t ∷ ts) places le = absurd (apart (places 0 some))
  where
    apart : map (marked (p 0)) (t ∷ ts) ≡ [] → ⊥
    apart e = cc
image_terms p bound some (u ∷ us) e [] places le = absurd (apart (places 0 some))
  where
    apart : [] ≡ map (marked 0) (u ∷ us) → ⊥
    apart e = cc
image_terms p bound some (u ∷ us) e (t ∷ ts) places le =
    let here : t ≡ renamed_by p u = e.0 t (λ n lt. head (marked (p n)) (marked n) (places n lt)) (omega (arith, le)) in
    let rest : ts ≡ map (renamed_by p) us = image_terms p bound some us e.1 ts (λ n lt. tail (marked (p n)) (marked n) (places n lt)) (omega (arith, le)) in
    ap (λ x. x ∷ ts) here ∙ ap (λ xs. renamed_by p u ∷ xs) rest
  where
    head : (g h : Term → Term) → map g (t ∷ ts) ≡ map h (u ∷ us) → g t ≡ h u
    head g h e = cc

    tail : (g h : Term → Term) → map g (t ∷ ts) ≡ map h (u ∷ us) → map g ts ≡ map h us
    tail g h e = cc

image_application : (p : ℕ → ℕ) (bound : ℕ) → 0 < bound → (f : ℕ) (us : List Term) → Each (IsImage p bound) us → IsImage p bound (App f us)
image_application p bound some f us e = λ t places le. elim (either t) [
  | inl v ↦ absurd (marked_apart (p 0) 0 v.0 f us (sym (ap (marked (p 0)) v.1) ∙ places 0 some))
  | inr a ↦ a.2 ∙ ap (λ g. App g a.1) (marked_apps (p 0) 0 a.0 f a.1 us (sym (ap (marked (p 0)) a.2) ∙ places 0 some)).0
      ∙ ap (App f) (image_terms p bound some us e a.1
      (λ n lt. (marked_apps (p n) n a.0 f a.1 us (sym (ap (marked (p n)) a.2) ∙ places n lt)).1) (omega (arith, le, bound_of-App f us)))
      ∙ sym (substituted-App (λ n. Var (p n)) f us)
]

-- a term in which the images stand as the variables in another is that term renamed
pub image_of : (p : ℕ → ℕ) (bound : ℕ) → 0 < bound → (u : Term) → IsImage p bound u
image_of p bound some = ind (IsImage p bound) (image_variable p bound) (image_application p bound some)

pub images_of : (p : ℕ → ℕ) (bound : ℕ) → 0 < bound → (ts us : List Term) → AllHavePlaces p bound ts us → greatest (map bound_of us) ≤ bound →
    ts ≡ map (renamed_by p) us
images_of p bound some ts us places le = image_terms p bound some us (each (IsImage p bound) (image_of p bound some) us) ts places le

-- equal values of several terms are equal values of their variables
pub agree_known : (g h : ℕ → Term) (n : ℕ) (us : List Term) → map (substituted g) us ≡ map (substituted h) us →
    known n (flat_map variables_of us) ≡ true → g n ≡ h n
agree_known g h n [] e k = absurd (cc)
agree_known g h n (u ∷ us) e k =
    let here : substituted g u ≡ substituted h u = cc in
    let rest : map (substituted g) us ≡ map (substituted h) us = cc in
    elim (or_cases (known n (variables_of u)) (known n (flat_map variables_of us))
    (sym (list_any-append (λ y. nat_eq y n) (variables_of u) (flat_map variables_of us)) ∙ k)) [
      | inl first ↦ agrees-substituted g h n u here (occurs-variables u n ∙ first)
      | inr later ↦ agree_known g h n us rest later
    ]

-- no other number has the image of a number of the list
abbrev pub IsApart : (ℕ → ℕ) → ℕ → List ℕ → Type 0
IsApart p bound ms = (b : ℕ) → known b ms ≡ true → (a : ℕ) → a < bound → p a ≡ p b → a ≡ b

mark_is : (a b : ℕ) → mark a b ≡ mark b b → a ≡ b
mark_is a b e = at (nat_eq b a) refl (Var-injective (if nat_eq b a then 1 else 0) (if nat_eq b b then 1 else 0) e)
  where
    at : (c : Bool) → nat_eq b a ≡ c → ◌≡◌ {A = ℕ} (if c then 1 else 0) (if nat_eq b b then 1 else 0) → a ≡ b
    at true is e = sym (eqb-true b a is)
    at false is e = absurd (omega (arith, e, ap bit (equal_itself b)))

list_below : (b : ℕ) (ms : List ℕ) → known b ms ≡ true → b < greatest (map (λ n. n + 1) ms)
list_below b [] k = absurd (cc)
list_below b (m ∷ ms) k = elim (or_cases (nat_eq m b) (known b ms) k) [
  | inl here ↦ omega (arith, eqb-true m b here)
  | inr there ↦ omega (arith, list_below b ms there)
]

pub variables_bound : (us : List Term) → greatest (map bound_of us) ≡ greatest (map (λ n. n + 1) (flat_map variables_of us))
variables_bound us = bounds_are us (each (λ t. bound_of t ≡ greatest (map (λ n. n + 1) (variables_of t))) bound_of-variables us)

pub places_apart : (p : ℕ → ℕ) (bound : ℕ) (ts us : List Term) → AllHavePlaces p bound ts us → greatest (map bound_of us) ≤ bound →
    IsApart p bound (flat_map variables_of us)
places_apart p bound ts us places le = λ b k a lt same.
    mark_is a b (agree_known (mark a) (mark b) b us
    (sym (places a lt) ∙ ap (λ x. map (marked x) ts) same
    ∙ places b (omega (arith, le, variables_bound us, list_below b (flat_map variables_of us) k))) k)

-- the first number that isn't below another is in the list
first_from-known : (n m : ℕ) (ms : List ℕ) → first_from n ms ≡ Some m → known m ms ≡ true
first_from-known n m [] e = absurd (cc)
first_from-known n m (k ∷ ms) e = at (nat_lt k n) (first_from-known n m ms) e
  where
    at : (b : Bool) → (first_from n ms ≡ Some m → known m ms ≡ true) → (if b then first_from n ms else Some k) ≡ Some m → (nat_eq k m || known m ms) ≡ true
    at true rest e = or_right (nat_eq k m) (known m ms) (rest e)
    at false rest e = let same : k ≡ m = cc in or_left (nat_eq k m) (known m ms) (ap (λ x. nat_eq k x) (sym same) ∙ equal_itself k)

-- each number from one on is the first that isn't below it
abbrev pub AreFirst : ℕ → ℕ → List ℕ → Type 0
AreFirst a bound ms = (n : ℕ) → a ≤ n → n < bound → first_from n ms ≡ Some n

first_at : (p : ℕ → ℕ) (bound n : ℕ) (ms : List ℕ) (o : Option ℕ) → IsApart p bound ms → n < bound → first_from n ms ≡ o →
    Some (p n) ≡ option_map p o → first_from n ms ≡ Some n
first_at p bound n ms None apart lt is e = absurd (cc)
first_at p bound n ms (Some m) apart lt is e =
    let same : p n ≡ p m = cc in is ∙ ap Some (sym (apart m (first_from-known n m ms is) n lt same))

pub firsts_found : (p : ℕ → ℕ) (bound : ℕ) (ms : List ℕ) → IsApart p bound ms →
    ((n : ℕ) → n < bound → Some (p n) ≡ option_map p (first_from n ms)) → AreFirst 0 bound ms
firsts_found p bound ms apart found = λ n le lt. first_at p bound n ms (first_from n ms) apart lt refl (found n lt)

pub first_numbered : (a bound : ℕ) (ms : List ℕ) → AreFirst a bound ms → greatest (map (λ n. n + 1) ms) ≤ bound → IsNumberedFrom a ms
first_numbered a bound [] first le = tt
first_numbered a bound (m ∷ ms) first le = (
  head (cases_lt a m),
  first_numbered (max a (m + 1)) bound ms
      (λ n above lt. sym (ap (λ b. if b then first_from n ms else Some m) (lt-ltb m n (omega (arith, above)))) ∙ first n (omega (arith, above)) lt)
      (omega (arith, le)),
)
  where
    head : (a < m) ⊎ (m ≤ a) → m ≤ a
    head (inl over) =
        let e : Some m ≡ Some a = sym (ap (λ b. if b then first_from a ms else Some m) (le-ltb m a (omega (arith, over)))) ∙ first a (omega arith) (omega (arith, le, over)) in
        let same : m ≡ a = cc in omega (arith, same)
    head (inr le) = le

pub numbered_first : (a : ℕ) (ms : List ℕ) → IsNumberedFrom a ms → AreFirst a (max a (greatest (map (λ n. n + 1) ms))) ms
numbered_first a [] numbered = λ n le lt. absurd (omega (arith, le, lt))
numbered_first a (m ∷ ms) numbered = λ n le lt. at n le lt (numbered_first (max a (m + 1)) ms numbered.1 n) (cases_lt m n)
  where
    at : (n : ℕ) → a ≤ n → n < max a (greatest (map (λ n. n + 1) (m ∷ ms))) →
        (max a (m + 1) ≤ n → n < max (max a (m + 1)) (greatest (map (λ n. n + 1) ms)) → first_from n ms ≡ Some n) →
        (m < n) ⊎ (n ≤ m) → first_from n (m ∷ ms) ≡ Some n
    at n le lt rest (inl before) = ap (λ b. if b then first_from n ms else Some m) (lt-ltb m n before) ∙ rest (omega (arith, le, before)) (omega (arith, lt))
    at n le lt rest (inr here) = ap (λ b. if b then first_from n ms else Some m) (le-ltb m n here)
        ∙ ap Some (let same : m ≡ n = omega (arith, le, here, numbered.0) in same)

-- the images of the first numbers
abbrev pub images : (ℕ → ℕ) → ℕ → List ℕ
images p zero = []
images p (suc a) = images p a ++ p a ∷ []

images_length : (p : ℕ → ℕ) (a : ℕ) → length (images p a) ≡ a
images_length p zero = refl
images_length p (suc a) = length-append (images p a) (p a ∷ []) ∙ (let e : length (images p a) + 1 ≡ suc a = omega (arith, images_length p a) in e)

images_known : (p : ℕ → ℕ) (a m : ℕ) → m < a → known (p m) (images p a) ≡ true
images_known p zero m lt = absurd (omega (arith, lt))
images_known p (suc a) m lt =
    list_any-append (λ y. nat_eq y (p m)) (images p a) (p a ∷ [])
    ∙ (elim (below_next m a (omega (arith, lt))) [
      | inl old ↦ or_left (known (p m) (images p a)) (known (p m) (p a ∷ [])) (images_known p a m old)
      | inr last ↦ or_right (known (p m) (images p a)) (known (p m) (p a ∷ []))
          (or_left (nat_eq (p a) (p m)) false (ap (λ x. nat_eq (p a) (p x)) last ∙ equal_itself (p a)))
    ])

images_new : (p : ℕ → ℕ) (a k : ℕ) → ((b : ℕ) → b < a → p b ≡ k → ⊥) → known k (images p a) ≡ false
images_new p zero k new = refl
images_new p (suc a) k new =
    list_any-append (λ y. nat_eq y k) (images p a) (p a ∷ [])
    ∙ or_from (known k (images p a)) (known k (p a ∷ [])) (images_new p a k (λ b lt. new b (omega (arith, lt))))
    (or_from (nat_eq (p a) k) false (ne_eqb (p a) k (new a (omega arith))) refl)

pub rank_images : (p : ℕ → ℕ) (a m : ℕ) → m < a → ((b : ℕ) → b < m → p b ≡ p m → ⊥) → rank (images p a) (p m) ≡ m
rank_images p zero m lt new = absurd (omega (arith, lt))
rank_images p (suc a) m lt new = elim (below_next m a (omega (arith, lt))) [
  | inl old ↦ (rank_known (images p a) (p a ∷ []) (p m) (images_known p a m old)).0 ∙ rank_images p a m old new
  | inr last ↦ ap (λ x. rank (images p (suc a)) (p x)) last
      ∙ rank_new (images p a) [] (p a) (images_new p a (p a) (λ b below same. new b (omega (arith, below, last)) (same ∙ ap p (sym last))))
      ∙ images_length p a ∙ sym last
]

-- the images of variables in the order of first occurrence, in the order of first occurrence
pub firsts_images : (p : ℕ → ℕ) (bound : ℕ) (ms : List ℕ) (a : ℕ) → IsNumberedFrom a ms → greatest (map (λ n. n + 1) ms) ≤ bound →
    IsApart p bound ms → firsts_after (images p a) (map p ms) ≡ images p (max a (greatest (map (λ n. n + 1) ms)))
firsts_images p bound [] a numbered le apart = ap (images p) (let e : a ≡ max a 0 = omega arith in e)
firsts_images p bound (m ∷ ms) a numbered le apart =
    step (below_next m a (omega (arith, numbered.0)))
    (firsts_images p bound ms (max a (m + 1)) numbered.1 (omega (arith, le)) (λ b k. apart b (or_right (nat_eq m b) (known b ms) k)))
  where
    step : (m < a) ⊎ (m ≡ a) →
        firsts_after (images p (max a (m + 1))) (map p ms) ≡ images p (max (max a (m + 1)) (greatest (map (λ n. n + 1) ms))) →
        firsts_after (images p a) (map p (m ∷ ms)) ≡ images p (max a (greatest (map (λ n. n + 1) (m ∷ ms))))
    step (inl old) rest =
        ap (λ c. firsts_after (if c then images p a else images p a ++ p m ∷ []) (map p ms)) (images_known p a m old)
        ∙ ap (λ x. firsts_after (images p x) (map p ms)) (let e : a ≡ max a (m + 1) = omega (arith, old) in e)
        ∙ rest ∙ ap (images p) (let e : max (max a (m + 1)) (greatest (map (λ n. n + 1) ms)) ≡ max a (greatest (map (λ n. n + 1) (m ∷ ms))) = omega arith in e)
    step (inr last) rest =
        ap (λ c. firsts_after (if c then images p a else images p a ++ p m ∷ []) (map p ms))
        (images_new p a (p m) (λ b lt same. omega (
          arith,
          lt,
          last,
          apart m (or_left (nat_eq m m) (known m ms) (equal_itself m)) b (omega (arith, lt, last, le)) same,
        )))
        ∙ ap (λ x. firsts_after (images p a ++ p x ∷ []) (map p ms)) last
        ∙ ap (λ x. firsts_after (images p x) (map p ms)) (let e : suc a ≡ max a (m + 1) = omega (arith, last) in e)
        ∙ rest ∙ ap (images p) (let e : max (max a (m + 1)) (greatest (map (λ n. n + 1) ms)) ≡ max a (greatest (map (λ n. n + 1) (m ∷ ms))) = omega arith in e)

pub ranks_back : (p : ℕ → ℕ) (bound : ℕ) (ms : List ℕ) → IsNumberedFrom 0 ms → greatest (map (λ n. n + 1) ms) ≤ bound → IsApart p bound ms →
    (m : ℕ) → known m ms ≡ true → rank (firsts_after [] (map p ms)) (p m) ≡ m
ranks_back p bound ms numbered le apart = λ m k.
    ap (λ xs. rank xs (p m)) (firsts_images p bound ms 0 numbered le apart)
    ∙ rank_images p (max 0 (greatest (map (λ n. n + 1) ms))) m (omega (arith, list_below m ms k))
    (λ b lt same. omega (arith, lt, apart m k b (omega (arith, lt, le, list_below m ms k)) same))

-- a substitution after a renaming
renamed_one : (h g : ℕ → Term) (p : ℕ → ℕ) (u : Term) → ((m : ℕ) → known m (variables_of u) ≡ true → h (p m) ≡ g m) →
    substituted h (renamed_by p u) ≡ substituted g u
renamed_one h g p u same = substituted-substituted h (λ m. Var (p m)) u
    ∙ substituted-agree (λ k. substituted h (Var (p k))) g u
    (λ k o. substituted-Var h (p k) ∙ same k (sym (occurs-variables u k) ∙ o))

pub renamed_agree : (h g : ℕ → Term) (p : ℕ → ℕ) (us : List Term) → ((m : ℕ) → known m (flat_map variables_of us) ≡ true → h (p m) ≡ g m) →
    map (λ t. substituted h (renamed_by p t)) us ≡ map (substituted g) us
renamed_agree h g p [] same = refl
renamed_agree h g p (u ∷ us) same =
    let here : substituted h (renamed_by p u) ≡ substituted g u = renamed_one h g p u (λ m k. same m
    (list_any-append (λ y. nat_eq y m) (variables_of u) (flat_map variables_of us)
    ∙ or_left (known m (variables_of u)) (known m (flat_map variables_of us)) k)) in
    let rest : map (λ t. substituted h (renamed_by p t)) us ≡ map (substituted g) us = renamed_agree h g p us (λ m k. same m
    (list_any-append (λ y. nat_eq y m) (variables_of u) (flat_map variables_of us)
    ∙ or_right (known m (variables_of u)) (known m (flat_map variables_of us)) k)) in
    ap (λ x. x ∷ map (λ t. substituted h (renamed_by p t)) us) here ∙ ap (λ xs. substituted g u ∷ xs) rest

unchanged : (us : List Term) → map (substituted Var) us ≡ us
unchanged [] = refl
unchanged (u ∷ us) = ap (λ x. x ∷ map (substituted Var) us) (substituted-identity u) ∙ ap (λ xs. u ∷ xs) (unchanged us)

-- numbered variables whose images are apart are what the images are renumbered to
pub renamed_back : (p : ℕ → ℕ) (bound : ℕ) (us : List Term) → IsNumberedFrom 0 (flat_map variables_of us) → greatest (map bound_of us) ≤ bound →
    IsApart p bound (flat_map variables_of us) →
    map (λ t. substituted (ranked (firsts_after [] (map p (flat_map variables_of us)))) (renamed_by p t)) us ≡ us
renamed_back p bound us numbered le apart =
    let order : List ℕ = firsts_after [] (map p (flat_map variables_of us)) in
    renamed_agree (ranked order) Var p us
    (λ m k. ap Var (ranks_back p bound (flat_map variables_of us) numbered (omega (arith, le, variables_bound us)) apart m k))
    ∙ unchanged us

-- where the places of an order are their ranks, one place is marked as what stands there
mark_same : (order : List ℕ) (n m : ℕ) → ArePlaces order → n < length order → m < length order →
    mark (get_or order n 0) (get_or order m 0) ≡ mark n m
mark_same order n m places lt below = at (nat_eq m n) refl
  where
    at : (b : Bool) → nat_eq m n ≡ b → mark (get_or order n 0) (get_or order m 0) ≡ mark n m
    at true is = ap (λ x. mark (get_or order n 0) (get_or order x 0)) (eqb-true m n is)
        ∙ ap (λ c. Var (if c then 1 else 0)) (equal_itself (get_or order n 0) ∙ sym is)
    at false is = ap (λ c. Var (if c then 1 else 0))
        (ne_eqb (get_or order m 0) (get_or order n 0)
        (λ same. false≢true (sym is ∙ ap (λ x. nat_eq x n) (sym (places m below) ∙ ap (rank order) same ∙ places n lt) ∙ equal_itself n)) ∙ sym is)

pub marks_same : (order : List ℕ) (us : List Term) (n : ℕ) → ArePlaces order → greatest (map bound_of us) ≤ length order → n < length order →
    map (λ t. marked (get_or order n 0) (renamed_by (λ m. get_or order m 0) t)) us ≡ map (marked n) us
marks_same order us n places le lt = renamed_agree (mark (get_or order n 0)) (mark n) (λ m. get_or order m 0) us
    (λ m k. mark_same order n m places lt (omega (arith, le, variables_bound us, list_below m (flat_map variables_of us) k)))

-- without variables each mark is the same
pub marks_nowhere : (p : ℕ → ℕ) (us : List Term) (k n : ℕ) → greatest (map bound_of us) ≡ 0 →
    map (λ t. marked k (renamed_by p t)) us ≡ map (marked n) us
marks_nowhere p us k n none = renamed_agree (mark k) (mark n) p us
    (λ m known. absurd (omega (arith, none, variables_bound us, list_below m (flat_map variables_of us) known)))
