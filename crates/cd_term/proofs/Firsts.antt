-- Variables in the order of first occurrence.
use Rattle.std.proofs.Common.{◌≡◌, ℕ, suc, ◌+◌, ◌<◌, ◌≤◌, max, Bool, true, false, ◌||◌, List, [], ◌∷◌, ◌++◌, length, map, take, get_or, nat_eq, ap, subst, refl, sym, ◌∙◌, arith, if◌then◌else◌, length-append, append_assoc}
use Rattle.std.specs.List.{list_any, flat_map}
use Rattle.std.proofs.lemmas.List.{take_more, append-nil}
use Rattle.std.proofs.lemmas.List.Concat.{flat_map-append}
use Rattle.cd_term.specs.declared.Term.{Term}
use Rattle.cd_term.specs.declared.Term.TheVariants.{Var}
use Rattle.cd_term.specs.Terms.{variables_of, firsts_after, IsNumberedFrom, rank}
use Rattle.cd_term.proofs.Equations.{variables_of-Var}

abbrev pub noted : List ℕ → ℕ → List ℕ
noted seen k = if list_any (λ y. nat_eq y k) seen then seen else seen ++ k ∷ []

pub firsts_after-append : (seen xs ys : List ℕ) → firsts_after seen (xs ++ ys) ≡ firsts_after (firsts_after seen xs) ys
firsts_after-append seen [] ys = refl
firsts_after-append seen (k ∷ xs) ys = firsts_after-append (noted seen k) xs ys

pub firsts_more : (seen : List ℕ) (ts : List Term) (i : ℕ) (d : Term) → i < length ts →
    firsts_after seen (flat_map variables_of (take (i + 1) ts))
    ≡ firsts_after (firsts_after seen (flat_map variables_of (take i ts))) (variables_of (get_or ts i d))
firsts_more seen ts i d lt =
    ap (λ xs. firsts_after seen (flat_map variables_of xs)) (take_more ts i d lt)
    ∙ ap (firsts_after seen) (flat_map-append variables_of (take i ts) (get_or ts i d ∷ []) ∙ one_piece (flat_map variables_of (take i ts)) (variables_of (get_or ts i d)))
    ∙ firsts_after-append seen (flat_map variables_of (take i ts)) (variables_of (get_or ts i d))
  where
    one_piece : (xs ys : List ℕ) → xs ++ (ys ++ []) ≡ xs ++ ys
    one_piece xs ys = ap (λ zs. xs ++ zs) (append-nil ys)

rank_known_at : (x : ℕ) (xs ys : List ℕ) (k : ℕ) (b : Bool) → nat_eq x k ≡ b → (b || list_any (λ y. nat_eq y k) xs) ≡ true →
    (list_any (λ y. nat_eq y k) xs ≡ true → (rank (xs ++ ys) k ≡ rank xs k) × (rank xs k < length xs) × (get_or xs (rank xs k) 0 ≡ k)) →
    (rank (x ∷ xs ++ ys) k ≡ rank (x ∷ xs) k) × (rank (x ∷ xs) k < length (x ∷ xs)) × (get_or (x ∷ xs) (rank (x ∷ xs) k) 0 ≡ k)
rank_known_at x xs ys k true is known rest = rw is (refl, omega arith, sym (equal k x is))
  where
    equal : (k x : ℕ) → nat_eq x k ≡ true → k ≡ x
    equal k x e = grind (arith, e)
rank_known_at x xs ys k false is known rest = rw is (ap suc (rest known).0, omega (arith, (rest known).1), (rest known).2)

-- a number that is there keeps its place, which leads back to it
pub rank_known : (xs ys : List ℕ) (k : ℕ) → list_any (λ y. nat_eq y k) xs ≡ true →
    (rank (xs ++ ys) k ≡ rank xs k) × (rank xs k < length xs) × (get_or xs (rank xs k) 0 ≡ k)
rank_known [] ys k known = absurd (cc)
rank_known (x ∷ xs) ys k known = rank_known_at x xs ys k (nat_eq x k) refl known (rank_known xs ys k)

rank_new_at : (x : ℕ) (xs ys : List ℕ) (k : ℕ) (b : Bool) → nat_eq x k ≡ b → (b || list_any (λ y. nat_eq y k) xs) ≡ false →
    (list_any (λ y. nat_eq y k) xs ≡ false → rank (xs ++ k ∷ ys) k ≡ length xs) → rank (x ∷ xs ++ k ∷ ys) k ≡ suc (length xs)
rank_new_at x xs ys k true is new rest = absurd (cc)
rank_new_at x xs ys k false is new rest = rw is (ap suc (rest new))

pub rank_new : (xs ys : List ℕ) (k : ℕ) → list_any (λ y. nat_eq y k) xs ≡ false → rank (xs ++ k ∷ ys) k ≡ length xs
rank_new [] ys k new = rw (self k)
  where
    self : (k : ℕ) → nat_eq k k ≡ true
    self k = grind arith
rank_new (x ∷ xs) ys k new = rank_new_at x xs ys k (nat_eq x k) refl new (rank_new xs ys k)

-- what was seen stays in front
extend_at : (seen ks : List ℕ) (k : ℕ) (b : Bool) → list_any (λ y. nat_eq y k) seen ≡ b →
    ((more : List ℕ) × (firsts_after seen ks ≡ seen ++ more)) →
    ((more : List ℕ) × (firsts_after (seen ++ k ∷ []) ks ≡ (seen ++ k ∷ []) ++ more)) →
    (more : List ℕ) × (firsts_after seen (k ∷ ks) ≡ seen ++ more)
extend_at seen ks k true e old new = (old.0, ap (λ c. firsts_after (if c then seen else seen ++ k ∷ []) ks) e ∙ old.1)
extend_at seen ks k false e old new =
    (k ∷ new.0, ap (λ c. firsts_after (if c then seen else seen ++ k ∷ []) ks) e ∙ new.1 ∙ append_assoc seen (k ∷ []) new.0)

pub firsts_extend : (seen ks : List ℕ) → (more : List ℕ) × (firsts_after seen ks ≡ seen ++ more)
firsts_extend seen [] = ([], sym (append-nil seen))
firsts_extend seen (k ∷ ks) = extend_at seen ks k (list_any (λ y. nat_eq y k) seen) refl (firsts_extend seen ks) (firsts_extend (seen ++ k ∷ []) ks)

-- one place more
abbrev pub numbered : List ℕ → List ℕ → Type 0
numbered seen ks = IsNumberedFrom (length seen) (map (rank (firsts_after seen ks)) ks)

numbered_at : (seen ks : List ℕ) (k : ℕ) (b : Bool) → list_any (λ y. nat_eq y k) seen ≡ b →
    numbered seen ks → numbered (seen ++ k ∷ []) ks → numbered seen (k ∷ ks)
numbered_at seen ks k true e old new =
    let all : firsts_after seen (k ∷ ks) ≡ firsts_after seen ks = ap (λ c. firsts_after (if c then seen else seen ++ k ∷ []) ks) e in
    let r = firsts_extend seen ks in
    let same : rank (firsts_after seen ks) k ≡ rank seen k = ap (λ xs. rank xs k) r.1 ∙ (rank_known seen r.0 k e).0 in
    let below : rank seen k < length seen = (rank_known seen [] k e).1 in
    let up : length seen ≡ max (length seen) (rank (firsts_after seen ks) k + 1) = omega arith in
    let first : rank (firsts_after seen ks) k ≤ length seen = omega arith in
    let goal : List ℕ → Type 0 = λ final. IsNumberedFrom (length seen) (map (rank final) (k ∷ ks)) in
    subst goal (sym all) (first, subst (λ n. IsNumberedFrom n (map (rank (firsts_after seen ks)) ks)) up old)
numbered_at seen ks k false e old new =
    let all : firsts_after seen (k ∷ ks) ≡ firsts_after (seen ++ k ∷ []) ks = ap (λ c. firsts_after (if c then seen else seen ++ k ∷ []) ks) e in
    let r = firsts_extend (seen ++ k ∷ []) ks in
    let at : rank (firsts_after (seen ++ k ∷ []) ks) k ≡ length seen = ap (λ xs. rank xs k) (r.1 ∙ append_assoc seen (k ∷ []) r.0) ∙ rank_new seen r.0 k e in
    let up : length (seen ++ k ∷ []) ≡ max (length seen) (rank (firsts_after (seen ++ k ∷ []) ks) k + 1) = simp length-append (omega arith) in
    let first : rank (firsts_after (seen ++ k ∷ []) ks) k ≤ length seen = omega arith in
    let goal : List ℕ → Type 0 = λ final. IsNumberedFrom (length seen) (map (rank final) (k ∷ ks)) in
    subst goal (sym all) (first, subst (λ n. IsNumberedFrom n (map (rank (firsts_after (seen ++ k ∷ []) ks)) ks)) up new)

-- the places of the variables are numbered in the order of first occurrence
pub ranks_numbered : (seen ks : List ℕ) → numbered seen ks
ranks_numbered seen [] = tt
ranks_numbered seen (k ∷ ks) = numbered_at seen ks k (list_any (λ y. nat_eq y k) seen) refl (ranks_numbered seen ks) (ranks_numbered (seen ++ k ∷ []) ks)

-- noting one variable
pub noted_new : (seen : List ℕ) (k : ℕ) (t : Term) → t ≡ Var k → list_any (λ y. nat_eq y k) seen ≡ false →
    seen ++ k ∷ [] ≡ firsts_after seen (variables_of t)
noted_new seen k t is new = sym (ap (λ u. firsts_after seen (variables_of u)) is ∙ ap (firsts_after seen) (variables_of-Var k)
    ∙ ap (λ c. if c then seen else seen ++ k ∷ []) new)

pub noted_known : (seen : List ℕ) (k : ℕ) (t : Term) → t ≡ Var k → list_any (λ y. nat_eq y k) seen ≡ true →
    seen ≡ firsts_after seen (variables_of t)
noted_known seen k t is known = sym (ap (λ u. firsts_after seen (variables_of u)) is ∙ ap (firsts_after seen) (variables_of-Var k)
    ∙ ap (λ c. if c then seen else seen ++ k ∷ []) known)

-- after some numbers were noted, what was seen before still stands in front
pub kept_noted : (seen ks some : List ℕ) → some ≡ firsts_after seen ks → (more : List ℕ) × (some ≡ seen ++ more)
kept_noted seen ks some is = let front = firsts_extend seen ks in (front.0, is ∙ front.1)

pub kept_further : (seen ks some further more : List ℕ) → some ≡ firsts_after seen ks → further ≡ some ++ more →
    (rest : List ℕ) × (further ≡ seen ++ rest)
kept_further seen ks some further more is next =
    let front = firsts_extend seen ks in
    (front.0 ++ more, next ∙ ap (λ ys. ys ++ more) (is ∙ front.1) ∙ append_assoc seen front.0 more)
