-- How a search gets shorter.
use Rattle.std.proofs.Common.{◌≡◌, ℕ, zero, suc, ◌+◌, ◌-◌, ◌*◌, ◌^◌, ◌<◌, ◌≤◌, List, [], ◌∷◌, ◌++◌, length, map, ap, subst, sym, ◌∙◌, arith, length-append, refl}
use Rattle.std.proofs.Math.Nat.{mul-lt-mul_of_pos_right, pow-zero, pow-succ'}
use Rattle.std.proofs.lemmas.List.{map-append}
use Rattle.cd_subsume.specs.declared.picks.Pick.{Pick}
use Rattle.cd_subsume.specs.declared.search.Chosen.{Chosen}
use Rattle.cd_subsume.specs.Picks.{code_of}
use Rattle.cd_subsume.specs.Search.{digit, number, front_of, left_of}

pub power_positive : (b k : ℕ) → 0 < b → 0 < b ^ k
power_positive b zero pos = omega (arith, pow-zero b)
power_positive b (suc k) pos = let here = power_positive b k pos in
    omega (arith, pow-succ' b k, mul-lt-mul_of_pos_right {m = 0} {n = b} {k = b ^ k} pos here)

-- a smaller last digit
fall_digit : (n d e q : ℕ) → e < d → 0 < q → (n + e + 1) * q < (n + d + 1) * q
fall_digit n d e q less pos = mul-lt-mul_of_pos_right (omega arith) pos

-- the number of a list with one pick more
number-append : (places n : ℕ) (ps : List Pick) (p : Pick) → number places n (ps ++ p ∷ []) ≡ number places n ps * (2 * places + 3) + digit places p
number-append places n [] p = refl
number-append places n (x ∷ ps) p = number-append places (n * (2 * places + 3) + digit places x) ps p

number_front : (places : ℕ) (chosen : List Chosen) (p : Pick) →
    number places 0 (front_of chosen p) ≡ number places 0 (map (λ c. c.pick) chosen) * (2 * places + 3) + digit places p
number_front places chosen p = number-append places 0 (map (λ c. c.pick) chosen) p

pub left_skip : (literals places : ℕ) (chosen : List Chosen) (p next : Pick) → code_of next ≡ code_of p + 1 → code_of p < 2 * places + 1 →
    left_of literals places chosen next < left_of literals places chosen p
left_skip literals places chosen p next is near =
    let old = number_front places chosen p in let new = number_front places chosen next in
    let pos : 0 < (2 * places + 3) ^ (literals - length chosen) = power_positive (2 * places + 3) (literals - length chosen) (omega arith) in
    let less = fall_digit (number places 0 (map (λ c. c.pick) chosen) * (2 * places + 3)) (digit places p) (digit places next)
    ((2 * places + 3) ^ (literals - length chosen)) (omega (arith, is, near)) pos in
    subst (λ n. (n + 1) * (2 * places + 3) ^ (literals - length chosen) < left_of literals places chosen p) (sym new)
    (subst (λ n. (number places 0 (map (λ c. c.pick) chosen) * (2 * places + 3) + digit places next + 1) * (2 * places + 3) ^ (literals - length chosen)
    < (n + 1) * (2 * places + 3) ^ (literals - length chosen)) (sym old) less)

-- one digit more, at a smaller power
fall_push : (n b d q : ℕ) → d + 1 < b → 0 < q → (n * b + d + 1) * q < (n + 1) * (b * q)
fall_push n b d q less pos =
    let one : n * b + d + 1 < (n + 1) * b = grind (arith, less) in
    let two = mul-lt-mul_of_pos_right {m = n * b + d + 1} {n = (n + 1) * b} {k = q} one pos in
    grind (arith, two)

-- one digit less, which is smaller, at a greater power
fall_back : (n b c d e q : ℕ) → e < c → 0 < q → (n + e + 1) * (b * q) < ((n + c) * b + d + 1) * q
fall_back n b c d e q less pos =
    let one : (n + e + 1) * b < (n + c) * b + d + 1 = grind (arith, less) in
    let two = mul-lt-mul_of_pos_right {m = (n + e + 1) * b} {n = (n + c) * b + d + 1} {k = q} one pos in
    grind (arith, two)

pub left_push : (literals places : ℕ) (chosen : List Chosen) (c : Chosen) (first : Pick) → code_of first ≡ 0 → length chosen < literals →
    left_of literals places (chosen ++ c ∷ []) first < left_of literals places chosen c.pick
left_push literals places chosen c first is lt =
    let b = 2 * places + 3 in let q = b ^ (literals - (length chosen + 1)) in
    let n = number places 0 (map (λ (d : Chosen). d.pick) chosen) * b + digit places c.pick in
    let pos : 0 < q = power_positive b (literals - (length chosen + 1)) (omega arith) in
    let less : (n * b + digit places first + 1) * q < (n + 1) * (b * q) = fall_push n b (digit places first) q (omega (arith, is)) pos in
    let inner : number places 0 (map (λ (d : Chosen). d.pick) (chosen ++ c ∷ [])) ≡ n
    = ap (number places 0) (map-append (λ (d : Chosen). d.pick) chosen (c ∷ [])) ∙ number-append places 0 (map (λ (d : Chosen). d.pick) chosen) c.pick in
    let new : number places 0 (front_of (chosen ++ c ∷ []) first) ≡ n * b + digit places first
    = number_front places (chosen ++ c ∷ []) first ∙ ap (λ k. k * b + digit places first) inner in
    let old : number places 0 (front_of chosen c.pick) ≡ n = number_front places chosen c.pick in
    let few : literals - length (chosen ++ c ∷ []) ≡ literals - (length chosen + 1) = ap (λ k. literals - k) (length-append chosen (c ∷ [])) in
    let more : b ^ (literals - length chosen) ≡ b * q
    = ap (λ k. b ^ k) (one_more literals (length chosen) lt) ∙ pow-succ' b (literals - (length chosen + 1)) in
    let left : left_of literals places (chosen ++ c ∷ []) first ≡ (n * b + digit places first + 1) * q
    = ap (λ k. (number places 0 (front_of (chosen ++ c ∷ []) first) + 1) * b ^ k) few ∙ ap (λ k. (k + 1) * q) new in
    let right : left_of literals places chosen c.pick ≡ (n + 1) * (b * q)
    = ap (λ k. (number places 0 (front_of chosen c.pick) + 1) * k) more ∙ ap (λ k. (k + 1) * (b * q)) old in
    omega (arith, left, right, less)
  where
    one_more : (m k : ℕ) → k < m → m - k ≡ suc (m - (k + 1))
    one_more m k lt = omega (arith, lt)

pub left_back : (literals places : ℕ) (chosen : List Chosen) (c : Chosen) (p next : Pick) → code_of next ≡ code_of c.pick + 1 →
    code_of c.pick < 2 * places + 1 → length (chosen ++ c ∷ []) ≤ literals →
    left_of literals places chosen next < left_of literals places (chosen ++ c ∷ []) p
left_back literals places chosen c p next is near lt =
    let b = 2 * places + 3 in let q = b ^ (literals - (length chosen + 1)) in
    let n = number places 0 (map (λ (d : Chosen). d.pick) chosen) * b in
    let pos : 0 < q = power_positive b (literals - (length chosen + 1)) (omega arith) in
    let less : (n + digit places next + 1) * (b * q) < ((n + digit places c.pick) * b + digit places p + 1) * q
    = fall_back n b (digit places c.pick) (digit places p) (digit places next) q (omega (arith, is, near)) pos in
    let inner : number places 0 (map (λ (d : Chosen). d.pick) (chosen ++ c ∷ [])) ≡ n + digit places c.pick
    = ap (number places 0) (map-append (λ (d : Chosen). d.pick) chosen (c ∷ [])) ∙ number-append places 0 (map (λ (d : Chosen). d.pick) chosen) c.pick in
    let old : number places 0 (front_of (chosen ++ c ∷ []) p) ≡ (n + digit places c.pick) * b + digit places p
    = number_front places (chosen ++ c ∷ []) p ∙ ap (λ k. k * b + digit places p) inner in
    let new : number places 0 (front_of chosen next) ≡ n + digit places next = number_front places chosen next in
    let size : length (chosen ++ c ∷ []) ≡ length chosen + 1 = length-append chosen (c ∷ []) in
    let few : literals - length (chosen ++ c ∷ []) ≡ literals - (length chosen + 1) = ap (λ k. literals - k) size in
    let more : b ^ (literals - length chosen) ≡ b * q
    = ap (λ k. b ^ k) (one_more literals (length chosen) (omega (arith, lt, size))) ∙ pow-succ' b (literals - (length chosen + 1)) in
    let left : left_of literals places chosen next ≡ (n + digit places next + 1) * (b * q)
    = ap (λ k. (number places 0 (front_of chosen next) + 1) * k) more ∙ ap (λ k. (k + 1) * (b * q)) new in
    let right : left_of literals places (chosen ++ c ∷ []) p ≡ ((n + digit places c.pick) * b + digit places p + 1) * q
    = ap (λ k. (number places 0 (front_of (chosen ++ c ∷ []) p) + 1) * b ^ k) few ∙ ap (λ k. (k + 1) * q) old in
    omega (arith, left, right, less)
  where
    one_more : (m k : ℕ) → k < m → m - k ≡ suc (m - (k + 1))
    one_more m k lt = omega (arith, lt)

-- the same for a stack that a call made
pub left_pushed : (literals places : ℕ) (all chosen : List Chosen) (c : Chosen) (first p : Pick) → all ≡ chosen ++ c ∷ [] → c.pick ≡ p →
    code_of first ≡ 0 → length chosen < literals → left_of literals places all first < left_of literals places chosen p
left_pushed literals places all chosen c first p is at start lt =
    subst (λ xs. left_of literals places xs first < left_of literals places chosen p) (sym is)
    (subst (λ q. left_of literals places (chosen ++ c ∷ []) first < left_of literals places chosen q) at (left_push literals places chosen c first start lt))

pub left_popped : (literals places : ℕ) (all chosen : List Chosen) (c : Chosen) (p next : Pick) → all ≡ chosen ++ c ∷ [] → code_of next ≡ code_of c.pick + 1 →
    code_of c.pick < 2 * places + 1 → length all ≤ literals → left_of literals places chosen next < left_of literals places all p
left_popped literals places all chosen c p next is at near le =
    subst (λ xs. left_of literals places chosen next < left_of literals places xs p) (sym is)
    (left_back literals places chosen c p next at near (omega (arith, ap length is, le)))
