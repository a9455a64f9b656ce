-- That the place behind a gap, and what stands there, are single.
use Rattle.std.proofs.Common.{◌≡◌, ◌⊎◌, ◌∙◌, ◌||◌, ◌==◌, ◌<◌, ◌≤◌, ◌++◌, ◌∷◌, [], ℕ, Bool, true, false, codes, length, drop, append_assoc, length-append, refl, sym, ap, subst, arith, inl, inr, true≢false, eqb-true}
use Rattle.std.proofs.lemmas.Bool.{cases_order}
use Rattle.cd_lex.specs.Bytes.{Bytes, is_among, is_blank, is_lower, is_upper, is_dollar, is_digit, is_sign, is_other}
use Rattle.cd_lex.specs.Gaps.{HasNoLineFeed, HasNoClose, IsGap, empty, blank, line, block, BeginsNoGap, IsGapBetween}
use Rattle.cd_lex.specs.Tokens.{IsToken, IsNumber}
use Rattle.cd_lex.specs.declared.TokenKind.{TokenKind}
use Rattle.cd_lex.specs.declared.TokenKind.TheVariants.{Lower, Upper, Dollar, Quoted, Object, Number, Sign, Other}
use Rattle.cd_lex.proofs.PlaceLemmas.{GoesOn, goes_on, same_front, same_back, differ}
use Rattle.cd_lex.proofs.NumberLemmas.{among, not_among, first_digit}
use Rattle.cd_lex.proofs.KindLemmas.{code, group, choice, begins_number, same_code, Head, single, opened, head, sign_group, other_group}

-- ---- gaps

-- no gap but the empty one begins there
pub record Halts (rest : Bytes) : Type 0 where
  pub no : (gap after : Bytes) → IsGap gap → rest ≡ gap ++ after → gap ≡ []

line_same : (a b r s : Bytes) → HasNoLineFeed a → HasNoLineFeed b → a ++ 10 ∷ r ≡ b ++ 10 ∷ s → a ≡ b
line_same [] [] r s p q e = refl
line_same [] (y ∷ b) r s p q e = let w : 10 ∷ r ≡ y ∷ (b ++ 10 ∷ s) = e in let same : y ≡ 10 = cc in absurd (among_first y b same q)
  where
    among_first : (y : ℕ) (b : Bytes) → y ≡ 10 → HasNoLineFeed (y ∷ b) → ⊥
    among_first y b same q = true≢false (sym (ap (λ x. is_among (x ∷ b) 10) same) ∙ q)
line_same (x ∷ a) [] r s p q e = let w : x ∷ (a ++ 10 ∷ r) ≡ 10 ∷ s = e in let same : x ≡ 10 = cc in absurd (true≢false (sym (ap (λ y. is_among (y ∷ a) 10) same) ∙ p))
line_same (x ∷ a) (y ∷ b) r s p q e =
    let same : x ≡ y = cc in
    let tails : a ++ 10 ∷ r ≡ b ++ 10 ∷ s = cc in
    λ i. same i ∷ line_same a b r s (after x a p) (after y b q) tails i
  where
    after : (z : ℕ) (c : Bytes) → HasNoLineFeed (z ∷ c) → HasNoLineFeed c
    after z c h = by (z == 10) h
      where
        by : (t : Bool) → (t || is_among c 10) ≡ false → HasNoLineFeed c
        by true f = absurd (true≢false f)
        by false f = f

block_shorter : (a b r s : Bytes) → HasNoClose (b ++ 42 ∷ []) → a ++ 42 ∷ 47 ∷ r ≡ b ++ 42 ∷ 47 ∷ s → length a < length b → ⊥
block_shorter a b r s closed e lt = by (goes_on a b (42 ∷ 47 ∷ r) (42 ∷ 47 ∷ s) (sym e) (omega arith))
  where
    go : (more : Bytes) → b ≡ a ++ more → 42 ∷ 47 ∷ r ≡ more ++ 42 ∷ 47 ∷ s → ⊥
    go [] front back = omega (arith, ap length front, length-append a [])
    go (x ∷ []) front back =
        let w : 42 ∷ 47 ∷ r ≡ x ∷ 42 ∷ 47 ∷ s = back in
        let v : 47 ∷ r ≡ 42 ∷ 47 ∷ s = cc in differ 47 42 r (47 ∷ s) refl v
    go (x ∷ y ∷ more) front back =
        let w : 42 ∷ 47 ∷ r ≡ x ∷ y ∷ (more ++ 42 ∷ 47 ∷ s) = back in
        let star : x ≡ 42 = cc in
        let slash : y ≡ 47 = cc in
        closed.no a (more ++ 42 ∷ [])
        (ap (λ (l : Bytes). l ++ 42 ∷ []) (front ∙ (λ i. a ++ star i ∷ slash i ∷ more)) ∙ append_assoc a (42 ∷ 47 ∷ more) (42 ∷ []))

    by : GoesOn a b (42 ∷ 47 ∷ r) (42 ∷ 47 ∷ s) → ⊥
    by g = go g.more g.front g.back

block_same : (a b r s : Bytes) → HasNoClose (a ++ 42 ∷ []) → HasNoClose (b ++ 42 ∷ []) → a ++ 42 ∷ 47 ∷ r ≡ b ++ 42 ∷ 47 ∷ s → a ≡ b
block_same a b r s p q e = by (cases_order (length a) (length b))
  where
    by : (length a ≡ length b) ⊎ ((length a < length b) ⊎ (length b < length a)) → a ≡ b
    by (inl n) = same_front a b (42 ∷ 47 ∷ r) (42 ∷ 47 ∷ s) e n
    by (inr (inl lt)) = absurd (block_shorter a b r s q e lt)
    by (inr (inr lt)) = absurd (block_shorter b a s r p (sym e) lt)

no_blank_at : (x n : ℕ) → is_blank x ≡ true → is_blank n ≡ false → x ≡ n → ⊥
no_blank_at x n is not_ e = true≢false (sym is ∙ ap is_blank e ∙ not_)

pub gap_single : (a b r s : Bytes) → IsGap a → IsGap b → Halts r → Halts s → a ++ r ≡ b ++ s → a ≡ b
gap_single a b r s empty q h k e = sym (h.no b s q e)
gap_single a b r s (blank x g is p) empty h k e = k.no (x ∷ g) r (blank x g is p) (sym e)
gap_single a b r s (line t g clear p) empty h k e = k.no (37 ∷ (t ++ 10 ∷ g)) r (line t g clear p) (sym e)
gap_single a b r s (block t g clear p) empty h k e = k.no (47 ∷ 42 ∷ (t ++ 42 ∷ 47 ∷ g)) r (block t g clear p) (sym e)
gap_single a b r s (blank x g is p) (blank y d is' q) h k e =
    let w : x ∷ (g ++ r) ≡ y ∷ (d ++ s) = e in
    let same : x ≡ y = cc in
    let tails : g ++ r ≡ d ++ s = cc in
    λ i. same i ∷ gap_single g d r s p q h k tails i
gap_single a b r s (blank x g is p) (line u d clear q) h k e =
    let w : x ∷ (g ++ r) ≡ 37 ∷ ((u ++ 10 ∷ d) ++ s) = e in let same : x ≡ 37 = cc in absurd (no_blank_at x 37 is refl same)
gap_single a b r s (blank x g is p) (block u d clear q) h k e =
    let w : x ∷ (g ++ r) ≡ 47 ∷ 42 ∷ ((u ++ 42 ∷ 47 ∷ d) ++ s) = e in let same : x ≡ 47 = cc in absurd (no_blank_at x 47 is refl same)
gap_single a b r s (line t g clear p) (blank y d is' q) h k e =
    let w : 37 ∷ ((t ++ 10 ∷ g) ++ r) ≡ y ∷ (d ++ s) = e in let same : y ≡ 37 = cc in absurd (no_blank_at y 37 is' refl same)
gap_single a b r s (block t g clear p) (blank y d is' q) h k e =
    let w : 47 ∷ 42 ∷ ((t ++ 42 ∷ 47 ∷ g) ++ r) ≡ y ∷ (d ++ s) = e in let same : y ≡ 47 = cc in absurd (no_blank_at y 47 is' refl same)
gap_single a b r s (line t g clear p) (block u d clear' q) h k e =
    let w : 37 ∷ ((t ++ 10 ∷ g) ++ r) ≡ 47 ∷ 42 ∷ ((u ++ 42 ∷ 47 ∷ d) ++ s) = e in absurd (differ 37 47 _ _ refl w)
gap_single a b r s (block t g clear p) (line u d clear' q) h k e =
    let w : 47 ∷ 42 ∷ ((t ++ 42 ∷ 47 ∷ g) ++ r) ≡ 37 ∷ ((u ++ 10 ∷ d) ++ s) = e in absurd (differ 47 37 _ _ refl w)
gap_single a b r s (line t g clear p) (line u d clear' q) h k e =
    let w : 37 ∷ ((t ++ 10 ∷ g) ++ r) ≡ 37 ∷ ((u ++ 10 ∷ d) ++ s) = e in
    let inner : (t ++ 10 ∷ g) ++ r ≡ (u ++ 10 ∷ d) ++ s = cc in
    let cut : t ++ 10 ∷ (g ++ r) ≡ u ++ 10 ∷ (d ++ s) = sym (append_assoc t (10 ∷ g) r) ∙ inner ∙ append_assoc u (10 ∷ d) s in
    let same : t ≡ u = line_same t u (g ++ r) (d ++ s) clear clear' cut in
    let back : 10 ∷ (g ++ r) ≡ 10 ∷ (d ++ s) = same_back u (10 ∷ (g ++ r)) (10 ∷ (d ++ s)) (ap (λ (l : Bytes). l ++ 10 ∷ (g ++ r)) (sym same) ∙ cut) in
    let tails : g ++ r ≡ d ++ s = cc in
    λ i. 37 ∷ (same i ++ 10 ∷ gap_single g d r s p q h k tails i)
gap_single a b r s (block t g clear p) (block u d clear' q) h k e =
    let w : 47 ∷ 42 ∷ ((t ++ 42 ∷ 47 ∷ g) ++ r) ≡ 47 ∷ 42 ∷ ((u ++ 42 ∷ 47 ∷ d) ++ s) = e in
    let inner : (t ++ 42 ∷ 47 ∷ g) ++ r ≡ (u ++ 42 ∷ 47 ∷ d) ++ s = cc in
    let cut : t ++ 42 ∷ 47 ∷ (g ++ r) ≡ u ++ 42 ∷ 47 ∷ (d ++ s) = sym (append_assoc t (42 ∷ 47 ∷ g) r) ∙ inner ∙ append_assoc u (42 ∷ 47 ∷ d) s in
    let same : t ≡ u = block_same t u (g ++ r) (d ++ s) clear clear' cut in
    let back : 42 ∷ 47 ∷ (g ++ r) ≡ 42 ∷ 47 ∷ (d ++ s)
    = same_back u (42 ∷ 47 ∷ (g ++ r)) (42 ∷ 47 ∷ (d ++ s)) (ap (λ (l : Bytes). l ++ 42 ∷ 47 ∷ (g ++ r)) (sym same) ∙ cut) in
    let tails : g ++ r ≡ d ++ s = cc in
    λ i. 47 ∷ 42 ∷ (same i ++ 42 ∷ 47 ∷ gap_single g d r s p q h k tails i)

-- ---- what stands behind a gap begins no other

pub halts_end : Halts []
halts_end = record { no = by }
  where
    by : (gap after : Bytes) → IsGap gap → [] ≡ gap ++ after → gap ≡ []
    by [] after is e = refl
    by (x ∷ gap) after is e = let w : [] ≡ x ∷ (gap ++ after) = e in cc

feed_among : (t g after : Bytes) → is_among ((t ++ 10 ∷ g) ++ after) 10 ≡ true
feed_among [] g after = refl
feed_among (x ∷ t) g after = by (x == 10) (feed_among t g after)
  where
    by : (c : Bool) → is_among ((t ++ 10 ∷ g) ++ after) 10 ≡ true → (c || is_among ((t ++ 10 ∷ g) ++ after) 10) ≡ true
    by true h = refl
    by false h = h

pub halts_line : (text : Bytes) → HasNoLineFeed text → Halts (37 ∷ text)
halts_line text clear = record { no = by }
  where
    by : (gap after : Bytes) → IsGap gap → 37 ∷ text ≡ gap ++ after → gap ≡ []
    by gap after empty e = refl
    by gap after (blank x g is p) e = let w : 37 ∷ text ≡ x ∷ (g ++ after) = e in let same : x ≡ 37 = cc in absurd (no_blank_at x 37 is refl same)
    by gap after (line t g clear' p) e =
        let w : 37 ∷ text ≡ 37 ∷ ((t ++ 10 ∷ g) ++ after) = e in
        let same : text ≡ (t ++ 10 ∷ g) ++ after = cc in
        absurd (true≢false (sym (feed_among t g after) ∙ ap (λ (l : Bytes). is_among l 10) (sym same) ∙ clear))
    by gap after (block t g clear' p) e =
        let w : 37 ∷ text ≡ 47 ∷ 42 ∷ ((t ++ 42 ∷ 47 ∷ g) ++ after) = e in absurd (differ 37 47 _ _ refl w)

pub halts_open : (text : Bytes) → HasNoClose text → Halts (47 ∷ 42 ∷ text)
halts_open text closed = record { no = by }
  where
    by : (gap after : Bytes) → IsGap gap → 47 ∷ 42 ∷ text ≡ gap ++ after → gap ≡ []
    by gap after empty e = refl
    by gap after (blank x g is p) e = let w : 47 ∷ 42 ∷ text ≡ x ∷ (g ++ after) = e in let same : x ≡ 47 = cc in absurd (no_blank_at x 47 is refl same)
    by gap after (line t g clear p) e = let w : 47 ∷ 42 ∷ text ≡ 37 ∷ ((t ++ 10 ∷ g) ++ after) = e in absurd (differ 47 37 _ _ refl w)
    by gap after (block t g clear p) e =
        let w : 47 ∷ 42 ∷ text ≡ 47 ∷ 42 ∷ ((t ++ 42 ∷ 47 ∷ g) ++ after) = e in
        let same : text ≡ (t ++ 42 ∷ 47 ∷ g) ++ after = cc in
        absurd (closed.no t (g ++ after) (same ∙ append_assoc t (42 ∷ 47 ∷ g) after))

pub halts_other : (rest : Bytes) → BeginsNoGap rest → Halts rest
halts_other rest no_gap = record { no = by }
  where
    by : (gap after : Bytes) → IsGap gap → rest ≡ gap ++ after → gap ≡ []
    by gap after empty e = refl
    by gap after (blank x g is p) e = absurd (no_gap.no_blank x (g ++ after) is e)
    by gap after (line t g clear p) e = absurd (no_gap.no_line ((t ++ 10 ∷ g) ++ after) e)
    by gap after (block t g clear p) e = absurd (no_gap.no_block ((t ++ 42 ∷ 47 ∷ g) ++ after) e)

-- the place behind a gap
pub place_single : (bytes : Bytes) (from a b : ℕ) → IsGapBetween bytes from a → IsGapBetween bytes from b → Halts (drop a bytes) → Halts (drop b bytes) → a ≡ b
place_single bytes from a b p q h k =
    let same : p.gap ≡ q.gap = gap_single p.gap q.gap (drop a bytes) (drop b bytes) p.is q.is h k (sym p.split ∙ q.split) in
    omega (arith, p.place, q.place, ap length same)

-- ---- the kind of a token

one_digit : (b : ℕ) → IsNumber (b ∷ []) → is_digit b ≡ true
one_digit b (i, parts, (s, [], sign, digits, e'), more, e) = absurd (digits.0 refl)
one_digit b (i, parts, (s, d ∷ ds, inl bare, digits, e'), more, e) =
    let w : b ∷ [] ≡ d ∷ (ds ++ parts) = e ∙ ap (λ (l : Bytes). l ++ parts) (e' ∙ ap (λ (l : Bytes). l ++ d ∷ ds) bare) in
    let same : b ≡ d = cc in
    ap is_digit same ∙ first_digit d ds digits
one_digit b (i, parts, (s, d ∷ ds, inr (c, passes, one), digits, e'), more, e) =
    let w : b ∷ [] ≡ c ∷ d ∷ (ds ++ parts) = e ∙ ap (λ (l : Bytes). l ++ parts) (e' ∙ ap (λ (l : Bytes). l ++ d ∷ ds) one) in
    absurd (omega (arith, ap length w))

byte_of : (b c : ℕ) (text more : Bytes) → text ≡ b ∷ [] → text ≡ c ∷ more → c ≡ b
byte_of b c text more p q = let w : b ∷ [] ≡ c ∷ more = sym p ∙ q in cc

choice_most : (a b c d e f g : Bool) → choice a b c d e f g ≤ 7
choice_most true b c d e f g = omega arith
choice_most false true c d e f g = omega arith
choice_most false false true d e f g = omega arith
choice_most false false false true e f g = omega arith
choice_most false false false false true f g = omega arith
choice_most false false false false false true g = omega arith
choice_most false false false false false false true = omega arith
choice_most false false false false false false false = omega arith

-- a byte that is a token isn't also one that begins as its kind says
mixed : (k : TokenKind) (b : ℕ) → IsToken k (b ∷ []) → code k ≡ group b → (is_sign b ≡ true) ⊎ (is_other b ≡ true) → ⊥
mixed Lower b is c (inl s) = omega (arith, sign_group b s)
mixed Lower b is c (inr s) = omega (arith, other_group b s)
mixed Upper b is c (inl s) = omega (arith, sign_group b s)
mixed Upper b is c (inr s) = omega (arith, other_group b s)
mixed Dollar b is c (inl s) = omega (arith, sign_group b s)
mixed Dollar b is c (inr s) = omega (arith, other_group b s)
mixed Quoted b is c (inl s) = omega (arith, sign_group b s)
mixed Quoted b is c (inr s) = omega (arith, other_group b s)
mixed Object b is c (inl s) = omega (arith, sign_group b s)
mixed Object b is c (inr s) = omega (arith, other_group b s)
mixed Number b is c (inl s) = not_among is_digit (codes "()[],.:~=|") b refl s (one_digit b is)
mixed Number b is c (inr s) = not_among is_digit (codes "&@!?<>*+-^;{}/") b refl s (one_digit b is)
mixed Sign b (inl e) c s = omega (arith, ap length e)
mixed Sign b (inr (x, passes, e)) c s =
    let same : x ≡ b = cc in
    let g : group b ≡ 7 = eqb-true (group b) 7 (among (λ y. group y == 7) (codes "()[],.:~=|") b refl (ap is_sign (sym same) ∙ passes)) in
    omega arith
mixed Other b is c s =
    omega (arith, choice_most (is_lower b) (is_upper b) (is_dollar b) (b == 39) (b == 34) (begins_number b) (b == 33))

pub kind_single : (j k : TokenKind) (text : Bytes) → IsToken j text → IsToken k text → j ≡ k
kind_single j k text p q = by (head j text p) (head k text q)
  where
    by : Head j text → Head k text → j ≡ k
    by (opened b more e c) (opened d rest f g) =
        let w : b ∷ more ≡ d ∷ rest = sym e ∙ f in
        let same : b ≡ d = cc in
        same_code j k (c ∙ ap group same ∙ sym g)
    by (single b e (inl s)) (opened d rest f g) =
        let same = byte_of b d text rest e f in
        absurd (mixed k b (subst (IsToken k) e q) (g ∙ ap group same) (inl s.1))
    by (single b e (inr s)) (opened d rest f g) =
        let same = byte_of b d text rest e f in
        absurd (mixed k b (subst (IsToken k) e q) (g ∙ ap group same) (inr s.1))
    by (opened d rest f g) (single b e (inl s)) =
        let same = byte_of b d text rest e f in
        absurd (mixed j b (subst (IsToken j) e p) (g ∙ ap group same) (inl s.1))
    by (opened d rest f g) (single b e (inr s)) =
        let same = byte_of b d text rest e f in
        absurd (mixed j b (subst (IsToken j) e p) (g ∙ ap group same) (inr s.1))
    by (single b e (inl s)) (single d f (inl t)) = s.0 ∙ sym t.0
    by (single b e (inr s)) (single d f (inr t)) = s.0 ∙ sym t.0
    by (single b e (inl s)) (single d f (inr t)) =
        let same = byte_of b d text [] e f in
        absurd (not_among is_other (codes "()[],.:~=|") b refl s.1 (ap is_other (sym same) ∙ t.1))
    by (single b e (inr s)) (single d f (inl t)) =
        let same = byte_of b d text [] e f in
        absurd (not_among is_other (codes "()[],.:~=|") b refl (ap is_sign (sym same) ∙ t.1) s.1)
