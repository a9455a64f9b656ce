-- Blanks and comments.
use Rattle.std.proofs.Common.{◌≡◌, ◌≢◌, ◌⊎◌, ◌∙◌, ◌+◌, ◌<◌, ◌≤◌, ◌++◌, ◌∷◌, ◌||◌, ◌==◌, [], ℕ, Bool, true, false, Option, Some, None, length, drop, get_or, refl, sym, ap, subst, arith, inl, inr, true≢false, append_assoc, length-append, length-drop, eqb-true}
use Rattle.cd_lex.specs.Bytes.{Bytes, is_among, is_blank}
use Rattle.cd_lex.specs.Gaps.{HasNoLineFeed, HasNoClose, IsGap, empty, blank, line, block, IsGapBetween}
use Rattle.cd_lex.specs.Scans.{EndsLine, EndsBlock, Reaches}
use Rattle.cd_lex.specs.Next.{IsNext, nothing, fault}
use Rattle.cd_lex.specs.declared.LexFault.TheVariants.{OpenComment}
use Rattle.cd_lex.proofs.PlaceLemmas.{from_place, two_from_place, past_end, behind}

-- ---- the end of a line

pub line_here : (bytes : Bytes) (at : ℕ) → at < length bytes → get_or bytes at 0 ≡ 10 → EndsLine (drop at bytes) at (Some (at + 1))
line_here bytes at lt is = ([], drop (at + 1) bytes, refl, from_place bytes at lt ∙ ap (λ (b : ℕ). b ∷ drop (at + 1) bytes) is, omega arith)

pub line_past : (bytes : Bytes) (at : ℕ) → length bytes ≤ at → EndsLine (drop at bytes) at None
line_past bytes at past = subst HasNoLineFeed (sym (past_end bytes at past)) refl

one_more : (b : ℕ) (text : Bytes) → b ≢ 10 → HasNoLineFeed text → HasNoLineFeed (b ∷ text)
one_more b text other none = by (b == 10) refl
  where
    by : (t : Bool) → (b == 10) ≡ t → (t || is_among text 10) ≡ false
    by true e = absurd (other (eqb-true b 10 e))
    by false e = none

pub line_more : (bytes : Bytes) (at : ℕ) (r : Option ℕ) → at < length bytes → get_or bytes at 0 ≢ 10 → EndsLine (drop (at + 1) bytes) (at + 1) r → EndsLine (drop at bytes) at r
line_more bytes at (Some end) lt other (text, rest, none, split, place) =
    (get_or bytes at 0 ∷ text, rest, one_more (get_or bytes at 0) text other none, from_place bytes at lt ∙ ap (λ (l : Bytes). get_or bytes at 0 ∷ l) split, omega arith)
line_more bytes at None lt other none = subst HasNoLineFeed (sym (from_place bytes at lt)) (one_more (get_or bytes at 0) (drop (at + 1) bytes) other none)

-- ---- the end of a block

short_no_close : (bytes : Bytes) → length bytes ≤ 1 → HasNoClose bytes
short_no_close bytes few = record { no = λ front rest e. omega (arith, ap length e, length-append front (42 ∷ 47 ∷ rest)) }

pub block_here : (bytes : Bytes) (at : ℕ) → at + 1 < length bytes → get_or bytes at 0 ≡ 42 → get_or bytes (at + 1) 0 ≡ 47 → EndsBlock (drop at bytes) at (Some (at + 2))
block_here bytes at lt star slash =
    ([], drop (at + 2) bytes, short_no_close (42 ∷ []) (omega arith), two_from_place bytes at lt ∙ (λ i. star i ∷ slash i ∷ drop (at + 2) bytes), omega arith)

pub block_past : (bytes : Bytes) (at : ℕ) → length bytes ≤ at + 1 → EndsBlock (drop at bytes) at None
block_past bytes at past = short_no_close (drop at bytes) (omega (arith, length-drop at bytes))

no_close_more : (b c : ℕ) (text : Bytes) → (b ≡ 42 → c ≡ 47 → ⊥) → HasNoClose (c ∷ text) → HasNoClose (b ∷ c ∷ text)
no_close_more b c text other none = record { no = by }
  where
    by : (front rest : Bytes) → b ∷ c ∷ text ≡ front ++ 42 ∷ 47 ∷ rest → ⊥
    by [] rest e = let p : b ≡ 42 = cc in let q : c ≡ 47 = cc in other p q
    by (x ∷ front) rest e = let tails : c ∷ text ≡ front ++ 42 ∷ 47 ∷ rest = cc in none.no front rest tails

pub block_more : (bytes : Bytes) (at : ℕ) (r : Option ℕ) → at + 1 < length bytes → (get_or bytes at 0 ≡ 42 → get_or bytes (at + 1) 0 ≡ 47 → ⊥)
    → EndsBlock (drop (at + 1) bytes) (at + 1) r → EndsBlock (drop at bytes) at r
block_more bytes at (Some end) lt other ([], rest, none, split, place) = (
  get_or bytes at 0 ∷ [],
  rest,
  no_close_more (get_or bytes at 0) 42 [] (λ p q. omega arith) none,
  from_place bytes at (omega arith) ∙ ap (λ (l : Bytes). get_or bytes at 0 ∷ l) split,
  omega arith,
)
block_more bytes at (Some end) lt other (t ∷ text, rest, none, split, place) =
    let e : get_or bytes (at + 1) 0 ∷ drop (at + 1 + 1) bytes ≡ t ∷ (text ++ 42 ∷ 47 ∷ rest) = sym (from_place bytes (at + 1) lt) ∙ split in
    let same : get_or bytes (at + 1) 0 ≡ t = cc in (
      get_or bytes at 0 ∷ t ∷ text,
      rest,
      no_close_more (get_or bytes at 0) t (text ++ 42 ∷ []) (λ p q. other p (same ∙ q)) none,
      from_place bytes at (omega arith) ∙ ap (λ (l : Bytes). get_or bytes at 0 ∷ l) split,
      omega arith,
    )
block_more bytes at None lt other none =
    let e : at + 1 + 1 ≡ at + 2 = omega arith in
    let tail : drop (at + 1) bytes ≡ get_or bytes (at + 1) 0 ∷ drop (at + 2) bytes
    = from_place bytes (at + 1) lt ∙ ap (λ (k : ℕ). get_or bytes (at + 1) 0 ∷ drop k bytes) e in
    subst HasNoClose (sym (two_from_place bytes at lt))
    (no_close_more (get_or bytes at 0) (get_or bytes (at + 1) 0) (drop (at + 2) bytes) other (subst HasNoClose tail none))

-- ---- gaps

gap_append : (a b : Bytes) → IsGap a → IsGap b → IsGap (a ++ b)
gap_append a b empty q = q
gap_append a b (blank x gap is p) q = blank x (gap ++ b) is (gap_append gap b p q)
gap_append a b (line text gap none p) q =
    subst (λ (l : Bytes). IsGap (37 ∷ l)) (sym (append_assoc text (10 ∷ gap) b)) (line text (gap ++ b) none (gap_append gap b p q))
gap_append a b (block text gap none p) q =
    subst (λ (l : Bytes). IsGap (47 ∷ 42 ∷ l)) (sym (append_assoc text (42 ∷ 47 ∷ gap) b)) (block text (gap ++ b) none (gap_append gap b p q))

pub gap_none : (bytes : Bytes) (at : ℕ) → IsGapBetween bytes at at
gap_none bytes at = record { gap = []; is = empty; split = refl; place = omega arith }

pub gap_then : (bytes : Bytes) (from mid at : ℕ) → IsGapBetween bytes from mid → IsGapBetween bytes mid at → IsGapBetween bytes from at
gap_then bytes from mid at a b = record {
  gap = a.gap ++ b.gap;
  is = gap_append a.gap b.gap a.is b.is;
  split = a.split ∙ ap (λ (l : Bytes). a.gap ++ l) b.split ∙ sym (append_assoc a.gap b.gap (drop at bytes));
  place = omega (arith, a.place, b.place, length-append a.gap b.gap);
}

pub blank_gap : (bytes : Bytes) (at : ℕ) → at < length bytes → is_blank (get_or bytes at 0) ≡ true → IsGapBetween bytes at (at + 1)
blank_gap bytes at lt is = record { gap = get_or bytes at 0 ∷ []; is = blank (get_or bytes at 0) [] is empty; split = from_place bytes at lt; place = omega arith }

pub line_gap : (bytes : Bytes) (at end : ℕ) → at < length bytes → get_or bytes at 0 ≡ 37 → EndsLine (drop (at + 1) bytes) (at + 1) (Some end) → IsGapBetween bytes at end
line_gap bytes at end lt is (text, rest, none, split, place) =
    let n : length (37 ∷ (text ++ 10 ∷ [])) ≡ length text + 2 = omega (arith, length-append text (10 ∷ [])) in
    let m : end ≡ at + length (37 ∷ (text ++ 10 ∷ [])) = omega arith in
    let whole : drop at bytes ≡ (37 ∷ (text ++ 10 ∷ [])) ++ rest
    = from_place bytes at lt ∙ (λ i. is i ∷ split i) ∙ ap (λ (l : Bytes). 37 ∷ l) (sym (append_assoc text (10 ∷ []) rest)) in
    record {
      gap = 37 ∷ (text ++ 10 ∷ []);
      is = line text [] none empty;
      split = whole ∙ ap (λ (l : Bytes). (37 ∷ (text ++ 10 ∷ [])) ++ l) (sym (behind bytes at end (37 ∷ (text ++ 10 ∷ [])) rest whole m));
      place = m;
    }

pub block_gap : (bytes : Bytes) (at end : ℕ) → at + 1 < length bytes → get_or bytes at 0 ≡ 47 → get_or bytes (at + 1) 0 ≡ 42
    → EndsBlock (drop (at + 2) bytes) (at + 2) (Some end) → IsGapBetween bytes at end
block_gap bytes at end lt slash star (text, rest, none, split, place) =
    let gap = 47 ∷ 42 ∷ (text ++ 42 ∷ 47 ∷ []) in
    let n : length gap ≡ length text + 4 = omega (arith, length-append text (42 ∷ 47 ∷ [])) in
    let m : end ≡ at + length gap = omega arith in
    let whole : drop at bytes ≡ gap ++ rest
    = two_from_place bytes at lt ∙ (λ i. slash i ∷ star i ∷ split i) ∙ ap (λ (l : Bytes). 47 ∷ 42 ∷ l) (sym (append_assoc text (42 ∷ 47 ∷ []) rest)) in
    record {
      gap = gap;
      is = block text [] none empty;
      split = whole ∙ ap (λ (l : Bytes). gap ++ l) (sym (behind bytes at end gap rest whole m));
      place = m;
    }

-- ---- what comes behind a gap

pub nothing_left : (bytes : Bytes) (from at : ℕ) → IsGapBetween bytes from at → length bytes ≤ at → IsNext bytes from nothing
nothing_left bytes from at gap past = (at, gap, inl (past_end bytes at past))

pub last_line : (bytes : Bytes) (from at : ℕ) → IsGapBetween bytes from at → at < length bytes → get_or bytes at 0 ≡ 37 → EndsLine (drop (at + 1) bytes) (at + 1) None
    → IsNext bytes from nothing
last_line bytes from at gap lt is none =
    (at, gap, inr (drop (at + 1) bytes, none, from_place bytes at lt ∙ ap (λ (b : ℕ). b ∷ drop (at + 1) bytes) is))

pub open_comment : (bytes : Bytes) (from at : ℕ) → IsGapBetween bytes from at → at + 1 < length bytes → get_or bytes at 0 ≡ 47 → get_or bytes (at + 1) 0 ≡ 42
    → EndsBlock (drop (at + 2) bytes) (at + 2) None → IsNext bytes from (fault (OpenComment at))
open_comment bytes from at gap lt slash star none =
    (at, gap, ((drop (at + 2) bytes, none, two_from_place bytes at lt ∙ (λ i. slash i ∷ star i ∷ drop (at + 2) bytes)), refl))

-- no comment begins where no `/*` stands
pub no_block_at : (bytes : Bytes) (at : ℕ) → at < length bytes → ((get_or bytes at 0 ≢ 47) ⊎ ((length bytes ≤ at + 1) ⊎ (get_or bytes (at + 1) 0 ≢ 42)))
    → (rest : Bytes) → drop at bytes ≢ 47 ∷ 42 ∷ rest
no_block_at bytes at lt (inl other) rest e =
    let w : get_or bytes at 0 ∷ drop (at + 1) bytes ≡ 47 ∷ 42 ∷ rest = sym (from_place bytes at lt) ∙ e in
    let same : get_or bytes at 0 ≡ 47 = cc in other same
no_block_at bytes at lt (inr (inl past)) rest e = omega (arith, ap length e, length-drop at bytes)
no_block_at bytes at lt (inr (inr other)) rest e =
    let n : at + 1 < length bytes = omega (arith, ap length e, length-drop at bytes) in
    let w : get_or bytes at 0 ∷ get_or bytes (at + 1) 0 ∷ drop (at + 2) bytes ≡ 47 ∷ 42 ∷ rest = sym (two_from_place bytes at n) ∙ e in
    let same : get_or bytes (at + 1) 0 ≡ 42 = cc in other same

pub reaches : (bytes : Bytes) (from at : ℕ) → IsGapBetween bytes from at → at < length bytes → is_blank (get_or bytes at 0) ≡ false → get_or bytes at 0 ≢ 37
    → ((rest : Bytes) → drop at bytes ≢ 47 ∷ 42 ∷ rest) → Reaches bytes from at
reaches bytes from at gap lt no_blank no_line no_block = record {
  gap = gap;
  no_gap = record {
    no_blank = λ b rest is e.
        let w : get_or bytes at 0 ∷ drop (at + 1) bytes ≡ b ∷ rest = sym (from_place bytes at lt) ∙ e in
        let same : get_or bytes at 0 ≡ b = cc in
        true≢false (sym is ∙ ap is_blank (sym same) ∙ no_blank);
    no_line = λ rest e.
        let w : get_or bytes at 0 ∷ drop (at + 1) bytes ≡ 37 ∷ rest = sym (from_place bytes at lt) ∙ e in
        let same : get_or bytes at 0 ≡ 37 = cc in no_line same;
    no_block = no_block;
  };
  within = lt;
}
