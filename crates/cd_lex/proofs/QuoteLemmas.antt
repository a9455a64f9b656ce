-- What the characters behind an opening quote come to, one step at a time.
use Rattle.std.proofs.Common.{◌≡◌, ◌≢◌, ◌⊎◌, ◌∙◌, ◌+◌, ◌<◌, ◌≤◌, ◌++◌, ◌∷◌, [], ℕ, length, drop, get_or, refl, sym, ap, subst, arith, inl, inr}
use Rattle.cd_lex.specs.Bytes.{Bytes}
use Rattle.cd_lex.specs.Tokens.{Inside, none, plain, escaped}
use Rattle.cd_lex.specs.Next.{IsBadInside, IsQuote, BeginsFault}
use Rattle.cd_lex.specs.Scans.{EndsInside, EndsQuoted}
use Rattle.cd_lex.specs.declared.LexFault.TheVariants.{BadByte, OpenQuote}
use Rattle.cd_lex.specs.declared.quotes.InsideEnd.{InsideEnd}
use Rattle.cd_lex.specs.declared.quotes.InsideEnd.TheVariants.{Closed, Bad, Unclosed}
use Rattle.cd_lex.proofs.PlaceLemmas.{from_place, two_from_place, past_end}

plain_more : (q b : ℕ) (bs : Bytes) (at : ℕ) (r : InsideEnd) → 32 ≤ b → b ≤ 126 → b ≢ q → b ≢ 92 → EndsInside q bs (at + 1) r → EndsInside q (b ∷ bs) at r
plain_more q b bs at (Closed p) low high other mark (inside, rest, ins, e, place) =
    (b ∷ inside, rest, plain b inside low high other mark ins, ap (λ (l : Bytes). b ∷ l) e, omega arith)
plain_more q b bs at (Bad p) low high other mark (inside, bad, ins, is, e, place) =
    (b ∷ inside, bad, plain b inside low high other mark ins, is, ap (λ (l : Bytes). b ∷ l) e, omega arith)
plain_more q b bs at Unclosed low high other mark ins = plain b bs low high other mark ins

escaped_more : (q b : ℕ) (bs : Bytes) (at : ℕ) (r : InsideEnd) → (b ≡ 92) ⊎ (b ≡ q) → EndsInside q bs (at + 2) r → EndsInside q (92 ∷ b ∷ bs) at r
escaped_more q b bs at (Closed p) pair (inside, rest, ins, e, place) =
    (92 ∷ b ∷ inside, rest, escaped b inside pair ins, ap (λ (l : Bytes). 92 ∷ b ∷ l) e, omega arith)
escaped_more q b bs at (Bad p) pair (inside, bad, ins, is, e, place) =
    (92 ∷ b ∷ inside, bad, escaped b inside pair ins, is, ap (λ (l : Bytes). 92 ∷ b ∷ l) e, omega arith)
escaped_more q b bs at Unclosed pair ins = escaped b bs pair ins

pub closed_here : (q : ℕ) (bytes : Bytes) (at : ℕ) → at < length bytes → get_or bytes at 0 ≡ q → EndsInside q (drop at bytes) at (Closed at)
closed_here q bytes at lt e = ([], drop (at + 1) bytes, none, from_place bytes at lt ∙ ap (λ (b : ℕ). b ∷ drop (at + 1) bytes) e, omega arith)

pub unclosed_here : (q : ℕ) (bytes : Bytes) (at : ℕ) → length bytes ≤ at → EndsInside q (drop at bytes) at Unclosed
unclosed_here q bytes at past = subst (Inside q) (sym (past_end bytes at past)) none

-- a byte out of range
pub bad_here : (q : ℕ) (bytes : Bytes) (at : ℕ) → at < length bytes → (get_or bytes at 0 < 32) ⊎ (126 < get_or bytes at 0) → EndsInside q (drop at bytes) at (Bad at)
bad_here q bytes at lt out = ([], drop at bytes, none, subst (IsBadInside q) (sym (from_place bytes at lt)) (go (drop (at + 1) bytes)), refl, omega arith)
  where
    go : (rest : Bytes) → IsBadInside q (get_or bytes at 0 ∷ rest)
    go [] = inl out
    go (d ∷ rest) = inl out

-- a backslash that the input ends
pub half_here : (q : ℕ) (bytes : Bytes) (at : ℕ) → at + 1 ≡ length bytes → get_or bytes at 0 ≡ 92 → EndsInside q (drop at bytes) at (Bad at)
half_here q bytes at last e =
    let alone : drop at bytes ≡ get_or bytes at 0 ∷ []
    = from_place bytes at (omega arith) ∙ ap (λ (l : Bytes). get_or bytes at 0 ∷ l) (past_end bytes (at + 1) (omega arith)) in
    ([], drop at bytes, none, subst (IsBadInside q) (sym alone) (inr e), refl, omega arith)

-- a backslash before another byte
pub bad_pair_here : (q : ℕ) (bytes : Bytes) (at : ℕ) → at + 1 < length bytes → get_or bytes at 0 ≡ 92 → get_or bytes (at + 1) 0 ≢ 92 → get_or bytes (at + 1) 0 ≢ q
    → EndsInside q (drop at bytes) at (Bad at)
bad_pair_here q bytes at lt mark a b =
    ([], drop at bytes, none, subst (IsBadInside q) (sym (two_from_place bytes at lt)) (inr (mark, a, b)), refl, omega arith)

-- one character more
pub plain_here : (q : ℕ) (bytes : Bytes) (at : ℕ) (r : InsideEnd) → at < length bytes → 32 ≤ get_or bytes at 0 → get_or bytes at 0 ≤ 126 → get_or bytes at 0 ≢ q
    → get_or bytes at 0 ≢ 92 → EndsInside q (drop (at + 1) bytes) (at + 1) r → EndsInside q (drop at bytes) at r
plain_here q bytes at r lt low high other mark more =
    subst (λ (l : Bytes). EndsInside q l at r) (sym (from_place bytes at lt)) (plain_more q (get_or bytes at 0) (drop (at + 1) bytes) at r low high other mark more)

pub pair_here : (q : ℕ) (bytes : Bytes) (at : ℕ) (r : InsideEnd) → at + 1 < length bytes → get_or bytes at 0 ≡ 92
    → (get_or bytes (at + 1) 0 ≡ 92) ⊎ (get_or bytes (at + 1) 0 ≡ q) → EndsInside q (drop (at + 2) bytes) (at + 2) r → EndsInside q (drop at bytes) at r
pair_here q bytes at r lt mark pair more =
    subst (λ (l : Bytes). EndsInside q l at r)
    (sym (two_from_place bytes at lt ∙ ap (λ (b : ℕ). b ∷ get_or bytes (at + 1) 0 ∷ drop (at + 2) bytes) mark))
    (escaped_more q (get_or bytes (at + 1) 0) (drop (at + 2) bytes) at r pair more)

-- with the opening quote in front
quote_first : (q : ℕ) (bytes : Bytes) (at : ℕ) (behind : Bytes) → at < length bytes → get_or bytes at 0 ≡ q → drop (at + 1) bytes ≡ behind → drop at bytes ≡ q ∷ behind
quote_first q bytes at behind lt e tail = from_place bytes at lt ∙ (λ i. e i ∷ tail i)

pub quoted_here : (q : ℕ) (bytes : Bytes) (at end : ℕ) → at < length bytes → get_or bytes at 0 ≡ q → EndsInside q (drop (at + 1) bytes) (at + 1) (Closed end)
    → (q ≡ 39 → end ≢ at + 1) → EndsQuoted q (drop at bytes) at (end + 1)
quoted_here q bytes at end lt e (inside, rest, ins, split, place) some =
    (inside, rest, ins, (λ is none. some is (let n : length inside ≡ 0 = ap length none in omega arith)), quote_first q bytes at (inside ++ q ∷ rest) lt e split, omega arith)

pub empty_here : (bytes : Bytes) (at end : ℕ) → at < length bytes → get_or bytes at 0 ≡ 39 → EndsInside 39 (drop (at + 1) bytes) (at + 1) (Closed end)
    → end ≡ at + 1 → BeginsFault (drop at bytes) at (BadByte end)
empty_here bytes at end lt e ([], rest, ins, split, place) is = (1, inr (inl (rest, quote_first 39 bytes at (39 ∷ rest) lt e split, refl)), is)
empty_here bytes at end lt e (b ∷ inside, rest, ins, split, place) is = absurd (omega arith)

pub bad_inside_here : (q : ℕ) (bytes : Bytes) (at place : ℕ) → at < length bytes → get_or bytes at 0 ≡ q → IsQuote q → EndsInside q (drop (at + 1) bytes) (at + 1) (Bad place)
    → BeginsFault (drop at bytes) at (BadByte place)
bad_inside_here q bytes at place lt e quote (inside, bad, ins, is, split, where_) =
    (1 + length inside, inr (inr (q, inside, bad, quote, ins, is, quote_first q bytes at (inside ++ bad) lt e split, refl)), omega arith)

pub open_here : (q : ℕ) (bytes : Bytes) (at : ℕ) → at < length bytes → get_or bytes at 0 ≡ q → IsQuote q → EndsInside q (drop (at + 1) bytes) (at + 1) Unclosed
    → BeginsFault (drop at bytes) at (OpenQuote at)
open_here q bytes at lt e quote ins = ((q, drop (at + 1) bytes, quote, ins, quote_first q bytes at (drop (at + 1) bytes) lt e refl), refl)
