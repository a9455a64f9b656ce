-- The bytes from a place on.
use Rattle.std.proofs.Common.{◌==◌, false, true≢false, eq-eqb, ◌≡◌, ◌∙◌, ◌+◌, ◌-◌, ◌<◌, ◌≤◌, ◌++◌, ◌∷◌, [], ℕ, length, take, drop, get_or, refl, sym, ap, ap₂, arith, add-one, drop-cons, drop_of_length-le, drop-drop, drop_at, take_at, length-drop, length-append}
use Rattle.cd_lex.specs.Bytes.{Bytes}

pub from_place : (bytes : Bytes) (at : ℕ) → at < length bytes → drop at bytes ≡ get_or bytes at 0 ∷ drop (at + 1) bytes
from_place bytes at lt = drop-cons bytes at 0 lt ∙ ap (λ (k : ℕ). get_or bytes at 0 ∷ drop k bytes) (sym (add-one at))

pub two_from_place : (bytes : Bytes) (at : ℕ) → at + 1 < length bytes → drop at bytes ≡ get_or bytes at 0 ∷ get_or bytes (at + 1) 0 ∷ drop (at + 2) bytes
two_from_place bytes at lt =
    let e : at + 1 + 1 ≡ at + 2 = omega arith in
    from_place bytes at (omega arith) ∙ ap (λ (l : Bytes). get_or bytes at 0 ∷ l) (from_place bytes (at + 1) lt ∙ ap (λ (k : ℕ). get_or bytes (at + 1) 0 ∷ drop k bytes) e)

pub past_end : (bytes : Bytes) (at : ℕ) → length bytes ≤ at → drop at bytes ≡ []
past_end bytes at past = drop_of_length-le bytes past

-- what stands behind a text
pub behind : (bytes : Bytes) (from at : ℕ) (text rest : Bytes) → drop from bytes ≡ text ++ rest → at ≡ from + length text → drop at bytes ≡ rest
behind bytes from at text rest split place =
    ap (λ (k : ℕ). drop k bytes) place
    ∙ sym (drop-drop (length text) from bytes) ∙ ap (drop (length text)) split ∙ drop_at text rest (length text) refl

-- the text itself
pub slice : (bytes : Bytes) (from at : ℕ) (text rest : Bytes) → drop from bytes ≡ text ++ rest → at ≡ from + length text → take (at - from) (drop from bytes) ≡ text
slice bytes from at text rest split place =
    let n : at - from ≡ length text = omega arith in
    ap₂ take n split ∙ take_at text rest (length text) refl

-- a text ends within the bytes
pub ends_within : (bytes : Bytes) (from at : ℕ) (text rest : Bytes) → from ≤ length bytes → drop from bytes ≡ text ++ rest → at ≡ from + length text → at ≤ length bytes
ends_within bytes from at text rest within split place =
    let n : length bytes - from ≡ length text + length rest = sym (length-drop from bytes) ∙ ap length split ∙ length-append text rest in
    omega arith

-- of two ways to cut the bytes, the longer front goes on where the shorter ends
pub record GoesOn (short long after before : Bytes) : Type 0 where
  pub more : Bytes
  pub front : long ≡ short ++ more
  pub back : after ≡ more ++ before

pub goes_on : (short long after before : Bytes) → long ++ before ≡ short ++ after → length short ≤ length long → GoesOn short long after before
goes_on [] long after before e le = record { more = long; front = refl; back = sym e }
goes_on (x ∷ short) [] after before e le = absurd (omega arith)
goes_on (x ∷ short) (y ∷ long) after before e le =
    let same : y ≡ x = cc in
    let tails : long ++ before ≡ short ++ after = cc in
    let r = goes_on short long after before tails (omega arith) in
    record { more = r.more; front = (λ i. same i ∷ r.front i); back = r.back }

-- texts of one length at one place are the same
pub same_front : (a b after before : Bytes) → a ++ after ≡ b ++ before → length a ≡ length b → a ≡ b
same_front [] [] after before e n = refl
same_front [] (y ∷ b) after before e n = absurd (omega arith)
same_front (x ∷ a) [] after before e n = absurd (omega arith)
same_front (x ∷ a) (y ∷ b) after before e n =
    let same : x ≡ y = cc in
    let tails : a ++ after ≡ b ++ before = cc in
    λ i. same i ∷ same_front a b after before tails (omega arith) i

pub same_back : (a after before : Bytes) → a ++ after ≡ a ++ before → after ≡ before
same_back [] after before e = e
same_back (x ∷ a) after before e = let tails : a ++ after ≡ a ++ before = cc in same_back a after before tails

-- bytes that begin with different ones
pub differ : (a b : ℕ) (x y : Bytes) → (a == b) ≡ false → a ∷ x ≡ b ∷ y → ⊥
differ a b x y other e = let same : a ≡ b = cc in true≢false (sym (eq-eqb a b same) ∙ other)
