-- What comes next in the bytes, from a place on: a token, nothing, or a fault.
use Rattle.std.specs.Prelude.{◌≡◌, ◌≢◌, ◌⊎◌, ◌+◌, ◌<◌, ◌++◌, ◌∷◌, [], ℕ, length, drop}
use Rattle.cd_lex.specs.declared.TokenKind.{TokenKind}
use Rattle.cd_lex.specs.declared.LexFault.{LexFault}
use Rattle.cd_lex.specs.declared.LexFault.TheVariants.{BadByte, OpenQuote, OpenComment}
use Rattle.cd_lex.specs.Bytes.{Bytes}
use Rattle.cd_lex.specs.Tokens.{Inside, IsAnyToken, Begins, BeginsNo}
use Rattle.cd_lex.specs.Gaps.{BeginsNoGap, IsGapBetween, IsLastLine, IsOpenComment}

-- `'` or `"`
abbrev pub IsQuote : ℕ → Type 0
IsQuote b = (b ≡ 39) ⊎ (b ≡ 34)

-- the bytes begin with one that can't stand between quotes q:
-- one outside 32 to 126, or a backslash that stands before neither a backslash nor q
abbrev pub IsBadInside : ℕ → Bytes → Type 0
IsBadInside q [] = ⊥
IsBadInside q (b ∷ []) = ((b < 32) ⊎ (126 < b)) ⊎ (b ≡ 92)
IsBadInside q (b ∷ d ∷ rest) = ((b < 32) ⊎ (126 < b)) ⊎ ((b ≡ 92) × (d ≢ 92) × (d ≢ q))

-- the bytes begin with one that begins no token, no quoted text and no gap
abbrev pub IsStray : Bytes → Type 0
IsStray [] = ⊥
IsStray (b ∷ rest) = BeginsNo IsAnyToken (b ∷ rest) × BeginsNoGap (b ∷ rest) × (b ≢ 39) × (b ≢ 34)

-- the byte behind n others is bad: it begins no token, or it closes an empty `''`, or it can't
-- stand between the quotes in which it stands
abbrev pub IsBad : Bytes → ℕ → Type 0
IsBad bytes n = (IsStray bytes × (n ≡ 0))
    ⊎ (((rest : Bytes) × (bytes ≡ 39 ∷ 39 ∷ rest) × (n ≡ 1))
    ⊎ ((q : ℕ) × (inside bad : Bytes) × IsQuote q × Inside q inside × IsBadInside q bad
    × (bytes ≡ q ∷ (inside ++ bad)) × (n ≡ 1 + length inside)))

-- a quote that the input ends
abbrev pub IsOpenQuote : Bytes → Type 0
IsOpenQuote bytes = (q : ℕ) × (inside : Bytes) × IsQuote q × Inside q inside × (bytes ≡ q ∷ inside)

-- the bytes begin with a fault, the first byte being at place `at`
abbrev pub BeginsFault : Bytes → ℕ → LexFault → Type 0
BeginsFault bytes at (BadByte p) = (n : ℕ) × IsBad bytes n × (p ≡ at + n)
BeginsFault bytes at (OpenQuote p) = IsOpenQuote bytes × (p ≡ at)
BeginsFault bytes at (OpenComment p) = IsOpenComment bytes × (p ≡ at)

-- what can come next
pub data Next : Type 0 where
  -- a token: its kind, its place and its bytes
  token : TokenKind → ℕ → Bytes → Next
  -- blanks and comments alone
  nothing : Next
  fault : LexFault → Next

-- what does come next in the bytes from place `from` on
abbrev pub IsNext : Bytes → ℕ → Next → Type 0
IsNext bytes from (token kind start text) =
    IsGapBetween bytes from start × BeginsNoGap (drop start bytes) × Begins kind text (drop start bytes)
IsNext bytes from nothing = (at : ℕ) × IsGapBetween bytes from at × ((drop at bytes ≡ []) ⊎ IsLastLine (drop at bytes))
IsNext bytes from (fault f) = (at : ℕ) × IsGapBetween bytes from at × BeginsFault (drop at bytes) at f
