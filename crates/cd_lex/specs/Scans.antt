-- What the scanner's parts answer.
-- Beyond the headline: no clause of `prove` reaches this file.
use Rattle.std.specs.Prelude.{◌≡◌, ◌≢◌, ◌+◌, ◌<◌, ◌++◌, ◌∷◌, [], ℕ, Bool, true, false, Option, Some, None, length, drop}
use Rattle.std.specs.List.{list_all}
use Rattle.cd_lex.specs.declared.quotes.InsideEnd.{InsideEnd}
use Rattle.cd_lex.specs.declared.quotes.InsideEnd.TheVariants.{Closed, Bad, Unclosed}
use Rattle.cd_lex.specs.Bytes.{Bytes, is_lower, is_upper, is_dollar}
use Rattle.cd_lex.specs.declared.TokenKind.{TokenKind}
use Rattle.cd_lex.specs.Tokens.{Then, Optional, One, IsLower, Inside, IsLongest, Begins}
use Rattle.cd_lex.specs.Gaps.{HasNoLineFeed, HasNoClose, BeginsNoGap, IsGapBetween}
use Rattle.cd_lex.specs.Next.{IsBadInside}

-- nothing follows, or a byte that fails the test
abbrev pub Stops : (ℕ → Bool) → Bytes → Type 0
Stops test [] = Unit {0}
Stops test (b ∷ rest) = test b ≡ false

-- the run of bytes that pass the test ends at place `end`; the bytes begin at place `from`
pub record EndsRun (test : ℕ → Bool) (bytes : Bytes) (from end : ℕ) : Type 0 where
  pub run : Bytes
  pub rest : Bytes
  pub pass : list_all test run ≡ true
  pub stops : Stops test rest
  pub split : bytes ≡ run ++ rest
  pub place : end ≡ from + length run

-- the longest text of the form ends at place `end`; the bytes begin at place `from`
pub record Ends (P : Bytes → Type 0) (bytes : Bytes) (from end : ℕ) : Type 0 where
  pub text : Bytes
  pub longest : IsLongest P text bytes
  pub place : end ≡ from + length text

-- an optional `$`, and a lower word
abbrev pub IsMarked : Bytes → Type 0
IsMarked = Then (Optional (One is_dollar)) IsLower

-- what the characters behind an opening quote come to; the bytes begin at place `from`
abbrev pub EndsInside : ℕ → Bytes → ℕ → InsideEnd → Type 0
EndsInside q bytes from (Closed at) = (inside rest : Bytes) × Inside q inside × (bytes ≡ inside ++ q ∷ rest) × (at ≡ from + length inside)
EndsInside q bytes from (Bad at) = (inside bad : Bytes) × Inside q inside × IsBadInside q bad × (bytes ≡ inside ++ bad) × (at ≡ from + length inside)
EndsInside q bytes from Unclosed = Inside q bytes

-- the place behind the first line feed; the bytes begin at place `from`
abbrev pub EndsLine : Bytes → ℕ → Option ℕ → Type 0
EndsLine bytes from (Some end) = (text rest : Bytes) × HasNoLineFeed text × (bytes ≡ text ++ 10 ∷ rest) × (end ≡ from + length text + 1)
EndsLine bytes from None = HasNoLineFeed bytes

-- the place behind the first `*/`; the bytes begin at place `from`
abbrev pub EndsBlock : Bytes → ℕ → Option ℕ → Type 0
EndsBlock bytes from (Some end) = (text rest : Bytes) × HasNoClose (text ++ 42 ∷ []) × (bytes ≡ text ++ 42 ∷ 47 ∷ rest) × (end ≡ from + length text + 2)
EndsBlock bytes from None = HasNoClose bytes

-- the quoted text with quotes q ends at place `end`; the bytes begin at place `from`
abbrev pub EndsQuoted : ℕ → Bytes → ℕ → ℕ → Type 0
EndsQuoted q bytes from end = (inside rest : Bytes) × Inside q inside × (q ≡ 39 → inside ≢ []) × (bytes ≡ q ∷ (inside ++ q ∷ rest)) × (end ≡ from + length inside + 2)

-- the token ends at place `end`; the bytes begin at place `from`
abbrev pub EndsToken : TokenKind → Bytes → ℕ → ℕ → Type 0
EndsToken kind bytes from end = (text : Bytes) × Begins kind text bytes × (end ≡ from + length text)

-- the byte begins no word, and no text between quotes
pub record BeginsNoWord (b : ℕ) : Type 0 where
  pub lower : is_lower b ≡ false
  pub upper : is_upper b ≡ false
  pub dollar : is_dollar b ≡ false
  pub quote : b ≢ 39
  pub double_quote : b ≢ 34

-- blanks and comments end at place `at`, where something else stands
pub record Reaches (bytes : Bytes) (from at : ℕ) : Type 0 where
  pub gap : IsGapBetween bytes from at
  pub no_gap : BeginsNoGap (drop at bytes)
  pub within : at < length bytes

-- the place that is answered is one of n
abbrev pub IsWithin : ℕ → InsideEnd → Type 0
IsWithin n (Closed at) = at < n
IsWithin n (Bad at) = at < n
IsWithin n Unclosed = Unit {0}
