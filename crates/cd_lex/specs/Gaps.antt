-- Blanks and comments, which stand between tokens.
use Rattle.std.specs.Prelude.{◌≡◌, ◌≢◌, ◌+◌, ◌++◌, ◌∷◌, [], ℕ, true, false, length, drop}
use Rattle.cd_lex.specs.Bytes.{Bytes, is_among, is_blank}

-- no `*/` stands in the bytes
pub record HasNoClose (bytes : Bytes) : Type 0 where
  pub no : (front rest : Bytes) → bytes ≢ front ++ 42 ∷ 47 ∷ rest

-- no line feed stands in the bytes
abbrev pub HasNoLineFeed : Bytes → Type 0
HasNoLineFeed bytes = is_among bytes 10 ≡ false

-- blanks and whole comments: `%` up to the first line feed, `/*` up to the first `*/` behind it
pub data IsGap : Bytes → Type 0 where
  empty : IsGap []
  blank : (b : ℕ) (gap : Bytes) → is_blank b ≡ true → IsGap gap → IsGap (b ∷ gap)
  line : (text gap : Bytes) → HasNoLineFeed text → IsGap gap → IsGap (37 ∷ (text ++ 10 ∷ gap))
  block : (text gap : Bytes) → HasNoClose (text ++ 42 ∷ []) → IsGap gap → IsGap (47 ∷ 42 ∷ (text ++ 42 ∷ 47 ∷ gap))

-- a comment `%` that the input ends
abbrev pub IsLastLine : Bytes → Type 0
IsLastLine bytes = (text : Bytes) × HasNoLineFeed text × (bytes ≡ 37 ∷ text)

-- a comment `/*` that isn't closed
abbrev pub IsOpenComment : Bytes → Type 0
IsOpenComment bytes = (text : Bytes) × HasNoClose text × (bytes ≡ 47 ∷ 42 ∷ text)

-- the bytes don't begin with a blank, with `%` or with `/*`
pub record BeginsNoGap (bytes : Bytes) : Type 0 where
  pub no_blank : (b : ℕ) (rest : Bytes) → is_blank b ≡ true → bytes ≢ b ∷ rest
  pub no_line : (rest : Bytes) → bytes ≢ 37 ∷ rest
  pub no_block : (rest : Bytes) → bytes ≢ 47 ∷ 42 ∷ rest

-- from place `from` up to place `at` there are blanks and comments alone
pub record IsGapBetween (bytes : Bytes) (from at : ℕ) : Type 0 where
  pub gap : Bytes
  pub is : IsGap gap
  pub split : drop from bytes ≡ gap ++ drop at bytes
  pub place : at ≡ from + length gap
