-- Which bytes are a token of which kind, and which token stands at a place: the longest.
use Rattle.std.specs.Prelude.{◌≡◌, ◌≢◌, ◌⊎◌, ◌≤◌, ◌++◌, ◌∷◌, [], ℕ, Bool, true, length, codes}
use Rattle.std.specs.List.{list_all}
use Rattle.cd_lex.specs.declared.TokenKind.{TokenKind}
use Rattle.cd_lex.specs.declared.TokenKind.TheVariants.{Lower, Upper, Dollar, Quoted, Object, Number, Sign, Other}
use Rattle.cd_lex.specs.Bytes.{Bytes, is_lower, is_upper, is_digit, is_word_byte, is_dollar, is_plus_or_minus, is_point, is_exponent_letter, is_sign, is_other}

-- ---- forms of texts

-- a text of one form and then one of another
abbrev pub Then : (Bytes → Type 0) → (Bytes → Type 0) → Bytes → Type 0
Then P Q text = (front back : Bytes) × P front × Q back × (text ≡ front ++ back)

-- nothing, or a text of the form
abbrev pub Optional : (Bytes → Type 0) → Bytes → Type 0
Optional P text = (text ≡ []) ⊎ P text

-- one byte that passes the test
abbrev pub One : (ℕ → Bool) → Bytes → Type 0
One test text = (b : ℕ) × (test b ≡ true) × (text ≡ b ∷ [])

-- bytes that pass the test, none or more
abbrev pub Many : (ℕ → Bool) → Bytes → Type 0
Many test text = list_all test text ≡ true

-- bytes that pass the test, one or more
abbrev pub AtLeastOne : (ℕ → Bool) → Bytes → Type 0
AtLeastOne test text = (text ≢ []) × (list_all test text ≡ true)

-- ---- the kinds of tokens

-- a small letter, then letters, digits and `_`
abbrev pub IsLower : Bytes → Type 0
IsLower = Then (One is_lower) (Many is_word_byte)

-- a capital letter, then letters, digits and `_`
abbrev pub IsUpper : Bytes → Type 0
IsUpper = Then (One is_upper) (Many is_word_byte)

-- one or two `$`, then a lower word
abbrev pub IsDollar : Bytes → Type 0
IsDollar = Then (One is_dollar) (Then (Optional (One is_dollar)) IsLower)

-- characters between quotes q: each a byte 32 to 126 that is neither q nor a backslash,
-- or a backslash before a backslash or before q
pub data Inside (q : ℕ) : Bytes → Type 0 where
  none : Inside q []
  plain : (b : ℕ) (text : Bytes) → 32 ≤ b → b ≤ 126 → b ≢ q → b ≢ 92 → Inside q text → Inside q (b ∷ text)
  escaped : (b : ℕ) (text : Bytes) → (b ≡ 92) ⊎ (b ≡ q) → Inside q text → Inside q (92 ∷ b ∷ text)

-- `'`, one or more characters, `'`
abbrev pub IsQuoted : Bytes → Type 0
IsQuoted text = (inside : Bytes) × Inside 39 inside × (inside ≢ []) × (text ≡ 39 ∷ (inside ++ 39 ∷ []))

-- `"`, zero or more characters, `"`
abbrev pub IsObject : Bytes → Type 0
IsObject text = (inside : Bytes) × Inside 34 inside × (text ≡ 34 ∷ (inside ++ 34 ∷ []))

abbrev pub IsDigits : Bytes → Type 0
IsDigits = AtLeastOne is_digit

-- an optional sign, and digits
abbrev pub IsInteger : Bytes → Type 0
IsInteger = Then (Optional (One is_plus_or_minus)) IsDigits

-- `.` or `/`, and digits
abbrev pub IsFraction : Bytes → Type 0
IsFraction = Then (One is_point) IsDigits

-- `E` or `e`, an optional sign, and digits
abbrev pub IsExponent : Bytes → Type 0
IsExponent = Then (One is_exponent_letter) IsInteger

-- an optional sign, digits, an optional fraction, and an optional exponent
abbrev pub IsNumber : Bytes → Type 0
IsNumber = Then IsInteger (Then (Optional IsFraction) (Optional IsExponent))

-- `!=`, or a sign of one byte
abbrev pub IsSign : Bytes → Type 0
IsSign text = (text ≡ codes "!=") ⊎ One is_sign text

abbrev pub IsOther : Bytes → Type 0
IsOther = One is_other

abbrev pub IsToken : TokenKind → Bytes → Type 0
IsToken Lower = IsLower
IsToken Upper = IsUpper
IsToken Dollar = IsDollar
IsToken Quoted = IsQuoted
IsToken Object = IsObject
IsToken Number = IsNumber
IsToken Sign = IsSign
IsToken Other = IsOther

-- ---- the token at a place

-- the bytes begin with the text, which has the form, and with no longer text of the form
pub record IsLongest (P : Bytes → Type 0) (text bytes : Bytes) : Type 0 where
  pub rest : Bytes
  pub split : bytes ≡ text ++ rest
  pub is : P text
  pub longest : (other after : Bytes) → P other → bytes ≡ other ++ after → length other ≤ length text

-- a token of some kind
abbrev pub IsAnyToken : Bytes → Type 0
IsAnyToken text = (kind : TokenKind) × IsToken kind text

-- a token of this kind stands where the bytes begin: the longest of all kinds
abbrev pub Begins : TokenKind → Bytes → Bytes → Type 0
Begins kind text bytes = IsToken kind text × IsLongest IsAnyToken text bytes

-- no text of the form stands where the bytes begin
pub record BeginsNo (P : Bytes → Type 0) (bytes : Bytes) : Type 0 where
  pub no : (text rest : Bytes) → P text → bytes ≢ text ++ rest
