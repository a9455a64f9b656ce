-- Bytes by their ASCII codes.
use Rattle.std.specs.Prelude.{◌==◌, ◌&&◌, ◌||◌, ℕ, Bool, nat_le, List, codes}
use Rattle.std.specs.List.{list_any}

abbrev pub Bytes : Type 0
Bytes = List ℕ

abbrev pub is_among : Bytes → ℕ → Bool
is_among bytes b = list_any (λ x. x == b) bytes

-- `a` to `z`
abbrev pub is_lower : ℕ → Bool
is_lower b = nat_le 97 b && nat_le b 122

-- `A` to `Z`
abbrev pub is_upper : ℕ → Bool
is_upper b = nat_le 65 b && nat_le b 90

-- `0` to `9`
abbrev pub is_digit : ℕ → Bool
is_digit b = nat_le 48 b && nat_le b 57

-- letters, digits and `_`
abbrev pub is_word_byte : ℕ → Bool
is_word_byte b = is_lower b || (is_upper b || (is_digit b || b == 95))

-- `$`
abbrev pub is_dollar : ℕ → Bool
is_dollar b = b == 36

abbrev pub is_plus_or_minus : ℕ → Bool
is_plus_or_minus = is_among (codes "+-")

-- what stands before the digits of a fraction
abbrev pub is_point : ℕ → Bool
is_point = is_among (codes "./")

abbrev pub is_exponent_letter : ℕ → Bool
is_exponent_letter = is_among (codes "Ee")

-- the one-byte signs
abbrev pub is_sign : ℕ → Bool
is_sign = is_among (codes "()[],.:~=|")

-- the bytes that are other tokens
abbrev pub is_other : ℕ → Bool
is_other = is_among (codes "&@!?<>*+-^;{}/")

-- tab, line feed, vertical tab, form feed, carriage return, and space
abbrev pub is_blank : ℕ → Bool
is_blank b = b == 32 || (nat_le 9 b && nat_le b 13)
