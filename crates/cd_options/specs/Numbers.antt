-- Numbers as words spell them.
use Rattle.std.specs.Prelude.{◌≡◌, ◌+◌, ◌*◌, ◌-◌, ◌<◌, ◌≤◌, ◌&&◌, ℕ, Bool, true, nat_le, List, [], ◌∷◌, length}
use Rattle.std.specs.List.{list_all}

abbrev pub is_digit : ℕ → Bool
is_digit b = nat_le 48 b && nat_le b 57

-- the value of digits behind those that give n
abbrev pub value_from : ℕ → List ℕ → ℕ
value_from n [] = n
value_from n (b ∷ bs) = value_from (n * 10 + (b - 48)) bs

-- 1 to 20 digits with this value
pub record IsNumber (text : List ℕ) (n : ℕ) : Type 0 where
  pub some : 0 < length text
  pub few : length text ≤ 20
  pub digits : list_all is_digit text ≡ true
  pub value : n ≡ value_from 0 text
