-- A text that is written line by line.
-- Beyond the headline: no clause of `prove` reaches first_line_length.
use Rattle.std.specs.Prelude.{◌≡◌, ℕ, ◌+◌, ◌==◌, min, if◌then◌else◌, List, [], ◌∷◌, ◌++◌, length, take, Option}
use Rattle.std.specs.List.{concat, position_or_len}
use Rattle.std.specs.Io.KnownBytes.{Appends}
use Rattle.cd_outside.specs.Outside.{GivesWhereTold}

-- how many bytes the first line has, with its line feed
abbrev pub first_line_length : List ℕ → ℕ
first_line_length text = min (position_or_len (λ b. b == 10) text + 1) (length text)

-- a byte before the first of some lines
abbrev pub put_before : ℕ → List (List ℕ) → List (List ℕ)
put_before b [] = (b ∷ []) ∷ []
put_before b (line ∷ lines) = (b ∷ line) ∷ lines

-- the lines of a text, each with its line feed; the last has none where the text doesn't end with one
abbrev pub pieces_of : List ℕ → List (List ℕ)
pieces_of [] = []
pieces_of (b ∷ text) = if b == 10 then (b ∷ []) ∷ pieces_of text else put_before b (pieces_of text)

-- some lines of the text were taken, each as one piece, and then the first n bytes of the next line, which may be none, as one more
pub record StopsInLine (bytes bytes_now : Option (List ℕ)) (pieces pieces_now : Option (List (List ℕ))) (text : List ℕ) : Type 0 where
  pub lines : List (List ℕ)
  pub line : List ℕ
  pub others : List (List ℕ)
  pub split : pieces_of text ≡ lines ++ line ∷ others
  pub n : ℕ
  pub taken : Appends bytes bytes_now (concat lines ++ take n line)
  pub told : GivesWhereTold pieces pieces_now (lines ++ take n line ∷ [])
