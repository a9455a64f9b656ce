-- What a loop keeps that reads the first bytes of a file.
use Rattle.std.specs.Prelude.{◌≡◌, ℕ, ◌+◌, List, ◌++◌, length, Option}
use Rattle.std.specs.Io.KnownBytes.{Consumes}

-- what was appended so far came from the front of the file, and with what is left it makes up the cap
pub record Received (before now : Option (List ℕ)) (cap left : ℕ) (old new : List ℕ) : Type 0 where
  pub more : List ℕ
  pub added : new ≡ old ++ more
  pub count : length more + left ≡ cap
  pub consumed : Consumes before now more
