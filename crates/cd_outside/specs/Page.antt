-- A page: a sink in memory with a bound on its bytes and its calls, whose calls fail as a list says.
-- Beyond the headline: no clause of `prove` reaches this file.
use Rattle.std.specs.Prelude.{ℕ, ◌-◌, min, List, [], ◌∷◌, ◌++◌, length, take, drop, Option, None, Some, ◌==◌, if◌then◌else◌, nat_lt, nat_le}
use Rattle.cd_outside.specs.Outside.{counted}

-- `room` bytes fit in `limit` calls; `lengths` has how many bytes each of these calls took
pub record PageState : Type 0 where
  pub room : ℕ
  pub limit : ℕ
  pub fails : List (ℕ × ℕ)
  pub calls : ℕ
  pub faults : ℕ
  pub bytes : List ℕ
  pub lengths : List ℕ

-- what the first pair with this call's number says that the call still takes
abbrev pub share_of : List (ℕ × ℕ) → ℕ → Option ℕ
share_of [] call = None
share_of (pair ∷ fails) call = if pair.0 == call then Some pair.1 else share_of fails call

-- how many bytes of a piece of this length a call takes, if it fails
abbrev pub shortened : Option ℕ → ℕ → ℕ → Option ℕ
shortened (Some share) length left = Some (min (min share length) left)
shortened None length left = if nat_le length left then None else Some 0

-- how many bytes of a piece of this length the next call takes, if it fails: `None` where it takes the whole piece
abbrev pub failing_take : PageState → ℕ → Option ℕ
failing_take page length_of_piece =
    if nat_lt page.calls page.limit then shortened (share_of page.fails page.calls) length_of_piece (page.room - length page.bytes) else Some 0

-- after a call that took these bytes
abbrev pub wrote : PageState → List ℕ → PageState
wrote page taken =
    record page {
      calls = counted page.calls;
      bytes = page.bytes ++ taken;
      lengths = if nat_lt page.calls page.limit then page.lengths ++ length taken ∷ [] else page.lengths;
    }

-- after a call that failed, and took these bytes
abbrev pub fell_short : PageState → List ℕ → PageState
fell_short page taken = record (wrote page taken) { faults = counted page.faults }

-- the bytes, cut into pieces of these lengths
abbrev pub cut_at : List ℕ → List ℕ → List (List ℕ)
cut_at [] bytes = []
cut_at (n ∷ lengths) bytes = take n bytes ∷ cut_at lengths (drop n bytes)

-- the piece of each call, as long as the calls fit
abbrev pub pieces_told : PageState → Option (List (List ℕ))
pieces_told page = if nat_le page.calls page.limit then Some (cut_at page.lengths page.bytes) else None
