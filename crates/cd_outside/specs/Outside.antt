-- What calls of the outside leave behind: counts of faults, bytes taken, and files given.
-- Beyond the headline: no clause of `prove` reaches HasCause, FallsShort, Fetches, AppendsFirst, count_after, Device.
use Rattle.std.specs.Prelude.{◌≡◌, ℕ, ◌+◌, ◌-◌, ◌^◌, ◌≤◌, ⊤, min, List, [], ◌∷◌, ◌++◌, length, take, OnErr, Option, None, Some, Result, Ok, Err}
use Rattle.std.specs.Io.KnownBytes.{Appends}

-- the next value of a count that stays at its last value, the greatest u64
abbrev pub counted : ℕ → ℕ
counted n = min (n + 1) (2 ^ 64 - 1)

-- a count has risen, or stands at its last value
abbrev pub Rose : ℕ → ℕ → Type 0
Rose before now = counted before ≤ now

-- a count never falls, and a failed call has raised it
pub record HasCause {T E : Type 0} (before now : ℕ) (result : Result T E) : Type 0 where
  pub later : before ≤ now
  pub failed : OnErr result (Rose before now)

-- the bytes that are told grow by a front of these; nothing is said where none are told
abbrev pub AppendsFront : Option (List ℕ) → Option (List ℕ) → List ℕ → Type 0
AppendsFront before now bytes = (n : ℕ) × Appends before now (take n bytes)

-- the list that is told grows by these; nothing is said where none is told
abbrev pub Gives : {X : Type 0} → Option (List X) → Option (List X) → List X → Type 0
Gives None now more = ⊤
Gives (Some told) None more = ⊥
Gives (Some told) (Some now) more = now ≡ told ++ more

-- the same where it is told before and now: what is told may cease to be
abbrev pub GivesWhereTold : {X : Type 0} → Option (List X) → Option (List X) → List X → Type 0
GivesWhereTold None now more = ⊤
GivesWhereTold (Some told) None more = ⊤
GivesWhereTold (Some told) (Some now) more = now ≡ told ++ more

-- a failed call took the first n bytes of its piece, which may be none: the bytes that are told grow by these, and the pieces, where they
-- are still told, by these as one piece
pub record FallsShort (bytes bytes_now : Option (List ℕ)) (pieces pieces_now : Option (List (List ℕ))) (piece : List ℕ) : Type 0 where
  pub n : ℕ
  pub taken : Appends bytes bytes_now (take n piece)
  pub told : GivesWhereTold pieces pieces_now (take n piece ∷ [])

-- what a fetch gave stands at the end of the buffer, is no longer than the cap, and is told under its path
pub record Fetches (before now : Option (List (List ℕ × List ℕ))) (path : List ℕ) (cap : ℕ) (old new : List ℕ) : Type 0 where
  pub given : List ℕ
  pub added : new ≡ old ++ given
  pub capped : length given ≤ cap
  pub told : Gives before now ((path, given) ∷ [])

-- what a fetch gave is the front of the file, as much of it as the cap lets through; nothing is said where the file is not told
abbrev pub AppendsFirst : Option (List ℕ) → ℕ → List ℕ → List ℕ → Type 0
AppendsFirst None cap old new = ⊤
AppendsFirst (Some file) cap old new = new ≡ old ++ take cap file

-- ---- calls of the machine

-- a count of failed calls, after one with this answer
abbrev pub count_after : {T E : Type 0} → ℕ → Result T E → ℕ
count_after failed (Ok _) = failed
count_after failed (Err _) = counted failed

-- a device: the bytes that it took, where it tells them, and how often it has failed
pub record Device : Type 0 where
  pub taken : Option (List ℕ)
  pub faults : ℕ
