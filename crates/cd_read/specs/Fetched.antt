-- What reading through a library tells: which files were fetched, in which order, and what they come to.
-- Beyond the headline: no clause of `prove` reaches FetchesAtMost, IsReadFrom, IsOfLibrary.
use Rattle.std.specs.Prelude.{◌≡◌, ◌⊎◌, ◌<◌, ◌≤◌, ◌+◌, ◌++◌, ◌∷◌, [], ⊤, ℕ, List, Option, Some, None, Ok, Err, length, sum_by}
use Rattle.std.specs.List.{AllByRecursion}
use Rattle.cd_lex.specs.Bytes.{Bytes}
use Rattle.cd_outside.specs.Outside.{Gives}
use Rattle.cd_parse.specs.declared.label.What.TheVariants as what
use Rattle.cd_read.specs.declared.problem.Problem.{Problem}
use Rattle.cd_read.specs.declared.problem.Wrong.{Wrong}
use Rattle.cd_read.specs.declared.reader.ReadFault.{ReadFault}
use Rattle.cd_read.specs.declared.reader.ReadFault.TheVariants as failure
use Rattle.cd_read.specs.Files.{File, Reads, NeedsNext, wrong_at}

-- the files that a library told
abbrev pub Told : Type 0
Told = Option (List File)

-- what a library holds under each path, where it tells that
abbrev pub Holds : Type 0
Holds = List ℕ → Option Bytes

-- the bytes are all of the file, where the library tells it
abbrev pub IsWholeFile : Option Bytes → Bytes → Type 0
IsWholeFile None bytes = ⊤
IsWholeFile (Some all) bytes = bytes ≡ all

-- the file alone is longer than what is left, where the library tells it
abbrev pub IsLongFile : ℕ → Option Bytes → Type 0
IsLongFile used None = ⊤
IsLongFile used (Some all) = 4194304 < used + length all

-- each file is the whole of what its path holds
abbrev pub AreWhole : Holds → List File → Type 0
AreWhole holds files = AllByRecursion (λ f. IsWholeFile (holds f.0) f.1) files

-- the bytes of several files
abbrev pub total : List File → ℕ
total files = sum_by (λ f. length f.1) files

-- the last file is longer than what is left behind the others, which are whole, and so is what was told of it; and that is the fault
abbrev pub EndsLong : Holds → ℕ → Wrong → List File → Type 0
EndsLong holds used w files =
    (front : List File) × (p : List ℕ) × (bytes : Bytes) × (files ≡ front ++ (p, bytes) ∷ []) × AreWhole holds front
    × (w ≡ wrong_at what.Long p 0) × IsLongFile (used + total front) (holds p) × (4194304 < used + total front + length bytes)

-- these files were told, each of them whole
pub record GaveWhole (holds : Holds) (before now : Told) (files : List File) : Type 0 where
  pub told : Gives before now files
  pub whole : AreWhole holds files

-- each of them whole, or the fault is that the last one is too long
pub record GaveWrong (holds : Holds) (used : ℕ) (before now : Told) (w : Wrong) (files : List File) : Type 0 where
  pub told : Gives before now files
  pub whole : AreWhole holds files ⊎ EndsLong holds used w files

-- these files were told, with no more bytes than so many
pub record FetchesAtMost (most : ℕ) (before now : Told) : Type 0 where
  pub files : List File
  pub told : Gives before now files
  pub few : total files ≤ most

-- the files that were told, each whole where the library tells it, give this problem
abbrev pub IsReadFrom : List ℕ → Holds → Told → Told → Problem → Type 0
IsReadFrom path holds before now p = (files : List File) × GaveWhole holds before now files × Reads files path (Ok p)

-- the files that were told have this fault first, each whole, or the fault is that the last one is too long; or they need this file next
abbrev pub IsReadFault : List ℕ → Holds → Told → Told → ReadFault → Type 0
IsReadFault path holds before now (failure.Wrong w) = (files : List File) × GaveWrong holds 0 before now w files × Reads files path (Err w)
IsReadFault path holds before now (failure.Library p) = (files : List File) × GaveWhole holds before now files × NeedsNext files path p
IsReadFault path holds before now failure.Memory = Unit {0}

-- the fault is the library's
abbrev pub IsOfLibrary : ReadFault → Type 0
IsOfLibrary (failure.Library p) = Unit {0}
IsOfLibrary (failure.Wrong w) = ⊥
IsOfLibrary failure.Memory = ⊥
