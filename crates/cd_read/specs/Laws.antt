-- The laws of reading that other crates build on. Each is the contract of a function of the module `laws`.
-- Beyond the headline: no clause of `prove` reaches this file.
use Rattle.std.specs.Prelude.{◌≡◌, ◌⊎◌, ◌<◌, ◌+◌, ◌∷◌, [], ⊤, ℕ, List, Some, Result, length}
use Rattle.std.specs.List.{AllByRecursion}
use Rattle.cd_symbols.specs.Symbol.{AreDistinct}
use Rattle.cd_read.specs.declared.problem.Problem.{Problem}
use Rattle.cd_read.specs.declared.problem.Wrong.{Wrong}
use Rattle.cd_read.specs.Files.{File, SoFar, Outcome, Inside, ReadsFile, GivesProblem, Reads, NeedsNext}
use Rattle.cd_read.specs.Fetched.{Holds, Told, AreWhole, GaveWrong, IsWholeFile, IsLongFile}
use Rattle.cd_read.specs.Formed.{IsFormed, IsBounded}

-- reading a file comes to one thing, where no symbol stands twice in the table
abbrev pub OutcomesAgree : Type 0
OutcomesAgree = (i : Inside) (s : SoFar) (o o' : Outcome) → AreDistinct s.symbols → ReadsFile i s o → ReadsFile i s o' → o ≡ o'

-- files give one problem, or have one fault first
abbrev pub ReadingsAgree : Type 0
ReadingsAgree = (files : List File) (path : List ℕ) (r q : Result Problem Wrong) → Reads files path r → Reads files path q → r ≡ q

-- or they need one file next
abbrev pub NeedsAgree : Type 0
NeedsAgree = (files : List File) (path p q : List ℕ) → NeedsNext files path p → NeedsNext files path q → p ≡ q

-- and not both
abbrev pub ReadingsNeedNothing : Type 0
ReadingsNeedNothing =
    (files : List File) (path : List ℕ) (r : Result Problem Wrong) (q : List ℕ) → Reads files path r → ¬ NeedsNext files path q

-- each file is what is held under its path
abbrev pub AreHeld : Holds → List File → Type 0
AreHeld holds files = AllByRecursion (λ f. holds f.0 ≡ Some f.1) files

-- behind so many bytes each file is whole where the library tells it, up to one that is longer than what is left, as is what was told of it
abbrev pub AreTold : Holds → ℕ → List File → Type 0
AreTold holds used [] = ⊤
AreTold holds used ((p, bytes) ∷ files) =
    (IsWholeFile (holds p) bytes × AreTold holds (used + length bytes) files) ⊎ (IsLongFile used (holds p) × (4194304 < used + length bytes))

-- what is held decides the problem or the fault, whichever files are told of it
abbrev pub HeldReadingsAgree : Type 0
HeldReadingsAgree =
    (holds : Holds) (files files' : List File) (path : List ℕ) (r q : Result Problem Wrong) → AreHeld holds files → AreTold holds 0 files'
    → Reads files path r → Reads files' path q → r ≡ q

-- and these are what a call that reads says it was told
abbrev pub WholeFilesAreTold : Type 0
WholeFilesAreTold = (holds : Holds) (used : ℕ) (files : List File) → AreWhole holds files → AreTold holds used files

abbrev pub FaultsAreTold : Type 0
FaultsAreTold =
    (holds : Holds) (used : ℕ) (before now : Told) (w : Wrong) (files : List File) → GaveWrong holds used before now w files → AreTold holds used files

-- a problem that was read is formed and within bounds
abbrev pub ProblemsAreFormed : Type 0
ProblemsAreFormed = (files : List File) (path : List ℕ) (p : Problem) → GivesProblem files path p → IsFormed p

abbrev pub ProblemsAreBounded : Type 0
ProblemsAreBounded = (files : List File) (path : List ℕ) (p : Problem) → GivesProblem files path p → IsBounded p
