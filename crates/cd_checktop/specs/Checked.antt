-- What the checker's call promises of its answer.
-- Beyond the headline: no clause of `prove` reaches this file.
use Rattle.std.specs.Prelude.{◌≡◌, ℕ, ◌<◌, ◌≤◌, ◌⊎◌, ⊤, List, [], ◌∷◌, ◌++◌, length, Option, None, Some, Ok, Err}
use Rattle.std.specs.Io.KnownBytes.{Appends}
use Rattle.cd_clause.specs.Truth.{HaveNoModel}
use Rattle.cd_outside.specs.Outside.{AppendsFront, Gives}
use Rattle.cd_parse.specs.declared.label.What.TheVariants.{Long}
use Rattle.cd_read.specs.declared.problem.Problem.{Problem as ProblemValue}
use Rattle.cd_read.specs.declared.problem.Wrong.{Wrong}
use Rattle.cd_read.specs.declared.reader.ReadFault.{ReadFault}
use Rattle.cd_read.specs.declared.reader.ReadFault.TheVariants as faults
use Rattle.cd_read.specs.Files.{File, Reads, NeedsNext}
use Rattle.cd_read.specs.Fetched.{Told, Holds, AreWhole, GaveWhole, GaveWrong, IsWholeFile, total}
use Rattle.cd_check.specs.declared.verdict.Verdict.{Verdict}
use Rattle.cd_check.specs.declared.verdict.Verdict.TheVariants as verdict
use Rattle.cd_check.specs.Accepted.{input_clauses}
use Rattle.cd_check.specs.Verdicts.{Judges}
use Rattle.cd_checktop.specs.declared.answer.CheckAnswer.{CheckAnswer}
use Rattle.cd_checktop.specs.declared.answer.CheckAnswer.TheVariants.{Accepted, Refused, Usage, Problem, LibraryFault, SinkFault, Memory}
use Rattle.cd_checktop.specs.Texts.{answer_text}

abbrev pub status_of : CheckAnswer → ℕ
status_of (Accepted lines) = 0
status_of (Refused line w) = 1
status_of Usage = 64
status_of (Problem w) = 65
status_of (LibraryFault path) = 66
status_of Memory = 71
status_of SinkFault = 74

-- two words are the paths of the problem and of the derivation; every other number of words is none
abbrev pub two_words : List (List ℕ) → Option (List ℕ × List ℕ)
two_words [] = None
two_words (a ∷ []) = None
two_words (a ∷ b ∷ []) = Some (a, b)
two_words (a ∷ b ∷ c ∷ ws) = None

-- ---- what was told of the files

-- the problem was read from its files, each whole where the library tells it; and then these bytes of the derivation were told
pub record IsFetched (holds : Holds) (words : Option (List ℕ × List ℕ)) (before now : Told) (p : ProblemValue) (text : List ℕ) : Type 0 where
  pub problem : List ℕ
  pub derivation : List ℕ
  pub files : List File
  pub words_are : words ≡ Some (problem, derivation)
  pub told : Gives before now (files ++ (derivation, text) ∷ [])
  pub whole : AreWhole holds files
  pub reads : Reads files problem (Ok p)

-- the derivation within its cap has this verdict; it is the whole file, where the library tells it
pub record IsJudged (holds : Holds) (words : Option (List ℕ × List ℕ)) (before now : Told) (v : Verdict) : Type 0 where
  pub problem : ProblemValue
  pub text : List ℕ
  pub fetched : IsFetched holds words before now problem text
  pub short : length text ≤ 67108864
  pub whole : IsWholeFile (holds fetched.derivation) text
  pub judges : Judges problem text v

-- the problem's files have this fault first
pub record HasFault (holds : Holds) (words : Option (List ℕ × List ℕ)) (before now : Told) (w : Wrong) : Type 0 where
  pub problem : List ℕ
  pub derivation : List ℕ
  pub files : List File
  pub words_are : words ≡ Some (problem, derivation)
  pub told : GaveWrong holds 0 before now w files
  pub fault : Reads files problem (Err w)

-- the file is longer than the cap, where the library tells it
abbrev pub IsPastCap : Option (List ℕ) → Type 0
IsPastCap None = ⊤
IsPastCap (Some all) = 67108864 < length all

-- the derivation has more bytes than its cap
pub record IsLong (holds : Holds) (words : Option (List ℕ × List ℕ)) (before now : Told) (w : Wrong) : Type 0 where
  pub problem : ProblemValue
  pub text : List ℕ
  pub fetched : IsFetched holds words before now problem text
  pub long : 67108864 < length text
  pub past : IsPastCap (holds fetched.derivation)
  pub wrong : w ≡ record { what = Long; file = fetched.derivation; at = 0 }

-- a file that couldn't be fetched: one that the problem needs next; or, behind a problem that was read, the derivation
pub record IsUnread (holds : Holds) (words : Option (List ℕ × List ℕ)) (before now : Told) (path : List ℕ) : Type 0 where
  pub problem : List ℕ
  pub derivation : List ℕ
  pub files : List File
  pub words_are : words ≡ Some (problem, derivation)
  pub told : GaveWhole holds before now files
  pub which : NeedsNext files problem path ⊎ ((path ≡ derivation) × ((p : ProblemValue) × Reads files problem (Ok p)))

-- what was told, and the answer's cause; where the text is accepted, no finite interpretation satisfies the problem's clauses. Want of
-- memory is free
abbrev pub IsChecked : Holds → Option (List ℕ × List ℕ) → Told → Told → CheckAnswer → Type 0
IsChecked holds words before now (Accepted lines) =
    (j : IsJudged holds words before now (verdict.Accepted lines)) × HaveNoModel (input_clauses j.problem.inputs)
IsChecked holds words before now (Refused line w) = IsJudged holds words before now (verdict.Refused line w)
IsChecked holds words before now Usage = (words ≡ None) × Gives before now []
IsChecked holds words before now (Problem w) = HasFault holds words before now w ⊎ IsLong holds words before now w
IsChecked holds words before now (LibraryFault path) = IsUnread holds words before now path
IsChecked holds words before now SinkFault = ⊥
IsChecked holds words before now Memory = ⊤

-- at most 4,194,305 bytes of the problem's files were told, and then at most 67,108,865 of the derivation
pub record FetchesFew (before now : Told) : Type 0 where
  pub files : List File
  pub derivations : List File
  pub told : Gives before now (files ++ derivations)
  pub few : total files ≤ 4194305
  pub few_more : total derivations ≤ 67108865

-- a verdict; or the problem has a fault or the derivation is too long; or memory ran out
abbrev pub IsSettled : CheckAnswer → Type 0
IsSettled (Accepted lines) = ⊤
IsSettled (Refused line w) = ⊤
IsSettled Usage = ⊥
IsSettled (Problem w) = ⊤
IsSettled (LibraryFault path) = ⊥
IsSettled SinkFault = ⊥
IsSettled Memory = ⊤

-- ---- parts of the call

-- the answer to a fault of reading the problem
abbrev pub IsAnswerOf : ReadFault → CheckAnswer → Type 0
IsAnswerOf (faults.Library path) made = made ≡ LibraryFault path
IsAnswerOf (faults.Wrong w) made = made ≡ Problem w
IsAnswerOf faults.Memory made = ⊥

-- the answer to a derivation's text
abbrev pub IsTextAnswer : ProblemValue → List ℕ → List ℕ → CheckAnswer → Type 0
IsTextAnswer p derivation text (Accepted lines) = (length text ≤ 67108864) × Judges p text (verdict.Accepted lines)
IsTextAnswer p derivation text (Refused line w) = (length text ≤ 67108864) × Judges p text (verdict.Refused line w)
IsTextAnswer p derivation text Usage = ⊥
IsTextAnswer p derivation text (Problem w) = (67108864 < length text) × (w ≡ record { what = Long; file = derivation; at = 0 })
IsTextAnswer p derivation text (LibraryFault path) = ⊥
IsTextAnswer p derivation text SinkFault = ⊥
IsTextAnswer p derivation text Memory = ⊥

-- what was told of the derivation: its bytes, the whole file where they are within the cap, and the file is past it where they aren't
pub record IsTold (all : Option (List ℕ)) (before now : Told) (derivation text : List ℕ) : Type 0 where
  pub told : Gives before now ((derivation, text) ∷ [])
  pub capped : length text ≤ 67108865
  pub whole : length text ≤ 67108864 → IsWholeFile all text
  pub past : 67108864 < length text → IsPastCap all

-- what came of the derivation behind a problem: its text was told and answered, or it couldn't be fetched
abbrev pub IsDerived : ProblemValue → List ℕ → Option (List ℕ) → Told → Told → CheckAnswer → Type 0
IsDerived p derivation all before now made =
    ((text : List ℕ) × IsTold all before now derivation text × IsTextAnswer p derivation text made) ⊎ ((made ≡ LibraryFault derivation) × Gives before now [])

-- ---- the sink

abbrev pub IsLibraryFault : CheckAnswer → Type 0
IsLibraryFault (Accepted lines) = ⊥
IsLibraryFault (Refused line w) = ⊥
IsLibraryFault Usage = ⊥
IsLibraryFault (Problem w) = ⊥
IsLibraryFault (LibraryFault path) = ⊤
IsLibraryFault SinkFault = ⊥
IsLibraryFault Memory = ⊥

-- the sink took the whole text, with its fault a front of it, and with want of memory nothing
abbrev pub Takes : CheckAnswer → Option (List ℕ) → Option (List ℕ) → CheckAnswer → Type 0
Takes SinkFault before now made = AppendsFront before now (answer_text made)
Takes Memory before now made = before ≡ now
Takes (Accepted lines) before now made = Appends before now (answer_text made)
Takes (Refused line w) before now made = Appends before now (answer_text made)
Takes Usage before now made = Appends before now (answer_text made)
Takes (Problem w) before now made = Appends before now (answer_text made)
Takes (LibraryFault path) before now made = Appends before now (answer_text made)

-- the answer is the one before the first write, or that the sink failed
abbrev pub IsAnswerTo : CheckAnswer → CheckAnswer → Type 0
IsAnswerTo made answer = (answer ≡ made) ⊎ ((answer ≡ SinkFault) × ((made ≡ Memory) → ⊥))
