-- What one step of reading, and reading a file, come to.
-- Beyond the headline: no clause of `prove` reaches this file.
use Rattle.std.specs.Prelude.{◌≡◌, ◌⊎◌, ◌<◌, ◌≤◌, ◌+◌, ◌*◌, ◌++◌, ◌∷◌, [], ℕ, List, Option, Some, None, Result, Ok, Err, length, slice_get, drop, map}
use Rattle.cd_clause.specs.declared.Clause.{Clause as LogicClause}
use Rattle.cd_outside.specs.Outside.{Gives}
use Rattle.cd_lex.specs.Bytes.{Bytes}
use Rattle.cd_parse.specs.declared.tree.TreeLiteral.{TreeLiteral}
use Rattle.cd_parse.specs.declared.label.Label.{Label}
use Rattle.cd_parse.specs.declared.label.Role.{Role}
use Rattle.cd_parse.specs.declared.label.What.{What}
use Rattle.cd_parse.specs.declared.label.What.TheVariants as what
use Rattle.cd_parse.specs.declared.part.Progress.{Progress}
use Rattle.cd_parse.specs.declared.part.PartFault.{PartFault}
use Rattle.cd_parse.specs.declared.part.PartFault.TheVariants as part_failure
use Rattle.cd_parse.specs.declared.statement.Statement.TheVariants.{Include}
use Rattle.cd_parse.specs.declared.statement.Stage.TheVariants as stage
use Rattle.cd_read.specs.Meaning.{GivesClause}
use Rattle.cd_parse.specs.Parts.{Placed, statement, over, IsPart}
use Rattle.cd_read.specs.Files.{File, SoFar, Outcome, read, wrong, needs, Inside, opens, included, Adds, IsTooLarge, ReadsFile, ReadsFrom, AllOccur, IsMissing, since, wrong_at}
use Rattle.cd_read.specs.Overflow.{ClauseOverflows}
use Rattle.cd_read.specs.declared.numbering.PassFault.{PassFault}
use Rattle.cd_read.specs.declared.numbering.PassFault.TheVariants as pass
use Rattle.cd_read.specs.Fetched.{Told, Holds, IsWholeFile, IsLongFile, total, AreWhole, GaveWhole, GaveWrong}
use Rattle.cd_read.specs.declared.state.State.{State}
use Rattle.cd_read.specs.declared.state.Next.{Next}
use Rattle.cd_read.specs.declared.state.Next.TheVariants as next
use Rattle.cd_read.specs.declared.reader.ReadFault.{ReadFault}
use Rattle.cd_read.specs.declared.reader.ReadFault.TheVariants as failure

-- the state, with the files that are still to be fetched
abbrev pub so_far : State → List File → SoFar
so_far s left = record { left = left; used = s.used; symbols = s.symbols; inputs = s.inputs; labels = s.seen }

-- a fault, or want of memory for its path
abbrev pub IsWrongAt : What → List ℕ → ℕ → ReadFault → Type 0
IsWrongAt w path at (failure.Wrong x) = x ≡ wrong_at w path at
IsWrongAt w path at (failure.Library p) = ⊥
IsWrongAt w path at failure.Memory = Unit {0}

abbrev pub IsPartFault : PartFault → List ℕ → ReadFault → Type 0
IsPartFault (part_failure.Wrong w at) path f = IsWrongAt w path at f
IsPartFault part_failure.Memory path f = f ≡ failure.Memory

abbrev pub Fetched : List ℕ → Option Bytes → State → State → Told → Told → Result Bytes ReadFault → Type 0
Fetched path all s s' before now (Ok bytes) = Gives before now ((path, bytes) ∷ []) × (s.used + length bytes ≤ 4194304)
    × (s' ≡ record s { used = s.used + length bytes }) × IsWholeFile all bytes
Fetched path all s s' before now (Err (failure.Library p)) = (p ≡ path) × Gives before now []
Fetched path all s s' before now (Err (failure.Wrong w)) = (w ≡ wrong_at what.Long path 0)
    × ((bytes : Bytes) × Gives before now ((path, bytes) ∷ []) × (4194304 < s.used + length bytes)) × IsLongFile s.used all
Fetched path all s s' before now (Err failure.Memory) = Unit {0}

-- an input more, or a symbol too many
abbrev pub CameInput : List ℕ → Label → Role → List TreeLiteral → State → State → Result Unit PassFault → Type 0
CameInput path l r ls s s' (Ok u) = (c : LogicClause) × GivesClause s.symbols ls c s'.symbols × (length s'.symbols ≤ 65535)
    × (s' ≡ record s { symbols = s'.symbols; inputs = s.inputs ++ record { label = l; role = r; file = path; clause = c } ∷ [] })
CameInput path l r ls s s' (Err pass.Full) = ClauseOverflows s.symbols ls
CameInput path l r ls s s' (Err pass.Memory) = Unit {0}

abbrev pub CameClause : Inside → Label → Role → List TreeLiteral → ℕ → State → State → Result Next ReadFault → Type 0
CameClause i l r ls place s s' (Ok n) =
    (n ≡ next.Clause) × (s'.used ≡ s.used) × ((left : List File) → Adds i l r ls (so_far s left) (so_far s' left))
CameClause i l r ls place s s' (Err (failure.Wrong w)) =
    (w ≡ wrong_at what.TooLarge i.path place) × ((left : List File) → IsTooLarge i l ls (so_far s left))
CameClause i l r ls place s s' (Err (failure.Library p)) = ⊥
CameClause i l r ls place s s' (Err failure.Memory) = Unit {0}

-- a step over the bytes
abbrev pub Ahead : Bytes → ℕ → Progress → Type 0
Ahead bytes at q = (at < q.at) × (q.at ≤ length bytes) × (q.stage ≡ stage.Begin)

-- there is a token for each listed label
abbrev pub HasPlaces : Option (List Label) → List ℕ → Type 0
HasPlaces None starts = Unit {0}
HasPlaces (Some ls) starts = (k : ℕ) → k < length ls → 5 + 2 * k < length starts

-- what the rest of the file comes to, all from the place on comes to
abbrev pub Extends : Inside → Bytes → ℕ → State → ℕ → State → Type 0
Extends i bytes at s to s' =
    (left : List File) (o : Outcome) → ReadsFrom i bytes to (so_far s' left) o → ReadsFrom i bytes at (so_far s left) o

unfoldable pub Nexts : Inside → Bytes → ℕ → Progress → State → State → Result Next ReadFault → Type 0
Nexts i bytes at q s s' (Ok next.Over) = (s' ≡ s) × IsPart (opens i) bytes at over
Nexts i bytes at q s s' (Ok next.Clause) = (s'.used ≡ s.used) × Ahead bytes at q × Extends i bytes at s q.at s'
Nexts i bytes at q s s' (Ok (next.Include p only)) = (s' ≡ s) × Ahead bytes at q × HasPlaces only q.starts × (length (opens i) < 16)
    × ((ps : List Placed) × (q.starts ≡ map (λ x. x.start) ps) × IsPart (opens i) bytes at (statement (Include p only) ps q.at))
Nexts i bytes at q s s' (Err (failure.Wrong w)) = (left : List File) → ReadsFrom i bytes at (so_far s left) (wrong w left)
Nexts i bytes at q s s' (Err (failure.Library p)) = ⊥
Nexts i bytes at q s s' (Err failure.Memory) = Unit {0}

-- the first that doesn't occur
abbrev pub IsFirstMissing : List Label → List Label → Option ℕ → Type 0
IsFirstMissing ls since None = AllOccur (Some ls) since
IsFirstMissing ls since (Some k) = IsMissing ls since k

abbrev pub Listed : Option (List Label) → List Label → List ℕ → List ℕ → Result Unit ReadFault → Type 0
Listed only since starts path (Ok u) = AllOccur only since
Listed only since starts path (Err (failure.Wrong w)) = (ls : List Label) × (k place : ℕ) × (only ≡ Some ls) × IsMissing ls since k
    × (slice_get starts (5 + 2 * k) ≡ Some place) × (w ≡ wrong_at what.Selected path place)
Listed only since starts path (Err (failure.Library p)) = ⊥
Listed only since starts path (Err failure.Memory) = Unit {0}

-- and they are what was used
pub record Took (holds : Holds) (used used' : ℕ) (before now : Told) (files : List File) : Type 0 where
  pub told : Gives before now files
  pub whole : AreWhole holds files
  pub sums : used' ≡ used + total files

-- the files that were told have the bytes that were used; where reading stopped, no more than one past the most
abbrev pub Spends : {T : Type 0} → ℕ → ℕ → Told → Told → Result T ReadFault → Type 0
Spends used used' before now (Ok x) = (files : List File) × Gives before now files × (used' ≡ used + total files)
Spends used used' before now (Err f) = (files : List File) × Gives before now files × (used + total files ≤ 4194305)

-- ---- a file; the files are those that were told, and `left` any that follow

unfoldable pub CameFile : Inside → Holds → State → State → Told → Told → Result Unit ReadFault → Type 0
CameFile i holds s s' before now (Ok u) = (files : List File) × Took holds s.used s'.used before now files
    × ((left : List File) → ReadsFile i (so_far s (files ++ left)) (read (so_far s' left)))
CameFile i holds s s' before now (Err (failure.Wrong w)) = (files : List File) × GaveWrong holds s.used before now w files
    × ((left : List File) → ReadsFile i (so_far s (files ++ left)) (wrong w left))
CameFile i holds s s' before now (Err (failure.Library p)) =
    (files : List File) × GaveWhole holds before now files × ReadsFile i (so_far s files) (needs p)
CameFile i holds s s' before now (Err failure.Memory) = Unit {0}

unfoldable pub CameFrom : Inside → Holds → Bytes → ℕ → State → State → Told → Told → Result Unit ReadFault → Type 0
CameFrom i holds bytes at s s' before now (Ok u) = (files : List File) × Took holds s.used s'.used before now files
    × ((left : List File) → ReadsFrom i bytes at (so_far s (files ++ left)) (read (so_far s' left)))
CameFrom i holds bytes at s s' before now (Err (failure.Wrong w)) = (files : List File) × GaveWrong holds s.used before now w files
    × ((left : List File) → ReadsFrom i bytes at (so_far s (files ++ left)) (wrong w left))
CameFrom i holds bytes at s s' before now (Err (failure.Library p)) =
    (files : List File) × GaveWhole holds before now files × ReadsFrom i bytes at (so_far s files) (needs p)
CameFrom i holds bytes at s s' before now (Err failure.Memory) = Unit {0}

-- the included file was read and each listed label occurs; or one is missing; or the file stopped
unfoldable pub CameInclude : Inside → Holds → List ℕ → Option (List Label) → List ℕ → State → State → Told → Told → Result Unit ReadFault
    → Type 0
CameInclude i holds p only starts s s' before now (Ok u) = (files : List File) × Took holds s.used s'.used before now files
    × ((left : List File) → ReadsFile (included i p only) (so_far s (files ++ left)) (read (so_far s' left))) × AllOccur only
    (drop (length s.seen) s'.seen)
CameInclude i holds p only starts s s' before now (Err (failure.Wrong w)) = (files : List File) × GaveWrong holds s.used before now w files
    × (((left : List File) → ReadsFile (included i p only) (so_far s (files ++ left)) (wrong w left))
    ⊎ (((left : List File) → ReadsFile (included i p only) (so_far s (files ++ left)) (read (so_far s' left)))
    × Listed only (drop (length s.seen) s'.seen) starts i.path (Err (failure.Wrong w))))
CameInclude i holds p only starts s s' before now (Err (failure.Library q)) = (files : List File) × GaveWhole holds before now files
    × ReadsFile (included i p only) (so_far s files) (needs q)
CameInclude i holds p only starts s s' before now (Err failure.Memory) = Unit {0}
