-- Reading a file and the files that it includes.
use Rattle.std.specs.Prelude.{◌≡◌, ◌⊎◌, ◌<◌, ◌≤◌, ◌+◌, ◌*◌, ◌++◌, ◌∷◌, [], ℕ, List, Option, None, Some, length, slice_get, drop, Contains, Result, Ok, Err}
use Rattle.std.specs.List.{AllByRecursion}
use Rattle.cd_clause.specs.declared.Clause.{Clause as LogicClause}
use Rattle.cd_symbols.specs.Symbol.{Symbol}
use Rattle.cd_lex.specs.Bytes.{Bytes}
use Rattle.cd_parse.specs.declared.tree.TreeLiteral.{TreeLiteral}
use Rattle.cd_parse.specs.declared.label.Label.{Label}
use Rattle.cd_parse.specs.declared.label.Role.{Role}
use Rattle.cd_parse.specs.declared.label.What.{What}
use Rattle.cd_parse.specs.declared.label.What.TheVariants as what
use Rattle.cd_read.specs.declared.problem.Input.{Input}
use Rattle.cd_read.specs.declared.problem.Problem.{Problem}
use Rattle.cd_read.specs.declared.problem.Wrong.{Wrong}
use Rattle.cd_parse.specs.declared.statement.Statement.TheVariants.{Clause, Include}
use Rattle.cd_read.specs.Meaning.{GivesClause, AreWithin}
use Rattle.cd_parse.specs.Parts.{Opens, Placed, statement, over, broken, IsPart}

-- a file as it was fetched: its path and its bytes
abbrev pub File : Type 0
File = List ℕ × Bytes

-- what was read so far
pub record SoFar : Type 0 where
  -- the files that are still to be fetched, in the order of their fetches
  pub left : List File
  -- the bytes of those that were fetched
  pub used : ℕ
  pub symbols : List Symbol
  pub inputs : List Input
  -- the labels of all clauses that were read, chosen or not
  pub labels : List Label

-- what reading comes to: all was read; or a fault; or a file that is needed next and was not fetched
pub data Outcome : Type 0 where
  read : SoFar → Outcome
  wrong : Wrong → List File → Outcome
  needs : List ℕ → Outcome

-- where one reads: the file, the open files around it, the innermost last, and the lists of the labels that are wanted
pub record Inside : Type 0 where
  pub path : List ℕ
  pub around : Opens
  pub lists : List (List Label)

abbrev pub opens : Inside → Opens
opens i = i.around ++ i.path ∷ []

-- a label is wanted by each list around it
abbrev pub IsChosen : Inside → Label → Type 0
IsChosen i l = AllByRecursion (λ ls. Contains ls l) i.lists

-- with the list of an include, if it has one
abbrev pub with_list : Option (List Label) → List (List Label) → List (List Label)
with_list None lists = lists
with_list (Some ls) lists = ls ∷ lists

abbrev pub included : Inside → List ℕ → Option (List Label) → Inside
included i p only = record { path = p; around = opens i; lists = with_list only i.lists }

-- what a clause adds
abbrev pub Adds : Inside → Label → Role → List TreeLiteral → SoFar → SoFar → Type 0
Adds i l r ls s s' = AreWithin ls
    × ((IsChosen i l × ((c : LogicClause) × (symbols : List Symbol) × GivesClause s.symbols ls c symbols × (length symbols ≤ 65535)
    × (s' ≡ record s { symbols = symbols; inputs = s.inputs ++ record { label = l; role = r; file = i.path; clause = c } ∷ []; labels = s.labels ++ l ∷ [] })))
    ⊎ (¬ IsChosen i l × (s' ≡ record s { labels = s.labels ++ l ∷ [] })))

-- a clause out of bounds, or one with whose symbols there are too many
abbrev pub IsTooLarge : Inside → Label → List TreeLiteral → SoFar → Type 0
IsTooLarge i l ls s =
    ¬ AreWithin ls ⊎ (IsChosen i l × ((c : LogicClause) × (symbols : List Symbol) × GivesClause s.symbols ls c symbols × (65535 < length symbols)))

-- the place of the statement's token number k
abbrev pub IsStart : List Placed → ℕ → ℕ → Type 0
IsStart ps k at = (p : Placed) × (slice_get ps k ≡ Some p) × (p.start ≡ at)

-- the label number k of the list is the first that none of the clauses has that were read since
abbrev pub IsMissing : List Label → List Label → ℕ → Type 0
IsMissing ls since k =
    ((l : Label) × (slice_get ls k ≡ Some l) × ¬ Contains since l) × ((j : ℕ) (m : Label) → j < k → slice_get ls j ≡ Some m → Contains since m)

abbrev pub AllOccur : Option (List Label) → List Label → Type 0
AllOccur None since = Unit {0}
AllOccur (Some ls) since = AllByRecursion (λ l. Contains since l) ls

-- the labels that were read since
abbrev pub since : SoFar → SoFar → List Label
since s s' = drop (length s.labels) s'.labels

abbrev pub wrong_at : What → List ℕ → ℕ → Wrong
wrong_at w path at = record { what = w; file = path; at = at }

-- reading didn't go on
abbrev pub IsStopped : Outcome → Type 0
IsStopped (read s) = ⊥
IsStopped (wrong w left) = Unit {0}
IsStopped (needs p) = Unit {0}

mutual
  -- a file is fetched and read
  pub data ReadsFile : Inside → SoFar → Outcome → Type 0 where
    unfetched : (i : Inside) (s : SoFar) → s.left ≡ [] → ReadsFile i s (needs i.path)
    long : (i : Inside) (s : SoFar) (bytes : Bytes) (left : List File) → s.left ≡ (i.path, bytes) ∷ left → 4194304 < s.used + length bytes
        → ReadsFile i s (wrong (wrong_at what.Long i.path 0) left)
    file : (i : Inside) (s : SoFar) (bytes : Bytes) (left : List File) (o : Outcome) → s.left ≡ (i.path, bytes) ∷ left
        → s.used + length bytes ≤ 4194304
        → ReadsFrom i bytes 0 (record s { left = left; used = s.used + length bytes }) o → ReadsFile i s o

  -- the statements of a file from a place on
  pub data ReadsFrom : Inside → Bytes → ℕ → SoFar → Outcome → Type 0 where
    ends : (i : Inside) (bytes : Bytes) (at : ℕ) (s : SoFar) → IsPart (opens i) bytes at over → ReadsFrom i bytes at s (read s)
    breaks : (i : Inside) (bytes : Bytes) (at : ℕ) (s : SoFar) (w : What) (place : ℕ) → IsPart (opens i) bytes at (broken w place)
        → ReadsFrom i bytes at s (wrong (wrong_at w i.path place) s.left)
    clause : (i : Inside) (bytes : Bytes) (at to : ℕ) (s s' : SoFar) (o : Outcome) (ps : List Placed) (l : Label) (r : Role) (ls : List TreeLiteral)
        → IsPart (opens i) bytes at (statement (Clause l r ls) ps to) → Adds i l r ls s s' → ReadsFrom i bytes to s' o
        → ReadsFrom i bytes at s o
    too_large : (i : Inside) (bytes : Bytes) (at to : ℕ) (s : SoFar) (ps : List Placed) (l : Label) (r : Role) (ls : List TreeLiteral) (place : ℕ)
        → IsPart (opens i) bytes at (statement (Clause l r ls) ps to) → IsTooLarge i l ls s → IsStart ps 0 place
        → ReadsFrom i bytes at s (wrong (wrong_at what.TooLarge i.path place) s.left)
    includes : (i : Inside) (bytes : Bytes) (at to : ℕ) (s s' : SoFar) (o : Outcome) (ps : List Placed) (p : List ℕ) (only : Option (List Label))
        → IsPart (opens i) bytes at (statement (Include p only) ps to) → ReadsFile (included i p only) s (read s')
        → AllOccur only (since s s')
        → ReadsFrom i bytes to s' o → ReadsFrom i bytes at s o
    stops : (i : Inside) (bytes : Bytes) (at to : ℕ) (s : SoFar) (o : Outcome) (ps : List Placed) (p : List ℕ) (only : Option (List Label))
        → IsPart (opens i) bytes at (statement (Include p only) ps to) → ReadsFile (included i p only) s o → IsStopped o
        → ReadsFrom i bytes at s o
    misses : (i : Inside) (bytes : Bytes) (at to : ℕ) (s s' : SoFar) (ps : List Placed) (p : List ℕ) (ls : List Label) (k place : ℕ)
        → IsPart (opens i) bytes at (statement (Include p (Some ls)) ps to) → ReadsFile (included i p (Some ls)) s (read s')
        → IsMissing ls (since s s') k → IsStart ps (5 + 2 * k) place
        → ReadsFrom i bytes at s (wrong (wrong_at what.Selected i.path place) s'.left)

-- ---- the whole

abbrev pub start : List ℕ → Inside
start path = record { path = path; around = []; lists = [] }

abbrev pub nothing_read : List File → SoFar
nothing_read files = record { left = files; used = 0; symbols = []; inputs = []; labels = [] }

-- the files, one for each fetch, give this problem
pub record GivesProblem (files : List File) (path : List ℕ) (p : Problem) : Type 0 where
  pub labels : List Label
  pub used : ℕ
  pub reads : ReadsFile (start path) (nothing_read files) (read (record { left = []; used = used; symbols = p.symbols; inputs = p.inputs; labels = labels }))
  pub name : p.name ≡ path

-- they have this fault first
abbrev pub HasFault : List File → List ℕ → Wrong → Type 0
HasFault files path w = ReadsFile (start path) (nothing_read files) (wrong w [])

-- they are well so far, and this file is needed next
abbrev pub NeedsNext : List File → List ℕ → List ℕ → Type 0
NeedsNext files path p = ReadsFile (start path) (nothing_read files) (needs p)

-- what the files come to, read from this path on: a problem, or the first fault
abbrev pub Reads : List File → List ℕ → Result Problem Wrong → Type 0
Reads files path (Ok p) = GivesProblem files path p
Reads files path (Err w) = HasFault files path w
