-- What the code reads from a place on.
-- Beyond the headline: no clause of `prove` reaches this file.
use Rattle.std.specs.Prelude.{◌≡◌, ◌≢◌, ◌⊎◌, ◌<◌, ◌≤◌, ◌+◌, ◌++◌, ◌∷◌, [], ℕ, List, length, map, Result, Ok, Err}
use Rattle.cd_lex.specs.Bytes.{Bytes}
use Rattle.cd_parse.specs.declared.terminal.Terminal.{Terminal}
use Rattle.cd_parse.specs.declared.part.Progress.{Progress}
use Rattle.cd_parse.specs.declared.part.Found.{Found}
use Rattle.cd_parse.specs.declared.part.Found.TheVariants as found
use Rattle.cd_parse.specs.declared.label.What.TheVariants as what
use Rattle.cd_parse.specs.declared.part.PartFault.{PartFault}
use Rattle.cd_parse.specs.declared.part.PartFault.TheVariants as failure
use Rattle.cd_parse.specs.Stages.{Stage, Begin, Done, BehindPath, to, wrong, advance, walk}
use Rattle.cd_parse.specs.Parts.{Opens, Placed, terminals, Tokens, statement, over, broken, IsPart, PathMay, MayInclude, IsWrongPath}
use Rattle.cd_parse.specs.declared.statement.Stage.TheVariants as stage
use Rattle.cd_parse.specs.declared.label.Label.{Label}
use Rattle.cd_parse.specs.declared.label.Role.{Role}
use Rattle.cd_parse.specs.declared.tree.TreeLiteral.{TreeLiteral}
use Rattle.cd_parse.specs.declared.statement.Statement.{Statement}
use Rattle.cd_parse.specs.declared.statement.Statement.TheVariants.{Clause}
use Rattle.cd_parse.specs.Trees.{literals_size}
use Rattle.cd_parse.specs.Bare.{bare_stage, stage_size, counted}
use Rattle.cd_parse.specs.Code.{stage_of, StageFits}

-- the tokens of a statement that isn't over: the machine is in some stage behind them, and the reader in the same, but for texts and
-- trees where there are too many words
pub record Begun (opens : Opens) (bytes : Bytes) (from : ℕ) (starts : List ℕ) (held : Stage) (words at : ℕ) : Type 0 where
  pub tokens : List Placed
  pub are : Tokens bytes from tokens at
  pub places : starts ≡ map (λ p. p.start) tokens
  pub may : PathMay opens (terminals tokens)
  pub reached : Stage
  pub walks : walk 1000 Begin (terminals tokens) ≡ to reached
  pub bare : bare_stage reached ≡ bare_stage held
  pub exact : words ≤ 65535 → reached ≡ held
  pub many : words ≤ stage_size reached

-- a word is counted; past the most, texts and trees may be let go
pub record Counts (words words' : ℕ) (held held' : Stage) (t : Terminal) : Type 0 where
  pub later : words ≤ words'
  pub few : words' ≤ words + counted held t
  pub bare : bare_stage held' ≡ bare_stage held
  pub exact : words' ≤ 65535 → held' ≡ held

-- a path that was just read may be included
abbrev pub Passes : Opens → Stage → Type 0
Passes opens (BehindPath p) = MayInclude opens p
Passes opens st = Unit {0}

-- a statement that isn't over
abbrev pub IsOpen : Stage → Type 0
IsOpen (Done s) = ⊥
IsOpen st = Unit {0}

-- one token, and the test of a path
abbrev pub Takes : Opens → Stage → Terminal → ℕ → Stage → Result Unit PartFault → Type 0
Takes opens st t start next (Ok u) = (advance 1000 st t ≡ to next) × Passes opens next
Takes opens st t start next (Err (failure.Wrong w at)) = (at ≡ start)
    × ((advance 1000 st t ≡ wrong w) ⊎ ((p : List ℕ) × (advance 1000 st t ≡ to (BehindPath p)) × IsWrongPath opens p w))
Takes opens st t start next (Err failure.Memory) = Unit {0}

-- a statement that isn't over stays; one that is over is taken, or let go where it has too many words
abbrev pub Ends : Progress → Progress → Found → Type 0
Ends p q found.More = (q ≡ p) × IsOpen (stage_of p.stage)
Ends p q (found.Statement s) = (q ≡ record p { stage = stage.Begin }) × (stage_of p.stage ≡ Done s) × (p.words ≤ 65535)
Ends p q found.Oversized = (q ≡ record p { stage = stage.Begin }) × ((s : Statement) × (stage_of p.stage ≡ Done s)) × (65535 < p.words)
Ends p q found.Over = ⊥

-- the token at `start`, which ends at `end`, was read
abbrev pub IsBehind : Progress → Progress → ℕ → ℕ → Type 0
IsBehind p q start end = (q.starts ≡ p.starts ++ start ∷ []) × (q.at ≡ end) × (q.from ≡ p.from)

-- a token behind a statement's front
abbrev pub TakesToken : Opens → Progress → Progress → Terminal → ℕ → ℕ → Result Found PartFault → Type 0
TakesToken opens p q t start end (Ok found.More) = (st : Stage) × Counts p.words q.words (stage_of p.stage) st t × IsBehind p q start end
    × IsOpen (stage_of q.stage) × StageFits q.stage × (advance 1000 st t ≡ to (stage_of q.stage)) × Passes opens (stage_of q.stage)
TakesToken opens p q t start end (Ok (found.Statement s)) =
    (st : Stage) × Counts p.words q.words (stage_of p.stage) st t × IsBehind p q start end
    × (q.stage ≡ stage.Begin) × (advance 1000 st t ≡ to (Done s)) × (q.words ≤ 65535)
TakesToken opens p q t start end (Ok found.Oversized) =
    (st : Stage) × Counts p.words q.words (stage_of p.stage) st t × IsBehind p q start end
    × (q.stage ≡ stage.Begin) × ((s : Statement) × (advance 1000 st t ≡ to (Done s))) × (65535 < q.words)
TakesToken opens p q t start end (Ok found.Over) = ⊥
TakesToken opens p q t start end (Err (failure.Wrong w at)) = (st : Stage) × Counts p.words q.words (stage_of p.stage) st t
    × Takes opens st t start st (Err (failure.Wrong w at))
TakesToken opens p q t start end (Err failure.Memory) = Unit {0}

abbrev pub EndsWith : List ℕ → ℕ → Result Found PartFault → Type 0
EndsWith starts n (Ok found.More) = ⊥
EndsWith starts n (Ok (found.Statement s)) = ⊥
EndsWith starts n (Ok found.Oversized) = ⊥
EndsWith starts n (Ok found.Over) = starts ≡ []
EndsWith starts n (Err (failure.Wrong w at)) = (starts ≢ []) × (w ≡ what.Syntax) × (at ≡ n)
EndsWith starts n (Err failure.Memory) = Unit {0}

-- a statement up to a place, where the next one may begin
abbrev pub IsWhole : Opens → Bytes → ℕ → Progress → Statement → Type 0
IsWhole opens bytes from q s = (q.at ≤ length bytes) × (q.stage ≡ stage.Begin)
    × ((ps : List Placed) × (q.starts ≡ map (λ x. x.start) ps) × IsPart opens bytes from (statement s ps q.at))

-- a clause with more words than a clause may have
abbrev pub IsOversized : Opens → Bytes → ℕ → Progress → Type 0
IsOversized opens bytes from q =
    (l : Label) × (r : Role) × (ls : List TreeLiteral) × IsWhole opens bytes from q (Clause l r ls) × (65535 < literals_size ls)

-- one turn: more of the statement, or what was read
unfoldable pub Goes : Opens → Bytes → Progress → Progress → Result Found PartFault → Type 0
Goes opens bytes p q (Ok found.More) =
    (p.at < q.at) × (q.at ≤ length bytes) × IsOpen (stage_of q.stage) × StageFits q.stage × (q.from ≡ p.from)
    × Begun opens bytes q.from q.starts (stage_of q.stage) q.words q.at
Goes opens bytes p q (Ok (found.Statement s)) = (p.at < q.at) × IsWhole opens bytes p.from q s
Goes opens bytes p q (Ok found.Oversized) = (p.at < q.at) × IsOversized opens bytes p.from q
Goes opens bytes p q (Ok found.Over) = IsPart opens bytes p.from over
Goes opens bytes p q (Err (failure.Wrong w at)) = IsPart opens bytes p.from (broken w at)
Goes opens bytes p q (Err failure.Memory) = Unit {0}

-- what is read from a place on; the tokens' places and the end are those of the progress
unfoldable pub IsRead : Opens → Bytes → ℕ → Progress → Result Found PartFault → Type 0
IsRead opens bytes from q (Ok found.More) = ⊥
IsRead opens bytes from q (Ok (found.Statement s)) = (from < q.at) × IsWhole opens bytes from q s
IsRead opens bytes from q (Ok found.Oversized) = (from < q.at) × IsOversized opens bytes from q
IsRead opens bytes from q (Ok found.Over) = IsPart opens bytes from over
IsRead opens bytes from q (Err (failure.Wrong w at)) = IsPart opens bytes from (broken w at)
IsRead opens bytes from q (Err failure.Memory) = Unit {0}
