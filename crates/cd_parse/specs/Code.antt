-- What the code holds, as the state of the machine.
-- Beyond the headline: no clause of `prove` reaches this file.
use Rattle.std.specs.Prelude.{◌≡◌, ◌≤◌, ◌+◌, [], length, Option, None, Some, Result, Ok, Err}
use Rattle.cd_parse.specs.declared.machine.Mode.{Mode}
use Rattle.cd_parse.specs.declared.machine.Held.{Held}
use Rattle.cd_parse.specs.declared.machine.StepFault.{StepFault}
use Rattle.cd_parse.specs.declared.machine.StepFault.TheVariants.{Wrong, Memory}
use Rattle.cd_parse.specs.declared.statement.Statement.{Statement}
use Rattle.cd_parse.specs.declared.statement.Statement.TheVariants.{Clause, Include}
use Rattle.cd_parse.specs.declared.statement.Stage as declared
use Rattle.cd_parse.specs.declared.statement.Stage.TheVariants as code
use Rattle.cd_parse.specs.Steps.{Machine, Step, inside, ended, fault}
use Rattle.cd_parse.specs.Stages.{Advance, to, wrong, Stage, Begin, ClauseOpen, ClauseLabel, BehindLabel, ClauseRole, BehindRole, Formula, Notes, WantDot, Done, IncludeOpen, Path, BehindPath, ListOpen, ListLabel, BehindItem, ListClosed}

abbrev pub state_of : Mode → Held → Machine
state_of k h = record { mode = k; groups = h.groups; frames = h.frames; sign = h.sign; left = h.left; room = h.room; out = h.out }

-- what a step of the code answers
abbrev pub Turns : Held → Result (Option Mode) StepFault → Step → Type 0
Turns h (Ok (Some k)) s = s ≡ inside (state_of k h)
Turns h (Ok None) s = s ≡ ended h.out
Turns h (Err (Wrong w)) s = s ≡ fault w
Turns h (Err Memory) s = Unit {0}

-- no more is open than may be
abbrev pub HasRoom : Held → Type 0
HasRoom h = h.room + (length h.groups + length h.frames) ≤ 1000

abbrev pub stage_of : declared.Stage → Stage
stage_of code.Begin = Begin
stage_of code.ClauseOpen = ClauseOpen
stage_of code.ClauseLabel = ClauseLabel
stage_of (code.BehindLabel l) = BehindLabel l
stage_of (code.ClauseRole l) = ClauseRole l
stage_of (code.BehindRole l r) = BehindRole l r
stage_of (code.Formula l r k h) = Formula l r (state_of k h)
stage_of (code.Notes s bs some) = Notes s bs some
stage_of (code.WantDot s) = WantDot s
stage_of (code.Done s) = Done s
stage_of code.IncludeOpen = IncludeOpen
stage_of code.Path = Path
stage_of (code.BehindPath p) = BehindPath p
stage_of (code.ListOpen p) = ListOpen p
stage_of (code.ListLabel p ls) = ListLabel p ls
stage_of (code.BehindItem p ls) = BehindItem p ls
stage_of (code.ListClosed p ls) = ListClosed p ls

abbrev pub StageFits : declared.Stage → Type 0
StageFits (code.Formula l r k h) = HasRoom h
StageFits st = Unit {0}

abbrev pub Advances : Result declared.Stage StepFault → Advance → Type 0
Advances (Ok st) a = a ≡ to (stage_of st)
Advances (Err (Wrong w)) a = a ≡ wrong w
Advances (Err Memory) a = Unit {0}

-- the same where the stage is left behind
abbrev pub AdvancesTo : declared.Stage → Result Unit StepFault → Advance → Type 0
AdvancesTo st (Ok u) a = a ≡ to (stage_of st)
AdvancesTo st (Err (Wrong w)) a = a ≡ wrong w
AdvancesTo st (Err Memory) a = Unit {0}

abbrev pub IsFormula : declared.Stage → Type 0
IsFormula (code.Formula l r k h) = Unit {0}
IsFormula st = ⊥

-- the clause of a formula that ends
abbrev pub statement_in : declared.Stage → Statement
statement_in (code.Formula l r k h) = Clause l r h.out
statement_in st = Include [] None
