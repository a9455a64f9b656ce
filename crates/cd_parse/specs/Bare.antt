-- States without their texts and trees, and how many words were read.
--
-- While a clause may be within bounds the reader keeps its trees. Once it has too many words, what the reader
-- keeps differs from the state of the machine in texts and trees, on which nothing that is read depends.
-- Beyond the headline: no clause of `prove` reaches this file.
use Rattle.std.specs.Prelude.{◌+◌, [], ◌∷◌, ℕ, List, Option, None, Some, sum_by}
use Rattle.cd_parse.specs.declared.terminal.Terminal.{Terminal}
use Rattle.cd_parse.specs.declared.terminal.Terminal.TheVariants.{Word, Upper}
use Rattle.cd_parse.specs.declared.tree.Tree.{Tree}
use Rattle.cd_parse.specs.declared.tree.Tree.TheVariants.{Var}
use Rattle.cd_parse.specs.declared.machine.Mode.{Mode}
use Rattle.cd_parse.specs.declared.machine.Mode.TheVariants.{WantLiteral, WantNegated, WantTerm, AfterWord, AfterVar, AfterApp, AfterLiteral}
use Rattle.cd_parse.specs.declared.machine.Frame.{Frame}
use Rattle.cd_parse.specs.declared.statement.Statement.{Statement}
use Rattle.cd_parse.specs.declared.statement.Statement.TheVariants.{Clause, Include}
use Rattle.cd_parse.specs.Trees.{size_of, literals_size}
use Rattle.cd_parse.specs.Steps.{Machine}
use Rattle.cd_parse.specs.Stages.{Stage, Formula, Notes, WantDot, Done}

-- ---- without texts and trees

abbrev pub bare_mode : Mode → Mode
bare_mode (AfterWord w) = AfterWord []
bare_mode (AfterVar x) = AfterVar []
bare_mode (AfterApp w args) = AfterApp [] []
bare_mode WantLiteral = WantLiteral
bare_mode (WantNegated s) = WantNegated s
bare_mode WantTerm = WantTerm
bare_mode AfterLiteral = AfterLiteral

abbrev pub bare_frames : List Frame → List Frame
bare_frames [] = []
bare_frames (f ∷ fs) = record { word = []; done = [] } ∷ bare_frames fs

abbrev pub bare_left : Option Tree → Option Tree
bare_left None = None
bare_left (Some t) = Some (Var [])

abbrev pub bare : Machine → Machine
bare m = record m { mode = bare_mode m.mode; frames = bare_frames m.frames; left = bare_left m.left; out = [] }

abbrev pub bare_statement : Statement → Statement
bare_statement (Clause l r ls) = Clause l r []
bare_statement (Include p only) = Include p only

abbrev pub bare_stage : Stage → Stage
bare_stage (Formula l r m) = Formula l r (bare m)
bare_stage (Notes s bs some) = Notes (bare_statement s) bs some
bare_stage (WantDot s) = WantDot (bare_statement s)
bare_stage (Done s) = Done (bare_statement s)
bare_stage st = st

-- ---- words

abbrev pub frames_size : List Frame → ℕ
frames_size fs = sum_by (λ f. 1 + sum_by size_of f.done) fs

abbrev pub left_size : Option Tree → ℕ
left_size None = 0
left_size (Some t) = size_of t

-- what of an atom was read
abbrev pub atom_read : Mode → Machine → ℕ
atom_read WantLiteral m = 0
atom_read (WantNegated s) m = 0
atom_read AfterLiteral m = 0
atom_read WantTerm m = frames_size m.frames + left_size m.left
atom_read (AfterWord w) m = 1 + (frames_size m.frames + left_size m.left)
atom_read (AfterVar x) m = 1 + (frames_size m.frames + left_size m.left)
atom_read (AfterApp w args) m = 1 + (sum_by size_of args + (frames_size m.frames + left_size m.left))

abbrev pub words_read : Machine → ℕ
words_read m = literals_size m.out + atom_read m.mode m

abbrev pub statement_size : Statement → ℕ
statement_size (Clause l r ls) = literals_size ls
statement_size (Include p only) = 0

abbrev pub stage_size : Stage → ℕ
stage_size (Formula l r m) = words_read m
stage_size (Notes s bs some) = statement_size s
stage_size (WantDot s) = statement_size s
stage_size (Done s) = statement_size s
stage_size st = 0

-- a word of a formula counts
abbrev pub word_count : Terminal → ℕ
word_count (Word q w) = 1
word_count (Upper x) = 1
word_count t = 0

abbrev pub counted : Stage → Terminal → ℕ
counted (Formula l r m) t = word_count t
counted st t = 0
