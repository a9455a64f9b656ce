-- The machine that reads a statement.
-- Beyond the headline: no clause of `prove` reaches this file.
use Rattle.std.specs.Prelude.{◌++◌, ◌∷◌, ◌||◌, [], ℕ, Bool, true, false, List, Option, None, Some, codes, if◌then◌else◌}
use Rattle.std.specs.Str.{bytes_eq}
use Rattle.cd_parse.specs.declared.terminal.Terminal.{Terminal}
use Rattle.cd_parse.specs.declared.terminal.Terminal.TheVariants.{Word, Digits, Sign}
use Rattle.cd_parse.specs.declared.terminal.Sign.TheVariants.{Left, Right, OpenSquare, CloseSquare, Comma, Dot}
use Rattle.cd_parse.specs.declared.label.Label.{Label}
use Rattle.cd_parse.specs.declared.label.Label.TheVariants as label
use Rattle.cd_parse.specs.declared.label.Role.{Role}
use Rattle.cd_parse.specs.declared.label.Role.TheVariants as role
use Rattle.cd_parse.specs.declared.label.What.{What}
use Rattle.cd_parse.specs.declared.label.What.TheVariants as what
use Rattle.cd_parse.specs.declared.machine.Mode.TheVariants.{WantLiteral}
use Rattle.cd_parse.specs.declared.statement.Statement.{Statement}
use Rattle.cd_parse.specs.declared.statement.Statement.TheVariants.{Clause, Include}
use Rattle.cd_parse.specs.Grammar.{Terminals}
use Rattle.cd_parse.specs.Steps.{Machine, Step, inside, ended, fault, step}

-- what of a statement was read
pub data Stage : Type 0 where
  Begin : Stage
  ClauseOpen : Stage
  ClauseLabel : Stage
  BehindLabel : Label → Stage
  ClauseRole : Label → Stage
  BehindRole : Label → Role → Stage
  Formula : Label → Role → Machine → Stage
  -- in notes: the open brackets, the innermost first, and whether there was a token
  Notes : Statement → List Bool → Bool → Stage
  WantDot : Statement → Stage
  Done : Statement → Stage
  IncludeOpen : Stage
  Path : Stage
  BehindPath : List ℕ → Stage
  ListOpen : List ℕ → Stage
  ListLabel : List ℕ → List Label → Stage
  BehindItem : List ℕ → List Label → Stage
  ListClosed : List ℕ → List Label → Stage

pub data Advance : Type 0 where
  to : Stage → Advance
  wrong : What → Advance

abbrev pub stop : Advance
stop = wrong what.Syntax

abbrev pub role_of : List ℕ → Option Role
role_of w =
    if bytes_eq w (codes "axiom") then Some role.Axiom else
    if bytes_eq w (codes "hypothesis") then Some role.Hypothesis else
    if bytes_eq w (codes "definition") then Some role.Definition else
    if bytes_eq w (codes "assumption") then Some role.Assumption else
    if bytes_eq w (codes "lemma") then Some role.Lemma else
    if bytes_eq w (codes "theorem") then Some role.Theorem else
    if bytes_eq w (codes "corollary") then Some role.Corollary else
    if bytes_eq w (codes "negated_conjecture") then Some role.NegatedConjecture else
    if bytes_eq w (codes "plain") then Some role.Plain else None

abbrev pub is_language : List ℕ → Bool
is_language w =
    bytes_eq w (codes "fof") || (bytes_eq w (codes "tff") || (bytes_eq w (codes "tcf") || (bytes_eq w (codes "thf") || bytes_eq w (codes "tpi"))))

abbrev pub begin_step : List ℕ → Advance
begin_step w =
    if bytes_eq w (codes "cnf") then to ClauseOpen else
    if bytes_eq w (codes "include") then to IncludeOpen else
    if is_language w then wrong what.Language else stop

abbrev pub role_step : Label → Option Role → Advance
role_step l (Some r) = to (BehindRole l r)
role_step l None = wrong what.Role

abbrev pub started : ℕ → Machine
started levels = record { mode = WantLiteral; groups = []; frames = []; sign = true; left = None; room = levels; out = [] }

abbrev pub close_round : Statement → List Bool → Bool → Advance
close_round s [] true = to (WantDot s)
close_round s [] false = stop
close_round s (true ∷ bs) some = to (Notes s bs true)
close_round s (false ∷ bs) some = stop

abbrev pub close_square : Statement → List Bool → Advance
close_square s [] = stop
close_square s (true ∷ bs) = stop
close_square s (false ∷ bs) = to (Notes s bs true)

abbrev pub notes_step : Statement → List Bool → Bool → Terminal → Advance
notes_step s bs some (Sign Left) = to (Notes s (true ∷ bs) true)
notes_step s bs some (Sign OpenSquare) = to (Notes s (false ∷ bs) true)
notes_step s bs some (Sign Right) = close_round s bs some
notes_step s bs some (Sign CloseSquare) = close_square s bs
notes_step s bs some t = to (Notes s bs true)

-- behind a formula
abbrev pub formula_end : Statement → Terminal → Advance
formula_end s (Sign Comma) = to (Notes s [] false)
formula_end s (Sign Right) = to (WantDot s)
formula_end s t = stop

abbrev pub formula_step : Label → Role → Terminal → Step → Advance
formula_step l r t (inside m) = to (Formula l r m)
formula_step l r t (ended ls) = formula_end (Clause l r ls) t
formula_step l r t (fault w) = wrong w

abbrev pub advance : ℕ → Stage → Terminal → Advance
advance levels Begin (Word false w) = begin_step w
advance levels ClauseOpen (Sign Left) = to ClauseLabel
advance levels ClauseLabel (Word q w) = to (BehindLabel (label.Word w))
advance levels ClauseLabel (Digits d) = to (BehindLabel (label.Integer d))
advance levels (BehindLabel l) (Sign Comma) = to (ClauseRole l)
advance levels (ClauseRole l) (Word false w) = role_step l (role_of w)
advance levels (BehindRole l r) (Sign Comma) = to (Formula l r (started levels))
advance levels (Formula l r m) t = formula_step l r t (step m t)
advance levels (Notes s bs some) t = notes_step s bs some t
advance levels (WantDot s) (Sign Dot) = to (Done s)
advance levels IncludeOpen (Sign Left) = to Path
advance levels Path (Word true p) = to (BehindPath p)
advance levels (BehindPath p) (Sign Right) = to (WantDot (Include p None))
advance levels (BehindPath p) (Sign Comma) = to (ListOpen p)
advance levels (ListOpen p) (Sign OpenSquare) = to (ListLabel p [])
advance levels (ListLabel p ls) (Word q w) = to (BehindItem p (ls ++ label.Word w ∷ []))
advance levels (ListLabel p ls) (Digits d) = to (BehindItem p (ls ++ label.Integer d ∷ []))
advance levels (BehindItem p ls) (Sign Comma) = to (ListLabel p ls)
advance levels (BehindItem p ls) (Sign CloseSquare) = to (ListClosed p ls)
advance levels (ListClosed p ls) (Sign Right) = to (WantDot (Include p (Some ls)))
advance levels st t = stop

abbrev pub walk_on : Advance → (Stage → Advance) → Advance
walk_on (to st) next = next st
walk_on (wrong w) next = wrong w

unfoldable pub walk : ℕ → Stage → Terminals → Advance
walk levels st [] = to st
walk levels st (t ∷ ts) = walk_on (advance levels st t) (λ st'. walk levels st' ts)
