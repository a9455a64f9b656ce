-- The machine that reads a formula: what it does with a token.
-- The innermost parenthesis and the innermost list of arguments stand first.
-- Beyond the headline: no clause of `prove` reaches this file.
use Rattle.std.specs.Prelude.{◌++◌, ◌∷◌, [], ℕ, zero, suc, Bool, true, false, not, List, Option, None, Some}
use Rattle.cd_parse.specs.declared.terminal.Terminal.{Terminal}
use Rattle.cd_parse.specs.declared.terminal.Terminal.TheVariants.{Word, Upper, Truth, Digits, Foreign, Sign}
use Rattle.cd_parse.specs.declared.terminal.Foreign.{Foreign as ForeignKind}
use Rattle.cd_parse.specs.declared.terminal.Foreign.TheVariants as foreign
use Rattle.cd_parse.specs.declared.terminal.Sign.TheVariants.{Left, Right, Comma, Equal, Unequal, Tilde, Bar}
use Rattle.cd_parse.specs.declared.tree.Tree.{Tree}
use Rattle.cd_parse.specs.declared.tree.Tree.TheVariants.{Var, App}
use Rattle.cd_parse.specs.declared.tree.TreeLiteral.{TreeLiteral}
use Rattle.cd_parse.specs.declared.tree.TreeAtom.{TreeAtom}
use Rattle.cd_parse.specs.declared.tree.TreeAtom.TheVariants as atom
use Rattle.cd_parse.specs.declared.label.What.{What}
use Rattle.cd_parse.specs.declared.label.What.TheVariants as what
use Rattle.cd_parse.specs.declared.machine.Mode.{Mode}
use Rattle.cd_parse.specs.declared.machine.Mode.TheVariants.{WantLiteral, WantNegated, WantTerm, AfterWord, AfterVar, AfterApp, AfterLiteral}
use Rattle.cd_parse.specs.declared.machine.Frame.{Frame}
use Rattle.cd_parse.specs.Grammar.{Terminals, literal, same}

-- the state of reading a formula
pub record Machine : Type 0 where
  pub mode : Mode
  -- the open parentheses around literals: whether a formula stands in each
  pub groups : List Bool
  -- the open lists of arguments of the atom
  pub frames : List Frame
  -- the sign of the atom, and its left side where it is known to be an equation
  pub sign : Bool
  pub left : Option Tree
  -- how many more parentheses may be opened
  pub room : ℕ
  pub out : List TreeLiteral

-- what a token leads to: the formula goes on, or it ended before the token, or the token is wrong
pub data Step : Type 0 where
  inside : Machine → Step
  ended : List TreeLiteral → Step
  fault : What → Step

abbrev pub syntax : Step
syntax = fault what.Syntax

abbrev pub foreign_fault : ForeignKind → Step
foreign_fault foreign.Object = fault what.Object
foreign_fault foreign.Number = fault what.Number
foreign_fault foreign.Dollar = fault what.Dollar

-- a parenthesis is opened
abbrev pub opened : Machine → Mode → Bool → ℕ → Step
opened m k formula zero = fault what.Deep
opened m k formula (suc n) = inside (record m { mode = k; groups = formula ∷ m.groups; room = n })

-- behind a literal
abbrev pub behind_bar : Machine → List Bool → Step
behind_bar m [] = inside (record m { mode = WantLiteral })
behind_bar m (true ∷ gs) = inside (record m { mode = WantLiteral })
behind_bar m (false ∷ gs) = syntax

abbrev pub closed : Machine → List Bool → Step
closed m [] = ended m.out
closed m (g ∷ gs) = inside (record m { mode = AfterLiteral; groups = gs; room = suc m.room })

abbrev pub behind_comma : Machine → List Bool → Step
behind_comma m [] = ended m.out
behind_comma m (g ∷ gs) = syntax

abbrev pub after_step : Machine → Terminal → Step
after_step m (Sign Bar) = behind_bar m m.groups
after_step m (Sign Right) = closed m m.groups
after_step m (Sign Comma) = behind_comma m m.groups
after_step m t = syntax

-- nothing of an atom is read
abbrev pub clean : Machine → Machine
clean m = record m { frames = []; left = None; sign = true }

-- an atom was read
abbrev pub with_atom : Machine → Bool → TreeAtom → Machine
with_atom m s a = record (clean m) { mode = AfterLiteral; out = m.out ++ literal s a ∷ [] }

-- behind a term in a list of arguments
abbrev pub in_frame : Machine → Tree → Frame → List Frame → Terminal → Step
in_frame m t f fs (Sign Comma) = inside (record m { mode = WantTerm; frames = record f { done = f.done ++ t ∷ [] } ∷ fs })
in_frame m t f fs (Sign Right) = inside (record m { mode = AfterApp f.word (f.done ++ t ∷ []); frames = fs; room = suc m.room })
in_frame m t f fs u = syntax

-- behind the left side of an equation
abbrev pub right_side : Machine → Tree → Bool → Step
right_side m t s = inside (record m { mode = WantTerm; frames = []; left = Some t; sign = s })

-- behind a term outside of all lists of arguments
abbrev pub var_alone : Machine → List ℕ → Option Tree → Terminal → Step
var_alone m x (Some l) u = after_step (with_atom m m.sign (atom.Equal l (Var x))) u
var_alone m x None (Sign Equal) = right_side m (Var x) m.sign
var_alone m x None (Sign Unequal) = right_side m (Var x) (not m.sign)
var_alone m x None u = syntax

abbrev pub app_alone : Machine → List ℕ → List Tree → Option Tree → Terminal → Step
app_alone m w args (Some l) u = after_step (with_atom m m.sign (atom.Equal l (App w args))) u
app_alone m w args None (Sign Equal) = right_side m (App w args) m.sign
app_alone m w args None (Sign Unequal) = right_side m (App w args) (not m.sign)
app_alone m w args None u = after_step (with_atom m m.sign (atom.Pred w args)) u

abbrev pub var_step : Machine → List ℕ → List Frame → Terminal → Step
var_step m x (f ∷ fs) u = in_frame m (Var x) f fs u
var_step m x [] u = var_alone m x m.left u

abbrev pub app_step : Machine → List ℕ → List Tree → List Frame → Terminal → Step
app_step m w args (f ∷ fs) u = in_frame m (App w args) f fs u
app_step m w args [] u = app_alone m w args m.left u

-- behind a word a list of arguments may begin
abbrev pub arguments : Machine → List ℕ → ℕ → Step
arguments m w zero = fault what.Deep
arguments m w (suc n) = inside (record m { mode = WantTerm; frames = record { word = w; done = [] } ∷ m.frames; room = n })

abbrev pub word_step : Machine → List ℕ → Terminal → Step
word_step m w (Sign Left) = arguments m w m.room
word_step m w u = app_step m w [] m.frames u

-- an atom begins
abbrev pub fresh : Machine → Mode → Bool → Machine
fresh m k s = record m { mode = k; frames = []; left = None; sign = s }

abbrev pub literal_step : Machine → Terminal → Step
literal_step m (Word q w) = inside (fresh m (AfterWord w) true)
literal_step m (Upper x) = inside (fresh m (AfterVar x) true)
literal_step m (Truth b) = inside (with_atom m b atom.Truth)
literal_step m (Digits d) = fault what.Number
literal_step m (Foreign f) = foreign_fault f
literal_step m (Sign Left) = opened m WantLiteral true m.room
literal_step m (Sign Tilde) = inside (record m { mode = WantNegated false })
literal_step m t = syntax

abbrev pub negated_step : Machine → Bool → Terminal → Step
negated_step m s (Word q w) = inside (fresh m (AfterWord w) s)
negated_step m s (Upper x) = inside (fresh m (AfterVar x) s)
negated_step m s (Truth b) = inside (with_atom m (same s b) atom.Truth)
negated_step m s (Digits d) = fault what.Number
negated_step m s (Foreign f) = foreign_fault f
negated_step m s (Sign Left) = opened m (WantNegated s) false m.room
negated_step m s (Sign Tilde) = inside (record m { mode = WantNegated (not s) })
negated_step m s t = syntax

abbrev pub term_step : Machine → Terminal → Step
term_step m (Word q w) = inside (record m { mode = AfterWord w })
term_step m (Upper x) = inside (record m { mode = AfterVar x })
term_step m (Truth b) = fault what.Dollar
term_step m (Digits d) = fault what.Number
term_step m (Foreign f) = foreign_fault f
term_step m t = syntax

abbrev pub step_in : Mode → Machine → Terminal → Step
step_in WantLiteral m t = literal_step m t
step_in (WantNegated s) m t = negated_step m s t
step_in WantTerm m t = term_step m t
step_in (AfterWord w) m t = word_step m w t
step_in (AfterVar x) m t = var_step m x m.frames t
step_in (AfterApp w args) m t = app_step m w args m.frames t
step_in AfterLiteral m t = after_step m t

abbrev pub step : Machine → Terminal → Step
step m t = step_in m.mode m t

-- the tokens one after another
abbrev pub run_on : Step → (Machine → Step) → Step
run_on (inside m) next = next m
run_on (ended ls) next = ended ls
run_on (fault w) next = fault w

unfoldable pub run : Machine → Terminals → Step
run m [] = inside m
run m (t ∷ ts) = run_on (step m t) (λ m'. run m' ts)
