use Rattle.std.proofs.Common.{◌&&◌, ◌≡◌, ◌∙◌, ◌⊎◌, inl, inr, ◌++◌, ◌∷◌, ◌||◌, [], ℕ, zero, suc, Bool, true, false, List, Option, None, Some, refl, sym, ap, subst, codes, if◌then◌else◌}
use Rattle.std.specs.Str.{bytes_eq}
use Rattle.cd_parse.specs.declared.terminal.Terminal.{Terminal}
use Rattle.cd_parse.specs.declared.terminal.Terminal.TheVariants.{Word, Upper, Truth, Digits, Foreign, Sign}
use Rattle.cd_parse.specs.declared.terminal.Foreign.TheVariants as foreign
use Rattle.cd_parse.specs.declared.terminal.Sign.TheVariants.{Left, Right, OpenSquare, CloseSquare, Comma, Dot, Equal, Unequal, Tilde, Bar}
use Rattle.cd_parse.specs.declared.label.Label.{Label}
use Rattle.cd_parse.specs.declared.label.Role.{Role}
use Rattle.cd_parse.specs.declared.label.What.{What}
use Rattle.cd_parse.specs.declared.label.What.TheVariants as what
use Rattle.cd_parse.specs.declared.machine.Mode.{Mode}
use Rattle.cd_parse.specs.declared.machine.Mode.TheVariants.{WantLiteral, WantNegated, WantTerm, AfterWord, AfterVar, AfterApp, AfterLiteral}
use Rattle.cd_parse.specs.declared.machine.Frame.{Frame}
use Rattle.cd_parse.specs.declared.tree.Tree.{Tree}
use Rattle.cd_parse.specs.declared.tree.Tree.TheVariants.{Var, App}
use Rattle.cd_parse.specs.declared.tree.TreeAtom.TheVariants as atom
use Rattle.cd_parse.specs.declared.statement.Statement.{Statement}
use Rattle.cd_parse.specs.declared.statement.Statement.TheVariants.{Include}
use Rattle.cd_parse.specs.Stages.{Stage, Begin, ClauseOpen, ClauseLabel, BehindLabel, ClauseRole, BehindRole, Formula, Notes, WantDot, IncludeOpen, Path, BehindPath, ListOpen, ListLabel, BehindItem, ListClosed}
use Rattle.cd_parse.specs.Grammar.{Terminals}
use Rattle.cd_parse.specs.Statements.{keyword, IsStatementIn, clause, whole, listed, CouldIn, IsWrong, Names, IsLanguage, IsOfLanguage, IsWrongRole, IsObject, IsNumber, IsDollar, IsDeep, BeginsTerm}
use Rattle.cd_parse.specs.Steps.{Machine, with_atom}
use Rattle.cd_parse.specs.Stages.{Advance, to, wrong, stop, role_of, is_language, role_step, advance, walk, walk_on}
use Rattle.std.proofs.lemmas.Slice.Eq.{bytes_eq-Decides}
use Rattle.std.proofs.lemmas.List.{length-append}
use Rattle.std.proofs.Common.{length, ◌+◌, arith}
use Rattle.cd_parse.specs.Reading.{IsOpen}
use Rattle.cd_parse.proofs.WalkForth.{walks, walk-append}
use Rattle.cd_parse.proofs.WalkBack.{from_start}
use Rattle.cd_parse.proofs.Could.{Goes, could_goes, goes_could, is_front}

-- what is wrong with a token that a stage doesn't take, by what the stage takes

abbrev goes : Advance → Bool
goes (to s) = true
goes (wrong w) = false

abbrev is_begin : Stage → Bool
is_begin Begin = true
is_begin st = false

abbrev lang : Terminal → Bool
lang (Word false w) = is_language w
lang t = false

abbrev lower : Terminal → Bool
lower (Word false w) = true
lower t = false

abbrev object : Terminal → Bool
object (Foreign foreign.Object) = true
object t = false

abbrev number : Terminal → Bool
number (Foreign foreign.Number) = true
number (Digits d) = true
number t = false

abbrev dollar : Terminal → Bool
dollar (Foreign foreign.Dollar) = true
dollar (Truth b) = true
dollar t = false

abbrev left : Terminal → Bool
left (Sign Left) = true
left t = false

-- with room for one more level
abbrev raised : Stage → Stage
raised (Formula l r m) = Formula l r (record m { room = suc m.room })
raised st = st

abbrev pick : Bool → Bool → Bool → Bool → Bool → Bool → What
pick language role_ object_ number_ dollar_ deep =
    if language then what.Language else if role_ then what.Role else if object_ then what.Object else
    if number_ then what.Number else if dollar_ then what.Dollar else if deep then what.Deep else what.Syntax

abbrev name_of : Stage → Terminal → What
name_of st t = pick (is_begin st && lang t) (goes (advance 1000 st (keyword (codes "axiom"))) && lower t)
    (goes (advance 1000 st (Upper (codes "X"))) && object t) (goes (advance 1000 st (Upper (codes "X"))) && number t)
    (goes (advance 1000 st (Upper (codes "X"))) && dollar t) (goes (advance 1001 (raised st) (Sign Left)) && left t)

abbrev Named : What → Advance → Type 0
Named v (to s) = Unit {0}
Named v (wrong w) = w ≡ v

abbrev Simulates : Advance → Advance → Type 0
Simulates (to s) a = a ≡ to (raised s)
Simulates (wrong w) a = Unit {0}

begin_named : (w : List ℕ) → Named (name_of Begin (Word false w)) (advance 1000 Begin (Word false w))
begin_named w = go (bytes_eq w (codes "cnf")) (bytes_eq w (codes "include")) (is_language w)
  where
    go : (a b c : Bool)
        → Named (pick (true && c) false false false false false) (if a then to ClauseOpen else if b then to IncludeOpen else if c then wrong what.Language else stop)
    go true b c = tt
    go false true c = tt
    go false false true = refl
    go false false false = refl

role_named : (l : Label) (w : List ℕ) → Named (name_of (ClauseRole l) (Word false w)) (advance 1000 (ClauseRole l) (Word false w))
role_named l w = go (role_of w)
  where
    go : (o : Option Role) → Named what.Role (role_step l o)
    go None = refl
    go (Some r) = tt

round_named : (s : Statement) (bs : List Bool) (some : Bool)
    → Named (name_of (Notes s bs some) (Sign Right)) (advance 1000 (Notes s bs some) (Sign Right))
round_named s [] true = tt
round_named s [] false = refl
round_named s (true ∷ bs) some = tt
round_named s (false ∷ bs) some = refl

square_named : (s : Statement) (bs : List Bool) (some : Bool)
    → Named (name_of (Notes s bs some) (Sign CloseSquare)) (advance 1000 (Notes s bs some) (Sign CloseSquare))
square_named s [] some = refl
square_named s (true ∷ bs) some = refl
square_named s (false ∷ bs) some = tt

literal_named : (l : Label) (r : Role) (m : Machine) (gs : List Bool) (t : Terminal)
    → Named (name_of (Formula l r (record m { mode = AfterLiteral; groups = gs })) t) (advance 1000 (Formula l r (record m { mode = AfterLiteral; groups = gs })) t)
literal_named l r m [] (Sign Right) = tt
literal_named l r m (true ∷ gs) (Sign Right) = tt
literal_named l r m (false ∷ gs) (Sign Right) = tt
literal_named l r m [] (Sign Comma) = tt
literal_named l r m [] (Sign Bar) = tt
literal_named l r m (true ∷ gs) (Sign Bar) = tt
literal_named l r m gs t = refl

var_named : (l : Label) (r : Role) (m : Machine) (x : List ℕ) (fs : List Frame) (o : Option Tree) (t : Terminal)
    → Named (name_of (Formula l r (record m { mode = AfterVar x; frames = fs; left = o })) t) (advance 1000 (Formula l r (record m { mode = AfterVar x; frames = fs; left = o })) t)
var_named l r m x (f ∷ fs) o (Sign Comma) = tt
var_named l r m x (f ∷ fs) o (Sign Right) = tt
var_named l r m x (f ∷ fs) o t = refl
var_named l r m x [] (Some e) t = literal_named l r (with_atom m m.sign (atom.Equal e (Var x))) m.groups t
var_named l r m x [] None (Sign Equal) = tt
var_named l r m x [] None (Sign Unequal) = tt
var_named l r m x [] None t = refl

app_named : (l : Label) (r : Role) (m : Machine) (w : List ℕ) (args : List Tree) (fs : List Frame) (o : Option Tree) (t : Terminal)
    → Named (name_of (Formula l r (record m { mode = AfterApp w args; frames = fs; left = o })) t) (advance 1000 (Formula l r (record m { mode = AfterApp w args; frames = fs; left = o })) t)
app_named l r m w args (f ∷ fs) o (Sign Comma) = tt
app_named l r m w args (f ∷ fs) o (Sign Right) = tt
app_named l r m w args (f ∷ fs) o t = refl
app_named l r m w args [] (Some e) t = literal_named l r (with_atom m m.sign (atom.Equal e (App w args))) m.groups t
app_named l r m w args [] None (Sign Equal) = tt
app_named l r m w args [] None (Sign Unequal) = tt
app_named l r m w args [] None t = literal_named l r (with_atom m m.sign (atom.Pred w args)) m.groups t

open_named : (l : Label) (r : Role) (m : Machine) (w : List ℕ) (fs : List Frame) (o : Option Tree) (room : ℕ)
    → Named (name_of (Formula l r (record m { mode = AfterWord w; frames = fs; left = o; room = room })) (Sign Left)) (advance 1000 (Formula l r (record m { mode = AfterWord w; frames = fs; left = o; room = room })) (Sign Left))
open_named l r m w (f ∷ fs) o zero = refl
open_named l r m w [] (Some e) zero = refl
open_named l r m w [] None zero = refl
open_named l r m w fs o (suc k) = tt

word_named : (l : Label) (r : Role) (m : Machine) (w : List ℕ) (fs : List Frame) (o : Option Tree) (t : Terminal)
    → Named (name_of (Formula l r (record m { mode = AfterWord w; frames = fs; left = o })) t) (advance 1000 (Formula l r (record m { mode = AfterWord w; frames = fs; left = o })) t)
word_named l r m w fs o (Sign Left) = open_named l r m w fs o m.room
word_named l r m w (f ∷ fs) o t = app_named l r m w [] (f ∷ fs) o t
word_named l r m w [] (Some e) t = app_named l r m w [] [] (Some e) t
word_named l r m w [] None t = app_named l r m w [] [] None t

wants_named : (l : Label) (r : Role) (m : Machine) (room : ℕ) (t : Terminal)
    → Named (name_of (Formula l r (record m { mode = WantLiteral; room = room })) t) (advance 1000 (Formula l r (record m { mode = WantLiteral; room = room })) t)
wants_named l r m room (Word q w) = tt
wants_named l r m room (Upper x) = tt
wants_named l r m room (Truth c) = tt
wants_named l r m room (Foreign foreign.Object) = refl
wants_named l r m room (Foreign foreign.Number) = refl
wants_named l r m room (Foreign foreign.Dollar) = refl
wants_named l r m zero (Sign Left) = refl
wants_named l r m (suc k) (Sign Left) = tt
wants_named l r m room (Sign Tilde) = tt
wants_named l r m room t = refl

negated_named : (l : Label) (r : Role) (m : Machine) (b : Bool) (room : ℕ) (t : Terminal)
    → Named (name_of (Formula l r (record m { mode = WantNegated b; room = room })) t) (advance 1000 (Formula l r (record m { mode = WantNegated b; room = room })) t)
negated_named l r m b room (Word q w) = tt
negated_named l r m b room (Upper x) = tt
negated_named l r m b room (Truth c) = tt
negated_named l r m b room (Foreign foreign.Object) = refl
negated_named l r m b room (Foreign foreign.Number) = refl
negated_named l r m b room (Foreign foreign.Dollar) = refl
negated_named l r m b zero (Sign Left) = refl
negated_named l r m b (suc k) (Sign Left) = tt
negated_named l r m b room (Sign Tilde) = tt
negated_named l r m b room t = refl

term_named : (l : Label) (r : Role) (m : Machine) (t : Terminal)
    → Named (name_of (Formula l r (record m { mode = WantTerm })) t) (advance 1000 (Formula l r (record m { mode = WantTerm })) t)
term_named l r m (Word q w) = tt
term_named l r m (Upper x) = tt
term_named l r m (Foreign foreign.Object) = refl
term_named l r m (Foreign foreign.Number) = refl
term_named l r m (Foreign foreign.Dollar) = refl
term_named l r m t = refl

formula_named : (l : Label) (r : Role) (m : Machine) (k : Mode) (t : Terminal)
    → Named (name_of (Formula l r (record m { mode = k })) t) (advance 1000 (Formula l r (record m { mode = k })) t)
formula_named l r m WantLiteral t = wants_named l r m m.room t
formula_named l r m (WantNegated b) t = negated_named l r m b m.room t
formula_named l r m WantTerm t = term_named l r m t
formula_named l r m (AfterWord w) t = word_named l r m w m.frames m.left t
formula_named l r m (AfterVar x) t = var_named l r m x m.frames m.left t
formula_named l r m (AfterApp w args) t = app_named l r m w args m.frames m.left t
formula_named l r m AfterLiteral t = literal_named l r m m.groups t

notes_named : (s : Statement) (bs : List Bool) (some : Bool) (t : Terminal)
    → Named (name_of (Notes s bs some) t) (advance 1000 (Notes s bs some) t)
notes_named s bs some (Sign Right) = round_named s bs some
notes_named s bs some (Sign CloseSquare) = square_named s bs some
notes_named s bs some t = tt

stage_named : (st : Stage) (t : Terminal) → Named (name_of st t) (advance 1000 st t)
stage_named Begin (Word false w) = begin_named w
stage_named ClauseOpen (Sign Left) = tt
stage_named ClauseLabel (Word true w) = tt
stage_named ClauseLabel (Word false w) = tt
stage_named ClauseLabel (Digits d) = tt
stage_named (BehindLabel l) (Sign Comma) = tt
stage_named (ClauseRole l) (Word false w) = role_named l w
stage_named (BehindRole l r) (Sign Comma) = tt
stage_named (WantDot s) (Sign Dot) = tt
stage_named IncludeOpen (Sign Left) = tt
stage_named Path (Word true w) = tt
stage_named (BehindPath p) (Sign Right) = tt
stage_named (BehindPath p) (Sign Comma) = tt
stage_named (ListOpen p) (Sign OpenSquare) = tt
stage_named (ListLabel p ls) (Word true w) = tt
stage_named (ListLabel p ls) (Word false w) = tt
stage_named (ListLabel p ls) (Digits d) = tt
stage_named (BehindItem p ls) (Sign CloseSquare) = tt
stage_named (BehindItem p ls) (Sign Comma) = tt
stage_named (ListClosed p ls) (Sign Right) = tt
stage_named (Notes s bs some) t = notes_named s bs some t
stage_named (Formula l r m) t = formula_named l r m m.mode t
stage_named st t = refl

begin_sim : (n : ℕ) (w : List ℕ) → Simulates (advance n Begin (Word false w)) (advance (suc n) (raised Begin) (Word false w))
begin_sim n w = go (bytes_eq w (codes "cnf")) (bytes_eq w (codes "include")) (is_language w)
  where
    go : (a b c : Bool) → Simulates (if a then to ClauseOpen else if b then to IncludeOpen else if c then wrong what.Language else stop)
        (if a then to ClauseOpen else if b then to IncludeOpen else if c then wrong what.Language else stop)
    go true b c = refl
    go false true c = refl
    go false false true = tt
    go false false false = tt

role_sim : (n : ℕ) (l : Label) (w : List ℕ)
    → Simulates (advance n (ClauseRole l) (Word false w)) (advance (suc n) (raised (ClauseRole l)) (Word false w))
role_sim n l w = go (role_of w)
  where
    go : (o : Option Role) → Simulates (role_step l o) (role_step l o)
    go None = tt
    go (Some r) = refl

round_sim : (n : ℕ) (s : Statement) (bs : List Bool) (some : Bool)
    → Simulates (advance n (Notes s bs some) (Sign Right)) (advance (suc n) (raised (Notes s bs some)) (Sign Right))
round_sim n s [] true = refl
round_sim n s [] false = tt
round_sim n s (true ∷ bs) some = refl
round_sim n s (false ∷ bs) some = tt

square_sim : (n : ℕ) (s : Statement) (bs : List Bool) (some : Bool)
    → Simulates (advance n (Notes s bs some) (Sign CloseSquare)) (advance (suc n) (raised (Notes s bs some)) (Sign CloseSquare))
square_sim n s [] some = tt
square_sim n s (true ∷ bs) some = tt
square_sim n s (false ∷ bs) some = refl

literal_sim : (n : ℕ) (l : Label) (r : Role) (m : Machine) (gs : List Bool) (t : Terminal)
    → Simulates (advance n (Formula l r (record m { mode = AfterLiteral; groups = gs })) t) (advance (suc n) (raised (Formula l r (record m { mode = AfterLiteral; groups = gs }))) t)
literal_sim n l r m [] (Sign Right) = refl
literal_sim n l r m (true ∷ gs) (Sign Right) = refl
literal_sim n l r m (false ∷ gs) (Sign Right) = refl
literal_sim n l r m [] (Sign Comma) = refl
literal_sim n l r m [] (Sign Bar) = refl
literal_sim n l r m (true ∷ gs) (Sign Bar) = refl
literal_sim n l r m gs t = tt

var_sim : (n : ℕ) (l : Label) (r : Role) (m : Machine) (x : List ℕ) (fs : List Frame) (o : Option Tree) (t : Terminal)
    → Simulates (advance n (Formula l r (record m { mode = AfterVar x; frames = fs; left = o })) t) (advance (suc n) (raised (Formula l r (record m { mode = AfterVar x; frames = fs; left = o }))) t)
var_sim n l r m x (f ∷ fs) o (Sign Comma) = refl
var_sim n l r m x (f ∷ fs) o (Sign Right) = refl
var_sim n l r m x (f ∷ fs) o t = tt
var_sim n l r m x [] (Some e) t = literal_sim n l r (with_atom m m.sign (atom.Equal e (Var x))) m.groups t
var_sim n l r m x [] None (Sign Equal) = refl
var_sim n l r m x [] None (Sign Unequal) = refl
var_sim n l r m x [] None t = tt

app_sim : (n : ℕ) (l : Label) (r : Role) (m : Machine) (w : List ℕ) (args : List Tree) (fs : List Frame) (o : Option Tree) (t : Terminal)
    → Simulates (advance n (Formula l r (record m { mode = AfterApp w args; frames = fs; left = o })) t) (advance (suc n) (raised (Formula l r (record m { mode = AfterApp w args; frames = fs; left = o }))) t)
app_sim n l r m w args (f ∷ fs) o (Sign Comma) = refl
app_sim n l r m w args (f ∷ fs) o (Sign Right) = refl
app_sim n l r m w args (f ∷ fs) o t = tt
app_sim n l r m w args [] (Some e) t = literal_sim n l r (with_atom m m.sign (atom.Equal e (App w args))) m.groups t
app_sim n l r m w args [] None (Sign Equal) = refl
app_sim n l r m w args [] None (Sign Unequal) = refl
app_sim n l r m w args [] None t = literal_sim n l r (with_atom m m.sign (atom.Pred w args)) m.groups t

open_sim : (n : ℕ) (l : Label) (r : Role) (m : Machine) (w : List ℕ) (room : ℕ)
    → Simulates (advance n (Formula l r (record m { mode = AfterWord w; room = room })) (Sign Left)) (advance (suc n) (raised (Formula l r (record m { mode = AfterWord w; room = room }))) (Sign Left))
open_sim n l r m w zero = tt
open_sim n l r m w (suc k) = refl

word_sim : (n : ℕ) (l : Label) (r : Role) (m : Machine) (w : List ℕ) (fs : List Frame) (o : Option Tree) (t : Terminal)
    → Simulates (advance n (Formula l r (record m { mode = AfterWord w; frames = fs; left = o })) t) (advance (suc n) (raised (Formula l r (record m { mode = AfterWord w; frames = fs; left = o }))) t)
word_sim n l r m w fs o (Sign Left) = open_sim n l r (record m { frames = fs; left = o }) w m.room
word_sim n l r m w (f ∷ fs) o t = app_sim n l r m w [] (f ∷ fs) o t
word_sim n l r m w [] (Some e) t = app_sim n l r m w [] [] (Some e) t
word_sim n l r m w [] None t = app_sim n l r m w [] [] None t

wants_sim : (n : ℕ) (l : Label) (r : Role) (m : Machine) (room : ℕ) (t : Terminal)
    → Simulates (advance n (Formula l r (record m { mode = WantLiteral; room = room })) t) (advance (suc n) (raised (Formula l r (record m { mode = WantLiteral; room = room }))) t)
wants_sim n l r m room (Word q w) = refl
wants_sim n l r m room (Upper x) = refl
wants_sim n l r m room (Truth c) = refl
wants_sim n l r m room (Foreign foreign.Object) = tt
wants_sim n l r m room (Foreign foreign.Number) = tt
wants_sim n l r m room (Foreign foreign.Dollar) = tt
wants_sim n l r m zero (Sign Left) = tt
wants_sim n l r m (suc k) (Sign Left) = refl
wants_sim n l r m room (Sign Tilde) = refl
wants_sim n l r m room t = tt

negated_sim : (n : ℕ) (l : Label) (r : Role) (m : Machine) (b : Bool) (room : ℕ) (t : Terminal)
    → Simulates (advance n (Formula l r (record m { mode = WantNegated b; room = room })) t) (advance (suc n) (raised (Formula l r (record m { mode = WantNegated b; room = room }))) t)
negated_sim n l r m b room (Word q w) = refl
negated_sim n l r m b room (Upper x) = refl
negated_sim n l r m b room (Truth c) = refl
negated_sim n l r m b room (Foreign foreign.Object) = tt
negated_sim n l r m b room (Foreign foreign.Number) = tt
negated_sim n l r m b room (Foreign foreign.Dollar) = tt
negated_sim n l r m b zero (Sign Left) = tt
negated_sim n l r m b (suc k) (Sign Left) = refl
negated_sim n l r m b room (Sign Tilde) = refl
negated_sim n l r m b room t = tt

term_sim : (n : ℕ) (l : Label) (r : Role) (m : Machine) (t : Terminal)
    → Simulates (advance n (Formula l r (record m { mode = WantTerm })) t) (advance (suc n) (raised (Formula l r (record m { mode = WantTerm }))) t)
term_sim n l r m (Word q w) = refl
term_sim n l r m (Upper x) = refl
term_sim n l r m (Foreign foreign.Object) = tt
term_sim n l r m (Foreign foreign.Number) = tt
term_sim n l r m (Foreign foreign.Dollar) = tt
term_sim n l r m t = tt

formula_sim : (n : ℕ) (l : Label) (r : Role) (m : Machine) (k : Mode) (t : Terminal)
    → Simulates (advance n (Formula l r (record m { mode = k })) t) (advance (suc n) (raised (Formula l r (record m { mode = k }))) t)
formula_sim n l r m WantLiteral t = wants_sim n l r m m.room t
formula_sim n l r m (WantNegated b) t = negated_sim n l r m b m.room t
formula_sim n l r m WantTerm t = term_sim n l r m t
formula_sim n l r m (AfterWord w) t = word_sim n l r m w m.frames m.left t
formula_sim n l r m (AfterVar x) t = var_sim n l r m x m.frames m.left t
formula_sim n l r m (AfterApp w args) t = app_sim n l r m w args m.frames m.left t
formula_sim n l r m AfterLiteral t = literal_sim n l r m m.groups t

notes_sim : (n : ℕ) (s : Statement) (bs : List Bool) (some : Bool) (t : Terminal)
    → Simulates (advance n (Notes s bs some) t) (advance (suc n) (raised (Notes s bs some)) t)
notes_sim n s bs some (Sign Right) = round_sim n s bs some
notes_sim n s bs some (Sign CloseSquare) = square_sim n s bs some
notes_sim n s bs some t = refl

stage_sim : (n : ℕ) (st : Stage) (t : Terminal) → Simulates (advance n st t) (advance (suc n) (raised st) t)
stage_sim n Begin (Word false w) = begin_sim n w
stage_sim n ClauseOpen (Sign Left) = refl
stage_sim n ClauseLabel (Word true w) = refl
stage_sim n ClauseLabel (Word false w) = refl
stage_sim n ClauseLabel (Digits d) = refl
stage_sim n (BehindLabel l) (Sign Comma) = refl
stage_sim n (ClauseRole l) (Word false w) = role_sim n l w
stage_sim n (BehindRole l r) (Sign Comma) = refl
stage_sim n (WantDot s) (Sign Dot) = refl
stage_sim n IncludeOpen (Sign Left) = refl
stage_sim n Path (Word true w) = refl
stage_sim n (BehindPath p) (Sign Right) = refl
stage_sim n (BehindPath p) (Sign Comma) = refl
stage_sim n (ListOpen p) (Sign OpenSquare) = refl
stage_sim n (ListLabel p ls) (Word true w) = refl
stage_sim n (ListLabel p ls) (Word false w) = refl
stage_sim n (ListLabel p ls) (Digits d) = refl
stage_sim n (BehindItem p ls) (Sign CloseSquare) = refl
stage_sim n (BehindItem p ls) (Sign Comma) = refl
stage_sim n (ListClosed p ls) (Sign Right) = refl
stage_sim n (Notes s bs some) t = notes_sim n s bs some t
stage_sim n (Formula l r m) t = formula_sim n l r m m.mode t
stage_sim n st t = tt

-- ---- with one level more

raised_walk : (n : ℕ) (ts : Terminals) (st st' : Stage) → walk n st ts ≡ to st' → walk (suc n) (raised st) ts ≡ to (raised st')
unfolding walk
raised_walk n [] st st' e = ap (λ a. of a) e
  where
    of : Advance → Advance
    of (to s) = to (raised s)
    of (wrong w) = wrong w
raised_walk n (t ∷ ts) st st' e = go (advance n st t) (stage_sim n st t) e (λ s f. raised_walk n ts s st' f)
  where
    go : (a : Advance) → Simulates a (advance (suc n) (raised st) t) → walk_on a (λ s. walk n s ts) ≡ to st'
        → ((s : Stage) → walk n s ts ≡ to st' → walk (suc n) (raised s) ts ≡ to (raised st'))
        → walk (suc n) (raised st) (t ∷ ts) ≡ to (raised st')
    go (to s) is f rec = ap (λ a. walks (suc n) a ts) is ∙ rec s f
    go (wrong w) is f rec = absurd (cc)

-- ---- the tests

abbrev Tests : Bool → Type 0 → Type 0
Tests b P = (b ≡ true → P) × (P → b ≡ true)

both : (a b : Bool) → a && b ≡ true → (a ≡ true) × (b ≡ true)
both true true e = (refl, refl)
both true false e = absurd (cc)
both false b e = absurd (cc)

goes_to : (a : Advance) → goes a ≡ true → Goes a
goes_to (to s) e = tt
goes_to (wrong w) e = absurd (cc)

to_goes : (a : Advance) → Goes a → goes a ≡ true
to_goes (to s) h = refl
to_goes (wrong w) h = absurd h

and_true : (a b : Bool) → a ≡ true → b ≡ true → a && b ≡ true
and_true true b e f = f
and_true false b e f = absurd (cc)

could_test : (n : ℕ) (front : Terminals) (st : Stage) (u : Terminal) → walk n Begin front ≡ to st
    → Tests (goes (advance n st u)) (CouldIn n front u)
could_test n front st u e =
    (λ h. goes_could n front st u e (goes_to (advance n st u) h), λ c. to_goes (advance n st u) (could_goes n front st u e c))

with_test : (P Q : Type 0) (a b : Bool) → Tests a P → Tests b Q → Tests (a && b) (P × Q)
with_test P Q a b s t = (λ e. let h = both a b e in (s.0 h.0, t.0 h.1), λ h. and_true a b (s.1 h.0) (t.1 h.1))

-- the second first
test_with : (P Q : Type 0) (a b : Bool) → Tests a P → Tests b Q → Tests (a && b) (Q × P)
test_with P Q a b s t = (λ e. let h = both a b e in (t.0 h.1, s.0 h.0), λ h. and_true a b (s.1 h.1) (t.1 h.0))

object_test : (t : Terminal) → Tests (object t) (t ≡ Foreign foreign.Object)
object_test (Foreign foreign.Object) = (λ e. refl, λ h. refl)
object_test t = (λ e. absurd (cc), λ h. absurd (cc))

left_test : (t : Terminal) → Tests (left t) (t ≡ Sign Left)
left_test (Sign Left) = (λ e. refl, λ h. refl)
left_test t = (λ e. absurd (cc), λ h. absurd (cc))

lower_test : (t : Terminal) → Tests (lower t) ((w : List ℕ) × (t ≡ Word false w))
lower_test (Word false w) = (λ e. (w, refl), λ h. refl)
lower_test t = (λ e. absurd (cc), λ h. let e = h.1 in absurd (cc))

number_test : (t : Terminal) → Tests (number t) ((t ≡ Foreign foreign.Number) ⊎ ((d : List ℕ) × (t ≡ Digits d)))
number_test (Digits d) = (λ e. inr (d, refl), λ h. refl)
number_test (Foreign foreign.Number) = (λ e. inl refl, λ h. refl)
number_test t = (λ e. absurd (cc), λ h. elim h [ inl e ↦ absurd (cc) | inr e ↦ let f = e.1 in absurd (cc) ])

dollar_test : (t : Terminal) → Tests (dollar t) ((t ≡ Foreign foreign.Dollar) ⊎ ((b : Bool) × (t ≡ Truth b)))
dollar_test (Truth b) = (λ e. inr (b, refl), λ h. refl)
dollar_test (Foreign foreign.Dollar) = (λ e. inl refl, λ h. refl)
dollar_test t = (λ e. absurd (cc), λ h. elim h [ inl e ↦ absurd (cc) | inr e ↦ let f = e.1 in absurd (cc) ])

or_test : (P Q : Type 0) (a b : Bool) → Tests a P → Tests b Q → Tests (a || b) (P ⊎ Q)
or_test P Q true b s t = (λ e. inl (s.0 refl), λ h. refl)
or_test P Q false b s t = (λ e. inr (t.0 e), λ h. elim h [ inl p ↦ let e = s.1 p in absurd (cc) | inr q ↦ t.1 q ])

language_test : (w : List ℕ) → Tests (is_language w) (IsLanguage w)
language_test w =
    or_test _ _ _ _ (bytes_eq-Decides w (codes "fof"))
    (or_test _ _ _ _ (bytes_eq-Decides w (codes "tff")) (or_test _ _ _ _ (bytes_eq-Decides w (codes "tcf"))
    (or_test _ _ _ _ (bytes_eq-Decides w (codes "thf")) (bytes_eq-Decides w (codes "tpi")))))

lang_test : (t : Terminal) → Tests (lang t) ((w : List ℕ) × IsLanguage w × (t ≡ Word false w))
lang_test (Word false w) =
    (λ e. (w, (language_test w).0 e, refl), λ h. let (v, is, e) = h in let same : v ≡ w = cc in (language_test w).1 (subst IsLanguage same is))
lang_test t = (λ e. absurd (cc), λ h. let (v, is, f) = h in absurd (cc))

-- the stage is the first exactly where no token was read
ended_include : (front : Terminals) (ts : Terminals) (s : Statement) → IsStatementIn 1000 ts s
    → ts ≡ front ++ keyword (codes "include") ∷ Sign Left ∷ Word true [] ∷ Sign Right ∷ Sign Dot ∷ []
    → s ≡ Include [] None → front ≡ []
ended_include front _ _ (clause u l r vs ns ls d f k) e is = absurd (cc)
ended_include [] _ _ (whole q) e is = refl
ended_include (x ∷ front) _ _ (whole q) e is =
    absurd (long (length (front ++ keyword (codes "include") ∷ Sign Left ∷ Word true [] ∷ Sign Right ∷ Sign Dot ∷ []))
    (ap (λ (us : Terminals). length us) e) (length-append front (keyword (codes "include") ∷ Sign Left ∷ Word true [] ∷ Sign Right ∷ Sign Dot ∷ [])))
  where
    long : (n : ℕ) → 5 ≡ suc n → n ≡ length front + 5 → ⊥
    long n h k = omega (arith, h, k)
ended_include front _ _ (listed q vs ls d) e is = absurd (cc)

begin_is : (st : Stage) → is_begin st ≡ true → st ≡ Begin
begin_is Begin e = refl
begin_is st e = absurd (cc)

begin_test : (front : Terminals) (st : Stage) → walk 1000 Begin front ≡ to st → Tests (is_begin st) (front ≡ [])
unfolding walk
begin_test front st e = (first, λ h. of_nil h)
  where
    first : is_begin st ≡ true → front ≡ []
    first h = ended_include front _ (Include [] None)
        (from_start 1000 (front ++ keyword (codes "include") ∷ Sign Left ∷ Word true [] ∷ Sign Right ∷ Sign Dot ∷ []) (Include [] None)
        (walk-append 1000 Begin front (keyword (codes "include") ∷ Sign Left ∷ Word true [] ∷ Sign Right ∷ Sign Dot ∷ [])
        ∙ ap (λ a. walks 1000 a (keyword (codes "include") ∷ Sign Left ∷ Word true [] ∷ Sign Right ∷ Sign Dot ∷ []))
        (e ∙ ap (λ (s : Stage). to s) (begin_is st h)))) refl refl

    of_nil : front ≡ [] → is_begin st ≡ true
    of_nil h = ap at (sym e ∙ ap (walk 1000 Begin) h)
      where
        at : Advance → Bool
        at (to s) = is_begin s
        at (wrong w) = false

picked : (front : Terminals) (t : Terminal) (a b c d e f : Bool) → Tests a (IsOfLanguage front t) → Tests b (IsWrongRole front t)
    → Tests c (IsObject front t)
    → Tests d (IsNumber front t) → Tests e (IsDollar front t) → Tests f (IsDeep front t) → Names (pick a b c d e f) front t
picked front t true b c d e f p q r s u v = p.0 refl
picked front t false true c d e f p q r s u v = q.0 refl
picked front t false false true d e f p q r s u v = r.0 refl
picked front t false false false true e f p q r s u v = s.0 refl
picked front t false false false false true f p q r s u v = u.0 refl
picked front t false false false false false true p q r s u v = v.0 refl
picked front t false false false false false false p q r s u v =
    (λ h. apart (p.1 h), λ h. apart (q.1 h), λ h. apart (r.1 h), λ h. apart (s.1 h), λ h. apart (u.1 h), λ h. apart (v.1 h))
  where
    apart : false ≡ true → ⊥
    apart h = cc

-- what the machine calls a token that it refuses is what is wrong with it
pub kinds : (front : Terminals) (st : Stage) (t : Terminal) (w : What) → walk 1000 Begin front ≡ to st → IsOpen st
    → advance 1000 st t ≡ wrong w → IsWrong front t w
kinds front st t w e o f = record {
  begins = is_front 1000 front st e o;
  no = λ c. subst Goes f (could_goes 1000 front st t e c);
  names = subst (λ (v : What). Names v front t) (sym same) named;
}
  where
    same : w ≡ name_of st t
    same = subst (Named (name_of st t)) f (stage_named st t)

    term : Tests (goes (advance 1000 st (Upper (codes "X")))) (BeginsTerm front)
    term = could_test 1000 front st (Upper (codes "X")) e

    deep : Tests (goes (advance 1001 (raised st) (Sign Left))) (CouldIn 1001 front (Sign Left))
    deep = could_test 1001 front (raised st) (Sign Left) (raised_walk 1000 front Begin st e)

    deep_at : Tests (goes (advance 1001 (raised st) (Sign Left)) && left t) (IsDeep front t)
    deep_at = (
      λ h. let (i, j) = both (goes (advance 1001 (raised st) (Sign Left))) (left t) h in let is = (left_test t).0 j in (is, subst (CouldIn 1001 front) (sym is) (deep.0 i)),
      λ h. and_true (goes (advance 1001 (raised st) (Sign Left))) (left t) (deep.1 (subst (CouldIn 1001 front) h.0 h.1))
          ((left_test t).1 h.0),
    )

    named : Names (name_of st t) front t
    named = picked front t _ _ _ _ _ _ (with_test _ _ _ _ (begin_test front st e) (lang_test t))
        (test_with _ _ _ _ (could_test 1000 front st (keyword (codes "axiom")) e) (lower_test t))
        (test_with _ _ _ _ term (object_test t)) (test_with _ _ _ _ term (number_test t)) (test_with _ _ _ _ term (dollar_test t)) deep_at
