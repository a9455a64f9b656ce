-- What the machine reads, the grammar spells: one step backwards.
use Rattle.std.proofs.Common.{◌≡◌, ◌∙◌, ◌⊎◌, inl, inr, ◌++◌, ◌∷◌, [], ℕ, zero, suc, Bool, true, false, not, List, Option, None, Some, refl, sym, ap, subst, append_assoc, append-nil}
use Rattle.cd_parse.specs.declared.terminal.Terminal.{Terminal}
use Rattle.cd_parse.specs.declared.terminal.Terminal.TheVariants.{Word, Upper, Truth, Digits, Foreign, Sign, Other}
use Rattle.cd_parse.specs.declared.terminal.Foreign.TheVariants as foreign
use Rattle.cd_parse.specs.declared.terminal.Sign.TheVariants.{Left, Right, OpenSquare, CloseSquare, Comma, Dot, Equal, Unequal, Tilde, Bar}
use Rattle.cd_parse.specs.declared.tree.Tree.{Tree}
use Rattle.cd_parse.specs.declared.tree.Tree.TheVariants.{Var, App}
use Rattle.cd_parse.specs.declared.tree.TreeLiteral.{TreeLiteral}
use Rattle.cd_parse.specs.declared.tree.TreeAtom.TheVariants as atom
use Rattle.cd_parse.specs.declared.machine.Mode.{Mode}
use Rattle.cd_parse.specs.declared.machine.Mode.TheVariants.{WantLiteral, WantNegated, WantTerm, AfterWord, AfterVar, AfterApp, AfterLiteral}
use Rattle.cd_parse.specs.declared.machine.Frame.{Frame}
use Rattle.cd_parse.specs.Grammar.{Terminals, literal, same, IsApplied, constant, applied, IsTerm, variable, word, AreTerms, only, before, IsAtom, truth, predicate, equation, disequation, IsNegated, an_atom, again, inner, IsLiteral, plain, negative, nested, IsFormula, one, more}
use Rattle.cd_parse.specs.Steps.{Machine, Step, inside, ended, fault, step, after_step, behind_bar, closed, behind_comma, app_step, app_alone, var_alone, var_step, word_step, arguments, in_frame, right_side, with_atom, clean, fresh, literal_step, negated_step, term_step, opened}

abbrev pub TreeLiterals : Type 0
TreeLiterals = List TreeLiteral

-- what is said of the tokens behind the formula with these literals
abbrev pub Behind : Type 1
Behind = TreeLiterals → Terminals → Type 0

-- ---- what the tokens behind a state spell

-- further literals
pub data Mid (n : ℕ) : Terminals → TreeLiterals → Type 0 where
  none_more : Mid n [] []
  bars : (us : Terminals) (ms : TreeLiterals) → IsFormula n us ms → Mid n (Sign Bar ∷ us) ms

-- further arguments
pub data MidTerms (n : ℕ) : Terminals → List Tree → Type 0 where
  no_more : MidTerms n [] []
  commas : (us : Terminals) (ts : List Tree) → AreTerms n us ts → MidTerms n (Sign Comma ∷ us) ts

-- a list of arguments, or none
pub data ArgTail : ℕ → Terminals → List Tree → Type 0 where
  absent : (n : ℕ) → ArgTail n [] []
  some : (n : ℕ) (us : Terminals) (ts : List Tree) → AreTerms n us ts → ArgTail (suc n) (Sign Left ∷ (us ++ Sign Right ∷ [])) ts

-- `=` keeps a sign, `!=` changes it
pub data Side : Bool → Bool → Terminal → Type 0 where
  equal : (s : Bool) → Side s s (Sign Equal)
  unequal : (s : Bool) → Side s (not s) (Sign Unequal)

-- behind a literal
abbrev pub After : Behind → List Bool → ℕ → TreeLiterals → Terminals → Type 0
After K [] n out ts = (mid vs : Terminals) × (ms : TreeLiterals) × Mid n mid ms × (ts ≡ mid ++ vs) × K (out ++ ms) vs
After K (true ∷ gs) n out ts =
    (mid vs : Terminals) × (ms : TreeLiterals) × Mid n mid ms × (ts ≡ mid ++ Sign Right ∷ vs) × After K gs (suc n) (out ++ ms) vs
After K (false ∷ gs) n out ts = (vs : Terminals) × (ts ≡ Sign Right ∷ vs) × After K gs (suc n) out vs

-- an equation's sign and right side behind its left side
abbrev pub Sides : Behind → Bool → List Bool → TreeLiterals → ℕ → Tree → Terminals → Type 0
Sides K s gs out n t ts =
    (z : Bool) × (e : Terminal) × (us vs : Terminals) × (r : Tree) × Side s z e × IsTerm n us r × (ts ≡ e ∷ (us ++ vs))
    × After K gs n (out ++ literal z (atom.Equal t r) ∷ []) vs

-- behind a variable, or a word with its arguments, that stands in no list of arguments
abbrev pub VarAlone : Behind → Bool → List Bool → TreeLiterals → Option Tree → ℕ → List ℕ → Terminals → Type 0
VarAlone K s gs out (Some l) n x ts = After K gs n (out ++ literal s (atom.Equal l (Var x)) ∷ []) ts
VarAlone K s gs out None n x ts = Sides K s gs out n (Var x) ts

abbrev pub AppAlone : Behind → Bool → List Bool → TreeLiterals → Option Tree → ℕ → List ℕ → List Tree → Terminals → Type 0
AppAlone K s gs out (Some l) n w args ts = After K gs n (out ++ literal s (atom.Equal l (App w args)) ∷ []) ts
AppAlone K s gs out None n w args ts = After K gs n (out ++ literal s (atom.Pred w args) ∷ []) ts ⊎ Sides K s gs out n (App w args) ts

-- behind a word with its arguments; B says what may stand behind the outermost one
abbrev pub AppRest : (ℕ → List ℕ → List Tree → Terminals → Type 0) → List Frame → ℕ → List ℕ → List Tree → Terminals → Type 0
AppRest B [] n w args ts = B n w args ts
AppRest B (f ∷ fs) n w args ts = (mid vs : Terminals) × (us : List Tree) × MidTerms n mid us × (ts ≡ mid ++ Sign Right ∷ vs)
    × AppRest B fs (suc n) f.word (f.done ++ App w args ∷ us) vs

abbrev pub FrameRest : (ℕ → List ℕ → List Tree → Terminals → Type 0) → Frame → List Frame → ℕ → Tree → Terminals → Type 0
FrameRest B f fs n t ts = (mid vs : Terminals) × (us : List Tree) × MidTerms n mid us × (ts ≡ mid ++ Sign Right ∷ vs)
    × AppRest B fs (suc n) f.word (f.done ++ t ∷ us) vs

abbrev pub Outer : Behind → Machine → ℕ → List ℕ → List Tree → Terminals → Type 0
Outer K m n w args ts = AppAlone K m.sign m.groups m.out m.left n w args ts

abbrev pub VarRest : Behind → Machine → List Frame → ℕ → List ℕ → Terminals → Type 0
VarRest K m [] n x ts = VarAlone K m.sign m.groups m.out m.left n x ts
VarRest K m (f ∷ fs) n x ts = FrameRest (Outer K m) f fs n (Var x) ts

abbrev pub RestIn : Behind → Mode → Machine → Terminals → Type 0
RestIn K WantLiteral m ts =
    (xs vs : Terminals) × (ls : TreeLiterals) × IsLiteral m.room xs ls × (ts ≡ xs ++ vs) × After K m.groups m.room (m.out ++ ls) vs
RestIn K (WantNegated s) m ts =
    (xs vs : Terminals) × (l : TreeLiteral) × IsNegated m.room s xs l × (ts ≡ xs ++ vs) × After K m.groups m.room (m.out ++ l ∷ []) vs
RestIn K WantTerm m ts = (xs vs : Terminals) × (ts ≡ xs ++ vs)
    × (((x : List ℕ) × (xs ≡ Upper x ∷ []) × VarRest K m m.frames m.room x vs)
    ⊎ ((w : List ℕ) × (args : List Tree) × IsApplied m.room xs w args × AppRest (Outer K m) m.frames m.room w args vs))
RestIn K (AfterWord w) m ts =
    (xs vs : Terminals) × (args : List Tree) × ArgTail m.room xs args × (ts ≡ xs ++ vs) × AppRest (Outer K m) m.frames m.room w args vs
RestIn K (AfterVar x) m ts = VarRest K m m.frames m.room x ts
RestIn K (AfterApp w args) m ts = AppRest (Outer K m) m.frames m.room w args ts
RestIn K AfterLiteral m ts = After K m.groups m.room m.out ts

abbrev pub Rest : Behind → Machine → Terminals → Type 0
Rest K m ts = RestIn K m.mode m ts

-- what a step leads to
abbrev pub Leads : Behind → Terminal → Terminals → Step → Type 0
Leads K t ts (inside m) = Rest K m ts
Leads K t ts (ended ls) = K ls (t ∷ ts)
Leads K t ts (fault w) = ⊥

-- ---- behind a literal

joined : (n : ℕ) (xs mid : Terminals) (ls ms : TreeLiterals) → IsLiteral n xs ls → Mid n mid ms → IsFormula n (xs ++ mid) (ls ++ ms)
joined n xs _ ls _ d none_more =
    subst (λ (ts : Terminals). IsFormula n ts (ls ++ [])) (sym (append-nil xs))
    (subst (IsFormula n xs) (sym (append-nil ls)) (one n xs ls d))
joined n xs _ ls _ d (bars us ms f) = more n xs us ls ms d f

regroup : (ts xs vs mid ws : Terminals) → ts ≡ xs ++ vs → vs ≡ mid ++ ws → ts ≡ (xs ++ mid) ++ ws
regroup ts xs vs mid ws e f = e ∙ ap (λ (u : Terminals). xs ++ u) f ∙ sym (append_assoc xs mid ws)

bar_back : (K : Behind) (m : Machine) (gs : List Bool) (ts : Terminals) → Leads K (Sign Bar) ts (behind_bar (record m { groups = gs }) gs)
    → After K gs m.room m.out (Sign Bar ∷ ts)
bar_back K m [] ts (xs, vs, ls, d, split, (mid, ws, ms, md, close, k)) = (
  Sign Bar ∷ (xs ++ mid),
  ws,
  ls ++ ms,
  bars (xs ++ mid) (ls ++ ms) (joined m.room xs mid ls ms d md),
  ap (λ (u : Terminals). Sign Bar ∷ u) (regroup ts xs vs mid ws split close),
  subst (λ (o : TreeLiterals). K o ws)
      (append_assoc m.out ls ms) k,
)
bar_back K m (true ∷ gs) ts (xs, vs, ls, d, split, (mid, ws, ms, md, close, k)) = (
  Sign Bar ∷ (xs ++ mid),
  ws,
  ls ++ ms,
  bars (xs ++ mid) (ls ++ ms) (joined m.room xs mid ls ms d md),
  ap (λ (u : Terminals). Sign Bar ∷ u) (regroup ts xs vs mid (Sign Right ∷ ws) split close),
  subst (λ (o : TreeLiterals). After K gs (suc m.room) o ws) (append_assoc m.out ls ms) k,
)
bar_back K m (false ∷ gs) ts h = absurd h

right_back : (K : Behind) (m : Machine) (gs : List Bool) (ts : Terminals) → Leads K (Sign Right) ts (closed (record m { groups = gs }) gs)
    → After K gs m.room m.out (Sign Right ∷ ts)
right_back K m [] ts k =
    ([], Sign Right ∷ ts, [], none_more, refl, subst (λ (o : TreeLiterals). K o (Sign Right ∷ ts)) (sym (append-nil m.out)) k)
right_back K m (true ∷ gs) ts k =
    ([], ts, [], none_more, refl, subst (λ (o : TreeLiterals). After K gs (suc m.room) o ts) (sym (append-nil m.out)) k)
right_back K m (false ∷ gs) ts k = (ts, refl, k)

comma_back : (K : Behind) (m : Machine) (gs : List Bool) (ts : Terminals)
    → Leads K (Sign Comma) ts (behind_comma (record m { groups = gs }) gs) → After K gs m.room m.out (Sign Comma ∷ ts)
comma_back K m [] ts k =
    ([], Sign Comma ∷ ts, [], none_more, refl, subst (λ (o : TreeLiterals). K o (Sign Comma ∷ ts)) (sym (append-nil m.out)) k)
comma_back K m (g ∷ gs) ts k = absurd k

after_back : (K : Behind) (m : Machine) (u : Terminal) (ts : Terminals) → Leads K u ts (after_step m u)
    → After K m.groups m.room m.out (u ∷ ts)
after_back K m (Sign Bar) ts h = bar_back K m m.groups ts h
after_back K m (Sign Right) ts h = right_back K m m.groups ts h
after_back K m (Sign Comma) ts h = comma_back K m m.groups ts h
after_back x m t ts h = absurd h

-- ---- behind a term in a list of arguments

joined_terms : (n : ℕ) (xs mid : Terminals) (t : Tree) (us : List Tree) → IsTerm n xs t → MidTerms n mid us
    → AreTerms n (xs ++ mid) (t ∷ us)
joined_terms n xs _ t _ d no_more = subst (λ (ts : Terminals). AreTerms n ts (t ∷ [])) (sym (append-nil xs)) (only n xs t d)
joined_terms n xs _ t _ d (commas us ts f) = before n xs us t ts d f

-- a term, and what stands behind it in a list of arguments
abbrev pub Argument : Behind → Machine → Frame → List Frame → ℕ → Terminals → Type 0
Argument K m f fs n ts = (xs vs : Terminals) × (t : Tree) × IsTerm n xs t × (ts ≡ xs ++ vs) × FrameRest (Outer K m) f fs n t vs

argument : (K : Behind) (m : Machine) (f : Frame) (fs : List Frame) (ts : Terminals)
    → Rest K (record m { mode = WantTerm; frames = f ∷ fs }) ts → Argument K m f fs m.room ts
argument K m f fs ts (xs, vs, split, inl (x, e, rest)) =
    (xs, vs, Var x, subst (λ (u : Terminals). IsTerm m.room u (Var x)) (sym e) (variable m.room x), split, rest)
argument K m f fs ts (xs, vs, split, inr (w, args, d, rest)) = (xs, vs, App w args, word m.room xs w args d, split, rest)

frame_comma : (K : Behind) (m : Machine) (t : Tree) (f : Frame) (fs : List Frame) (ts : Terminals)
    → Argument K m (record f { done = f.done ++ t ∷ [] }) fs m.room ts
    → FrameRest (Outer K m) f fs m.room t (Sign Comma ∷ ts)
frame_comma K m t f fs ts (xs, vs, a, d, split, (mid, ws, us, md, close, rest)) = (
  Sign Comma ∷ (xs ++ mid),
  ws,
  a ∷ us,
  commas (xs ++ mid) (a ∷ us) (joined_terms m.room xs mid a us d md),
  ap (λ (u : Terminals). Sign Comma ∷ u) (regroup ts xs vs mid (Sign Right ∷ ws) split close),
  subst (λ (l : List Tree). AppRest (Outer K m) fs (suc m.room) f.word l ws) (append_assoc f.done (t ∷ []) (a ∷ us)) rest,
)

frame_back : (K : Behind) (m : Machine) (t : Tree) (f : Frame) (fs : List Frame) (u : Terminal) (ts : Terminals)
    → Leads K u ts (in_frame m t f fs u)
    → FrameRest (Outer K m) f fs m.room t (u ∷ ts)
frame_back K m t f fs (Sign Comma) ts h = frame_comma K m t f fs ts (argument K m (record f { done = f.done ++ t ∷ [] }) fs ts h)
frame_back K m t f fs (Sign Right) ts h = ([], ts, [], no_more, refl, h)
frame_back x m t f fs t' ts h = absurd h

-- ---- behind a term that stands in no list of arguments

side : (K : Behind) (m : Machine) (t : Tree) (z : Bool) (e : Terminal) (ts : Terminals) → Side m.sign z e
    → Rest K (record m { mode = WantTerm; frames = []; left = Some t; sign = z }) ts → Sides K m.sign m.groups m.out m.room t (e ∷ ts)
side K m t z e ts s (xs, vs, split, inl (x, is, rest)) =
    (z, e, xs, vs, Var x, s, subst (λ (u : Terminals). IsTerm m.room u (Var x)) (sym is) (variable m.room x), ap (λ (u : Terminals). e ∷ u) split, rest)
side K m t z e ts s (xs, vs, split, inr (w, args, d, rest)) =
    (z, e, xs, vs, App w args, s, word m.room xs w args d, ap (λ (u : Terminals). e ∷ u) split, rest)

var_alone_back : (K : Behind) (m : Machine) (x : List ℕ) (l : Option Tree) (u : Terminal) (ts : Terminals)
    → Leads K u ts (var_alone m x l u)
    → VarAlone K m.sign m.groups m.out l m.room x (u ∷ ts)
var_alone_back K m x (Some l) u ts h = after_back K (with_atom m m.sign (atom.Equal l (Var x))) u ts h
var_alone_back K m x None (Sign Equal) ts h = side K m (Var x) m.sign (Sign Equal) ts (equal m.sign) h
var_alone_back K m x None (Sign Unequal) ts h = side K m (Var x) (not m.sign) (Sign Unequal) ts (unequal m.sign) h
var_alone_back x m x' o u ts h = absurd h

app_alone_back : (K : Behind) (m : Machine) (w : List ℕ) (args : List Tree) (l : Option Tree) (u : Terminal) (ts : Terminals)
    → Leads K u ts (app_alone m w args l u)
    → AppAlone K m.sign m.groups m.out l m.room w args (u ∷ ts)
app_alone_back K m w args (Some l) u ts h = after_back K (with_atom m m.sign (atom.Equal l (App w args))) u ts h
app_alone_back K m w args None (Sign Equal) ts h = inr (side K m (App w args) m.sign (Sign Equal) ts (equal m.sign) h)
app_alone_back K m w args None (Sign Unequal) ts h = inr (side K m (App w args) (not m.sign) (Sign Unequal) ts (unequal m.sign) h)
app_alone_back K m w args None (Sign Comma) ts h = inl (after_back K (with_atom m m.sign (atom.Pred w args)) (Sign Comma) ts h)
app_alone_back K m w args None (Sign Right) ts h = inl (after_back K (with_atom m m.sign (atom.Pred w args)) (Sign Right) ts h)
app_alone_back K m w args None (Sign Bar) ts h = inl (after_back K (with_atom m m.sign (atom.Pred w args)) (Sign Bar) ts h)
app_alone_back x m w args o u ts h = absurd h

var_back : (K : Behind) (m : Machine) (x : List ℕ) (fs : List Frame) (u : Terminal) (ts : Terminals) → Leads K u ts (var_step m x fs u)
    → VarRest K m fs m.room x (u ∷ ts)
var_back K m x [] u ts h = var_alone_back K m x m.left u ts h
var_back K m x (f ∷ fs) u ts h = frame_back K m (Var x) f fs u ts h

app_back : (K : Behind) (m : Machine) (w : List ℕ) (args : List Tree) (fs : List Frame) (u : Terminal) (ts : Terminals)
    → Leads K u ts (app_step m w args fs u)
    → AppRest (Outer K m) fs m.room w args (u ∷ ts)
app_back K m w args [] u ts h = app_alone_back K m w args m.left u ts h
app_back K m w args (f ∷ fs) u ts h = frame_back K m (App w args) f fs u ts h

-- ---- behind a word

left_back : (K : Behind) (m : Machine) (w : List ℕ) (room : ℕ) (ts : Terminals)
    → Leads K (Sign Left) ts (arguments (record m { room = room }) w room)
    → RestIn K (AfterWord w) (record m { room = room }) (Sign Left ∷ ts)
left_back K m w zero ts h = absurd h
left_back K m w (suc n) ts h =
    let (xs, vs, a, d, split, (mid, ws, us, md, close, rest)) = argument K (record m { room = n }) (record { word = w; done = [] }) m.frames ts h in (
      Sign Left ∷ ((xs ++ mid) ++ Sign Right ∷ []),
      ws,
      a ∷ us,
      some n (xs ++ mid) (a ∷ us) (joined_terms n xs mid a us d md),
      ap (λ (u : Terminals). Sign Left ∷ u)
          (regroup ts xs vs mid (Sign Right ∷ ws) split close ∙ sym (append_assoc (xs ++ mid) (Sign Right ∷ []) ws)),
      rest,
    )

bare : (K : Behind) (m : Machine) (w : List ℕ) (u : Terminal) (ts : Terminals) → Leads K u ts (app_step m w [] m.frames u)
    → RestIn K (AfterWord w) m (u ∷ ts)
bare K m w u ts h = ([], u ∷ ts, [], absent m.room, refl, app_back K m w [] m.frames u ts h)

word_back : (K : Behind) (m : Machine) (w : List ℕ) (u : Terminal) (ts : Terminals) → Leads K u ts (word_step m w u)
    → RestIn K (AfterWord w) m (u ∷ ts)
word_back K m w (Sign Left) ts h = left_back K m w m.room ts h
word_back K m w (Sign Comma) ts h = bare K m w (Sign Comma) ts h
word_back K m w (Sign Right) ts h = bare K m w (Sign Right) ts h
word_back K m w (Sign Bar) ts h = bare K m w (Sign Bar) ts h
word_back K m w (Sign OpenSquare) ts h = bare K m w (Sign OpenSquare) ts h
word_back K m w (Sign CloseSquare) ts h = bare K m w (Sign CloseSquare) ts h
word_back K m w (Sign Dot) ts h = bare K m w (Sign Dot) ts h
word_back K m w (Sign Equal) ts h = bare K m w (Sign Equal) ts h
word_back K m w (Sign Unequal) ts h = bare K m w (Sign Unequal) ts h
word_back K m w (Sign Tilde) ts h = bare K m w (Sign Tilde) ts h
word_back K m w (Word q v) ts h = bare K m w (Word q v) ts h
word_back K m w (Upper x) ts h = bare K m w (Upper x) ts h
word_back K m w (Truth b) ts h = bare K m w (Truth b) ts h
word_back K m w (Digits d) ts h = bare K m w (Digits d) ts h
word_back K m w (Foreign f) ts h = bare K m w (Foreign f) ts h
word_back K m w Other ts h = bare K m w Other ts h

-- ---- where an atom begins

-- an atom, and what stands behind it
abbrev pub Atom : Behind → Machine → Bool → Terminals → Type 0
Atom K m s ts =
    (xs vs : Terminals) × (l : TreeLiteral) × IsAtom m.room s xs l × (ts ≡ xs ++ vs) × After K m.groups m.room (m.out ++ l ∷ []) vs

sides_atom : (K : Behind) (m : Machine) (s z : Bool) (e : Terminal) (xs vs us ws : Terminals) (t r : Tree) → IsTerm m.room xs t
    → Side s z e → IsTerm m.room us r → vs ≡ e ∷ (us ++ ws)
    → After K m.groups m.room (m.out ++ literal z (atom.Equal t r) ∷ []) ws → (ts : Terminals) → ts ≡ xs ++ vs → Atom K m s ts
sides_atom K m _ _ _ xs vs us ws t r d (equal s) f is rest ts split =
    (xs ++ Sign Equal ∷ us, ws, literal s (atom.Equal t r), equation m.room s xs us t r d f, regroup ts xs vs (Sign Equal ∷ us) ws split is, rest)
sides_atom K m _ _ _ xs vs us ws t r d (unequal s) f is rest ts split =
    (xs ++ Sign Unequal ∷ us, ws, literal (not s) (atom.Equal t r), disequation m.room s xs us t r d f, regroup ts xs vs (Sign Unequal ∷ us) ws split is, rest)

upper_atom : (K : Behind) (m : Machine) (s : Bool) (x : List ℕ) (ts : Terminals) → Rest K (fresh m (AfterVar x) s) ts
    → Atom K m s (Upper x ∷ ts)
upper_atom K m s x ts (z, e, us, ws, r, sd, f, is, rest) =
    sides_atom K m s z e (Upper x ∷ []) ts us ws (Var x) r (variable m.room x) sd f is rest (Upper x ∷ ts) refl

word_applied : (n : ℕ) (q : Bool) (w : List ℕ) (xs : Terminals) (args : List Tree) → ArgTail n xs args → IsApplied n (Word q w ∷ xs) w args
word_applied _ q w _ _ (absent n) = constant n q w
word_applied _ q w _ _ (some n us ts d) = applied n q w us ts d

word_atom : (K : Behind) (m : Machine) (s q : Bool) (w : List ℕ) (ts : Terminals) → Rest K (fresh m (AfterWord w) s) ts
    → Atom K m s (Word q w ∷ ts)
word_atom K m s q w ts (xs, vs, args, tail, split, inl rest) =
    (Word q w ∷ xs, vs, literal s (atom.Pred w args), predicate m.room s (Word q w ∷ xs) w args (word_applied m.room q w xs args tail), ap (λ (u : Terminals). Word q w ∷ u) split, rest)
word_atom K m s q w ts (xs, vs, args, tail, split, inr (z, e, us, ws, r, sd, f, is, rest)) =
    sides_atom K m s z e (Word q w ∷ xs) vs us ws (App w args) r
    (word m.room (Word q w ∷ xs) w args (word_applied m.room q w xs args tail)) sd f is rest
    (Word q w ∷ ts) (ap (λ (u : Terminals). Word q w ∷ u) split)

plain_back : (K : Behind) (m : Machine) (ts : Terminals) → Atom K m true ts → RestIn K WantLiteral m ts
plain_back K m ts (xs, vs, l, d, split, rest) = (xs, vs, l ∷ [], plain m.room xs l d, split, rest)

bare_back : (K : Behind) (m : Machine) (s : Bool) (ts : Terminals) → Atom K m s ts → RestIn K (WantNegated s) m ts
bare_back K m s ts (xs, vs, l, d, split, rest) = (xs, vs, l, an_atom m.room s xs l d, split, rest)

foreign_back : (K : Behind) (f : _) (u : Terminal) (ts : Terminals) (P : Type 0)
    → Leads K u ts (Rattle.cd_parse.specs.Steps.foreign_fault f) → P
foreign_back K foreign.Object u ts P h = absurd h
foreign_back K foreign.Number u ts P h = absurd h
foreign_back K foreign.Dollar u ts P h = absurd h

group_back : (K : Behind) (m : Machine) (room : ℕ) (ts : Terminals)
    → Leads K (Sign Left) ts (opened (record m { room = room }) WantLiteral true room)
    → RestIn K WantLiteral (record m { room = room }) (Sign Left ∷ ts)
group_back K m zero ts h = absurd h
group_back K m (suc n) ts (xs, vs, ls, d, split, (mid, ws, ms, md, close, rest)) = (
  Sign Left ∷ ((xs ++ mid) ++ Sign Right ∷ []),
  ws,
  ls ++ ms,
  nested n (xs ++ mid) (ls ++ ms) (joined n xs mid ls ms d md),
  ap (λ (u : Terminals). Sign Left ∷ u)
      (regroup ts xs vs mid (Sign Right ∷ ws) split close ∙ sym (append_assoc (xs ++ mid) (Sign Right ∷ []) ws)),
  subst (λ (o : TreeLiterals). After K m.groups (suc n) o ws) (append_assoc m.out ls ms) rest,
)

inner_back : (K : Behind) (m : Machine) (s : Bool) (room : ℕ) (ts : Terminals)
    → Leads K (Sign Left) ts (opened (record m { room = room }) (WantNegated s) false room)
    → RestIn K (WantNegated s) (record m { room = room }) (Sign Left ∷ ts)
inner_back K m s zero ts h = absurd h
inner_back K m s (suc n) ts (xs, vs, l, d, split, (ws, close, rest)) = (
  Sign Left ∷ (xs ++ Sign Right ∷ []),
  ws,
  l,
  inner n s xs l d,
  ap (λ (u : Terminals). Sign Left ∷ u)
      (split ∙ ap (λ (u : Terminals). xs ++ u) close ∙ sym (append_assoc xs (Sign Right ∷ []) ws)),
  rest,
)

literal_back : (K : Behind) (m : Machine) (u : Terminal) (ts : Terminals) → Leads K u ts (literal_step m u)
    → RestIn K WantLiteral m (u ∷ ts)
literal_back K m (Word q w) ts h = plain_back K m (Word q w ∷ ts) (word_atom K m true q w ts h)
literal_back K m (Upper x) ts h = plain_back K m (Upper x ∷ ts) (upper_atom K m true x ts h)
literal_back K m (Truth b) ts h = plain_back K m (Truth b ∷ ts) (Truth b ∷ [], ts, literal b atom.Truth, truth m.room true b, refl, h)
literal_back K m (Digits d) ts h = absurd h
literal_back K m (Foreign f) ts h = foreign_back K f (Foreign f) ts _ h
literal_back K m (Sign Left) ts h = group_back K m m.room ts h
literal_back K m (Sign Tilde) ts (xs, vs, l, d, split, rest) =
    (Sign Tilde ∷ xs, vs, l ∷ [], negative m.room xs l d, ap (λ (u : Terminals). Sign Tilde ∷ u) split, rest)
literal_back x m t ts h = absurd h

negated_back : (K : Behind) (m : Machine) (s : Bool) (u : Terminal) (ts : Terminals) → Leads K u ts (negated_step m s u)
    → RestIn K (WantNegated s) m (u ∷ ts)
negated_back K m s (Word q w) ts h = bare_back K m s (Word q w ∷ ts) (word_atom K m s q w ts h)
negated_back K m s (Upper x) ts h = bare_back K m s (Upper x ∷ ts) (upper_atom K m s x ts h)
negated_back K m s (Truth b) ts h =
    bare_back K m s (Truth b ∷ ts) (Truth b ∷ [], ts, literal (same s b) atom.Truth, truth m.room s b, refl, h)
negated_back K m s (Digits d) ts h = absurd h
negated_back K m s (Foreign f) ts h = foreign_back K f (Foreign f) ts _ h
negated_back K m s (Sign Left) ts h = inner_back K m s m.room ts h
negated_back K m s (Sign Tilde) ts (xs, vs, l, d, split, rest) =
    (Sign Tilde ∷ xs, vs, l, again m.room s xs l d, ap (λ (u : Terminals). Sign Tilde ∷ u) split, rest)
negated_back x m s t ts h = absurd h

term_back : (K : Behind) (m : Machine) (u : Terminal) (ts : Terminals) → Leads K u ts (term_step m u) → RestIn K WantTerm m (u ∷ ts)
term_back K m (Word q w) ts (xs, vs, args, tail, split, rest) =
    (Word q w ∷ xs, vs, ap (λ (u : Terminals). Word q w ∷ u) split, inr (w, args, word_applied m.room q w xs args tail, rest))
term_back K m (Upper x) ts h = (Upper x ∷ [], ts, refl, inl (x, refl, h))
term_back K m (Foreign f) ts h = foreign_back K f (Foreign f) ts _ h
term_back x m t ts h = absurd h

-- ---- one step

in_back : (K : Behind) (k : Mode) (m : Machine) (u : Terminal) (ts : Terminals) → Leads K u ts (Rattle.cd_parse.specs.Steps.step_in k m u)
    → RestIn K k m (u ∷ ts)
in_back K WantLiteral m u ts h = literal_back K m u ts h
in_back K (WantNegated s) m u ts h = negated_back K m s u ts h
in_back K WantTerm m u ts h = term_back K m u ts h
in_back K (AfterWord w) m u ts h = word_back K m w u ts h
in_back K (AfterVar x) m u ts h = var_back K m x m.frames u ts h
in_back K (AfterApp w args) m u ts h = app_back K m w args m.frames u ts h
in_back K AfterLiteral m u ts h = after_back K m u ts h

pub back : (K : Behind) (m : Machine) (u : Terminal) (ts : Terminals) → Leads K u ts (step m u) → Rest K m (u ∷ ts)
back K m u ts h = in_back K m.mode m u ts h

-- at the start the rest is a formula, and what stands behind it
pub start_back : (K : Behind) (m : Machine) (ts : Terminals) → m.mode ≡ WantLiteral → m.groups ≡ [] → m.out ≡ [] → Rest K m ts
    → (xs vs : Terminals) × (ls : TreeLiterals) × IsFormula m.room xs ls × (ts ≡ xs ++ vs) × K ls vs
start_back K m ts k g o h = go m.mode m.groups m.out k g o h
  where
    go : (k : Mode) (g : List Bool) (o : TreeLiterals) → k ≡ WantLiteral → g ≡ [] → o ≡ []
        → RestIn K k (record m { groups = g; out = o }) ts
        → (xs vs : Terminals) × (ls : TreeLiterals) × IsFormula m.room xs ls × (ts ≡ xs ++ vs) × K ls vs
    go k g o ek eg eo r = at_start (subst (λ (y : TreeLiterals). RestIn K WantLiteral (record m { groups = []; out = y }) ts) eo
        (subst (λ (y : List Bool). RestIn K WantLiteral (record m { groups = y; out = o }) ts) eg (subst (λ (y : Mode). RestIn K y (record m { groups = g; out = o }) ts) ek r)))
      where
        at_start : RestIn K WantLiteral (record m { groups = []; out = [] }) ts
            → (xs vs : Terminals) × (ls : TreeLiterals) × IsFormula m.room xs ls × (ts ≡ xs ++ vs) × K ls vs
        at_start (xs, vs, ls, d, split, (mid, ws, ms, md, close, rest)) =
            (xs ++ mid, ws, ls ++ ms, joined m.room xs mid ls ms d md, regroup ts xs vs mid ws split close, rest)
