-- What is read doesn't depend on texts and trees, and each word of a formula is in its literals.
use Rattle.std.proofs.Common.{◌≡◌, ◌∙◌, ◌+◌, ◌≤◌, ◌++◌, ◌∷◌, [], ℕ, zero, suc, Bool, true, false, not, List, Option, None, Some, sum_by, refl, sym, ap, subst, arith}
use Rattle.std.proofs.lemmas.List.Sums.{sum_by-cons, sum_by-append}
use Rattle.cd_parse.specs.declared.terminal.Terminal.{Terminal}
use Rattle.cd_parse.specs.declared.terminal.Terminal.TheVariants.{Word, Upper, Truth, Foreign, Sign}
use Rattle.cd_parse.specs.declared.terminal.Foreign.{Foreign as ForeignKind}
use Rattle.cd_parse.specs.declared.terminal.Foreign.TheVariants as foreign
use Rattle.cd_parse.specs.declared.terminal.Sign.TheVariants.{Left, Right, OpenSquare, CloseSquare, Comma, Dot, Equal, Unequal, Tilde, Bar}
use Rattle.cd_parse.specs.declared.tree.Tree.{Tree}
use Rattle.cd_parse.specs.declared.tree.Tree.TheVariants.{Var, App}
use Rattle.cd_parse.specs.declared.tree.TreeAtom.{TreeAtom}
use Rattle.cd_parse.specs.declared.tree.TreeAtom.TheVariants as atom
use Rattle.cd_parse.specs.declared.tree.TreeLiteral.{TreeLiteral}
use Rattle.cd_parse.specs.declared.label.Label.{Label}
use Rattle.cd_parse.specs.declared.label.Role.{Role}
use Rattle.cd_parse.specs.declared.machine.Mode.{Mode}
use Rattle.cd_parse.specs.declared.machine.Mode.TheVariants.{WantLiteral, WantNegated, WantTerm, AfterWord, AfterVar, AfterApp, AfterLiteral}
use Rattle.cd_parse.specs.declared.machine.Frame.{Frame}
use Rattle.cd_parse.specs.declared.statement.Statement.{Statement}
use Rattle.cd_parse.specs.declared.statement.Statement.TheVariants.{Clause, Include}
use Rattle.cd_parse.specs.Grammar.{literal, same}
use Rattle.cd_parse.specs.Trees.{size_of, atom_size, literals_size}
use Rattle.cd_parse.specs.Steps.{Machine, Step, inside, ended, fault, step, after_step, in_frame, var_step, app_step, word_step, with_atom, foreign_fault}
use Rattle.cd_parse.specs.Stages.{Stage, Formula, Notes, WantDot, Done, Advance, to, wrong, formula_step, formula_end, notes_step, close_round, close_square, advance}
use Rattle.cd_parse.specs.Bare.{bare_mode, bare_frames, bare_left, bare, bare_statement, bare_stage, frames_size, left_size, words_read, statement_size, stage_size, word_count, counted}
use Rattle.cd_parse.proofs.Sizes.{size_of-Var, size_of-App}

-- ---- without texts and trees

frames_again : (fs : List Frame) → bare_frames (bare_frames fs) ≡ bare_frames fs
frames_again [] = refl
frames_again (f ∷ fs) = ap (λ (gs : List Frame). record { word = []; done = [] } ∷ gs) (frames_again fs)

left_again : (o : Option Tree) → bare_left (bare_left o) ≡ bare_left o
left_again None = refl
left_again (Some t) = refl

mode_again : (k : Mode) → bare_mode (bare_mode k) ≡ bare_mode k
mode_again WantLiteral = refl
mode_again (WantNegated s) = refl
mode_again WantTerm = refl
mode_again (AfterWord w) = refl
mode_again (AfterVar x) = refl
mode_again (AfterApp w args) = refl
mode_again AfterLiteral = refl

abbrev bare_step : Step → Step
bare_step (inside m) = inside (bare m)
bare_step (ended ls) = ended []
bare_step (fault w) = fault w

-- taken twice it changes nothing
again : (m : Machine) → inside (bare m) ≡ inside (bare (bare m))
again m = λ i. inside (record m {
  mode = sym (mode_again m.mode) i;
  frames = sym (frames_again m.frames) i;
  left = sym (left_again m.left) i;
  out = [];
})

literal_bare : (m : Machine) (gs : List Bool) (t : Terminal)
    → bare_step (after_step (record m { groups = gs }) t) ≡ bare_step (after_step (bare (record m { groups = gs })) t)
literal_bare m [] (Sign Bar) = again (record m { mode = WantLiteral; groups = [] })
literal_bare m (true ∷ gs) (Sign Bar) = again (record m { mode = WantLiteral; groups = true ∷ gs })
literal_bare m (false ∷ gs) (Sign Bar) = refl
literal_bare m [] (Sign Right) = refl
literal_bare m (g ∷ gs) (Sign Right) = again (record m { mode = AfterLiteral; groups = gs; room = suc m.room })
literal_bare m [] (Sign Comma) = refl
literal_bare m (g ∷ gs) (Sign Comma) = refl
literal_bare m gs t = refl

-- an atom that was read leaves the same behind
atom_bare : (m : Machine) (s : Bool) (a b : TreeAtom) (t : Terminal)
    → bare_step (after_step (with_atom m s a) t) ≡ bare_step (after_step (with_atom (bare m) s b) t)
atom_bare m s a b t = literal_bare (with_atom m s a) m.groups t ∙ sym (literal_bare (with_atom (bare m) s b) m.groups t)

frame_bare : (m : Machine) (u v : Tree) (f : Frame) (fs : List Frame) (t : Terminal)
    → bare_step (in_frame m u f fs t) ≡ bare_step (in_frame (bare m) v (record { word = []; done = [] }) (bare_frames fs) t)
frame_bare m u v f fs (Sign Comma) = again (record m { mode = WantTerm; frames = f ∷ fs })
frame_bare m u v f fs (Sign Right) = again (record m { mode = AfterApp [] []; frames = fs; room = suc m.room })
frame_bare m u v f fs t = refl

side_bare : (m : Machine) (s : Bool) (u v : Tree)
    → inside (bare (record m { mode = WantTerm; frames = []; left = Some u; sign = s })) ≡ inside (bare (record (bare m) { mode = WantTerm; frames = []; left = Some v; sign = s }))
side_bare m s u v = refl

var_bare : (m : Machine) (x : List ℕ) (fs : List Frame) (o : Option Tree) (t : Terminal)
    → bare_step (var_step (record m { left = o }) x fs t) ≡ bare_step (var_step (bare (record m { left = o })) [] (bare_frames fs) t)
var_bare m x (f ∷ fs) o t = frame_bare (record m { left = o }) (Var x) (Var []) f fs t
var_bare m x [] (Some e) t = atom_bare (record m { left = Some e }) m.sign (atom.Equal e (Var x)) (atom.Equal (Var []) (Var [])) t
var_bare m x [] None (Sign Equal) = refl
var_bare m x [] None (Sign Unequal) = refl
var_bare m x [] None t = refl

app_bare : (m : Machine) (w : List ℕ) (args : List Tree) (fs : List Frame) (o : Option Tree) (t : Terminal)
    → bare_step (app_step (record m { left = o }) w args fs t) ≡ bare_step (app_step (bare (record m { left = o })) [] [] (bare_frames fs) t)
app_bare m w args (f ∷ fs) o t = frame_bare (record m { left = o }) (App w args) (App [] []) f fs t
app_bare m w args [] (Some e) t =
    atom_bare (record m { left = Some e }) m.sign (atom.Equal e (App w args)) (atom.Equal (Var []) (App [] [])) t
app_bare m w args [] None (Sign Equal) = refl
app_bare m w args [] None (Sign Unequal) = refl
app_bare m w args [] None t = atom_bare (record m { left = None }) m.sign (atom.Pred w args) (atom.Pred [] []) t

word_bare : (m : Machine) (w : List ℕ) (room : ℕ) (t : Terminal)
    → bare_step (word_step (record m { room = room }) w t) ≡ bare_step (word_step (bare (record m { room = room })) [] t)
word_bare m w zero (Sign Left) = refl
word_bare m w (suc n) (Sign Left) = again (record m { mode = WantTerm; frames = record { word = w; done = [] } ∷ m.frames; room = n })
word_bare m w room t = app_bare (record m { room = room }) w [] m.frames m.left t

wants_bare : (m : Machine) (room : ℕ) (t : Terminal)
    → bare_step (step (record m { mode = WantLiteral; room = room }) t) ≡ bare_step (step (bare (record m { mode = WantLiteral; room = room })) t)
wants_bare m zero (Sign Left) = refl
wants_bare m (suc n) (Sign Left) = again (record m { mode = WantLiteral; groups = true ∷ m.groups; room = n })
wants_bare m room (Sign Tilde) = again (record m { mode = WantNegated false; room = room })
wants_bare m room t = refl

negated_bare : (m : Machine) (s : Bool) (room : ℕ) (t : Terminal)
    → bare_step (step (record m { mode = WantNegated s; room = room }) t) ≡ bare_step (step (bare (record m { mode = WantNegated s; room = room })) t)
negated_bare m s zero (Sign Left) = refl
negated_bare m s (suc n) (Sign Left) = again (record m { mode = WantNegated s; groups = false ∷ m.groups; room = n })
negated_bare m s room (Sign Tilde) = again (record m { mode = WantNegated (not s); room = room })
negated_bare m s room t = refl

term_bare : (m : Machine) (t : Terminal)
    → bare_step (step (record m { mode = WantTerm }) t) ≡ bare_step (step (bare (record m { mode = WantTerm })) t)
term_bare m (Word q w) = again (record m { mode = AfterWord w })
term_bare m (Upper x) = again (record m { mode = AfterVar x })
term_bare m t = refl

mode_bare : (m : Machine) (k : Mode) (t : Terminal)
    → bare_step (step (record m { mode = k }) t) ≡ bare_step (step (bare (record m { mode = k })) t)
mode_bare m WantLiteral t = wants_bare m m.room t
mode_bare m (WantNegated s) t = negated_bare m s m.room t
mode_bare m WantTerm t = term_bare m t
mode_bare m (AfterWord w) t = word_bare (record m { mode = AfterWord w }) w m.room t
mode_bare m (AfterVar x) t = var_bare (record m { mode = AfterVar x }) x m.frames m.left t
mode_bare m (AfterApp w args) t = app_bare (record m { mode = AfterApp w args }) w args m.frames m.left t
mode_bare m AfterLiteral t = literal_bare (record m { mode = AfterLiteral }) m.groups t

step_bare : (m : Machine) (t : Terminal) → bare_step (step m t) ≡ bare_step (step (bare m) t)
step_bare m t = mode_bare m m.mode t

abbrev pub bare_advance : Advance → Advance
bare_advance (to st) = to (bare_stage st)
bare_advance (wrong w) = wrong w

statement_again : (s : Statement) → bare_statement s ≡ bare_statement (bare_statement s)
statement_again (Clause l r ls) = refl
statement_again (Include p only) = refl

end_bare : (s u : Statement) (t : Terminal) → bare_statement s ≡ bare_statement u
    → bare_advance (formula_end s t) ≡ bare_advance (formula_end u t)
end_bare s u (Sign Comma) e = ap (λ (v : Statement). to (Notes v [] false)) e
end_bare s u (Sign Right) e = ap (λ (v : Statement). to (WantDot v)) e
end_bare s u t e = refl

round_bare : (s u : Statement) (bs : List Bool) (some : Bool) → bare_statement s ≡ bare_statement u
    → bare_advance (close_round s bs some) ≡ bare_advance (close_round u bs some)
round_bare s u [] true e = ap (λ (v : Statement). to (WantDot v)) e
round_bare s u [] false e = refl
round_bare s u (true ∷ bs) some e = ap (λ (v : Statement). to (Notes v bs true)) e
round_bare s u (false ∷ bs) some e = refl

square_bare : (s u : Statement) (bs : List Bool) → bare_statement s ≡ bare_statement u
    → bare_advance (close_square s bs) ≡ bare_advance (close_square u bs)
square_bare s u [] e = refl
square_bare s u (true ∷ bs) e = refl
square_bare s u (false ∷ bs) e = ap (λ (v : Statement). to (Notes v bs true)) e

notes_bare : (s u : Statement) (bs : List Bool) (some : Bool) (t : Terminal) → bare_statement s ≡ bare_statement u
    → bare_advance (notes_step s bs some t) ≡ bare_advance (notes_step u bs some t)
notes_bare s u bs some (Sign Left) e = ap (λ (v : Statement). to (Notes v (true ∷ bs) true)) e
notes_bare s u bs some (Sign OpenSquare) e = ap (λ (v : Statement). to (Notes v (false ∷ bs) true)) e
notes_bare s u bs some (Sign Right) e = round_bare s u bs some e
notes_bare s u bs some (Sign CloseSquare) e = square_bare s u bs e
notes_bare s u bs some t e = ap (λ (v : Statement). to (Notes v bs true)) e

formula_bare : (l : Label) (r : Role) (t : Terminal) (a b : Step) → bare_step a ≡ bare_step b
    → bare_advance (formula_step l r t a) ≡ bare_advance (formula_step l r t b)
formula_bare l r t a b e = split a ∙ ap part e ∙ sym (split b)
  where
    part : Step → Advance
    part (inside m) = to (Formula l r m)
    part (ended ls) = bare_advance (formula_end (Clause l r ls) t)
    part (fault w) = wrong w

    split : (s : Step) → bare_advance (formula_step l r t s) ≡ part (bare_step s)
    split (inside m) = refl
    split (ended ls) = end_bare (Clause l r ls) (Clause l r []) t refl
    split (fault w) = refl

dot_bare : (s u : Statement) (n : ℕ) (t : Terminal) → bare_statement s ≡ bare_statement u
    → bare_advance (advance n (WantDot s) t) ≡ bare_advance (advance n (WantDot u) t)
dot_bare s u n (Sign Dot) e = ap (λ (v : Statement). to (Done v)) e
dot_bare s u n t e = refl

-- a token leads to the same but for texts and trees
pub advance_bare : (n : ℕ) (st : Stage) (t : Terminal) → bare_advance (advance n st t) ≡ bare_advance (advance n (bare_stage st) t)
advance_bare n (Formula l r m) t = formula_bare l r t (step m t) (step (bare m) t) (step_bare m t)
advance_bare n (Notes s bs some) t = notes_bare s (bare_statement s) bs some t (statement_again s)
advance_bare n (WantDot s) t = dot_bare s (bare_statement s) n t (statement_again s)
advance_bare n (Done s) t = refl
advance_bare n st t = refl

-- ---- words

abbrev Grows : ℕ → Step → Type 0
Grows c (inside m) = c ≤ words_read m
Grows c (ended ls) = c ≤ literals_size ls
Grows c (fault w) = Unit {0}

grows_less : (c d : ℕ) (s : Step) → c ≤ d → Grows d s → Grows c s
grows_less c d (inside m) le h = omega (arith, le, h)
grows_less c d (ended ls) le h = omega (arith, le, h)
grows_less c d (fault w) le h = tt

literal_grows : (m : Machine) (gs : List Bool) (t : Terminal) → Grows (literals_size m.out) (after_step (record m { groups = gs }) t)
literal_grows m [] (Sign Bar) = omega arith
literal_grows m (true ∷ gs) (Sign Bar) = omega arith
literal_grows m (false ∷ gs) (Sign Bar) = tt
literal_grows m [] (Sign Right) = omega arith
literal_grows m (g ∷ gs) (Sign Right) = omega arith
literal_grows m [] (Sign Comma) = omega arith
literal_grows m (g ∷ gs) (Sign Comma) = tt
literal_grows m gs t = tt

foreign_grows : (c : ℕ) (f : ForeignKind) → Grows c (foreign_fault f)
foreign_grows c foreign.Object = tt
foreign_grows c foreign.Number = tt
foreign_grows c foreign.Dollar = tt

more_literals : (ls : List TreeLiteral) (s : Bool) (a : TreeAtom) → literals_size (ls ++ literal s a ∷ []) ≡ literals_size ls + atom_size a
more_literals ls s a =
    omega (arith, sum_by-append (λ (l : TreeLiteral). atom_size l.atom) ls (literal s a ∷ []), sum_by-cons (λ (l : TreeLiteral). atom_size l.atom) (literal s a) [])

atom_grows : (c : ℕ) (m : Machine) (s : Bool) (a : TreeAtom) (t : Terminal) → c ≤ literals_size m.out + atom_size a
    → Grows c (after_step (with_atom m s a) t)
atom_grows c m s a t le =
    grows_less c (literals_size (m.out ++ literal s a ∷ [])) (after_step (with_atom m s a) t) (omega (arith, le, more_literals m.out s a))
    (literal_grows (with_atom m s a) m.groups t)

more_terms : (ts : List Tree) (t : Tree) → sum_by size_of (ts ++ t ∷ []) ≡ sum_by size_of ts + size_of t
more_terms ts t = omega (arith, sum_by-append size_of ts (t ∷ []), sum_by-cons size_of t [])

frames_cons : (f : Frame) (fs : List Frame) → frames_size (f ∷ fs) ≡ 1 + sum_by size_of f.done + frames_size fs
frames_cons f fs = omega (arith, sum_by-cons (λ (f : Frame). 1 + sum_by size_of f.done) f fs)

frame_grows : (m : Machine) (u : Tree) (f : Frame) (fs : List Frame) (t : Terminal)
    → Grows (literals_size m.out + (size_of u + (frames_size (f ∷ fs) + left_size m.left))) (in_frame m u f fs t)
frame_grows m u f fs (Sign Comma) =
    omega (arith, frames_cons f fs, frames_cons (record f { done = f.done ++ u ∷ [] }) fs, more_terms f.done u)
frame_grows m u f fs (Sign Right) = omega (arith, frames_cons f fs, more_terms f.done u)
frame_grows m u f fs t = tt

var_grows : (m : Machine) (x : List ℕ) (fs : List Frame) (o : Option Tree) (t : Terminal)
    → Grows (literals_size m.out + (1 + (frames_size fs + left_size o))) (var_step (record m { left = o }) x fs t)
var_grows m x (f ∷ fs) o t =
    subst (λ (n : ℕ). Grows (literals_size m.out + (n + (frames_size (f ∷ fs) + left_size o))) (in_frame (record m { left = o }) (Var x) f fs t)) (size_of-Var x)
    (frame_grows (record m { left = o }) (Var x) f fs t)
var_grows m x [] (Some e) t =
    atom_grows (literals_size m.out + (1 + (frames_size [] + left_size (Some e)))) (record m { left = Some e }) m.sign
    (atom.Equal e (Var x)) t (omega (arith, size_of-Var x))
var_grows m x [] None (Sign Equal) = omega (arith, size_of-Var x)
var_grows m x [] None (Sign Unequal) = omega (arith, size_of-Var x)
var_grows m x [] None t = tt

app_grows : (m : Machine) (w : List ℕ) (args : List Tree) (fs : List Frame) (o : Option Tree) (t : Terminal)
    → Grows (literals_size m.out + (1 + (sum_by size_of args + (frames_size fs + left_size o)))) (app_step (record m { left = o }) w args fs t)
app_grows m w args (f ∷ fs) o t =
    grows_less (literals_size m.out + (1 + (sum_by size_of args + (frames_size (f ∷ fs) + left_size o))))
    (literals_size m.out + (size_of (App w args) + (frames_size (f ∷ fs) + left_size o))) (in_frame (record m { left = o }) (App w args) f fs t) (omega (arith, size_of-App w args))
    (frame_grows (record m { left = o }) (App w args) f fs t)
app_grows m w args [] (Some e) t =
    atom_grows (literals_size m.out + (1 + (sum_by size_of args + (frames_size [] + left_size (Some e)))))
    (record m { left = Some e }) m.sign (atom.Equal e (App w args)) t (omega (arith, size_of-App w args))
app_grows m w args [] None (Sign Equal) = omega (arith, size_of-App w args)
app_grows m w args [] None (Sign Unequal) = omega (arith, size_of-App w args)
app_grows m w args [] None t =
    atom_grows (literals_size m.out + (1 + (sum_by size_of args + (frames_size [] + left_size None)))) (record m { left = None }) m.sign
    (atom.Pred w args) t (omega arith)

word_grows : (m : Machine) (w : List ℕ) (room : ℕ) (t : Terminal)
    → Grows (literals_size m.out + (1 + (frames_size m.frames + left_size m.left))) (word_step (record m { room = room }) w t)
word_grows m w zero (Sign Left) = tt
word_grows m w (suc n) (Sign Left) = omega (arith, frames_cons (record { word = w; done = [] }) m.frames)
word_grows m w room t =
    grows_less _ (literals_size m.out + (1 + (0 + (frames_size m.frames + left_size m.left)))) (word_step (record m { room = room }) w t)
    (omega arith)
    (app_grows (record m { room = room }) w [] m.frames m.left t)

wants_grows : (m : Machine) (room : ℕ) (t : Terminal)
    → Grows (literals_size m.out + word_count t) (step (record m { mode = WantLiteral; room = room }) t)
wants_grows m room (Word q w) = omega arith
wants_grows m room (Upper x) = omega arith
wants_grows m room (Truth b) = omega (arith, more_literals m.out b atom.Truth)
wants_grows m zero (Sign Left) = tt
wants_grows m (suc n) (Sign Left) = omega arith
wants_grows m room (Sign Tilde) = omega arith
wants_grows m room (Foreign f) = foreign_grows _ f
wants_grows m room t = tt

negated_grows : (m : Machine) (s : Bool) (room : ℕ) (t : Terminal)
    → Grows (literals_size m.out + word_count t) (step (record m { mode = WantNegated s; room = room }) t)
negated_grows m s room (Word q w) = omega arith
negated_grows m s room (Upper x) = omega arith
negated_grows m s room (Truth b) = omega (arith, more_literals m.out (same s b) atom.Truth)
negated_grows m s zero (Sign Left) = tt
negated_grows m s (suc n) (Sign Left) = omega arith
negated_grows m s room (Sign Tilde) = omega arith
negated_grows m s room (Foreign f) = foreign_grows _ f
negated_grows m s room t = tt

term_grows : (m : Machine) (t : Terminal)
    → Grows (literals_size m.out + (frames_size m.frames + left_size m.left) + word_count t) (step (record m { mode = WantTerm }) t)
term_grows m (Word q w) = omega arith
term_grows m (Upper x) = omega arith
term_grows m (Foreign f) = foreign_grows _ f
term_grows m t = tt

-- behind a term no word may come
abbrev IsFault : Step → Type 0
IsFault (inside m) = ⊥
IsFault (ended ls) = ⊥
IsFault (fault w) = Unit {0}

literal_stops : (m : Machine) (t : Terminal) → word_count t ≡ 1 → IsFault (after_step m t)
literal_stops m (Word q w) h = tt
literal_stops m (Upper x) h = tt
literal_stops m t h = absurd (cc)

frame_stops : (m : Machine) (u : Tree) (f : Frame) (fs : List Frame) (t : Terminal) → word_count t ≡ 1 → IsFault (in_frame m u f fs t)
frame_stops m u f fs (Word q w) h = tt
frame_stops m u f fs (Upper x) h = tt
frame_stops m u f fs t h = absurd (cc)

var_stops : (m : Machine) (x : List ℕ) (fs : List Frame) (o : Option Tree) (t : Terminal) → word_count t ≡ 1
    → IsFault (var_step (record m { left = o }) x fs t)
var_stops m x (f ∷ fs) o t h = frame_stops (record m { left = o }) (Var x) f fs t h
var_stops m x [] (Some e) t h = literal_stops (with_atom (record m { left = Some e }) m.sign (atom.Equal e (Var x))) t h
var_stops m x [] None (Word q w) h = tt
var_stops m x [] None (Upper y) h = tt
var_stops m x [] None t h = absurd (cc)

app_stops : (m : Machine) (w : List ℕ) (args : List Tree) (fs : List Frame) (o : Option Tree) (t : Terminal) → word_count t ≡ 1
    → IsFault (app_step (record m { left = o }) w args fs t)
app_stops m w args (f ∷ fs) o t h = frame_stops (record m { left = o }) (App w args) f fs t h
app_stops m w args [] (Some e) t h = literal_stops (with_atom (record m { left = Some e }) m.sign (atom.Equal e (App w args))) t h
app_stops m w args [] None (Word q v) h = tt
app_stops m w args [] None (Upper x) h = tt
app_stops m w args [] None t h = absurd (cc)

word_stops : (m : Machine) (w : List ℕ) (t : Terminal) → word_count t ≡ 1 → IsFault (word_step m w t)
word_stops m w (Word q v) h = app_stops m w [] m.frames m.left (Word q v) h
word_stops m w (Upper x) h = app_stops m w [] m.frames m.left (Upper x) h
word_stops m w t h = absurd (cc)

counted_too : (c : ℕ) (t : Terminal) (s : Step) → (word_count t ≡ 1 → IsFault s) → Grows c s → Grows (c + word_count t) s
counted_too c (Word q w) s stops g = by s (stops refl)
  where
    by : (s : Step) → IsFault s → Grows (c + 1) s
    by (inside m) h = absurd h
    by (ended ls) h = absurd h
    by (fault w) h = tt
counted_too c (Upper x) s stops g = by s (stops refl)
  where
    by : (s : Step) → IsFault s → Grows (c + 1) s
    by (inside m) h = absurd h
    by (ended ls) h = absurd h
    by (fault w) h = tt
counted_too c t s stops g = grows_less (c + 0) c s (omega arith) g

mode_grows : (m : Machine) (k : Mode) (t : Terminal)
    → Grows (words_read (record m { mode = k }) + word_count t) (step (record m { mode = k }) t)
mode_grows m WantLiteral t = grows_less _ _ (step (record m { mode = WantLiteral }) t) (omega arith) (wants_grows m m.room t)
mode_grows m (WantNegated s) t = grows_less _ _ (step (record m { mode = WantNegated s }) t) (omega arith) (negated_grows m s m.room t)
mode_grows m WantTerm t = term_grows m t
mode_grows m (AfterWord w) t =
    counted_too _ t _ (word_stops (record m { mode = AfterWord w }) w t) (word_grows (record m { mode = AfterWord w }) w m.room t)
mode_grows m (AfterVar x) t =
    counted_too _ t _ (var_stops (record m { mode = AfterVar x }) x m.frames m.left t)
    (var_grows (record m { mode = AfterVar x }) x m.frames m.left t)
mode_grows m (AfterApp w args) t =
    counted_too _ t _ (app_stops (record m { mode = AfterApp w args }) w args m.frames m.left t)
    (app_grows (record m { mode = AfterApp w args }) w args m.frames m.left t)
mode_grows m AfterLiteral t =
    counted_too _ t _ (literal_stops (record m { mode = AfterLiteral }) t)
    (grows_less _ (literals_size m.out) (step (record m { mode = AfterLiteral }) t) (omega arith) (literal_grows (record m { mode = AfterLiteral }) m.groups t))

abbrev pub AdvanceGrows : ℕ → Advance → Type 0
AdvanceGrows c (to st) = c ≤ stage_size st
AdvanceGrows c (wrong w) = Unit {0}

from_nothing : (a : Advance) → AdvanceGrows 0 a
from_nothing (to st) = omega arith
from_nothing (wrong w) = tt

end_grows : (s : Statement) (t : Terminal) → AdvanceGrows (statement_size s) (formula_end s t)
end_grows s (Sign Comma) = omega arith
end_grows s (Sign Right) = omega arith
end_grows s t = tt

notes_grows : (s : Statement) (bs : List Bool) (some : Bool) (t : Terminal) → AdvanceGrows (statement_size s) (notes_step s bs some t)
notes_grows s [] true (Sign Right) = omega arith
notes_grows s [] false (Sign Right) = tt
notes_grows s (true ∷ bs) some (Sign Right) = omega arith
notes_grows s (false ∷ bs) some (Sign Right) = tt
notes_grows s [] some (Sign CloseSquare) = tt
notes_grows s (true ∷ bs) some (Sign CloseSquare) = tt
notes_grows s (false ∷ bs) some (Sign CloseSquare) = omega arith
notes_grows s bs some t = omega arith

formula_grows : (l : Label) (r : Role) (c : ℕ) (t : Terminal) (a : Step) → Grows c a → AdvanceGrows c (formula_step l r t a)
formula_grows l r c t (inside m) g = g
formula_grows l r c t (ended ls) g = by (formula_end (Clause l r ls) t) (end_grows (Clause l r ls) t)
  where
    by : (a : Advance) → AdvanceGrows (literals_size ls) a → AdvanceGrows c a
    by (to st) h = omega (arith, g, h)
    by (wrong w) h = tt
formula_grows l r c t (fault w) g = tt

less : (c : ℕ) (a : Advance) → AdvanceGrows c a → AdvanceGrows (c + 0) a
less c (to st) h = omega (arith, h)
less c (wrong w) h = tt

dot_grows : (s : Statement) (n : ℕ) (t : Terminal) → AdvanceGrows (statement_size s) (advance n (WantDot s) t)
dot_grows s n (Sign Dot) = omega arith
dot_grows s n t = tt

-- each word of a formula is in what was read
pub advance_grows : (n : ℕ) (st : Stage) (t : Terminal) → AdvanceGrows (stage_size st + counted st t) (advance n st t)
advance_grows n (Formula l r m) t = formula_grows l r _ t (step m t) (mode_grows m m.mode t)
advance_grows n (Notes s bs some) t = less (statement_size s) _ (notes_grows s bs some t)
advance_grows n (WantDot s) t = less (statement_size s) _ (dot_grows s n t)
advance_grows n (Done s) t = tt
advance_grows n st t = from_nothing (advance n st t)
