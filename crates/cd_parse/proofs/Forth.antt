-- What the grammar spells, the machine reads.
use Rattle.std.proofs.Common.{◌≡◌, ◌∙◌, ◌++◌, ◌∷◌, [], ℕ, suc, Bool, true, false, not, List, None, Some, refl, ap, append_assoc}
use Rattle.cd_parse.specs.declared.terminal.Terminal.{Terminal}
use Rattle.cd_parse.specs.declared.terminal.Terminal.TheVariants.{Word, Upper, Truth, Sign}
use Rattle.cd_parse.specs.declared.terminal.Sign.TheVariants.{Left, Right, Comma, Equal, Unequal, Bar}
use Rattle.cd_parse.specs.declared.tree.Tree.{Tree}
use Rattle.cd_parse.specs.declared.tree.TreeLiteral.{TreeLiteral}
use Rattle.cd_parse.specs.declared.tree.TreeAtom.TheVariants as atom
use Rattle.cd_parse.specs.declared.machine.Mode.{Mode}
use Rattle.cd_parse.specs.declared.machine.Mode.TheVariants.{WantLiteral, WantNegated, WantTerm, AfterWord, AfterVar, AfterApp, AfterLiteral}
use Rattle.cd_parse.specs.declared.machine.Frame.{Frame}
use Rattle.cd_parse.specs.Grammar.{Terminals, same, IsApplied, constant, applied, IsTerm, variable, word, AreTerms, only, before, IsAtom, truth, predicate, equation, disequation, IsNegated, an_atom, again, inner, IsLiteral, plain, negative, nested, IsFormula, one, more}
use Rattle.cd_parse.specs.Steps.{Machine, Step, inside, step, run, run_on, after_step, app_step, app_alone, in_frame, with_atom, clean, fresh, behind_bar}

-- the tokens behind a term
pub data Behind : Terminal → Type 0 where
  comma : Behind (Sign Comma)
  right : Behind (Sign Right)
  bar : Behind (Sign Bar)
  equal : Behind (Sign Equal)
  unequal : Behind (Sign Unequal)

-- the tokens behind a literal
pub data Ends : Terminal → Type 0 where
  comma : Ends (Sign Comma)
  right : Ends (Sign Right)
  bar : Ends (Sign Bar)

ends_behind : (u : Terminal) → Ends u → Behind u
ends_behind _ comma = comma
ends_behind _ right = right
ends_behind _ bar = bar

abbrev pub in_mode : Mode → ℕ → Machine → Machine
in_mode k n m = record m { mode = k; room = n }

abbrev pub on : Step → Terminals → Step
on s us = run_on s (λ m. run m us)

word_behind : (m : Machine) (w : List ℕ) (u : Terminal) → Behind u → step (record m { mode = AfterWord w }) u ≡ app_step m w [] m.frames u
word_behind m w _ comma = refl
word_behind m w _ right = refl
word_behind m w _ bar = refl
word_behind m w _ equal = refl
word_behind m w _ unequal = refl

-- a term, as the token behind it is read
abbrev behind_frame : Machine → Tree → Frame → List Frame → Terminal → Step
behind_frame m t f fs u = in_frame m t f fs u

mutual
  unfolding run

  applied_runs : (n : ℕ) (ts : Terminals) (w : List ℕ) (args : List Tree) → IsApplied n ts w args
      → (m : Machine) (u : Terminal) (us : Terminals) → Behind u
      → run (in_mode WantTerm n m) (ts ++ u ∷ us) ≡ on (app_step (in_mode AfterLiteral n m) w args m.frames u) us
  applied_runs _ _ _ _ (constant n q w) m u us b = ap (λ (s : Step). on s us) (word_behind (in_mode AfterLiteral n m) w u b)
  applied_runs _ _ _ _ (applied n q w ts args d) m u us b =
      let inner_m : Machine = record m { frames = record { word = w; done = [] } ∷ m.frames } in
      ap (run (in_mode WantTerm n inner_m)) (append_assoc ts (Sign Right ∷ []) (u ∷ us))
      ∙ terms_run n ts args d m w [] (u ∷ us)

  terms_run : (n : ℕ) (ts : Terminals) (args : List Tree) → AreTerms n ts args
      → (m : Machine) (w : List ℕ) (done : List Tree) (us : Terminals)
      → run (in_mode WantTerm n (record m { frames = record { word = w; done = done } ∷ m.frames })) (ts ++ Sign Right ∷ us)
      ≡ run (in_mode (AfterApp w (done ++ args)) (suc n) m) us
  terms_run _ _ _ (only n ts t d) m w done us = term_runs n ts t d m (record { word = w; done = done }) (Sign Right) us right
  terms_run _ _ _ (before n ts vs t rest d e) m w done us =
      ap (run (in_mode WantTerm n (record m { frames = record { word = w; done = done } ∷ m.frames })))
      (append_assoc ts (Sign Comma ∷ vs) (Sign Right ∷ us))
      ∙ term_runs n ts t d m (record { word = w; done = done }) (Sign Comma) (vs ++ Sign Right ∷ us) comma
      ∙ terms_run n vs rest e m w (done ++ t ∷ []) us
      ∙ ap (λ (l : List Tree). run (in_mode (AfterApp w l) (suc n) m) us) (append_assoc done (t ∷ []) rest)

  term_runs : (n : ℕ) (ts : Terminals) (t : Tree) → IsTerm n ts t → (m : Machine) (f : Frame) (u : Terminal) (us : Terminals) → Behind u
      → run (in_mode WantTerm n (record m { frames = f ∷ m.frames })) (ts ++ u ∷ us) ≡ on (in_frame (in_mode AfterLiteral n m) t f m.frames u) us
  term_runs _ _ _ (variable n x) m f _ us comma = refl
  term_runs _ _ _ (variable n x) m f _ us right = refl
  term_runs _ _ _ (variable n x) m f _ us bar = refl
  term_runs _ _ _ (variable n x) m f _ us equal = refl
  term_runs _ _ _ (variable n x) m f _ us unequal = refl
  term_runs _ _ _ (word n ts w args d) m f _ us comma =
      applied_runs n ts w args d (record m { frames = f ∷ m.frames }) (Sign Comma) us comma
  term_runs _ _ _ (word n ts w args d) m f _ us right =
      applied_runs n ts w args d (record m { frames = f ∷ m.frames }) (Sign Right) us right
  term_runs _ _ _ (word n ts w args d) m f _ us bar = applied_runs n ts w args d (record m { frames = f ∷ m.frames }) (Sign Bar) us bar
  term_runs _ _ _ (word n ts w args d) m f _ us equal =
      applied_runs n ts w args d (record m { frames = f ∷ m.frames }) (Sign Equal) us equal
  term_runs _ _ _ (word n ts w args d) m f _ us unequal =
      applied_runs n ts w args d (record m { frames = f ∷ m.frames }) (Sign Unequal) us unequal

-- outside of all lists of arguments

-- the right side of an equation
right_runs : (n : ℕ) (ts : Terminals) (t : Tree) → IsTerm n ts t → (m : Machine) (s : Bool) (l : Tree) (u : Terminal) (us : Terminals)
    → Ends u
    → run (in_mode WantTerm n (record m { frames = []; left = Some l; sign = s })) (ts ++ u ∷ us)
    ≡ on (after_step (with_atom (in_mode AfterLiteral n m) s (atom.Equal l t)) u) us
unfolding run
right_runs _ _ _ (variable n x) m s l u us e = refl
right_runs _ _ _ (word n ts w args d) m s l u us e =
    applied_runs n ts w args d (record m { frames = []; left = Some l; sign = s }) u us (ends_behind u e)

-- where an atom may begin that is positive with the sign s
record Starts (k : Mode) (s : Bool) : Type 0 where
  word : (m : Machine) (n : ℕ) (q : Bool) (w : List ℕ) → step (in_mode k n m) (Word q w) ≡ inside (fresh (in_mode k n m) (AfterWord w) s)
  upper : (m : Machine) (n : ℕ) (x : List ℕ) → step (in_mode k n m) (Upper x) ≡ inside (fresh (in_mode k n m) (AfterVar x) s)
  truth : (m : Machine) (n : ℕ) (b : Bool) → step (in_mode k n m) (Truth b) ≡ inside (with_atom (in_mode k n m) (same s b) atom.Truth)

literal_starts : Starts WantLiteral true
literal_starts = record { word = λ m n q w. refl; upper = λ m n x. refl; truth = λ m n b. refl }

negated_starts : (s : Bool) → Starts (WantNegated s) s
negated_starts s = record { word = λ m n q w. refl; upper = λ m n x. refl; truth = λ m n b. refl }

-- an atom's first term begins as any term
applied_begins : (k : Mode) (s : Bool) → Starts k s → (n : ℕ) (ts : Terminals) (w : List ℕ) (args : List Tree) → IsApplied n ts w args
    → (m : Machine) (us : Terminals)
    → run (in_mode k n m) (ts ++ us) ≡ run (in_mode WantTerm n (fresh m WantTerm s)) (ts ++ us)
unfolding run
applied_begins k s st _ _ _ _ (constant n q w) m us = ap (λ (x : Step). on x us) (st.word m n q w)
applied_begins k s st _ _ _ _ (applied n q w ts args d) m us =
    ap (λ (x : Step). on x (Sign Left ∷ ((ts ++ Sign Right ∷ []) ++ us))) (st.word m (suc n) q w)

term_begins : (k : Mode) (s : Bool) → Starts k s → (n : ℕ) (ts : Terminals) (t : Tree) → IsTerm n ts t → (m : Machine) (us : Terminals)
    → run (in_mode k n m) (ts ++ us) ≡ run (in_mode WantTerm n (fresh m WantTerm s)) (ts ++ us)
unfolding run
term_begins k s st _ _ _ (variable n x) m us = ap (λ (y : Step). on y us) (st.upper m n x)
term_begins k s st _ _ _ (word n ts w args d) m us = applied_begins k s st n ts w args d m us

-- a left side, and the sign behind it
left_runs : (n : ℕ) (ts : Terminals) (t : Tree) → IsTerm n ts t → (m : Machine) (s : Bool) (us : Terminals)
    → (run (in_mode WantTerm n (fresh m WantTerm s)) (ts ++ Sign Equal ∷ us) ≡ run (in_mode WantTerm n (record m { frames = []; left = Some t; sign = s })) us)
    × (run (in_mode WantTerm n (fresh m WantTerm s)) (ts ++ Sign Unequal ∷ us) ≡ run (in_mode WantTerm n (record m { frames = []; left = Some t; sign = not s })) us)
unfolding run
left_runs _ _ _ (variable n x) m s us = (refl, refl)
left_runs _ _ _ (word n ts w args d) m s us =
    (applied_runs n ts w args d (fresh m WantTerm s) (Sign Equal) us equal, applied_runs n ts w args d (fresh m WantTerm s) (Sign Unequal) us unequal)

-- with more literals
abbrev pub read_to : ℕ → Machine → List TreeLiteral → Machine
read_to n m ls = record (clean m) { mode = AfterLiteral; room = n; out = m.out ++ ls }

-- a predicate is over where its literal is
predicate_ends : (m : Machine) (w : List ℕ) (args : List Tree) (u : Terminal) → Ends u
    → app_alone m w args None u ≡ after_step (with_atom m m.sign (atom.Pred w args)) u
predicate_ends m w args _ comma = refl
predicate_ends m w args _ right = refl
predicate_ends m w args _ bar = refl

atom_runs : (k : Mode) (s : Bool) → Starts k s → (n : ℕ) (ts : Terminals) (l : TreeLiteral) → IsAtom n s ts l
    → (m : Machine) (u : Terminal) (us : Terminals) → Ends u
    → run (in_mode k n m) (ts ++ u ∷ us) ≡ on (after_step (read_to n m (l ∷ [])) u) us
unfolding run
atom_runs k _ st _ _ _ (truth n s b) m u us e = ap (λ (x : Step). on x (u ∷ us)) (st.truth m n b)
atom_runs k _ st _ _ _ (predicate n s ts w args d) m u us e =
    applied_begins k s st n ts w args d m (u ∷ us) ∙ applied_runs n ts w args d (fresh m WantTerm s) u us (ends_behind u e)
    ∙ ap (λ (x : Step). on x us) (predicate_ends (in_mode AfterLiteral n (fresh m WantTerm s)) w args u e)
atom_runs k _ st _ _ _ (equation n s ts vs l r d f) m u us e =
    ap (run (in_mode k n m)) (append_assoc ts (Sign Equal ∷ vs) (u ∷ us))
    ∙ term_begins k s st n ts l d m (Sign Equal ∷ (vs ++ u ∷ us)) ∙ (left_runs n ts l d m s (vs ++ u ∷ us)).0
    ∙ right_runs n vs r f m s l u us e
atom_runs k _ st _ _ _ (disequation n s ts vs l r d f) m u us e =
    ap (run (in_mode k n m)) (append_assoc ts (Sign Unequal ∷ vs) (u ∷ us))
    ∙ term_begins k s st n ts l d m (Sign Unequal ∷ (vs ++ u ∷ us)) ∙ (left_runs n ts l d m s (vs ++ u ∷ us)).1
    ∙ right_runs n vs r f m (not s) l u us e

negated_runs : (n : ℕ) (s : Bool) (ts : Terminals) (l : TreeLiteral) → IsNegated n s ts l → (m : Machine) (u : Terminal) (us : Terminals)
    → Ends u
    → run (in_mode (WantNegated s) n m) (ts ++ u ∷ us) ≡ on (after_step (read_to n m (l ∷ [])) u) us
unfolding run
negated_runs _ _ _ _ (an_atom n s ts l d) m u us e = atom_runs (WantNegated s) s (negated_starts s) n ts l d m u us e
negated_runs _ _ _ _ (again n s ts l d) m u us e = negated_runs n (not s) ts l d m u us e
negated_runs _ _ _ _ (inner n s ts l d) m u us e =
    ap (run (in_mode (WantNegated s) n (record m { groups = false ∷ m.groups }))) (append_assoc ts (Sign Right ∷ []) (u ∷ us))
    ∙ negated_runs n s ts l d (record m { groups = false ∷ m.groups }) (Sign Right) (u ∷ us) right

-- a formula stands here, so that a bar may follow
abbrev pub InFormula : List Bool → Type 0
InFormula [] = Unit {0}
InFormula (true ∷ gs) = Unit {0}
InFormula (false ∷ gs) = ⊥

past_bar : (m : Machine) (gs : List Bool) → InFormula gs → behind_bar m gs ≡ inside (record m { mode = WantLiteral })
past_bar m [] h = refl
past_bar m (true ∷ gs) h = refl
past_bar m (false ∷ gs) h = absurd h

mutual
  unfolding run

  pub literal_runs : (n : ℕ) (ts : Terminals) (ls : List TreeLiteral) → IsLiteral n ts ls → (m : Machine) (u : Terminal) (us : Terminals)
      → Ends u
      → run (in_mode WantLiteral n m) (ts ++ u ∷ us) ≡ on (after_step (read_to n m ls) u) us
  literal_runs _ _ _ (plain n ts l d) m u us e = atom_runs WantLiteral true literal_starts n ts l d m u us e
  literal_runs _ _ _ (negative n ts l d) m u us e = negated_runs n false ts l d m u us e
  literal_runs _ _ _ (nested n ts ls d) m u us e =
      ap (run (in_mode WantLiteral n (record m { groups = true ∷ m.groups }))) (append_assoc ts (Sign Right ∷ []) (u ∷ us))
      ∙ formula_runs n ts ls d (record m { groups = true ∷ m.groups }) (Sign Right) (u ∷ us) right tt

  pub formula_runs : (n : ℕ) (ts : Terminals) (ls : List TreeLiteral) → IsFormula n ts ls → (m : Machine) (u : Terminal) (us : Terminals)
      → Ends u → InFormula m.groups
      → run (in_mode WantLiteral n m) (ts ++ u ∷ us) ≡ on (after_step (read_to n m ls) u) us
  formula_runs _ _ _ (one n ts ls d) m u us e h = literal_runs n ts ls d m u us e
  formula_runs _ _ _ (more n ts vs ls ms d f) m u us e h =
      ap (run (in_mode WantLiteral n m)) (append_assoc ts (Sign Bar ∷ vs) (u ∷ us))
      ∙ literal_runs n ts ls d m (Sign Bar) (vs ++ u ∷ us) bar
      ∙ ap (λ (s : Step). on s (vs ++ u ∷ us)) (past_bar (read_to n m ls) m.groups h)
      ∙ formula_runs n vs ms f (read_to n m ls) u us e h
      ∙ ap (λ (l : List TreeLiteral). on (after_step (record (clean m) { mode = AfterLiteral; room = n; out = l }) u) us)
      (append_assoc m.out ls ms)
