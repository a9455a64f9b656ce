use Rattle.std.proofs.Common.{◌≡◌, ◌≢◌, ◌∙◌, ◌++◌, ◌∷◌, [], ℕ, Bool, true, false, List, Some, refl, sym, ap, append_assoc}
use Rattle.cd_parse.specs.declared.terminal.Terminal.{Terminal}
use Rattle.cd_parse.specs.declared.terminal.Terminal.TheVariants.{Sign}
use Rattle.cd_parse.specs.declared.terminal.Sign.TheVariants.{Left, Right, OpenSquare, CloseSquare, Comma, Dot, Bar}
use Rattle.cd_parse.specs.declared.tree.TreeLiteral.{TreeLiteral}
use Rattle.cd_parse.specs.declared.label.Label.{Label}
use Rattle.cd_parse.specs.declared.label.Role.{Role}
use Rattle.cd_parse.specs.declared.label.Role.TheVariants as role
use Rattle.cd_parse.specs.declared.machine.Mode.TheVariants.{WantLiteral}
use Rattle.cd_parse.specs.declared.statement.Statement.{Statement}
use Rattle.cd_parse.specs.declared.statement.Statement.TheVariants.{Clause}
use Rattle.cd_parse.specs.Stages.{Stage, Begin, ClauseLabel, BehindLabel, Formula, Notes, Done, ListLabel, BehindItem}
use Rattle.cd_parse.specs.Grammar.{Terminals, IsFormula}
use Rattle.cd_parse.specs.Statements.{IsLabel, named, numbered, AreLabels, last, further, role_word, is_bracket, Balanced, empty, other, round, square, AreNotes, without, notes, keyword, IsStatementIn, clause, whole, listed}
use Rattle.cd_parse.specs.Steps.{Machine, Step, inside, ended, fault, step, run, run_on}
use Rattle.cd_parse.specs.Stages.{Advance, to, wrong, stop, role_of, role_step, started, notes_step, formula_step, advance, walk, walk_on}
use Rattle.cd_parse.proofs.Forth.{formula_runs, read_to, comma, right, bar, on}

-- what the grammar spells, the machine reads

abbrev pub walks : ℕ → Advance → Terminals → Advance
walks n a ts = walk_on a (λ st. walk n st ts)

pub walk-append : (n : ℕ) (st : Stage) (ts us : Terminals) → walk n st (ts ++ us) ≡ walks n (walk n st ts) us
unfolding walk
walk-append n st [] us = refl
walk-append n st (t ∷ ts) us = go (advance n st t) (λ s. walk-append n s ts us)
  where
    go : (a : Advance) → ((s : Stage) → walk n s (ts ++ us) ≡ walks n (walk n s ts) us)
        → walk_on a (λ s. walk n s (ts ++ us)) ≡ walks n (walk_on a (λ s. walk n s ts)) us
    go (to s) rec = rec s
    go (wrong w) rec = refl

role_of_word : (r : Role) → role_of (role_word r) ≡ Some r
role_of_word role.Axiom = refl
role_of_word role.Hypothesis = refl
role_of_word role.Definition = refl
role_of_word role.Assumption = refl
role_of_word role.Lemma = refl
role_of_word role.Theorem = refl
role_of_word role.Corollary = refl
role_of_word role.NegatedConjecture = refl
role_of_word role.Plain = refl

-- notes
others : (n : ℕ) (s : Statement) (bs : List Bool) (some : Bool) (t : Terminal) → is_bracket t ≡ false
    → notes_step s bs some t ≡ to (Notes s bs true)
others n s bs some (Sign Left) e = absurd (cc)
others n s bs some (Sign Right) e = absurd (cc)
others n s bs some (Sign OpenSquare) e = absurd (cc)
others n s bs some (Sign CloseSquare) e = absurd (cc)
others n s bs some t e = refl

balanced_walks : (n : ℕ) (ts : Terminals) → Balanced ts → (s : Statement) (bs : List Bool) (us : Terminals)
    → walk n (Notes s bs true) (ts ++ us) ≡ walk n (Notes s bs true) us
unfolding walk
balanced_walks n _ empty s bs us = refl
balanced_walks n _ (other t ts is d) s bs us = ap (λ a. walks n a (ts ++ us)) (others n s bs true t is) ∙ balanced_walks n ts d s bs us
balanced_walks n _ (round ts vs d e) s bs us =
    ap (walk n (Notes s (true ∷ bs) true)) (append_assoc ts (Sign Right ∷ vs) us)
    ∙ balanced_walks n ts d s (true ∷ bs) (Sign Right ∷ (vs ++ us)) ∙ balanced_walks n vs e s bs us
balanced_walks n _ (square ts vs d e) s bs us =
    ap (walk n (Notes s (false ∷ bs) true)) (append_assoc ts (Sign CloseSquare ∷ vs) us)
    ∙ balanced_walks n ts d s (false ∷ bs) (Sign CloseSquare ∷ (vs ++ us)) ∙ balanced_walks n vs e s bs us

-- whether there was a token doesn't matter once there is one
first_note : (n : ℕ) (ts : Terminals) → Balanced ts → ts ≢ [] → (s : Statement) (us : Terminals)
    → walk n (Notes s [] false) (ts ++ us) ≡ walk n (Notes s [] true) (ts ++ us)
unfolding walk
first_note n _ empty some s us = absurd (some refl)
first_note n _ (other t ts is d) some s us = ap (λ a. walks n a (ts ++ us)) (others n s [] false t is ∙ sym (others n s [] true t is))
first_note n _ (round ts vs d e) some s us = refl
first_note n _ (square ts vs d e) some s us = refl

abbrev tail_of : Terminals → Terminals
tail_of ns = ns ++ Sign Right ∷ Sign Dot ∷ []

-- a formula, and what ends it
pub run-append : (m : Machine) (ts us : Terminals) → run m (ts ++ us) ≡ on (run m ts) us
unfolding run
run-append m [] us = refl
run-append m (t ∷ ts) us = go (step m t) (λ s. run-append s ts us)
  where
    go : (a : Step) → ((s : Machine) → run s (ts ++ us) ≡ on (run s ts) us)
        → run_on a (λ s. run s (ts ++ us)) ≡ on (run_on a (λ s. run s ts)) us
    go (inside s) rec = rec s
    go (ended ls) rec = refl
    go (fault w) rec = refl

record IsRead (n : ℕ) (ts : Terminals) (ls : List TreeLiteral) : Type 0 where
  machine : Machine
  read : run (started n) ts ≡ inside machine
  at_comma : step machine (Sign Comma) ≡ ended ls
  at_right : step machine (Sign Right) ≡ ended ls

single : (s : Step) (ls : List TreeLiteral) → run_on s (λ m. inside m) ≡ ended ls → s ≡ ended ls
single (inside m) ls e = absurd (cc)
single (ended l) ls e = e
single (fault w) ls e = absurd (cc)

formula_read : (n : ℕ) (ts : Terminals) (ls : List TreeLiteral) → IsFormula n ts ls → IsRead n ts ls
unfolding run
formula_read n ts ls d = go (run (started n) ts) refl
    (sym (run-append (started n) ts (Sign Bar ∷ [])) ∙ formula_runs n ts ls d (started n) (Sign Bar) [] bar tt)
    (sym (run-append (started n) ts (Sign Comma ∷ [])) ∙ formula_runs n ts ls d (started n) (Sign Comma) [] comma tt)
    (sym (run-append (started n) ts (Sign Right ∷ [])) ∙ formula_runs n ts ls d (started n) (Sign Right) [] right tt)
  where
    go : (s : Step) → run (started n) ts ≡ s → on s (Sign Bar ∷ []) ≡ inside (record (read_to n (started n) ls) { mode = WantLiteral })
        → on s (Sign Comma ∷ []) ≡ ended ls → on s (Sign Right ∷ []) ≡ ended ls → IsRead n ts ls
    go (inside m) e b c r =
        record { machine = m; read = e; at_comma = single (step m (Sign Comma)) ls c; at_right = single (step m (Sign Right)) ls r }
    go (ended l) e b c r = absurd (cc)
    go (fault w) e b c r = absurd (cc)

pub formula_walks : (n : ℕ) (l : Label) (r : Role) (m m' : Machine) (ts us : Terminals) → run m ts ≡ inside m'
    → walk n (Formula l r m) (ts ++ us) ≡ walk n (Formula l r m') us
unfolding run walk
formula_walks n l r m m' [] us e = ap (λ s. of s) e
  where
    of : Step → Advance
    of (inside s) = walk n (Formula l r s) us
    of (ended ls) = stop
    of (fault w) = stop
formula_walks n l r m m' (t ∷ ts) us e = go (step m t) e (λ s f. formula_walks n l r s m' ts us f)
  where
    go : (a : Step) → run_on a (λ s. run s ts) ≡ inside m'
        → ((s : Machine) → run s ts ≡ inside m' → walk n (Formula l r s) (ts ++ us) ≡ walk n (Formula l r m') us)
        → walks n (formula_step l r t a) (ts ++ us) ≡ walk n (Formula l r m') us
    go (inside s) f rec = rec s f
    go (ended ls) f rec = absurd (cc)
    go (fault w) f rec = absurd (cc)

tail_walks : (n : ℕ) (l : Label) (r : Role) (m : Machine) (ls : List TreeLiteral) (ns : Terminals) → AreNotes ns
    → step m (Sign Comma) ≡ ended ls → step m (Sign Right) ≡ ended ls
    → walk n (Formula l r m) (tail_of ns) ≡ to (Done (Clause l r ls))
unfolding walk
tail_walks n l r m ls _ without c e = ap (λ s. walks n (formula_step l r (Sign Right) s) (Sign Dot ∷ [])) e
tail_walks n l r m ls _ (notes ts d some) c e =
    ap (λ s. walks n (formula_step l r (Sign Comma) s) (tail_of ts)) c
    ∙ first_note n ts d some (Clause l r ls) (Sign Right ∷ Sign Dot ∷ [])
    ∙ balanced_walks n ts d (Clause l r ls) [] (Sign Right ∷ Sign Dot ∷ [])

label_walks : (n : ℕ) (t : Terminal) (l : Label) → IsLabel t l → (us : Terminals) → walk n ClauseLabel (t ∷ us) ≡ walk n (BehindLabel l) us
unfolding walk
label_walks n _ _ (named q w) us = refl
label_walks n _ _ (numbered d) us = refl

item_walks : (n : ℕ) (t : Terminal) (l : Label) → IsLabel t l → (p : List ℕ) (ls : List Label) (us : Terminals)
    → walk n (ListLabel p ls) (t ∷ us) ≡ walk n (BehindItem p (ls ++ l ∷ [])) us
unfolding walk
item_walks n _ _ (named q w) p ls us = refl
item_walks n _ _ (numbered d) p ls us = refl

list_walks : (n : ℕ) (ts : Terminals) (ms : List Label) → AreLabels ts ms → (p : List ℕ) (ls : List Label) (us : Terminals)
    → walk n (ListLabel p ls) (ts ++ us) ≡ walk n (BehindItem p (ls ++ ms)) us
unfolding walk
list_walks n _ _ (last t l d) p ls us = item_walks n t l d p ls us
list_walks n _ _ (further t l ts ms d e) p ls us =
    item_walks n t l d p ls (Sign Comma ∷ (ts ++ us)) ∙ list_walks n ts ms e p (ls ++ l ∷ []) us
    ∙ ap (λ k. walk n (BehindItem p k) us) (append_assoc ls (l ∷ []) ms)

pub to_end : (n : ℕ) (ts : Terminals) (s : Statement) → IsStatementIn n ts s → walk n Begin ts ≡ to (Done s)
unfolding walk
to_end n _ _ (clause t l r ts ns ls d f ns_are) =
    let is = formula_read n ts ls f in
    label_walks n t l d (Sign Comma ∷ keyword (role_word r) ∷ Sign Comma ∷ (ts ++ tail_of ns))
    ∙ ap (λ o. walks n (role_step l o) (Sign Comma ∷ (ts ++ tail_of ns))) (role_of_word r)
    ∙ formula_walks n l r (started n) is.machine ts (tail_of ns) is.read
    ∙ tail_walks n l r is.machine ls ns ns_are is.at_comma is.at_right
to_end n _ _ (whole p) = refl
to_end n _ _ (listed p ts ls d) = list_walks n ts ls d p [] (Sign CloseSquare ∷ Sign Right ∷ Sign Dot ∷ [])
