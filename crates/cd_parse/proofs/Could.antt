use Rattle.std.proofs.Common.{◌≡◌, ◌∙◌, ◌++◌, ◌∷◌, [], ℕ, suc, Bool, true, false, List, Option, None, Some, refl, sym, ap, subst, codes, if◌then◌else◌}
use Rattle.cd_parse.specs.declared.terminal.Terminal.{Terminal}
use Rattle.cd_parse.specs.declared.terminal.Terminal.TheVariants.{Word, Truth, Sign, Other}
use Rattle.cd_parse.specs.declared.terminal.Sign.TheVariants.{Left, Right, OpenSquare, CloseSquare, Comma, Dot, Equal}
use Rattle.cd_parse.specs.declared.tree.TreeLiteral.{TreeLiteral}
use Rattle.cd_parse.specs.declared.label.Label.{Label}
use Rattle.cd_parse.specs.declared.label.Role.{Role}
use Rattle.cd_parse.specs.declared.label.Role.TheVariants as role
use Rattle.cd_parse.specs.declared.machine.Mode.{Mode}
use Rattle.cd_parse.specs.declared.machine.Mode.TheVariants.{WantLiteral, WantNegated, WantTerm, AfterWord, AfterVar, AfterApp, AfterLiteral}
use Rattle.cd_parse.specs.declared.machine.Frame.{Frame}
use Rattle.cd_parse.specs.declared.tree.Tree.{Tree}
use Rattle.cd_parse.specs.declared.statement.Statement.{Statement}
use Rattle.cd_parse.specs.declared.statement.Statement.TheVariants.{Clause}
use Rattle.cd_parse.specs.Stages.{Stage, Begin, ClauseOpen, ClauseLabel, BehindLabel, ClauseRole, BehindRole, Formula, Notes, WantDot, Done, IncludeOpen, Path, BehindPath, ListOpen, ListLabel, BehindItem, ListClosed}
use Rattle.cd_parse.specs.Grammar.{Terminals}
use Rattle.cd_parse.specs.Statements.{CouldIn}
use Rattle.cd_parse.specs.Steps.{Machine, inside, ended, step, run, closed, with_atom}
use Rattle.cd_parse.specs.Stages.{Advance, to, wrong, started, formula_step, advance, walk, walk_on}
use Rattle.cd_parse.specs.Reading.{IsOpen}
use Rattle.cd_parse.proofs.Forth.{on}
use Rattle.cd_parse.proofs.WalkForth.{walks, walk-append, formula_walks, to_end}
use Rattle.cd_parse.proofs.WalkBack.{from_start}

-- from each state some tokens lead to the end

record Closes (m : Machine) : Type 0 where
  pub tokens : Terminals
  machine : Machine
  literals : List TreeLiteral
  runs : run m tokens ≡ inside machine
  ends : step machine (Sign Right) ≡ ended literals

first : (m m' : Machine) (t : Terminal) → step m t ≡ inside m' → Closes m' → Closes m
unfolding run
first m m' t e c =
    record { tokens = t ∷ c.tokens; machine = c.machine; literals = c.literals; runs = ap (λ s. on s c.tokens) e ∙ c.runs; ends = c.ends }

behind_literal : (gs : List Bool) (m : Machine) → Closes (record m { mode = AfterLiteral; groups = gs })
unfolding run
behind_literal [] m = record { tokens = []; machine = _; literals = m.out; runs = refl; ends = refl }
behind_literal (g ∷ gs) m = first _ _ (Sign Right) refl (behind_literal gs (record m { room = suc m.room }))

-- a state in which `)` does what it does behind a literal
like_literal : (gs : List Bool) (m k : Machine) → step m (Sign Right) ≡ closed (record k { groups = gs }) gs → Closes m
unfolding run
like_literal [] m k e = record { tokens = []; machine = m; literals = k.out; runs = refl; ends = e }
like_literal (g ∷ gs) m k e = first m _ (Sign Right) e (behind_literal gs (record k { room = suc k.room }))

behind_app : (fs : List Frame) (l : Option Tree) (m : Machine) (w : List ℕ) (args : List Tree)
    → Closes (record m { mode = AfterApp w args; frames = fs; left = l })
behind_app [] (Some l) m w args = like_literal m.groups _ (with_atom m m.sign _) refl
behind_app [] None m w args = like_literal m.groups _ (with_atom m m.sign _) refl
behind_app (f ∷ fs) l m w args = first _ _ (Sign Right) refl (behind_app fs l (record m { room = suc m.room }) f.word _)

behind_word : (fs : List Frame) (l : Option Tree) (m : Machine) (w : List ℕ)
    → Closes (record m { mode = AfterWord w; frames = fs; left = l })
behind_word [] (Some l) m w = like_literal m.groups _ (with_atom m m.sign _) refl
behind_word [] None m w = like_literal m.groups _ (with_atom m m.sign _) refl
behind_word (f ∷ fs) l m w = first _ _ (Sign Right) refl (behind_app fs l (record m { room = suc m.room }) f.word _)

wants_term : (m : Machine) → Closes (record m { mode = WantTerm })
wants_term m = first _ _ (Word false (codes "a")) refl (behind_word m.frames m.left m (codes "a"))

behind_var : (fs : List Frame) (l : Option Tree) (m : Machine) (x : List ℕ) → Closes (record m { mode = AfterVar x; frames = fs; left = l })
behind_var [] (Some l) m x = like_literal m.groups _ (with_atom m m.sign _) refl
behind_var [] None m x = first _ _ (Sign Equal) refl (wants_term (record m { frames = []; left = _ }))
behind_var (f ∷ fs) l m x = first _ _ (Sign Right) refl (behind_app fs l (record m { room = suc m.room }) f.word _)

closes_in : (k : Mode) (m : Machine) → Closes (record m { mode = k })
closes_in WantLiteral m = first _ _ (Truth true) refl (behind_literal m.groups (with_atom m true _))
closes_in (WantNegated s) m = first _ _ (Truth true) refl (behind_literal m.groups (with_atom m (if s then true else false) _))
closes_in WantTerm m = wants_term m
closes_in (AfterWord w) m = behind_word m.frames m.left m w
closes_in (AfterVar x) m = behind_var m.frames m.left m x
closes_in (AfterApp w args) m = behind_app m.frames m.left m w args
closes_in AfterLiteral m = behind_literal m.groups m

pub record Completes (n : ℕ) (st : Stage) : Type 0 where
  pub tokens : Terminals
  pub statement : Statement
  pub walks_to : walk n st tokens ≡ to (Done statement)

next : (n : ℕ) (st st' : Stage) (t : Terminal) → advance n st t ≡ to st' → Completes n st' → Completes n st
unfolding walk
next n st st' t e c = record { tokens = t ∷ c.tokens; statement = c.statement; walks_to = ap (λ a. walks n a c.tokens) e ∙ c.walks_to }

dot : (n : ℕ) (s : Statement) → Completes n (WantDot s)
unfolding walk
dot n s = record { tokens = Sign Dot ∷ []; statement = s; walks_to = refl }

in_notes : (n : ℕ) (bs : List Bool) (s : Statement) → Completes n (Notes s bs true)
in_notes n [] s = next n _ _ (Sign Right) refl (dot n s)
in_notes n (true ∷ bs) s = next n _ _ (Sign Right) refl (in_notes n bs s)
in_notes n (false ∷ bs) s = next n _ _ (Sign CloseSquare) refl (in_notes n bs s)

formula_done : (n : ℕ) (l : Label) (r : Role) (m : Machine) → Closes m → Completes n (Formula l r m)
unfolding walk
formula_done n l r m c = record {
  tokens = c.tokens ++ Sign Right ∷ Sign Dot ∷ [];
  statement = Clause l r c.literals;
  walks_to = formula_walks n l r m c.machine c.tokens (Sign Right ∷ Sign Dot ∷ []) c.runs ∙ ap (λ s. walks n (formula_step l r (Sign Right) s) (Sign Dot ∷ [])) c.ends;
}

from_formula : (n : ℕ) (l : Label) (r : Role) (m : Machine) → Completes n (Formula l r m)
from_formula n l r m = formula_done n l r m (closes_in m.mode m)

from_label : (n : ℕ) (l : Label) → Completes n (BehindLabel l)
from_label n l =
    next n _ _ (Sign Comma) refl (next n _ _ (Word false (codes "axiom")) refl (next n _ _ (Sign Comma) refl (from_formula n l role.Axiom (started n))))

a_label : Terminal
a_label = Word false (codes "a")

from_item : (n : ℕ) (p : List ℕ) (ls : List Label) → Completes n (BehindItem p ls)
from_item n p ls = next n _ _ (Sign CloseSquare) refl (next n _ _ (Sign Right) refl (dot n _))

from_path : (n : ℕ) (p : List ℕ) → Completes n (BehindPath p)
from_path n p = next n _ _ (Sign Right) refl (dot n _)

pub completes : (n : ℕ) (st : Stage) → Completes n st
unfolding walk
completes n Begin =
    next n _ _ (Word false (codes "include")) refl (next n _ _ (Sign Left) refl (next n _ _ (Word true []) refl (from_path n [])))
completes n ClauseOpen = next n _ _ (Sign Left) refl (next n _ _ (Word false (codes "a")) refl (from_label n _))
completes n ClauseLabel = next n _ _ (Word false (codes "a")) refl (from_label n _)
completes n (BehindLabel l) = from_label n l
completes n (ClauseRole l) =
    next n _ _ (Word false (codes "axiom")) refl (next n _ _ (Sign Comma) refl (from_formula n l role.Axiom (started n)))
completes n (BehindRole l r) = next n _ _ (Sign Comma) refl (from_formula n l r (started n))
completes n (Formula l r m) = from_formula n l r m
completes n (Notes s bs some) = next n _ _ Other refl (in_notes n bs s)
completes n (WantDot s) = dot n s
completes n (Done s) = record { tokens = []; statement = s; walks_to = refl }
completes n IncludeOpen = next n _ _ (Sign Left) refl (next n _ _ (Word true []) refl (from_path n []))
completes n Path = next n _ _ (Word true []) refl (from_path n [])
completes n (BehindPath p) = from_path n p
completes n (ListOpen p) = next n _ _ (Sign OpenSquare) refl (next n _ _ (Word false (codes "a")) refl (from_item n p _))
completes n (ListLabel p ls) = next n _ _ (Word false (codes "a")) refl (from_item n p _)
completes n (BehindItem p ls) = from_item n p ls
completes n (ListClosed p ls) = next n _ _ (Sign Right) refl (dot n _)

-- ---- what could come next

abbrev pub Goes : Advance → Type 0
Goes (to st) = Unit {0}
Goes (wrong w) = ⊥

pub could_goes : (n : ℕ) (front : Terminals) (st : Stage) (t : Terminal) → walk n Begin front ≡ to st → CouldIn n front t
    → Goes (advance n st t)
unfolding walk
could_goes n front st t e c = go (advance n st t)
    (sym (ap (λ a. walks n a (t ∷ c.behind)) e) ∙ sym (walk-append n Begin front (t ∷ c.behind)) ∙ to_end n (front ++ t ∷ c.behind) c.statement c.is)
  where
    go : (a : Advance) → walk_on a (λ s. walk n s c.behind) ≡ to (Done c.statement) → Goes a
    go (to s) h = tt
    go (wrong w) h = absurd (cc)

pub goes_could : (n : ℕ) (front : Terminals) (st : Stage) (t : Terminal) → walk n Begin front ≡ to st → Goes (advance n st t)
    → CouldIn n front t
unfolding walk
goes_could n front st t e h = go (advance n st t) refl h
  where
    go : (a : Advance) → advance n st t ≡ a → Goes a → CouldIn n front t
    go (wrong w) is h = absurd h
    go (to s) is h = let c = completes n s in record {
      behind = c.tokens;
      statement = c.statement;
      is = from_start n (front ++ t ∷ c.tokens) c.statement
          (walk-append n Begin front (t ∷ c.tokens) ∙ ap (λ a. walks n a (t ∷ c.tokens)) e ∙ ap (λ a. walks n a c.tokens) is ∙ c.walks_to);
    }

pub is_front : (n : ℕ) (front : Terminals) (st : Stage) → walk n Begin front ≡ to st → IsOpen st → (t : Terminal) × CouldIn n front t
unfolding walk
is_front n front st e o = go (completes n st).tokens (completes n st).walks_to
  where
    ends : (st : Stage) → IsOpen st → (s : Statement) → to st ≡ to (Done s) → ⊥
    ends st o s e = subst (λ a. At a) e o
      where
        At : Advance → Type 0
        At (to st) = IsOpen st
        At (wrong w) = ⊥

    go : (us : Terminals) → walk n st us ≡ to (Done (completes n st).statement) → (t : Terminal) × CouldIn n front t
    go [] h = absurd (ends st o _ h)
    go (t ∷ us) h = (
      t,
      record {
        behind = us;
        statement = (completes n st).statement;
        is = from_start n (front ++ t ∷ us) _ (walk-append n Begin front (t ∷ us) ∙ ap (λ a. walks n a (t ∷ us)) e ∙ h);
      },
    )
