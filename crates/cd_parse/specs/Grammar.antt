-- The grammar of a formula, on tokens.
use Rattle.std.specs.Prelude.{◌++◌, ◌∷◌, [], ℕ, suc, Bool, true, false, not, List, if◌then◌else◌}
use Rattle.cd_parse.specs.declared.terminal.Terminal.{Terminal}
use Rattle.cd_parse.specs.declared.terminal.Terminal.TheVariants.{Word, Upper, Truth, Sign}
use Rattle.cd_parse.specs.declared.terminal.Sign.TheVariants.{Left, Right, Comma, Equal, Unequal, Tilde, Bar}
use Rattle.cd_parse.specs.declared.tree.Tree.{Tree}
use Rattle.cd_parse.specs.declared.tree.Tree.TheVariants.{Var, App}
use Rattle.cd_parse.specs.declared.tree.TreeLiteral.{TreeLiteral}
use Rattle.cd_parse.specs.declared.tree.TreeAtom.{TreeAtom}
use Rattle.cd_parse.specs.declared.tree.TreeAtom.TheVariants as atom

abbrev pub Terminals : Type 0
Terminals = List Terminal

-- n is how many parentheses and argument lists may still be opened

mutual
  -- a word, with arguments or without
  pub data IsApplied : ℕ → Terminals → List ℕ → List Tree → Type 0 where
    constant : (n : ℕ) (q : Bool) (w : List ℕ) → IsApplied n (Word q w ∷ []) w []
    applied : (n : ℕ) (q : Bool) (w : List ℕ) (ts : Terminals) (args : List Tree) → AreTerms n ts args
        → IsApplied (suc n) (Word q w ∷ Sign Left ∷ (ts ++ Sign Right ∷ [])) w args

  -- a term
  pub data IsTerm : ℕ → Terminals → Tree → Type 0 where
    variable : (n : ℕ) (x : List ℕ) → IsTerm n (Upper x ∷ []) (Var x)
    word : (n : ℕ) (ts : Terminals) (w : List ℕ) (args : List Tree) → IsApplied n ts w args → IsTerm n ts (App w args)

  -- one term or more, with a comma between two
  pub data AreTerms : ℕ → Terminals → List Tree → Type 0 where
    only : (n : ℕ) (ts : Terminals) (t : Tree) → IsTerm n ts t → AreTerms n ts (t ∷ [])
    before : (n : ℕ) (ts us : Terminals) (t : Tree) (rest : List Tree) → IsTerm n ts t → AreTerms n us rest
        → AreTerms n (ts ++ Sign Comma ∷ us) (t ∷ rest)

abbrev pub literal : Bool → TreeAtom → TreeLiteral
literal s a = record { positive = s; atom = a }

-- the sign of `$true` (true) or `$false` (false) behind a sign
abbrev pub same : Bool → Bool → Bool
same s b = if s then b else not b

-- an atom, where a positive one has the sign s
pub data IsAtom : ℕ → Bool → Terminals → TreeLiteral → Type 0 where
  truth : (n : ℕ) (s b : Bool) → IsAtom n s (Truth b ∷ []) (literal (same s b) atom.Truth)
  predicate : (n : ℕ) (s : Bool) (ts : Terminals) (w : List ℕ) (args : List Tree) → IsApplied n ts w args
      → IsAtom n s ts (literal s (atom.Pred w args))
  equation : (n : ℕ) (s : Bool) (ts us : Terminals) (l r : Tree) → IsTerm n ts l → IsTerm n us r
      → IsAtom n s (ts ++ Sign Equal ∷ us) (literal s (atom.Equal l r))
  disequation : (n : ℕ) (s : Bool) (ts us : Terminals) (l r : Tree) → IsTerm n ts l → IsTerm n us r
      → IsAtom n s (ts ++ Sign Unequal ∷ us) (literal (not s) (atom.Equal l r))

-- what stands behind a `~`
pub data IsNegated : ℕ → Bool → Terminals → TreeLiteral → Type 0 where
  an_atom : (n : ℕ) (s : Bool) (ts : Terminals) (l : TreeLiteral) → IsAtom n s ts l → IsNegated n s ts l
  again : (n : ℕ) (s : Bool) (ts : Terminals) (l : TreeLiteral) → IsNegated n (not s) ts l → IsNegated n s (Sign Tilde ∷ ts) l
  inner : (n : ℕ) (s : Bool) (ts : Terminals) (l : TreeLiteral) → IsNegated n s ts l
      → IsNegated (suc n) s (Sign Left ∷ (ts ++ Sign Right ∷ [])) l

mutual
  -- a literal, or a formula in parentheses
  pub data IsLiteral : ℕ → Terminals → List TreeLiteral → Type 0 where
    plain : (n : ℕ) (ts : Terminals) (l : TreeLiteral) → IsAtom n true ts l → IsLiteral n ts (l ∷ [])
    negative : (n : ℕ) (ts : Terminals) (l : TreeLiteral) → IsNegated n false ts l → IsLiteral n (Sign Tilde ∷ ts) (l ∷ [])
    nested : (n : ℕ) (ts : Terminals) (ls : List TreeLiteral) → IsFormula n ts ls
        → IsLiteral (suc n) (Sign Left ∷ (ts ++ Sign Right ∷ [])) ls

  -- literals with a bar between two
  pub data IsFormula : ℕ → Terminals → List TreeLiteral → Type 0 where
    one : (n : ℕ) (ts : Terminals) (ls : List TreeLiteral) → IsLiteral n ts ls → IsFormula n ts ls
    more : (n : ℕ) (ts us : Terminals) (ls ms : List TreeLiteral) → IsLiteral n ts ls → IsFormula n us ms
        → IsFormula n (ts ++ Sign Bar ∷ us) (ls ++ ms)
