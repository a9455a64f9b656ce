-- The words of a statement are printable, where those of its tokens are.
use Rattle.std.proofs.Common.{◌≡◌, ◌++◌, ◌∷◌, [], ℕ, Bool, true, false, not, List, sym, subst}
use Rattle.std.specs.List.{AllByRecursion}
use Rattle.cd_parse.specs.declared.terminal.Terminal.{Terminal}
use Rattle.cd_parse.specs.declared.terminal.Terminal.TheVariants.{Sign}
use Rattle.cd_parse.specs.declared.terminal.Sign.TheVariants.{Right, Comma, Dot, Equal, Unequal, Bar}
use Rattle.cd_parse.specs.declared.tree.Tree.{Tree}
use Rattle.cd_parse.specs.declared.tree.Tree.TheVariants.{Var, App}
use Rattle.cd_parse.specs.declared.tree.TreeLiteral.{TreeLiteral}
use Rattle.cd_parse.specs.declared.tree.TreeAtom.{TreeAtom}
use Rattle.cd_parse.specs.declared.tree.TreeAtom.TheVariants as written
use Rattle.cd_parse.specs.declared.label.Label.{Label}
use Rattle.cd_parse.specs.declared.statement.Statement.{Statement}
use Rattle.cd_parse.specs.declared.statement.Statement.TheVariants.{Clause, Include}
use Rattle.cd_parse.specs.Grammar.{Terminals, IsApplied, constant, applied, IsTerm, variable, word, AreTerms, only, before, IsAtom, truth, predicate, equation, disequation, IsNegated, an_atom, again, inner, IsLiteral, plain, negative, nested, IsFormula, one, more}
use Rattle.cd_parse.specs.Statements.{IsLabel, named, numbered, IsStatementIn, clause, whole, listed}
use Rattle.cd_read.proofs.Single.{App-injective, apart}
use Rattle.cd_read.specs.Formed.{IsPrintable, IsLabelFormed}
use Rattle.cd_list.proofs.Lists.{all_append, all_left, all_right}
use Rattle.cd_read.proofs.Printable.{IsTerminalLike}

-- trees whose words are printable
pub data AreWorded : List Tree → Type 0 where
  none : AreWorded []
  a_variable : (x : List ℕ) (ts : List Tree) → AreWorded ts → AreWorded (Var x ∷ ts)
  a_word : (w : List ℕ) (args ts : List Tree) → IsPrintable w → AreWorded args → AreWorded ts → AreWorded (App w args ∷ ts)

pub worded_append : (ts us : List Tree) → AreWorded ts → AreWorded us → AreWorded (ts ++ us)
worded_append _ us none b = b
worded_append _ us (a_variable x ts a) b = a_variable x (ts ++ us) (worded_append ts us a b)
worded_append _ us (a_word w args ts p inside a) b = a_word w args (ts ++ us) p inside (worded_append ts us a b)

pub worded_word : (xs : List Tree) (w : List ℕ) (args ts : List Tree) → AreWorded xs → xs ≡ App w args ∷ ts
    → IsPrintable w × AreWorded args × AreWorded ts
worded_word _ w args ts none e = absurd (cc)
worded_word _ w args ts (a_variable x us a) e = let heads : Var x ≡ App w args = cc in absurd (apart x w args heads)
worded_word _ w args ts (a_word v inside us p i a) e =
    let heads : App v inside ≡ App w args = cc in
    let tails : us ≡ ts = cc in
    let same = App-injective v w inside args heads in
    (subst IsPrintable same.0 p, subst AreWorded same.1 i, subst AreWorded tails a)

pub worded_variable : (xs : List Tree) (x : List ℕ) (ts : List Tree) → AreWorded xs → xs ≡ Var x ∷ ts → AreWorded ts
worded_variable _ x ts none e = absurd (cc)
worded_variable _ x ts (a_variable y us a) e = let tails : us ≡ ts = cc in subst AreWorded tails a
worded_variable _ x ts (a_word v inside us p i a) e = let heads : App v inside ≡ Var x = cc in absurd (apart x v inside (sym heads))

abbrev pub IsAtomWorded : TreeAtom → Type 0
IsAtomWorded written.Truth = Unit {0}
IsAtomWorded (written.Pred w args) = IsPrintable w × AreWorded args
IsAtomWorded (written.Equal l r) = AreWorded (l ∷ r ∷ [])

abbrev pub AreLiteralsWorded : List TreeLiteral → Type 0
AreLiteralsWorded ls = AllByRecursion (λ l. IsAtomWorded l.atom) ls

abbrev Like : Terminals → Type 0
Like ts = AllByRecursion IsTerminalLike ts

-- ---- terms

mutual
  applied_words : (n : ℕ) (ts : Terminals) (w : List ℕ) (args : List Tree) → IsApplied n ts w args → Like ts
      → IsPrintable w × AreWorded args
  applied_words _ _ _ _ (constant n q w) a = (a.0, none)
  applied_words _ _ _ _ (applied n q w ts args are) a =
      (a.0, terms_words n ts args are (all_left IsTerminalLike ts (Sign Right ∷ []) a.1.1))

  term_words : (n : ℕ) (ts : Terminals) (t : Tree) → IsTerm n ts t → Like ts → AreWorded (t ∷ [])
  term_words _ _ _ (variable n x) a = a_variable x [] none
  term_words _ _ _ (word n ts w args is) a = let r = applied_words n ts w args is a in a_word w args [] r.0 r.1 none

  terms_words : (n : ℕ) (ts : Terminals) (us : List Tree) → AreTerms n ts us → Like ts → AreWorded us
  terms_words _ _ _ (only n ts t is) a = term_words n ts t is a
  terms_words _ _ _ (before n ts us t rest is are) a =
      worded_append (t ∷ []) rest (term_words n ts t is (all_left IsTerminalLike ts (Sign Comma ∷ us) a))
      (terms_words n us rest are (all_right IsTerminalLike ts (Sign Comma ∷ us) a).1)

-- ---- literals

both_words : (n : ℕ) (ts us : Terminals) (t : Terminal) (l r : Tree) → IsTerm n ts l → IsTerm n us r → Like (ts ++ t ∷ us)
    → AreWorded (l ∷ r ∷ [])
both_words n ts us t l r p q a =
    worded_append (l ∷ []) (r ∷ []) (term_words n ts l p (all_left IsTerminalLike ts (t ∷ us) a))
    (term_words n us r q (all_right IsTerminalLike ts (t ∷ us) a).1)

atom_words : (n : ℕ) (s : Bool) (ts : Terminals) (l : TreeLiteral) → IsAtom n s ts l → Like ts → IsAtomWorded l.atom
atom_words _ _ _ _ (truth n s b) a = tt
atom_words _ _ _ _ (predicate n s ts w args is) a = applied_words n ts w args is a
atom_words _ _ _ _ (equation n s ts us l r p q) a = both_words n ts us (Sign Equal) l r p q a
atom_words _ _ _ _ (disequation n s ts us l r p q) a = both_words n ts us (Sign Unequal) l r p q a

negated_words : (n : ℕ) (s : Bool) (ts : Terminals) (l : TreeLiteral) → IsNegated n s ts l → Like ts → IsAtomWorded l.atom
negated_words _ _ _ _ (an_atom n s ts l is) a = atom_words n s ts l is a
negated_words _ _ _ _ (again n s ts l is) a = negated_words n (not s) ts l is a.1
negated_words _ _ _ _ (inner n s ts l is) a = negated_words n s ts l is (all_left IsTerminalLike ts (Sign Right ∷ []) a.1)

mutual
  literal_words : (n : ℕ) (ts : Terminals) (ls : List TreeLiteral) → IsLiteral n ts ls → Like ts → AreLiteralsWorded ls
  literal_words _ _ _ (plain n ts l is) a = (atom_words n true ts l is a, tt)
  literal_words _ _ _ (negative n ts l is) a = (negated_words n false ts l is a.1, tt)
  literal_words _ _ _ (nested n ts ls is) a = formula_words n ts ls is (all_left IsTerminalLike ts (Sign Right ∷ []) a.1)

  formula_words : (n : ℕ) (ts : Terminals) (ls : List TreeLiteral) → IsFormula n ts ls → Like ts → AreLiteralsWorded ls
  formula_words _ _ _ (one n ts ls is) a = literal_words n ts ls is a
  formula_words _ _ _ (more n ts us ls ms is are) a =
      all_append (λ l. IsAtomWorded l.atom) ls ms (literal_words n ts ls is (all_left IsTerminalLike ts (Sign Bar ∷ us) a))
      (formula_words n us ms are (all_right IsTerminalLike ts (Sign Bar ∷ us) a).1)

-- ---- statements

label_formed : (t : Terminal) (l : Label) → IsLabel t l → IsTerminalLike t → IsLabelFormed l
label_formed _ _ (named q w) a = tt
label_formed _ _ (numbered d) a = a

abbrev pub IsStatementWorded : Statement → Type 0
IsStatementWorded (Clause l r ls) = IsLabelFormed l × AreLiteralsWorded ls
IsStatementWorded (Include p names) = Unit {0}

pub statement_words : (n : ℕ) (ts : Terminals) (s : Statement) → IsStatementIn n ts s → Like ts → IsStatementWorded s
statement_words n _ _ (clause t l r ts ns ls is f others) a =
    (label_formed t l is a.1.1.0, formula_words n ts ls f (all_left IsTerminalLike ts (ns ++ Sign Right ∷ Sign Dot ∷ []) a.1.1.1.1.1.1))
statement_words n _ _ (whole p) a = tt
statement_words n _ _ (listed p ts ls are) a = tt
