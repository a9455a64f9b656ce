-- The grammar of a statement, and what could come next in one.
use Rattle.std.specs.Prelude.{◌≡◌, ◌≢◌, ◌⊎◌, ◌++◌, ◌∷◌, [], ℕ, Bool, true, false, List, None, Some, codes}
use Rattle.cd_parse.specs.declared.terminal.Terminal.{Terminal}
use Rattle.cd_parse.specs.declared.terminal.Terminal.TheVariants.{Word, Upper, Truth, Digits, Foreign, Sign}
use Rattle.cd_parse.specs.declared.terminal.Foreign.TheVariants as foreign
use Rattle.cd_parse.specs.declared.terminal.Sign.TheVariants.{Left, Right, OpenSquare, CloseSquare, Comma, Dot}
use Rattle.cd_parse.specs.declared.tree.TreeLiteral.{TreeLiteral}
use Rattle.cd_parse.specs.declared.label.Label.{Label}
use Rattle.cd_parse.specs.declared.label.Label.TheVariants as label
use Rattle.cd_parse.specs.declared.label.Role.{Role}
use Rattle.cd_parse.specs.declared.label.Role.TheVariants as role
use Rattle.cd_parse.specs.declared.label.What.{What}
use Rattle.cd_parse.specs.declared.label.What.TheVariants as what
use Rattle.cd_parse.specs.declared.statement.Statement.{Statement}
use Rattle.cd_parse.specs.declared.statement.Statement.TheVariants.{Clause, Include}
use Rattle.cd_parse.specs.Grammar.{Terminals, IsFormula}

-- a lower word or a quoted text, or digits alone
pub data IsLabel : Terminal → Label → Type 0 where
  named : (q : Bool) (w : List ℕ) → IsLabel (Word q w) (label.Word w)
  numbered : (d : List ℕ) → IsLabel (Digits d) (label.Integer d)

-- one label or more, with a comma between two
pub data AreLabels : Terminals → List Label → Type 0 where
  last : (t : Terminal) (l : Label) → IsLabel t l → AreLabels (t ∷ []) (l ∷ [])
  further : (t : Terminal) (l : Label) (ts : Terminals) (ls : List Label) → IsLabel t l → AreLabels ts ls
      → AreLabels (t ∷ Sign Comma ∷ ts) (l ∷ ls)

abbrev pub role_word : Role → List ℕ
role_word role.Axiom = codes "axiom"
role_word role.Hypothesis = codes "hypothesis"
role_word role.Definition = codes "definition"
role_word role.Assumption = codes "assumption"
role_word role.Lemma = codes "lemma"
role_word role.Theorem = codes "theorem"
role_word role.Corollary = codes "corollary"
role_word role.NegatedConjecture = codes "negated_conjecture"
role_word role.Plain = codes "plain"

-- whether a token is a bracket
abbrev pub is_bracket : Terminal → Bool
is_bracket (Sign Left) = true
is_bracket (Sign Right) = true
is_bracket (Sign OpenSquare) = true
is_bracket (Sign CloseSquare) = true
is_bracket t = false

-- tokens in which each bracket that closes is of the kind of the last open one
pub data Balanced : Terminals → Type 0 where
  empty : Balanced []
  other : (t : Terminal) (ts : Terminals) → is_bracket t ≡ false → Balanced ts → Balanced (t ∷ ts)
  round : (ts us : Terminals) → Balanced ts → Balanced us → Balanced (Sign Left ∷ (ts ++ Sign Right ∷ us))
  square : (ts us : Terminals) → Balanced ts → Balanced us → Balanced (Sign OpenSquare ∷ (ts ++ Sign CloseSquare ∷ us))

-- notes behind a comma, or nothing
pub data AreNotes : Terminals → Type 0 where
  without : AreNotes []
  notes : (ts : Terminals) → Balanced ts → ts ≢ [] → AreNotes (Sign Comma ∷ ts)

abbrev pub keyword : List ℕ → Terminal
keyword w = Word false w

-- a statement, in which so many parentheses and lists of arguments may be open
pub data IsStatementIn (levels : ℕ) : Terminals → Statement → Type 0 where
  clause : (t : Terminal) (l : Label) (r : Role) (ts ns : Terminals) (ls : List TreeLiteral) → IsLabel t l → IsFormula levels ts ls
      → AreNotes ns
      → IsStatementIn levels (keyword (codes "cnf") ∷ Sign Left ∷ t ∷ Sign Comma ∷ keyword (role_word r) ∷ Sign Comma ∷ (ts ++ (ns ++ Sign Right ∷ Sign Dot ∷ [])))
      (Clause l r ls)
  whole : (p : List ℕ)
      → IsStatementIn levels (keyword (codes "include") ∷ Sign Left ∷ Word true p ∷ Sign Right ∷ Sign Dot ∷ []) (Include p None)
  listed : (p : List ℕ) (ts : Terminals) (ls : List Label) → AreLabels ts ls
      → IsStatementIn levels (keyword (codes "include") ∷ Sign Left ∷ Word true p ∷ Sign Comma ∷ Sign OpenSquare ∷ (ts ++ Sign CloseSquare ∷ Sign Right ∷ Sign Dot ∷ []))
      (Include p (Some ls))

abbrev pub IsStatement : Terminals → Statement → Type 0
IsStatement = IsStatementIn 1000

-- some statement begins with the tokens and then this one
pub record CouldIn (levels : ℕ) (front : Terminals) (t : Terminal) : Type 0 where
  pub behind : Terminals
  pub statement : Statement
  pub is : IsStatementIn levels (front ++ t ∷ behind) statement

abbrev pub Could : Terminals → Terminal → Type 0
Could = CouldIn 1000

-- a statement isn't over with these tokens, which begin one
abbrev pub IsFront : Terminals → Type 0
IsFront front = (t : Terminal) × Could front t

-- ---- the first token that is wrong

abbrev pub IsLanguage : List ℕ → Type 0
IsLanguage w = (w ≡ codes "fof") ⊎ ((w ≡ codes "tff") ⊎ ((w ≡ codes "tcf") ⊎ ((w ≡ codes "thf") ⊎ (w ≡ codes "tpi"))))

-- a term or an atom may begin behind the tokens: a variable may
abbrev pub BeginsTerm : Terminals → Type 0
BeginsTerm front = Could front (Upper (codes "X"))

abbrev pub IsOfLanguage : Terminals → Terminal → Type 0
IsOfLanguage front t = (front ≡ []) × ((w : List ℕ) × IsLanguage w × (t ≡ Word false w))

-- a lower word stands where the role may be
abbrev pub IsWrongRole : Terminals → Terminal → Type 0
IsWrongRole front t = ((w : List ℕ) × (t ≡ Word false w)) × Could front (keyword (codes "axiom"))

abbrev pub IsObject : Terminals → Terminal → Type 0
IsObject front t = (t ≡ Foreign foreign.Object) × BeginsTerm front

abbrev pub IsNumber : Terminals → Terminal → Type 0
IsNumber front t = ((t ≡ Foreign foreign.Number) ⊎ ((d : List ℕ) × (t ≡ Digits d))) × BeginsTerm front

abbrev pub IsDollar : Terminals → Terminal → Type 0
IsDollar front t = ((t ≡ Foreign foreign.Dollar) ⊎ ((b : Bool) × (t ≡ Truth b))) × BeginsTerm front

-- a parenthesis that one level more would allow
abbrev pub IsDeep : Terminals → Terminal → Type 0
IsDeep front t = (t ≡ Sign Left) × CouldIn 1001 front t

-- what is wrong with a token that can't stand behind the others
abbrev pub Names : What → Terminals → Terminal → Type 0
Names what.Language front t = IsOfLanguage front t
Names what.Role front t = IsWrongRole front t
Names what.Object front t = IsObject front t
Names what.Number front t = IsNumber front t
Names what.Dollar front t = IsDollar front t
Names what.Deep front t = IsDeep front t
Names what.Syntax front t =
    ¬ IsOfLanguage front t × ¬ IsWrongRole front t × ¬ IsObject front t × ¬ IsNumber front t × ¬ IsDollar front t × ¬ IsDeep front t
Names what.BadByte front t = ⊥
Names what.OpenQuote front t = ⊥
Names what.OpenComment front t = ⊥
Names what.Depth front t = ⊥
Names what.Cycle front t = ⊥
Names what.Selected front t = ⊥
Names what.TooLarge front t = ⊥
Names what.Long front t = ⊥

-- the tokens begin a statement, and this one is the first that is wrong
pub record IsWrong (front : Terminals) (t : Terminal) (w : What) : Type 0 where
  pub begins : IsFront front
  pub no : ¬ Could front t
  pub names : Names w front t
