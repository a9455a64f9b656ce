-- The tokens of a file's bytes, and what a statement there comes to.
use Rattle.std.specs.Prelude.{◌≡◌, ◌≢◌, ◌==◌, ◌⊎◌, ◌<◌, ◌≤◌, ◌+◌, ◌-◌, ◌++◌, ◌∷◌, [], ℕ, true, false, List, length, take, map, codes, if◌then◌else◌, Contains}
use Rattle.std.specs.List.{list_all}
use Rattle.std.specs.Str.{bytes_eq}
use Rattle.cd_lex.specs.Bytes.{Bytes, is_digit}
use Rattle.cd_lex.specs.Next.{Next, token, nothing, IsNext}
use Rattle.cd_lex.specs.Next as next
use Rattle.cd_lex.specs.declared.TokenKind.{TokenKind}
use Rattle.cd_lex.specs.declared.TokenKind.TheVariants as kind
use Rattle.cd_lex.specs.declared.LexFault.{LexFault}
use Rattle.cd_lex.specs.declared.LexFault.TheVariants as lex
use Rattle.cd_parse.specs.declared.terminal.Terminal.{Terminal}
use Rattle.cd_parse.specs.declared.terminal.Terminal.TheVariants.{Word, Upper, Truth, Digits, Foreign, Sign, Other}
use Rattle.cd_parse.specs.declared.terminal.Foreign.TheVariants as foreign
use Rattle.cd_parse.specs.declared.terminal.Sign.TheVariants.{Left, Right, OpenSquare, CloseSquare, Comma, Dot, Equal, Unequal, Tilde, Bar}
use Rattle.cd_parse.specs.declared.label.What.{What}
use Rattle.cd_parse.specs.declared.label.What.TheVariants as what
use Rattle.cd_parse.specs.declared.statement.Statement.{Statement}
use Rattle.cd_parse.specs.Grammar.{Terminals}
use Rattle.cd_parse.specs.Statements.{IsStatement, IsFront, IsWrong, keyword}

-- ---- tokens

-- the content of a quoted text without escapes
abbrev pub unescaped : Bytes → Bytes
unescaped [] = []
unescaped (b ∷ []) = b ∷ []
unescaped (b ∷ c ∷ bs) = if b == 92 then c ∷ unescaped bs else b ∷ unescaped (c ∷ bs)

-- what stands between the quotes
abbrev pub content : Bytes → Bytes
content [] = []
content (b ∷ bs) = take (length bs - 1) bs

abbrev pub dollar_of : Bytes → Terminal
dollar_of text =
    if bytes_eq text (codes "$true") then Truth true else if bytes_eq text (codes "$false") then Truth false else Foreign foreign.Dollar

abbrev pub sign_of : Bytes → Terminal
sign_of text =
    if bytes_eq text (codes "(") then Sign Left else if bytes_eq text (codes ")") then Sign Right else
    if bytes_eq text (codes "[") then Sign OpenSquare else if bytes_eq text (codes "]") then Sign CloseSquare else
    if bytes_eq text (codes ",") then Sign Comma else if bytes_eq text (codes ".") then Sign Dot else
    if bytes_eq text (codes "=") then Sign Equal else if bytes_eq text (codes "!=") then Sign Unequal else
    if bytes_eq text (codes "~") then Sign Tilde else if bytes_eq text (codes "|") then Sign Bar else Other

-- the token of the grammar that bytes of a kind are
abbrev pub terminal_of : TokenKind → Bytes → Terminal
terminal_of kind.Lower text = Word false text
terminal_of kind.Upper text = Upper text
terminal_of kind.Dollar text = dollar_of text
terminal_of kind.Quoted text = Word true (unescaped (content text))
terminal_of kind.Object text = Foreign foreign.Object
terminal_of kind.Number text = if list_all is_digit text then Digits text else Foreign foreign.Number
terminal_of kind.Sign text = sign_of text
terminal_of kind.Other text = Other

pub record Placed : Type 0 where
  pub terminal : Terminal
  pub start : ℕ

abbrev pub terminals : List Placed → Terminals
terminals ps = map (λ p. p.terminal) ps

-- the tokens from one place up to another, where the last one ends
pub data Tokens (bytes : Bytes) (from : ℕ) : List Placed → ℕ → Type 0 where
  none : Tokens bytes from [] from
  further : (ps : List Placed) (mid : ℕ) (k : TokenKind) (start : ℕ) (text : Bytes) → Tokens bytes from ps mid
      → IsNext bytes mid (token k start text)
      → Tokens bytes from (ps ++ record { terminal = terminal_of k text; start = start } ∷ []) (start + length text)

-- ---- a statement

-- the files that are open, the innermost last
abbrev pub Opens : Type 0
Opens = List (List ℕ)

-- why a path can't be included
abbrev pub IsWrongPath : Opens → List ℕ → What → Type 0
IsWrongPath opens p w = (Contains opens p × (w ≡ what.Cycle)) ⊎ (¬ Contains opens p × (16 ≤ length opens) × (w ≡ what.Depth))

abbrev pub MayInclude : Opens → List ℕ → Type 0
MayInclude opens p = ¬ Contains opens p × (length opens < 16)

-- the token is the path of an include
abbrev pub IsPath : Terminals → Terminal → List ℕ → Type 0
IsPath front t p = (front ≡ keyword (codes "include") ∷ Sign Left ∷ []) × (t ≡ Word true p)

-- the path among these tokens, if there is one, may be included
pub record PathMay (opens : Opens) (front : Terminals) : Type 0 where
  pub may : (before behind : Terminals) (t : Terminal) (p : List ℕ) → front ≡ before ++ t ∷ behind → IsPath before t p → MayInclude opens p

abbrev pub what_of : LexFault → What × ℕ
what_of (lex.BadByte at) = (what.BadByte, at)
what_of (lex.OpenQuote at) = (what.OpenQuote, at)
what_of (lex.OpenComment at) = (what.OpenComment, at)

-- why these tokens, which begin a statement, don't go on with what comes next; and the place
abbrev pub Breaks : Opens → ℕ → Terminals → Next → What → ℕ → Type 0
Breaks opens end front (next.fault f) w at = what_of f ≡ (w, at)
Breaks opens end front nothing w at = (front ≢ []) × (w ≡ what.Syntax) × (at ≡ end)
Breaks opens end front (token k start text) w at = (at ≡ start)
    × (IsWrong front (terminal_of k text) w ⊎ ((p : List ℕ) × IsPath front (terminal_of k text) p × IsWrongPath opens p w))

-- what is read from a place on, where a statement may begin
pub data Part : Type 0 where
  statement : Statement → List Placed → ℕ → Part  -- with its tokens, and where it ends
  over : Part
  broken : What → ℕ → Part

abbrev pub IsPart : Opens → Bytes → ℕ → Part → Type 0
IsPart opens bytes from (statement s ps to) = Tokens bytes from ps to × IsStatement (terminals ps) s × PathMay opens (terminals ps)
IsPart opens bytes from over = IsNext bytes from nothing
IsPart opens bytes from (broken w at) =
    (ps : List Placed) × (mid : ℕ) × (n : Next) × Tokens bytes from ps mid × IsFront (terminals ps) × PathMay opens (terminals ps)
    × IsNext bytes mid n × Breaks opens (length bytes) (terminals ps) n w at
