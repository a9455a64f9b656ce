-- The laws of statements that other crates build on. Each is the contract of a function of the module `laws`.
-- Beyond the headline: no clause of `prove` reaches this file.
use Rattle.std.specs.Prelude.{◌≡◌, ℕ}
use Rattle.cd_lex.specs.Bytes.{Bytes}
use Rattle.cd_parse.specs.declared.terminal.Terminal.{Terminal}
use Rattle.cd_parse.specs.declared.label.What.{What}
use Rattle.cd_parse.specs.declared.statement.Statement.{Statement}
use Rattle.cd_parse.specs.Grammar.{Terminals}
use Rattle.cd_parse.specs.Statements.{IsStatement, IsFront, Names}
use Rattle.cd_parse.specs.Parts.{Opens, Part, IsPart}

-- tokens spell one statement at most
abbrev pub StatementsAgree : Type 0
StatementsAgree = (ts : Terminals) (s t : Statement) → IsStatement ts s → IsStatement ts t → s ≡ t

-- a statement is over where it ends: it is no front of another
abbrev pub StatementsEnd : Type 0
StatementsEnd = (ts : Terminals) (s : Statement) → IsStatement ts s → ¬ IsFront ts

-- one thing is wrong with a token
abbrev pub NamesAgree : Type 0
NamesAgree = (front : Terminals) (t : Terminal) (v w : What) → Names v front t → Names w front t → v ≡ w

-- from a place of a file one part alone is read: a statement, nothing, or a fault with its place
abbrev pub PartsAgree : Type 0
PartsAgree = (opens : Opens) (bytes : Bytes) (from : ℕ) (p q : Part) → IsPart opens bytes from p → IsPart opens bytes from q → p ≡ q
