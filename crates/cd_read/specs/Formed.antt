-- Problems that are formed and within bounds.
-- Beyond the headline: no clause of `prove` reaches IsPrintable, IsInputFormed, IsFormed, IsBounded.
use Rattle.std.specs.Prelude.{◌==◌, ◌&&◌, ◌≤◌, ◌∷◌, [], ℕ, Bool, true, false, nat_lt, List, Option, None, Some, length, slice_get, IsTrue}
use Rattle.std.specs.List.{list_all, AllByRecursion}
use Rattle.cd_lex.specs.Tokens.{IsDigits}
use Rattle.cd_symbols.specs.Symbol.{Symbol, AreDistinct}
use Rattle.cd_symbols.specs.declared.Kind.{Kind}
use Rattle.cd_symbols.specs.declared.Kind.TheVariants.{Function, Predicate}
use Rattle.cd_term.specs.declared.Term.{Term, fold-Term}
use Rattle.cd_term.specs.declared.Term.TheOpen.{Term-F}
use Rattle.cd_term.specs.declared.Term.TheOpen as layer
use Rattle.cd_clause.specs.declared.Atom.{Atom}
use Rattle.cd_clause.specs.declared.Atom.TheVariants.{Truth, Pred, Equal}
use Rattle.cd_clause.specs.declared.Clause.{Clause}
use Rattle.cd_clause.specs.Clauses.{IsWithinBounds}
use Rattle.cd_parse.specs.declared.label.Label.{Label}
use Rattle.cd_parse.specs.declared.label.Label.TheVariants.{Word, Integer}
use Rattle.cd_read.specs.declared.problem.Input.{Input}
use Rattle.cd_read.specs.declared.problem.Problem.{Problem}

-- bytes 32 to 126 alone
abbrev pub IsPrintable : List ℕ → Type 0
IsPrintable text = AllByRecursion (λ b. (32 ≤ b) × (b ≤ 126)) text

-- whether there is a symbol of this kind that takes so many arguments
abbrev pub is_function : ℕ → Option Symbol → Bool
is_function count None = false
is_function count (Some s) = is_of s.kind && (s.arity == count)
  where
    is_of : Kind → Bool
    is_of Function = true
    is_of Predicate = false

abbrev pub is_predicate : ℕ → Option Symbol → Bool
is_predicate count None = false
is_predicate count (Some s) = is_of s.kind && (s.arity == count)
  where
    is_of : Kind → Bool
    is_of Function = false
    is_of Predicate = true

-- whether each symbol of a term is a function of the table with its arguments, and each variable is below 65,536
abbrev pub formed_step : List Symbol → Term-F Bool → Bool
formed_step symbols (layer.Var n) = nat_lt n 65536
formed_step symbols (layer.App f formed) = is_function (length formed) (slice_get symbols f) && list_all (λ b. b) formed

abbrev pub is_term_formed : List Symbol → Term → Bool
is_term_formed symbols = fold-Term Bool (formed_step symbols)

abbrev pub AreTermsFormed : List Symbol → List Term → Type 0
AreTermsFormed symbols ts = AllByRecursion (λ t. IsTrue (is_term_formed symbols t)) ts

abbrev pub IsAtomFormed : List Symbol → Atom → Type 0
IsAtomFormed symbols Truth = Unit {0}
IsAtomFormed symbols (Pred p args) = IsTrue (is_predicate (length args) (slice_get symbols p)) × AreTermsFormed symbols args
IsAtomFormed symbols (Equal s t) = AreTermsFormed symbols (s ∷ t ∷ [])

abbrev pub IsClauseFormed : List Symbol → Clause → Type 0
IsClauseFormed symbols c = AllByRecursion (λ l. IsAtomFormed symbols l.atom) c.literals

-- one digit or more, where the label is an integer
abbrev pub IsLabelFormed : Label → Type 0
IsLabelFormed (Word w) = Unit {0}
IsLabelFormed (Integer d) = IsDigits d

abbrev pub IsInputFormed : List Symbol → Input → Type 0
IsInputFormed symbols i = IsLabelFormed i.label × IsClauseFormed symbols i.clause

-- each symbol's text is printable, and each input has a label of digits where it is an integer, and symbols of the table in their arity
-- and kind alone
pub record IsFormed (p : Problem) : Type 0 where
  pub texts : AllByRecursion (λ s. IsPrintable s.text) p.symbols
  pub inputs : AllByRecursion (IsInputFormed p.symbols) p.inputs

-- what a problem that was read is beyond that: its inputs are within bounds, there are at most 4,194,304 of them, since each takes a byte
-- of a file, and at most 65,535 symbols, none twice
pub record IsBounded (p : Problem) : Type 0 where
  pub within : AllByRecursion (λ i. IsWithinBounds i.clause) p.inputs
  pub few : length p.inputs ≤ 4194304
  pub few_symbols : length p.symbols ≤ 65535
  pub distinct : AreDistinct p.symbols
