-- The clause of a statement: its symbols and variables by numbers, in the order of first occurrence.
use Rattle.std.specs.Prelude.{◌≡◌, ◌≢◌, ◌⊎◌, ◌≤◌, ◌+◌, ◌++◌, ◌∷◌, [], ℕ, List, Some, length, slice_get, map, max}
use Rattle.cd_term.specs.declared.Term.{Term}
use Rattle.cd_term.specs.declared.Term.TheVariants as term
use Rattle.cd_clause.specs.declared.Atom.{Atom}
use Rattle.cd_clause.specs.declared.Atom.TheVariants as atom
use Rattle.cd_clause.specs.declared.Literal.{Literal}
use Rattle.cd_clause.specs.declared.Clause.{Clause}
use Rattle.cd_symbols.specs.Symbol.{Symbol, symbol_of, Interns}
use Rattle.cd_symbols.specs.declared.Kind.TheVariants.{Function, Predicate}
use Rattle.cd_parse.specs.declared.tree.Tree.{Tree, fold-Tree}
use Rattle.cd_parse.specs.declared.tree.Tree.TheOpen.{Tree-F}
use Rattle.cd_parse.specs.declared.tree.Tree.TheOpen as layer
use Rattle.cd_parse.specs.Trees.{literals_size}
use Rattle.cd_term.specs.Terms.{greatest}
use Rattle.cd_parse.specs.declared.tree.Tree.TheVariants as tree
use Rattle.cd_parse.specs.declared.tree.TreeAtom.{TreeAtom}
use Rattle.cd_parse.specs.declared.tree.TreeAtom.TheVariants as written
use Rattle.cd_parse.specs.declared.tree.TreeLiteral.{TreeLiteral}

-- the variables so far, each at its number
abbrev pub Variables : Type 0
Variables = List (List ℕ)

-- the variable has the number n afterwards
abbrev pub IsNumbered : Variables → Variables → List ℕ → ℕ → Type 0
IsNumbered old new x n = ((slice_get old n ≡ Some x) × (new ≡ old))
    ⊎ (((k : ℕ) → slice_get old k ≢ Some x) × (n ≡ length old) × (new ≡ old ++ x ∷ []))

-- terms by numbers: a word before its arguments, and these from left to right
pub data GivesTerms : List Symbol → Variables → List Tree → List Term → List Symbol → Variables → Type 0 where
  none : (ss : List Symbol) (vs : Variables) → GivesTerms ss vs [] [] ss vs
  variable : (ss ss' : List Symbol) (vs between vs' : Variables) (x : List ℕ) (n : ℕ) (ts : List Tree) (us : List Term)
      → IsNumbered vs between x n → GivesTerms ss between ts us ss' vs' → GivesTerms ss vs (tree.Var x ∷ ts) (term.Var n ∷ us) ss' vs'
  applied : (ss inner behind ss' : List Symbol) (vs between vs' : Variables) (w : List ℕ) (n : ℕ) (args ts : List Tree) (news us : List Term)
      → Interns ss inner (symbol_of w (length args) Function) n → GivesTerms inner vs args news behind between
      → GivesTerms behind between ts us ss' vs' → GivesTerms ss vs (tree.App w args ∷ ts) (term.App n news ∷ us) ss' vs'

abbrev pub GivesAtom : List Symbol → Variables → TreeAtom → Atom → List Symbol → Variables → Type 0
GivesAtom ss vs written.Truth a ss' vs' = (a ≡ atom.Truth) × (ss' ≡ ss) × (vs' ≡ vs)
GivesAtom ss vs (written.Pred w args) a ss' vs' = (n : ℕ) × (between : List Symbol) × (news : List Term)
    × Interns ss between (symbol_of w (length args) Predicate) n × GivesTerms between vs args news ss' vs' × (a ≡ atom.Pred n news)
GivesAtom ss vs (written.Equal l r) a ss' vs' = (s t : Term) × GivesTerms ss vs (l ∷ r ∷ []) (s ∷ t ∷ []) ss' vs' × (a ≡ atom.Equal s t)

abbrev pub GivesLiterals : List Symbol → Variables → List TreeLiteral → List Literal → List Symbol → Variables → Type 0
GivesLiterals ss vs [] literals ss' vs' = (literals ≡ []) × (ss' ≡ ss) × (vs' ≡ vs)
GivesLiterals ss vs (l ∷ ls) literals ss' vs' = (a : Atom) × (between : List Symbol) × (names : Variables) × (others : List Literal)
    × GivesAtom ss vs l.atom a between names × GivesLiterals between names ls others ss' vs'
    × (literals ≡ record { positive = l.positive; atom = a } ∷ others)

-- the clause of these literals; the symbols before and afterwards
abbrev pub GivesClause : List Symbol → List TreeLiteral → Clause → List Symbol → Type 0
GivesClause ss ls c ss' = (names : Variables) × GivesLiterals ss [] ls c.literals ss' names

-- ---- bounds

abbrev pub depth_step : Tree-F ℕ → ℕ
depth_step (layer.Var x) = 1
depth_step (layer.App w depths) = 1 + greatest depths

abbrev pub depth_of : Tree → ℕ
depth_of = fold-Tree ℕ depth_step

abbrev pub atom_depth : TreeAtom → ℕ
atom_depth written.Truth = 0
atom_depth (written.Pred w args) = 1 + greatest (map depth_of args)
atom_depth (written.Equal l r) = max (depth_of l) (depth_of r)

-- the bounds of a clause, which don't depend on its numbers
abbrev pub AreWithin : List TreeLiteral → Type 0
AreWithin ls = (literals_size ls ≤ 65535) × (greatest (map (λ l. atom_depth l.atom) ls) ≤ 1000)
