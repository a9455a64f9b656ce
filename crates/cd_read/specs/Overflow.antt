-- Terms, atoms and clauses with a symbol beyond the last that there may be.
-- Beyond the headline: no clause of `prove` reaches this file.
use Rattle.std.specs.Prelude.{◌≡◌, ◌<◌, List, length}
use Rattle.cd_term.specs.declared.Term.{Term}
use Rattle.cd_clause.specs.declared.Atom.{Atom}
use Rattle.cd_clause.specs.declared.Literal.{Literal}
use Rattle.cd_clause.specs.declared.Clause.{Clause}
use Rattle.cd_symbols.specs.Symbol.{Symbol, Lacks}
use Rattle.cd_parse.specs.declared.tree.Tree.{Tree}
use Rattle.cd_parse.specs.declared.tree.TreeAtom.{TreeAtom}
use Rattle.cd_parse.specs.declared.tree.TreeLiteral.{TreeLiteral}
use Rattle.cd_read.specs.Meaning.{Variables, GivesTerms, GivesAtom, GivesLiterals, GivesClause}
use Rattle.cd_read.specs.declared.numbering.PassFault.{PassFault}
use Rattle.cd_read.specs.declared.numbering.PassFault.TheVariants.{Full, Memory}

-- a symbol that is new where no more may come
abbrev pub IsFullAt : List Symbol → Symbol → PassFault → Type 0
IsFullAt ss s Full = (length ss ≡ 65535) × Lacks ss s
IsFullAt ss s Memory = Unit {0}

-- the table that comes out is too long
abbrev pub TermsOverflow : List Symbol → Variables → List Tree → Type 0
TermsOverflow ss vs trees =
    (terms : List Term) × (ss' : List Symbol) × (vs' : Variables) × GivesTerms ss vs trees terms ss' vs' × (65535 < length ss')

abbrev pub AtomOverflows : List Symbol → Variables → TreeAtom → Type 0
AtomOverflows ss vs atom = (a : Atom) × (ss' : List Symbol) × (vs' : Variables) × GivesAtom ss vs atom a ss' vs' × (65535 < length ss')

abbrev pub LiteralsOverflow : List Symbol → Variables → List TreeLiteral → Type 0
LiteralsOverflow ss vs ls =
    (literals : List Literal) × (ss' : List Symbol) × (vs' : Variables) × GivesLiterals ss vs ls literals ss' vs' × (65535 < length ss')

abbrev pub ClauseOverflows : List Symbol → List TreeLiteral → Type 0
ClauseOverflows ss ls = (c : Clause) × (ss' : List Symbol) × GivesClause ss ls c ss' × (65535 < length ss')

-- why there are no numbers: the table that comes out is too long; want of memory is free
abbrev pub WhyTerms : List Symbol → Variables → List Tree → PassFault → Type 0
WhyTerms ss vs trees Full = TermsOverflow ss vs trees
WhyTerms ss vs trees Memory = Unit {0}

abbrev pub WhyAtom : List Symbol → Variables → TreeAtom → PassFault → Type 0
WhyAtom ss vs atom Full = AtomOverflows ss vs atom
WhyAtom ss vs atom Memory = Unit {0}

abbrev pub WhyLiterals : List Symbol → Variables → List TreeLiteral → PassFault → Type 0
WhyLiterals ss vs ls Full = LiteralsOverflow ss vs ls
WhyLiterals ss vs ls Memory = Unit {0}

abbrev pub WhyClause : List Symbol → List TreeLiteral → PassFault → Type 0
WhyClause ss ls Full = ClauseOverflows ss ls
WhyClause ss ls Memory = Unit {0}
