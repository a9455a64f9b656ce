-- Why a clause has no numbers, from why a part has none.
use Rattle.std.proofs.Common.{◌≡◌, ℕ, ◌+◌, ◌<◌, ◌≤◌, List, [], ◌∷◌, Result, Err, IfErr, length, get_or, take, sum_by, subst, sym, ap, arith}
use Rattle.std.proofs.lemmas.List.Sums.{sum_by-cons, sum_by_more, sum_by-take-le}
use Rattle.cd_term.specs.declared.Term.{Term}
use Rattle.cd_term.specs.declared.Term.TheVariants as term
use Rattle.cd_clause.specs.declared.Atom.TheVariants as atom
use Rattle.cd_clause.specs.declared.Literal.{Literal}
use Rattle.cd_symbols.specs.Symbol.{Symbol, symbol_of, Lacks, Interns}
use Rattle.cd_symbols.specs.declared.Kind.TheVariants.{Function, Predicate}
use Rattle.cd_parse.specs.declared.tree.Tree.{Tree}
use Rattle.cd_parse.specs.declared.tree.Tree.TheVariants as tree
use Rattle.cd_parse.specs.declared.tree.TreeAtom.{TreeAtom}
use Rattle.cd_parse.specs.declared.tree.TreeAtom.TheVariants as written
use Rattle.cd_parse.specs.declared.tree.TreeLiteral.{TreeLiteral}
use Rattle.cd_read.specs.Meaning.{Variables, GivesTerms, GivesAtom, GivesLiterals}
use Rattle.cd_parse.specs.Trees.{size_of, atom_size}
use Rattle.cd_read.specs.Overflow.{IsFullAt, TermsOverflow, AtomOverflows, WhyTerms, WhyAtom, WhyClause}
use Rattle.cd_read.specs.declared.numbering.PassFault.{PassFault}
use Rattle.cd_read.specs.declared.numbering.PassFault.TheVariants.{Full, Memory}
use Rattle.cd_read.proofs.Trees.{few_trees}
use Rattle.cd_read.proofs.Gives.{few_names, few_arguments, word_given, all_given, overflow_front, overflow_behind, next_overflows, word_overflows, word_full}
use Rattle.cd_read.proofs.Literals.{word_atom_overflows, word_atom_full, equation_overflows, equation_given, literal_overflows}

pub err_is : {T : Type 0} (r : Result T PassFault) (f : PassFault) (P : PassFault → Type 0) → r ≡ Err f → P f → IfErr r P
err_is r f P e p = subst (λ x. IfErr x P) (sym e) p

-- ---- terms

pub next_why : (ss sm : List Symbol) (vs vm : Variables) (ts : List Tree) (us : List Term) (i : ℕ) (x : Tree) (f : PassFault)
    → i < length ts → x ≡ get_or ts i x →
    GivesTerms ss vs (take i ts) us sm vm → WhyTerms sm vm (x ∷ []) f → WhyTerms ss vs ts f
next_why ss sm vs vm ts us i x Full lt at g w = next_overflows ss sm vs vm ts us i x lt at g w
next_why ss sm vs vm ts us i x Memory lt at g w = tt

pub word_why : (ss sm : List Symbol) (vs : Variables) (t : Tree) (w : List ℕ) (args ts : List Tree) (k n : ℕ) (f : PassFault)
    → t ≡ tree.App w args → ts ≡ args → k ≡ length args →
    Interns ss sm (symbol_of w k Function) n → WhyTerms sm vs ts f → WhyTerms ss vs (t ∷ []) f
word_why ss sm vs t w args ts k n Full is same count interns why =
    word_overflows ss sm vs t w args n is (subst (λ m. Interns ss sm (symbol_of w m Function) n) count interns)
    (subst (TermsOverflow sm vs) same why)
word_why ss sm vs t w args ts k n Memory is same count interns why = tt

pub word_full_why : (ss : List Symbol) (vs : Variables) (t : Tree) (w : List ℕ) (args : List Tree) (k : ℕ) (f : PassFault)
    → t ≡ tree.App w args → k ≡ length args →
    IsFullAt ss (symbol_of w k Function) f → WhyTerms ss vs (t ∷ []) f
word_full_why ss vs t w args k Full is count full =
    word_full ss vs t w args is full.0 (subst (λ m. Lacks ss (symbol_of w m Function)) count full.1)
word_full_why ss vs t w args k Memory is count full = tt

-- ---- an atom

pub few_in_atom : (a : TreeAtom) (w : List ℕ) (args : List Tree) → a ≡ written.Pred w args
    → (atom_size a ≡ 1 + sum_by size_of args) × (length args < atom_size a)
few_in_atom a w args is =
    let size : atom_size a ≡ 1 + sum_by size_of args = ap atom_size is in (size, omega (arith, size, few_trees args))

pub pred_full_why : (ss : List Symbol) (vs : Variables) (a : TreeAtom) (w : List ℕ) (args : List Tree) (k : ℕ) (f : PassFault)
    → a ≡ written.Pred w args → k ≡ length args →
    IsFullAt ss (symbol_of w k Predicate) f → WhyAtom ss vs a f
pred_full_why ss vs a w args k Full is count full =
    subst (AtomOverflows ss vs) (sym is) (word_atom_full ss vs w args full.0 (subst (λ m. Lacks ss (symbol_of w m Predicate)) count full.1))
pred_full_why ss vs a w args k Memory is count full = tt

pub pred_why : (ss sm : List Symbol) (vs : Variables) (a : TreeAtom) (w : List ℕ) (args ts : List Tree) (k n : ℕ) (f : PassFault)
    → a ≡ written.Pred w args → ts ≡ args → k ≡ length args →
    Interns ss sm (symbol_of w k Predicate) n → WhyTerms sm vs ts f → WhyAtom ss vs a f
pred_why ss sm vs a w args ts k n Full is same count interns why =
    subst (AtomOverflows ss vs) (sym is)
    (word_atom_overflows ss sm vs w args n (subst (λ m. Interns ss sm (symbol_of w m Predicate) n) count interns) (subst (TermsOverflow sm vs) same why))
pred_why ss sm vs a w args ts k n Memory is same count interns why = tt

pub left_why : (ss : List Symbol) (vs : Variables) (a : TreeAtom) (l r : Tree) (f : PassFault) → a ≡ written.Equal l r
    → WhyTerms ss vs (l ∷ []) f → WhyAtom ss vs a f
left_why ss vs a l r Full is why =
    subst (AtomOverflows ss vs) (sym is) (equation_overflows ss vs l r (overflow_front ss vs (l ∷ []) (r ∷ []) why))
left_why ss vs a l r Memory is why = tt

pub right_why : (ss sm : List Symbol) (vs vm : Variables) (a : TreeAtom) (l r : Tree) (s : Term) (f : PassFault) → a ≡ written.Equal l r →
    GivesTerms ss vs (l ∷ []) (s ∷ []) sm vm → WhyTerms sm vm (r ∷ []) f → WhyAtom ss vs a f
right_why ss sm vs vm a l r s Full is g why =
    subst (AtomOverflows ss vs) (sym is) (equation_overflows ss vs l r (overflow_behind ss sm vs vm (l ∷ []) (r ∷ []) (s ∷ []) g why))
right_why ss sm vs vm a l r s Memory is g why = tt

pub equal_given : (ss sm ss' : List Symbol) (vs vm vs' : Variables) (a : TreeAtom) (l r : Tree) (s t : Term) → a ≡ written.Equal l r →
    GivesTerms ss vs (l ∷ []) (s ∷ []) sm vm → GivesTerms sm vm (r ∷ []) (t ∷ []) ss' vs' → GivesAtom ss vs a (atom.Equal s t) ss' vs'
equal_given ss sm ss' vs vm vs' a l r s t is g h =
    subst (λ (x : TreeAtom). GivesAtom ss vs x (atom.Equal s t) ss' vs') (sym is) (equation_given ss sm ss' vs vm vs' l r s t g h)

pub right_room : (ss sm : List Symbol) (vs vm : Variables) (a : TreeAtom) (l r : Tree) (s : Term) → a ≡ written.Equal l r →
    GivesTerms ss vs (l ∷ []) (s ∷ []) sm vm → length vs + atom_size a ≤ 65535 → length vm + size_of r ≤ 65535
right_room ss sm vs vm a l r s is g few =
    let size : atom_size a ≡ 1 + (size_of l + size_of r) = ap atom_size is in
    omega (arith, size, few, few_names ss sm vs vm (l ∷ []) (s ∷ []) g, sum_by-cons size_of l [])

-- ---- literals

pub literal_why : (ss sm : List Symbol) (vm : Variables) (ls : List TreeLiteral) (outs : List Literal) (i : ℕ) (x : TreeLiteral) (f : PassFault) → i < length ls → x ≡ get_or ls i x →
    GivesLiterals ss [] (take i ls) outs sm vm → WhyAtom sm vm x.atom f → WhyClause ss ls f
literal_why ss sm vm ls outs i x Full lt at g why =
    let (literals, ss', vs', h, over) = literal_overflows ss sm [] vm ls outs i x lt at g why in (record { literals = literals }, ss', (vs', h), over)
literal_why ss sm vm ls outs i x Memory lt at g why = tt

-- ---- a word and its arguments

pub arguments_room : (vs : Variables) (t : Tree) (w : List ℕ) (args ts : List Tree) → t ≡ tree.App w args → ts ≡ args
    → length vs + size_of t ≤ 65535 → length vs + sum_by size_of ts ≤ 65535
arguments_room vs t w args ts is same few = omega (arith, few, (few_arguments t w args is).0, ap (sum_by size_of) same)

pub word_all : (ss sm ss' : List Symbol) (vs vs' : Variables) (t : Tree) (w : List ℕ) (args ts : List Tree) (us : List Term) (k n i : ℕ)
    → t ≡ tree.App w args → ts ≡ args → k ≡ length args →
    Interns ss sm (symbol_of w k Function) n → length ts ≤ i → GivesTerms sm vs (take i ts) us ss' vs' → GivesTerms ss vs (t ∷ [])
    (term.App n us ∷ []) ss' vs'
word_all ss sm ss' vs vs' t w args ts us k n i is same count interns le g =
    word_given ss sm ss' vs vs' t w args us n is (subst (λ m. Interns ss sm (symbol_of w m Function) n) count interns)
    (subst (λ xs. GivesTerms sm vs xs us ss' vs') same (all_given sm ss' vs vs' ts us i le g))

-- an argument is smaller
pub argument_smaller : (t : Tree) (w : List ℕ) (args ts : List Tree) (i : ℕ) (x : Tree) → t ≡ tree.App w args → ts ≡ args → i < length ts
    → x ≡ get_or ts i x → size_of x < size_of t
argument_smaller t w args ts i x is same lt at =
    let here : size_of x ≡ size_of (get_or ts i x) = ap size_of at in
    omega (arith, here, (few_arguments t w args is).0, ap (sum_by size_of) same, sum_by_more size_of ts i x lt, sum_by-take-le size_of ts (i + 1))
