-- Atoms and literals given one after another.
use Rattle.std.proofs.Common.{◌≡◌, ℕ, Bool, ◌+◌, ◌<◌, ◌≤◌, List, [], ◌∷◌, ◌++◌, length, get_or, take, drop, sum_by, subst, sym, ap, refl, arith, length-append, ◌∙◌}
use Rattle.std.proofs.lemmas.List.{take_all, take-append-drop, length-drop, drop_more}
use Rattle.std.proofs.lemmas.List.Sums.{sum_by-cons, sum_by_more, sum_by-take-le}
use Rattle.cd_term.specs.declared.Term.{Term}
use Rattle.cd_clause.specs.declared.Atom.{Atom}
use Rattle.cd_clause.specs.declared.Atom.TheVariants as atom
use Rattle.cd_clause.specs.declared.Literal.{Literal}
use Rattle.cd_symbols.specs.Symbol.{Symbol, symbol_of, Lacks, Interns}
use Rattle.cd_symbols.specs.declared.Kind.TheVariants.{Predicate}
use Rattle.cd_parse.specs.declared.tree.Tree.{Tree}
use Rattle.cd_parse.specs.declared.tree.TreeAtom.{TreeAtom}
use Rattle.cd_parse.specs.declared.tree.TreeAtom.TheVariants as written
use Rattle.cd_parse.specs.declared.tree.TreeLiteral.{TreeLiteral}
use Rattle.cd_read.specs.Meaning.{Variables, GivesTerms, GivesAtom, GivesLiterals, none, variable, applied}
use Rattle.cd_parse.specs.Trees.{size_of, atom_size}
use Rattle.cd_read.specs.Overflow.{TermsOverflow, AtomOverflows, LiteralsOverflow}
use Rattle.cd_read.proofs.Gives.{has_term, next_taken, append, interns_longer, longer, few_names, interns_some, terms_some, full_interns}

abbrev literal : Bool → Atom → Literal
literal s a = record { positive = s; atom = a }

-- ---- an atom

pub atom_longer : (ss ss' : List Symbol) (vs vs' : Variables) (t : TreeAtom) (a : Atom) → GivesAtom ss vs t a ss' vs'
    → length ss ≤ length ss'
atom_longer ss ss' vs vs' written.Truth a g = omega (arith, ap length g.1)
atom_longer ss ss' vs vs' (written.Pred w args) a (n, between, news, is, g, made) =
    omega (arith, interns_longer ss between _ n is, longer between ss' vs vs' args news g)
atom_longer ss ss' vs vs' (written.Equal l r) a (s, t, g, made) = longer ss ss' vs vs' (l ∷ r ∷ []) (s ∷ t ∷ []) g

pub atom_few : (ss ss' : List Symbol) (vs vs' : Variables) (t : TreeAtom) (a : Atom) → GivesAtom ss vs t a ss' vs'
    → length vs' ≤ length vs + atom_size t
atom_few ss ss' vs vs' written.Truth a g = omega (arith, ap length g.2)
atom_few ss ss' vs vs' (written.Pred w args) a (n, between, news, is, g, made) = omega (arith, few_names between ss' vs vs' args news g)
atom_few ss ss' vs vs' (written.Equal l r) a (s, t, g, made) =
    omega (arith, few_names ss ss' vs vs' (l ∷ r ∷ []) (s ∷ t ∷ []) g, sum_by-cons size_of l (r ∷ []), sum_by-cons size_of r [])

-- two terms as a list
two_terms : (l r : Tree) (ss : List Symbol) (vs : Variables)
    → (s t : Term) × (ss' : List Symbol) × (vs' : Variables) × GivesTerms ss vs (l ∷ r ∷ []) (s ∷ t ∷ []) ss' vs'
two_terms l r ss vs =
    let first = has_term l ss vs in
    let second = has_term r first.1 first.2 in
    (first.0, second.0, second.1, second.2, append ss first.1 second.1 vs first.2 second.2 (l ∷ []) (r ∷ []) (first.0 ∷ []) (second.0 ∷ []) first.3 second.3)

pub atom_some : (t : TreeAtom) (ss : List Symbol) (vs : Variables)
    → (a : Atom) × (ss' : List Symbol) × (vs' : Variables) × GivesAtom ss vs t a ss' vs'
atom_some written.Truth ss vs = (atom.Truth, ss, vs, (refl, refl, refl))
atom_some (written.Pred w args) ss vs =
    let n = interns_some ss (symbol_of w (length args) Predicate) in
    let inside = terms_some args n.1 vs in
    (atom.Pred n.0 inside.0, inside.1, inside.2, (n.0, n.1, inside.0, n.2, inside.3, refl))
atom_some (written.Equal l r) ss vs =
    let both = two_terms l r ss vs in
    (atom.Equal both.0 both.1, both.2, both.3, (both.0, both.1, both.4, refl))

-- a word's atom
pub word_atom_overflows : (ss sm : List Symbol) (vs : Variables) (w : List ℕ) (args : List Tree) (n : ℕ) →
    Interns ss sm (symbol_of w (length args) Predicate) n → TermsOverflow sm vs args → AtomOverflows ss vs (written.Pred w args)
word_atom_overflows ss sm vs w args n is (us, ss', vs', g, over) = (atom.Pred n us, ss', vs', (n, sm, us, is, g, refl), over)

pub word_atom_full : (ss : List Symbol) (vs : Variables) (w : List ℕ) (args : List Tree) →
    length ss ≡ 65535 → Lacks ss (symbol_of w (length args) Predicate) → AtomOverflows ss vs (written.Pred w args)
word_atom_full ss vs w args full lacks =
    let s : Symbol = symbol_of w (length args) Predicate in
    let inside = terms_some args (ss ++ s ∷ []) vs in
    word_atom_overflows ss (ss ++ s ∷ []) vs w args (length ss) (full_interns ss s full lacks)
    (inside.0, inside.1, inside.2, inside.3, omega (arith, full, length-append ss (s ∷ []), longer (ss ++ s ∷ []) inside.1 vs inside.2 args inside.0 inside.3))

-- an equation
pub equation_given : (ss sm ss' : List Symbol) (vs vm vs' : Variables) (l r : Tree) (s t : Term) →
    GivesTerms ss vs (l ∷ []) (s ∷ []) sm vm → GivesTerms sm vm (r ∷ []) (t ∷ []) ss' vs' → GivesAtom ss vs (written.Equal l r)
    (atom.Equal s t) ss' vs'
equation_given ss sm ss' vs vm vs' l r s t g h = (s, t, append ss sm ss' vs vm vs' (l ∷ []) (r ∷ []) (s ∷ []) (t ∷ []) g h, refl)

same_length : (ss ss' : List Symbol) (vs vs' : Variables) (ts : List Tree) (us : List Term) → GivesTerms ss vs ts us ss' vs'
    → length us ≡ length ts
same_length _ _ _ _ _ _ (none ss vs) = refl
same_length _ _ _ _ _ _ (variable ss ss' vs between vs' x n rest terms is g) = omega (arith, same_length ss ss' between vs' rest terms g)
same_length _ _ _ _ _ _ (applied ss inner behind ss' vs between vs' w n args rest terms_in terms is inside g) =
    omega (arith, same_length behind ss' between vs' rest terms g)

pub equation_overflows : (ss : List Symbol) (vs : Variables) (l r : Tree) → TermsOverflow ss vs (l ∷ r ∷ [])
    → AtomOverflows ss vs (written.Equal l r)
equation_overflows ss vs l r (us, ss', vs', g, over) = two us g (same_length ss ss' vs vs' (l ∷ r ∷ []) us g)
  where
    two : (us : List Term) → GivesTerms ss vs (l ∷ r ∷ []) us ss' vs' → length us ≡ 2 → AtomOverflows ss vs (written.Equal l r)
    two [] g e = absurd (omega (arith, e))
    two (s ∷ []) g e = absurd (omega (arith, e))
    two (s ∷ t ∷ []) g e = (atom.Equal s t, ss', vs', (s, t, g, refl), over)
    two (s ∷ t ∷ u ∷ us) g e = absurd (omega (arith, e))

-- ---- literals

from_here : (ss sm ss' : List Symbol) (vs vm vs' : Variables) (more : List TreeLiteral) (outs news : List Literal) → outs ≡ [] → sm ≡ ss
    → vm ≡ vs →
    GivesLiterals sm vm more news ss' vs' → GivesLiterals ss vs more (outs ++ news) ss' vs'
from_here ss sm ss' vs vm vs' more outs news e f g h =
    subst (λ (os : List Literal). GivesLiterals ss vs more (os ++ news) ss' vs') (sym e)
    (subst (λ (x : List Symbol). GivesLiterals x vs more news ss' vs') f (subst (λ (x : Variables). GivesLiterals sm x more news ss' vs') g h))

pub literals_append : (ls more : List TreeLiteral) (ss sm ss' : List Symbol) (vs vm vs' : Variables) (outs news : List Literal) →
    GivesLiterals ss vs ls outs sm vm → GivesLiterals sm vm more news ss' vs' → GivesLiterals ss vs (ls ++ more) (outs ++ news) ss' vs'
literals_append [] more ss sm ss' vs vm vs' outs news (e, f, g) h = from_here ss sm ss' vs vm vs' more outs news e f g h
literals_append (l ∷ ls) more ss sm ss' vs vm vs' outs news (a, between, names, others, ga, gl, is) h =
    (a, between, names, others ++ news, ga, literals_append ls more between sm ss' names vm vs' others news gl h, ap (λ (os : List Literal). os ++ news) is)

pub literals_longer : (ls : List TreeLiteral) (ss ss' : List Symbol) (vs vs' : Variables) (outs : List Literal)
    → GivesLiterals ss vs ls outs ss' vs' → length ss ≤ length ss'
literals_longer [] ss ss' vs vs' outs (e, f, g) = omega (arith, ap length f)
literals_longer (l ∷ ls) ss ss' vs vs' outs (a, between, names, others, ga, gl, is) =
    omega (arith, atom_longer ss between vs names l.atom a ga, literals_longer ls between ss' names vs' others gl)

abbrev size_in : TreeLiteral → ℕ
size_in l = atom_size l.atom

pub literals_few : (ls : List TreeLiteral) (ss ss' : List Symbol) (vs vs' : Variables) (outs : List Literal)
    → GivesLiterals ss vs ls outs ss' vs' →
    length vs' ≤ length vs + sum_by (λ l. atom_size l.atom) ls
literals_few [] ss ss' vs vs' outs (e, f, g) = omega (arith, ap length g)
literals_few (l ∷ ls) ss ss' vs vs' outs (a, between, names, others, ga, gl, is) =
    omega (arith, atom_few ss between vs names l.atom a ga, literals_few ls between ss' names vs' others gl, sum_by-cons size_in l ls)

pub literals_some : (ls : List TreeLiteral) (ss : List Symbol) (vs : Variables)
    → (outs : List Literal) × (ss' : List Symbol) × (vs' : Variables) × GivesLiterals ss vs ls outs ss' vs'
literals_some [] ss vs = ([], ss, vs, (refl, refl, refl))
literals_some (l ∷ ls) ss vs =
    let first = atom_some l.atom ss vs in
    let rest = literals_some ls first.1 first.2 in
    (literal l.positive first.0 ∷ rest.0, rest.1, rest.2, (first.0, first.1, first.2, rest.0, first.3, rest.3, refl))

-- ---- one literal of a list

one_given : (ss ss' : List Symbol) (vs vs' : Variables) (x : TreeLiteral) (a : Atom) → GivesAtom ss vs x.atom a ss' vs' →
    GivesLiterals ss vs (x ∷ []) (literal x.positive a ∷ []) ss' vs'
one_given ss ss' vs vs' x a g = (a, ss', vs', [], g, (refl, refl, refl), refl)

pub next_literal : (ss sm ss' : List Symbol) (vs vm vs' : Variables) (ls : List TreeLiteral) (outs : List Literal) (i : ℕ) (x : TreeLiteral) (a : Atom) → i < length ls → x ≡ get_or ls i x →
    GivesLiterals ss vs (take i ls) outs sm vm → GivesAtom sm vm x.atom a ss' vs' → GivesLiterals ss vs (take (i + 1) ls)
    (outs ++ literal x.positive a ∷ []) ss' vs'
next_literal ss sm ss' vs vm vs' ls outs i x a lt at g h =
    subst (λ xs. GivesLiterals ss vs xs (outs ++ literal x.positive a ∷ []) ss' vs') (sym (next_taken ls i x lt at))
    (literals_append (take i ls) (x ∷ []) ss sm ss' vs vm vs' outs (literal x.positive a ∷ []) g (one_given sm ss' vm vs' x a h))

pub room_for_literal : (ss ss' : List Symbol) (vs vs' : Variables) (ls : List TreeLiteral) (outs : List Literal) (i : ℕ) (x : TreeLiteral)
    → i < length ls → x ≡ get_or ls i x →
    GivesLiterals ss vs (take i ls) outs ss' vs' → length vs ≡ 0 → sum_by
    (λ l. atom_size l.atom) ls ≤ 65535 → length vs' + atom_size x.atom ≤ 65535
room_for_literal ss ss' vs vs' ls outs i x lt at g empty few =
    let same : size_in x ≡ size_in (get_or ls i x) = ap size_in at in
    omega (arith, same, few, empty, literals_few (take i ls) ss ss' vs vs' outs g, sum_by_more size_in ls i x lt, sum_by-take-le size_in ls (i + 1))

pub literal_overflows : (ss sm : List Symbol) (vs vm : Variables) (ls : List TreeLiteral) (outs : List Literal) (i : ℕ) (x : TreeLiteral)
    → i < length ls → x ≡ get_or ls i x →
    GivesLiterals ss vs (take i ls) outs sm vm → AtomOverflows sm vm x.atom → LiteralsOverflow ss vs ls
literal_overflows ss sm vs vm ls outs i x lt at g (a, ss', vs', h, over) =
    let rest = literals_some (drop (i + 1) ls) ss' vs' in (
      (outs ++ literal x.positive a ∷ []) ++ rest.0,
      rest.1,
      rest.2,
      subst (λ xs. GivesLiterals ss vs xs ((outs ++ literal x.positive a ∷ []) ++ rest.0) rest.1 rest.2) (take-append-drop (i + 1) ls)
          (literals_append (take (i + 1) ls) (drop (i + 1) ls) ss ss' rest.1 vs vs' rest.2 (outs ++ literal x.positive a ∷ []) rest.0
          (next_literal ss sm ss' vs vm vs' ls outs i x a lt at g h) rest.3),
      omega (arith, over, literals_longer (drop (i + 1) ls) ss' rest.1 vs' rest.2 rest.0 rest.3),
    )

pub all_literals : (ss ss' : List Symbol) (vs vs' : Variables) (ls : List TreeLiteral) (outs : List Literal) (i : ℕ) → length ls ≤ i →
    GivesLiterals ss vs (take i ls) outs ss' vs' → GivesLiterals ss vs ls outs ss' vs'
all_literals ss ss' vs vs' ls outs i le g = subst (λ xs. GivesLiterals ss vs xs outs ss' vs') (take_all i ls le) g

-- the first of what is left of a list
pub opened_at : {A : Type 0} (ls xs ys : List A) (x : A) (i : ℕ) → xs ≡ drop i ls → xs ≡ x ∷ ys →
    (i < length ls) × (x ≡ get_or ls i x) × (ys ≡ drop (i + 1) ls)
opened_at ls xs ys x i at is =
    let e : x ∷ ys ≡ drop i ls = sym is ∙ at in
    let lt : i < length ls = omega (arith, ap length e, length-drop i ls) in
    let both : x ∷ ys ≡ get_or ls i x ∷ drop (i + 1) ls = e ∙ drop_more ls i x lt in
    let here : x ≡ get_or ls i x = cc in
    let later : ys ≡ drop (i + 1) ls = cc in
    (lt, here, later)

-- nothing is left of a list
pub closed_at : {A : Type 0} (ls xs : List A) (i : ℕ) → xs ≡ drop i ls → xs ≡ [] → length ls ≤ i
closed_at ls xs i at is = omega (arith, ap length (sym is ∙ at), length-drop i ls)

-- the literals up to a place are given, and what is left begins there
abbrev pub AreGiven : List Symbol → List TreeLiteral → List TreeLiteral → List Literal → List Symbol → Variables → Type 0
AreGiven ss ls rest outs ss' vs' = (i : ℕ) × (rest ≡ drop i ls) × GivesLiterals ss [] (take i ls) outs ss' vs'

pub one_more_given : (ss sm ss' : List Symbol) (vm vs' : Variables) (ls rest later : List TreeLiteral) (outs news : List Literal) (x : TreeLiteral) (a : Atom)
    → AreGiven ss ls rest outs sm vm → rest ≡ x ∷ later → GivesAtom sm vm x.atom a ss' vs' → news ≡ outs ++ literal x.positive a ∷ []
    → AreGiven ss ls later news ss' vs'
one_more_given ss sm ss' vm vs' ls rest later outs news x a (i, at, g) is h e =
    let open_ = opened_at ls rest later x i at is in (
      i + 1,
      open_.2,
      subst (λ (os : List Literal). GivesLiterals ss [] (take (i + 1) ls) os ss' vs') (sym e)
          (next_literal ss sm ss' [] vm vs' ls outs i x a open_.0 open_.1 g h),
    )

pub all_given : (ss ss' : List Symbol) (vs' : Variables) (ls rest : List TreeLiteral) (outs : List Literal) → AreGiven ss ls rest outs ss' vs'
    → rest ≡ [] → GivesLiterals ss [] ls outs ss' vs'
all_given ss ss' vs' ls rest outs (i, at, g) e = all_literals ss ss' [] vs' ls outs i (closed_at ls rest i at e) g
