-- What a clause's literals give is formed, and has their bounds.
use Rattle.std.proofs.Common.{◌≡◌, inl, inr, ◌∙◌, ◌+◌, ◌<◌, ◌≤◌, ◌++◌, ◌∷◌, [], ℕ, zero, suc, List, Some, length, slice_get, map, sum_by, length-append, refl, sym, ap, subst, arith}
use Rattle.std.specs.List.{AllByRecursion}
use Rattle.std.proofs.lemmas.List.Sums.{sum_by-cons}
use Rattle.cd_term.specs.declared.Term.{Term}
use Rattle.cd_term.specs.declared.Term.TheVariants as term
use Rattle.cd_term.specs.Terms.{greatest, size_of as term_size, depth_of as term_depth}
use Rattle.cd_term.proofs.Equations.{size_of-Var as term_size-Var, size_of-App as term_size-App, depth_of-Var as term_depth-Var, depth_of-App as term_depth-App}
use Rattle.cd_clause.specs.declared.Atom.{Atom}
use Rattle.cd_clause.specs.declared.Atom.TheVariants as atom
use Rattle.cd_clause.specs.declared.Literal.{Literal}
use Rattle.cd_clause.specs.declared.Clause.{Clause}
use Rattle.cd_clause.specs.Clauses.{terms_of, literal_size, literal_depth, atom_depth, IsWithinBounds}
use Rattle.cd_symbols.specs.Symbol.{Symbol, symbol_of, Interns}
use Rattle.cd_symbols.specs.declared.Kind.TheVariants.{Function, Predicate}
use Rattle.cd_parse.specs.declared.tree.Tree.{Tree}
use Rattle.cd_parse.specs.declared.tree.Tree.TheVariants as tree
use Rattle.cd_parse.specs.declared.tree.TreeAtom.{TreeAtom}
use Rattle.cd_parse.specs.declared.tree.TreeAtom.TheVariants as written
use Rattle.cd_parse.specs.declared.tree.TreeLiteral.{TreeLiteral}
use Rattle.cd_read.specs.Meaning as gives
use Rattle.cd_read.specs.Meaning.{Variables, IsNumbered, GivesTerms, GivesAtom, GivesLiterals, GivesClause, AreWithin, depth_of, atom_depth as tree_depth}
use Rattle.cd_parse.specs.Trees.{size_of, atom_size}
use Rattle.cd_read.proofs.Trees.{depth_of-Var, depth_of-App}
use Rattle.cd_parse.proofs.Sizes.{size_of-Var, size_of-App}
use Rattle.cd_read.proofs.Gives.{few_names}
use Rattle.cd_read.specs.Formed.{IsPrintable, is_function, is_predicate, formed_step, is_term_formed, AreTermsFormed, IsAtomFormed, IsClauseFormed}
use Rattle.std.specs.List.{list_all}
use Rattle.std.proofs.Common.{◌==◌, Bool, true}
use Rattle.std.proofs.lemmas.Bool.{and_parts, and_from, lt-ltb}
use Rattle.std.proofs.lemmas.List.{length-map}
use Rattle.cd_list.proofs.Lists.{get_left, get_at}
use Rattle.cd_list.proofs.Numbers.{equal_itself}
use Rattle.cd_term.proofs.Equations.{fold-Var, fold-App}
use Rattle.cd_list.proofs.Lists.{all_append, all_weaker}
use Rattle.cd_read.proofs.Words.{AreWorded, worded_word, worded_variable, IsAtomWorded, AreLiteralsWorded}

-- ---- terms of a table

-- terms in which each symbol is a function of the table with as many arguments, and each variable is below 65,536
pub data AreOver (symbols : List Symbol) : List Term → Type 0 where
  none : AreOver symbols []
  variable : (n : ℕ) (ts : List Term) → n < 65536 → AreOver symbols ts → AreOver symbols (term.Var n ∷ ts)
  applied : (n : ℕ) (args ts : List Term) (w : List ℕ) → slice_get symbols n ≡ Some (symbol_of w (length args) Function)
      → AreOver symbols args → AreOver symbols ts → AreOver symbols (term.App n args ∷ ts)

abbrev pub IsAtomOver : List Symbol → Atom → Type 0
IsAtomOver symbols atom.Truth = Unit {0}
IsAtomOver symbols (atom.Pred n args) =
    ((w : List ℕ) × (slice_get symbols n ≡ Some (symbol_of w (length args) Predicate))) × AreOver symbols args
IsAtomOver symbols (atom.Equal s t) = AreOver symbols (s ∷ t ∷ [])

abbrev pub IsClauseOver : List Symbol → Clause → Type 0
IsClauseOver symbols c = AllByRecursion (λ l. IsAtomOver symbols l.atom) c.literals

symbol_there : (symbols : List Symbol) (n m : ℕ) (w : List ℕ) (args : List Term)
    → slice_get symbols n ≡ Some (symbol_of w (length args) Function) → m ≡ length args
    → is_function m (slice_get symbols n) ≡ true
symbol_there symbols n m w args e same =
    ap (is_function m) e ∙ ap (λ (k : ℕ). length args == k) same ∙ equal_itself (length args)

over_test : (symbols : List Symbol) (ts : List Term) → AreOver symbols ts → list_all (λ b. b) (map (is_term_formed symbols) ts) ≡ true
over_test symbols _ none = refl
over_test symbols _ (variable n ts lt more) =
    and_from _ (list_all (λ b. b) (map (is_term_formed symbols) ts)) (fold-Var Bool (formed_step symbols) n ∙ lt-ltb n 65536 lt)
    (over_test symbols ts more)
over_test symbols _ (applied n args ts w there inside more) =
    and_from _ (list_all (λ b. b) (map (is_term_formed symbols) ts))
    (fold-App Bool (formed_step symbols) n args ∙ and_from _ _ (symbol_there symbols n _ w args there (length-map args (is_term_formed symbols))) (over_test symbols args inside))
    (over_test symbols ts more)

tested : (symbols : List Symbol) (ts : List Term) → list_all (λ b. b) (map (is_term_formed symbols) ts) ≡ true → AreTermsFormed symbols ts
tested symbols [] e = tt
tested symbols (t ∷ ts) e =
    let h = and_parts (is_term_formed symbols t) (list_all (λ b. b) (map (is_term_formed symbols) ts)) e in (h.0, tested symbols ts h.1)

terms_tested : (symbols : List Symbol) (ts : List Term) → AreOver symbols ts → AreTermsFormed symbols ts
terms_tested symbols ts over = tested symbols ts (over_test symbols ts over)

atom_tested : (symbols : List Symbol) (a : Atom) → IsAtomOver symbols a → IsAtomFormed symbols a
atom_tested symbols atom.Truth over = tt
atom_tested symbols (atom.Pred n args) ((w, there), over) =
    (ap (is_predicate (length args)) there ∙ equal_itself (length args), terms_tested symbols args over)
atom_tested symbols (atom.Equal s t) over = terms_tested symbols (s ∷ t ∷ []) over

pub clause_tested : (symbols : List Symbol) (c : Clause) → IsClauseOver symbols c → IsClauseFormed symbols c
clause_tested symbols c over =
    all_weaker (λ (l : Literal). IsAtomOver symbols l.atom) (λ (l : Literal). IsAtomFormed symbols l.atom) c.literals
    (λ l h. atom_tested symbols l.atom h) over

-- ---- a table that grows

abbrev pub Grows : List Symbol → List Symbol → Type 0
Grows ss ss' = (n : ℕ) (s : Symbol) → slice_get ss n ≡ Some s → slice_get ss' n ≡ Some s

abbrev pub HasTexts : List Symbol → Type 0
HasTexts ss = AllByRecursion (λ s. IsPrintable s.text) ss

get_short : {A : Type 0} (xs : List A) (n : ℕ) (x : A) → slice_get xs n ≡ Some x → n < length xs
get_short [] n x e = absurd (cc)
get_short (y ∷ xs) zero x e = omega arith
get_short (y ∷ xs) (suc n) x e = omega (arith, get_short xs n x e)

interns_grows : (old new : List Symbol) (s : Symbol) (n : ℕ) → Interns old new s n → Grows old new
interns_grows old new s n (inl there) m x e = subst (λ (t : List Symbol). slice_get t m ≡ Some x) (sym there.1) e
interns_grows old new s n (inr last) m x e = subst (λ (t : List Symbol). slice_get t m ≡ Some x) (sym last.2) (get_left old (s ∷ []) m x e)

interns_there : (old new : List Symbol) (s : Symbol) (n : ℕ) → Interns old new s n → slice_get new n ≡ Some s
interns_there old new s n (inl there) = subst (λ (t : List Symbol). slice_get t n ≡ Some s) (sym there.1) there.0
interns_there old new s n (inr last) =
    subst (λ (t : List Symbol). slice_get t n ≡ Some s) (sym last.2)
    (subst (λ (m : ℕ). slice_get (old ++ s ∷ []) m ≡ Some s) (sym last.1) (get_at old [] s))

interns_texts : (old new : List Symbol) (s : Symbol) (n : ℕ) → Interns old new s n → HasTexts old → IsPrintable s.text → HasTexts new
interns_texts old new s n (inl there) texts text = subst HasTexts (sym there.1) texts
interns_texts old new s n (inr last) texts text =
    subst HasTexts (sym last.2) (all_append (λ x. IsPrintable x.text) old (s ∷ []) texts (text, tt))

-- ---- variables

names_longer : (old new : Variables) (x : List ℕ) (n : ℕ) → IsNumbered old new x n → (length old ≤ length new) × (n < length new)
names_longer old new x n (inl there) = (omega (arith, ap length there.1), omega (arith, ap length there.1, get_short old n x there.0))
names_longer old new x n (inr last) =
    (omega (arith, ap length last.2, length-append old (x ∷ [])), omega (arith, last.1, ap length last.2, length-append old (x ∷ [])))

terms_longer : (ss ss' : List Symbol) (vs vs' : Variables) (ts : List Tree) (us : List Term) → GivesTerms ss vs ts us ss' vs'
    → length vs ≤ length vs'
terms_longer _ _ _ _ _ _ (gives.none ss vs) = omega arith
terms_longer _ _ _ _ _ _ (gives.variable ss ss' vs between vs' x n ts us is g) =
    omega (arith, (names_longer vs between x n is).0, terms_longer ss ss' between vs' ts us g)
terms_longer _ _ _ _ _ _ (gives.applied ss inner behind ss' vs between vs' w n args ts news us is inside g) =
    omega (arith, terms_longer inner behind vs between args news inside, terms_longer behind ss' between vs' ts us g)

-- ---- terms

pub formed_grows : (ss ss' : List Symbol) (us : List Term) → Grows ss ss' → AreOver ss us → AreOver ss' us
formed_grows ss ss' _ grows none = none
formed_grows ss ss' _ grows (variable n ts lt f) = variable n ts lt (formed_grows ss ss' ts grows f)
formed_grows ss ss' _ grows (applied n args ts w at inside f) =
    applied n args ts w (grows n (symbol_of w (length args) Function) at) (formed_grows ss ss' args grows inside)
    (formed_grows ss ss' ts grows f)

pub record Gave (ss ss' : List Symbol) (ts : List Tree) (us : List Term) : Type 0 where
  pub grows : Grows ss ss'
  pub texts : HasTexts ss'
  pub formed : AreOver ss' us
  pub many : length us ≡ length ts
  pub sizes : sum_by term_size us ≡ sum_by size_of ts
  pub depths : greatest (map term_depth us) ≡ greatest (map depth_of ts)

pub terms_formed : (ss ss' : List Symbol) (vs vs' : Variables) (ts : List Tree) (us : List Term) → GivesTerms ss vs ts us ss' vs'
    → length vs' ≤ 65535 → HasTexts ss → AreWorded ts → Gave ss ss' ts us
terms_formed _ _ _ _ _ _ (gives.none ss vs) few texts words =
    record { grows = λ n s e. e; texts = texts; formed = none; many = refl; sizes = refl; depths = refl }
terms_formed _ _ _ _ _ _ (gives.variable ss ss' vs between vs' x n ts us is g) few texts words =
    let r = terms_formed ss ss' between vs' ts us g few texts (worded_variable _ x ts words refl) in
    record {
      grows = r.grows;
      texts = r.texts;
      formed = variable n us (omega (arith, few, (names_longer vs between x n is).1, terms_longer ss ss' between vs' ts us g)) r.formed;
      many = omega (arith, r.many);
      sizes = omega (arith, r.sizes, sum_by-cons term_size (term.Var n) us, sum_by-cons size_of (tree.Var x) ts, term_size-Var n, size_of-Var x);
      depths = omega (arith, r.depths, term_depth-Var n, depth_of-Var x);
    }
terms_formed _ _ _ _ _ _ (gives.applied ss inner behind ss' vs between vs' w n args ts news us is inside g) few texts words =
    let said = worded_word _ w args ts words refl in
    let later = terms_longer behind ss' between vs' ts us g in
    let q = terms_formed inner behind vs between args news inside (omega (arith, few, later)) (interns_texts ss inner _ n is texts said.0) said.1 in
    let r = terms_formed behind ss' between vs' ts us g few q.texts said.2 in
    let there : slice_get inner n ≡ Some (symbol_of w (length args) Function) = interns_there ss inner (symbol_of w (length args) Function) n is in
    let at : slice_get ss' n ≡ Some (symbol_of w (length news) Function) =
    r.grows n _ (q.grows n _ (there ∙ ap (λ (m : ℕ). Some (symbol_of w m Function)) (sym q.many))) in
    record {
      grows = λ m s e. r.grows m s (q.grows m s (interns_grows ss inner _ n is m s e));
      texts = r.texts;
      formed = applied n news us w at (formed_grows behind ss' news r.grows q.formed) r.formed;
      many = omega (arith, r.many);
      sizes = omega (arith, q.sizes, r.sizes, sum_by-cons term_size (term.App n news) us, sum_by-cons size_of (tree.App w args) ts, term_size-App n news, size_of-App w args);
      depths = omega (arith, q.depths, r.depths, term_depth-App n news, depth_of-App w args);
    }

-- ---- atoms

pub record GaveAtom (ss ss' : List Symbol) (t : TreeAtom) (a : Atom) : Type 0 where
  pub grows : Grows ss ss'
  pub texts : HasTexts ss'
  pub formed : IsAtomOver ss' a
  pub sizes : 1 + sum_by term_size (terms_of a) ≡ atom_size t
  pub depths : atom_depth a ≡ tree_depth t

few_in_atom : (t : TreeAtom) (ss ss' : List Symbol) (vs vs' : Variables) (a : Atom) → GivesAtom ss vs t a ss' vs'
    → length vs' ≤ length vs + atom_size t
few_in_atom written.Truth ss ss' vs vs' a (e, f, g) = omega (arith, ap length g)
few_in_atom (written.Pred w args) ss ss' vs vs' a (n, between, news, is, g, e) = omega (arith, few_names between ss' vs vs' args news g)
few_in_atom (written.Equal l r) ss ss' vs vs' a (s, t, g, e) =
    omega (arith, few_names ss ss' vs vs' (l ∷ r ∷ []) (s ∷ t ∷ []) g, sum_by-cons size_of l (r ∷ []), sum_by-cons size_of r [])

atom_formed : (t : TreeAtom) (ss ss' : List Symbol) (vs vs' : Variables) (a : Atom) → GivesAtom ss vs t a ss' vs' → length vs' ≤ 65535
    → HasTexts ss → IsAtomWorded t → GaveAtom ss ss' t a
atom_formed written.Truth ss ss' vs vs' a (e, f, g) few texts words = record {
  grows = λ n s h. subst (λ (x : List Symbol). slice_get x n ≡ Some s) (sym f) h;
  texts = subst HasTexts (sym f) texts;
  formed = subst (IsAtomOver ss') (sym e) tt;
  sizes = ap (λ (x : Atom). 1 + sum_by term_size (terms_of x)) e;
  depths = ap atom_depth e;
}
atom_formed (written.Pred w args) ss ss' vs vs' a (n, between, news, is, g, e) few texts words =
    let q = terms_formed between ss' vs vs' args news g few (interns_texts ss between _ n is texts words.0) words.1 in
    let there : slice_get between n ≡ Some (symbol_of w (length args) Predicate) = interns_there ss between (symbol_of w (length args) Predicate) n is in
    record {
      grows = λ m s h. q.grows m s (interns_grows ss between _ n is m s h);
      texts = q.texts;
      formed = subst (IsAtomOver ss') (sym e) ((w, q.grows n _ (there ∙ ap (λ (m : ℕ). Some (symbol_of w m Predicate)) (sym q.many))), q.formed);
      sizes = ap (λ (x : Atom). 1 + sum_by term_size (terms_of x)) e ∙ ap (λ (m : ℕ). 1 + m) q.sizes;
      depths = ap atom_depth e ∙ ap (λ (m : ℕ). 1 + m) q.depths;
    }
atom_formed (written.Equal l r) ss ss' vs vs' a (s, t, g, e) few texts words =
    let q = terms_formed ss ss' vs vs' (l ∷ r ∷ []) (s ∷ t ∷ []) g few texts words in
    record {
      grows = q.grows;
      texts = q.texts;
      formed = subst (IsAtomOver ss') (sym e) q.formed;
      sizes = ap (λ (x : Atom). 1 + sum_by term_size (terms_of x)) e ∙ ap (λ (m : ℕ). 1 + m) q.sizes ∙ omega (arith, sum_by-cons size_of l (r ∷ []), sum_by-cons size_of r []);
      depths = ap atom_depth e ∙ omega (arith, q.depths);
    }

atom_grows : (ss ss' : List Symbol) (a : Atom) → Grows ss ss' → IsAtomOver ss a → IsAtomOver ss' a
atom_grows ss ss' atom.Truth grows f = tt
atom_grows ss ss' (atom.Pred n args) grows ((w, at), f) = ((w, grows n _ at), formed_grows ss ss' args grows f)
atom_grows ss ss' (atom.Equal s t) grows f = formed_grows ss ss' (s ∷ t ∷ []) grows f

pub clause_grows : (ss ss' : List Symbol) (c : Clause) → Grows ss ss' → IsClauseOver ss c → IsClauseOver ss' c
clause_grows ss ss' c grows f =
    all_weaker (λ (l : Literal). IsAtomOver ss l.atom) (λ (l : Literal). IsAtomOver ss' l.atom) c.literals
    (λ l g. atom_grows ss ss' l.atom grows g) f

-- ---- clauses

record GaveLiterals (ss ss' : List Symbol) (ls : List TreeLiteral) (out : List Literal) : Type 0 where
  grows : Grows ss ss'
  texts : HasTexts ss'
  formed : AllByRecursion (λ l. IsAtomOver ss' l.atom) out
  sizes : sum_by literal_size out ≡ sum_by (λ l. atom_size l.atom) ls
  depths : greatest (map literal_depth out) ≡ greatest (map (λ l. tree_depth l.atom) ls)

literals_formed : (ls : List TreeLiteral) (ss ss' : List Symbol) (vs vs' : Variables) (out : List Literal)
    → GivesLiterals ss vs ls out ss' vs' →
    length vs + sum_by (λ l. atom_size l.atom) ls ≤ 65535 → HasTexts ss → AreLiteralsWorded ls → GaveLiterals ss ss' ls out
literals_formed [] ss ss' vs vs' out (e, f, g) few texts words = record {
  grows = λ n s h. subst (λ (x : List Symbol). slice_get x n ≡ Some s) (sym f) h;
  texts = subst HasTexts (sym f) texts;
  formed = subst (λ (x : List Literal). AllByRecursion (λ l. IsAtomOver ss' l.atom) x) (sym e) tt;
  sizes = ap (λ (x : List Literal). sum_by literal_size x) e;
  depths = ap (λ (x : List Literal). greatest (map literal_depth x)) e;
}
literals_formed (l ∷ ls) ss ss' vs vs' out (a, between, names, others, ga, gl, e) few texts words =
    let sums : sum_by (λ m. atom_size m.atom) (l ∷ ls) ≡ atom_size l.atom + sum_by (λ m. atom_size m.atom) ls = sum_by-cons (λ m. atom_size m.atom) l ls in
    let more = few_in_atom l.atom ss between vs names a ga in
    let q = atom_formed l.atom ss between vs names a ga (omega (arith, few, sums, more)) texts words.0 in
    let r = literals_formed ls between ss' names vs' others gl (omega (arith, few, sums, more)) q.texts words.1 in
    record {
      grows = λ n s h. r.grows n s (q.grows n s h);
      texts = r.texts;
      formed = subst (λ (x : List Literal). AllByRecursion (λ m. IsAtomOver ss' m.atom) x) (sym e) (atom_grows between ss' a r.grows q.formed, r.formed);
      sizes = ap (λ (x : List Literal). sum_by literal_size x) e
          ∙ sum_by-cons literal_size (record { positive = l.positive; atom = a }) others ∙ omega (arith, sums, q.sizes, r.sizes);
      depths = ap (λ (x : List Literal). greatest (map literal_depth x)) e ∙ omega (arith, q.depths, r.depths);
    }

pub record GaveClause (ss ss' : List Symbol) (c : Clause) : Type 0 where
  pub grows : Grows ss ss'
  pub texts : HasTexts ss'
  pub formed : IsClauseOver ss' c
  pub within : IsWithinBounds c

pub clause_formed : (ss ss' : List Symbol) (ls : List TreeLiteral) (c : Clause) → GivesClause ss ls c ss' → AreWithin ls → HasTexts ss
    → AreLiteralsWorded ls → GaveClause ss ss' c
clause_formed ss ss' ls c (names, g) within texts words =
    let r = literals_formed ls ss ss' [] names c.literals g (omega (arith, within.0)) texts words in
    record { grows = r.grows; texts = r.texts; formed = r.formed; within = (omega (arith, within.0, r.sizes), omega (arith, within.1, r.depths)) }
