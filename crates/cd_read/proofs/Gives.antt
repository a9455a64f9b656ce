-- Terms given one after another, and that every tree has a term where the table has no end.
use Rattle.std.proofs.Common.{◌≡◌, ◌≢◌, ◌⊎◌, inl, inr, Bool, true, false, true≢false, nat_eq, eqb-true, eq-eqb, ℕ, zero, suc, ◌+◌, ◌<◌, ◌≤◌, List, [], ◌∷◌, ◌++◌, Some, length, slice_get, get_or, take, drop, sum_by, subst, sym, ap, refl, ◌∙◌, arith, length-append}
use Rattle.std.specs.Bool.{Decides}
use Rattle.std.proofs.lemmas.List.{take_more, take_all, take-append-drop}
use Rattle.std.proofs.lemmas.List.Sums.{sum_by-cons, sum_by_more, sum_by-take-le}
use Rattle.std.specs.Cmp.Lexicographic.{pointwise, bytes_decides}
use Rattle.cd_term.specs.declared.Term.{Term}
use Rattle.cd_term.specs.declared.Term.TheVariants as term
use Rattle.cd_symbols.specs.Symbol.{Symbol, symbol_of, Lacks, Interns}
use Rattle.cd_symbols.specs.declared.Kind.{Kind}
use Rattle.cd_symbols.specs.declared.Kind.TheVariants.{Function, Predicate}
use Rattle.cd_parse.specs.declared.tree.Tree.{Tree}
use Rattle.cd_parse.specs.declared.tree.Tree.TheVariants as tree
use Rattle.cd_read.specs.Meaning.{Variables, IsNumbered, GivesTerms, none, variable, applied}
use Rattle.cd_parse.specs.Trees.{size_of}
use Rattle.cd_read.specs.Overflow.{TermsOverflow}
use Rattle.cd_read.proofs.Trees.{Each, ind, each, few_trees}
use Rattle.cd_parse.proofs.Sizes.{size_of-Var, size_of-App}

-- ---- one after another

pub append : (ss sm ss' : List Symbol) (vs vm vs' : Variables) (ts more : List Tree) (us news : List Term) →
    GivesTerms ss vs ts us sm vm → GivesTerms sm vm more news ss' vs' → GivesTerms ss vs (ts ++ more) (us ++ news) ss' vs'
append _ _ _ _ _ _ _ more _ news (none ss vs) h = h
append _ _ ss' _ _ vs' _ more _ news (variable ss sm vs between vm x n rest terms is g) h =
    variable ss ss' vs between vs' x n (rest ++ more) (terms ++ news) is (append ss sm ss' between vm vs' rest more terms news g h)
append _ _ ss' _ _ vs' _ more _ news (applied ss inner behind sm vs between vm w n args rest terms_in terms is inside g) h =
    applied ss inner behind ss' vs between vs' w n args (rest ++ more) terms_in (terms ++ news) is inside
    (append behind sm ss' between vm vs' rest more terms news g h)

pub interns_longer : (old new : List Symbol) (s : Symbol) (n : ℕ) → Interns old new s n → length old ≤ length new
interns_longer old new s n (inl there) = omega (arith, ap length there.1)
interns_longer old new s n (inr last) = omega (arith, ap length last.2, length-append old (s ∷ []))

pub longer : (ss ss' : List Symbol) (vs vs' : Variables) (ts : List Tree) (us : List Term) → GivesTerms ss vs ts us ss' vs'
    → length ss ≤ length ss'
longer _ _ _ _ _ _ (none ss vs) = omega arith
longer _ _ _ _ _ _ (variable ss ss' vs between vs' x n rest terms is g) = longer ss ss' between vs' rest terms g
longer _ _ _ _ _ _ (applied ss inner behind ss' vs between vs' w n args rest terms_in terms is inside g) =
    omega (arith, interns_longer ss inner _ n is, longer inner behind vs between args terms_in inside, longer behind ss' between vs' rest terms g)

-- ---- every word has a number

module _ {A : Type 0} (same : (a b : A) → (a ≡ b) ⊎ (a ≢ b)) where
  pub find : (xs : List A) (a : A) → ((n : ℕ) × (slice_get xs n ≡ Some a)) ⊎ ((n : ℕ) → slice_get xs n ≢ Some a)
  find [] a = inr (λ n e. cc)
  find (x ∷ xs) a = at (same x a) (find xs a)
    where
      at : (x ≡ a) ⊎ (x ≢ a) → ((n : ℕ) × (slice_get xs n ≡ Some a)) ⊎ ((n : ℕ) → slice_get xs n ≢ Some a)
          → ((n : ℕ) × (slice_get (x ∷ xs) n ≡ Some a)) ⊎ ((n : ℕ) → slice_get (x ∷ xs) n ≢ Some a)
      at (inl e) rest = inl (0, ap Some e)
      at (inr other) (inl there) = inl (suc there.0, there.1)
      at (inr other) (inr lacks) = inr nowhere
        where
          nowhere : (n : ℕ) → slice_get (x ∷ xs) n ≢ Some a
          nowhere zero e = other (cc)
          nowhere (suc n) e = lacks n e

decided : {P : Type 0} (b : Bool) → Decides b P → P ⊎ (¬ P)
decided true d = inl (d.0 refl)
decided false d = inr (λ p. true≢false (sym (d.1 p)))

pub same_text : (a b : List ℕ) → (a ≡ b) ⊎ (a ≢ b)
same_text a b = decided (pointwise nat_eq a b) (bytes_decides a b)

same_number : (a b : ℕ) → (a ≡ b) ⊎ (a ≢ b)
same_number a b = decided (nat_eq a b) (eqb-true a b, eq-eqb a b)

same_kind : (a b : Kind) → (a ≡ b) ⊎ (a ≢ b)
same_kind Function Function = inl refl
same_kind Predicate Predicate = inl refl
same_kind Function Predicate = inr (λ e. absurd (cc))
same_kind Predicate Function = inr (λ e. absurd (cc))

same_symbol : (a b : Symbol) → (a ≡ b) ⊎ (a ≢ b)
same_symbol a b = by (same_text a.text b.text) (same_number a.arity b.arity) (same_kind a.kind b.kind)
  where
    by : (a.text ≡ b.text) ⊎ (a.text ≢ b.text) → (a.arity ≡ b.arity) ⊎ (a.arity ≢ b.arity) → (a.kind ≡ b.kind) ⊎ (a.kind ≢ b.kind)
        → (a ≡ b) ⊎ (a ≢ b)
    by (inl t) (inl n) (inl k) = inl (λ i. symbol_of (t i) (n i) (k i))
    by (inr t) n k = inr (λ e. t (ap (λ (s : Symbol). s.text) e))
    by (inl t) (inr n) k = inr (λ e. n (ap (λ (s : Symbol). s.arity) e))
    by (inl t) (inl n) (inr k) = inr (λ e. k (ap (λ (s : Symbol). s.kind) e))

pub interns_some : (ss : List Symbol) (s : Symbol) → (n : ℕ) × (ss' : List Symbol) × Interns ss ss' s n
interns_some ss s = by (find same_symbol ss s)
  where
    by : ((n : ℕ) × (slice_get ss n ≡ Some s)) ⊎ ((n : ℕ) → slice_get ss n ≢ Some s) → (n : ℕ) × (ss' : List Symbol) × Interns ss ss' s n
    by (inl there) = (there.0, ss, inl (there.1, refl))
    by (inr lacks) = (length ss, ss ++ s ∷ [], inr (lacks, refl, refl))

numbers_some : (vs : Variables) (x : List ℕ) → (n : ℕ) × (vs' : Variables) × IsNumbered vs vs' x n
numbers_some vs x = by (find same_text vs x)
  where
    by : ((n : ℕ) × (slice_get vs n ≡ Some x)) ⊎ ((n : ℕ) → slice_get vs n ≢ Some x) → (n : ℕ) × (vs' : Variables) × IsNumbered vs vs' x n
    by (inl there) = (there.0, vs, inl (there.1, refl))
    by (inr lacks) = (length vs, vs ++ x ∷ [], inr (lacks, refl, refl))

-- ---- every tree has a term

abbrev pub HasTerm : Tree → Type 0
HasTerm t = (ss : List Symbol) (vs : Variables) → (u : Term) × (ss' : List Symbol) × (vs' : Variables) × GivesTerms ss vs (t ∷ []) (u ∷ []) ss' vs'

pub have_terms : (ts : List Tree) → Each HasTerm ts → (ss : List Symbol) (vs : Variables)
    → (us : List Term) × (ss' : List Symbol) × (vs' : Variables) × GivesTerms ss vs ts us ss' vs'
have_terms [] e ss vs = ([], ss, vs, none ss vs)
have_terms (t ∷ ts) e ss vs =
    let first = e.0 ss vs in
    let rest = have_terms ts e.1 first.1 first.2 in
    (first.0 ∷ rest.0, rest.1, rest.2, append ss first.1 rest.1 vs first.2 rest.2 (t ∷ []) ts (first.0 ∷ []) rest.0 first.3 rest.3)

pub has_term : (t : Tree) → HasTerm t
has_term = ind HasTerm
    (λ x ss vs. let n = numbers_some vs x in (term.Var n.0, ss, n.1, variable ss ss vs n.1 n.1 x n.0 [] [] n.2 (none ss n.1)))
    (λ w ts e ss vs.
    let n = interns_some ss (symbol_of w (length ts) Function) in
    let inside = have_terms ts e n.1 vs in (
      term.App n.0 inside.0,
      inside.1,
      inside.2,
      applied ss n.1 inside.1 inside.1 vs inside.2 inside.2 w n.0 ts [] inside.0 [] n.2 inside.3 (none inside.1 inside.2),
    ))

pub terms_some : (ts : List Tree) (ss : List Symbol) (vs : Variables)
    → (us : List Term) × (ss' : List Symbol) × (vs' : Variables) × GivesTerms ss vs ts us ss' vs'
terms_some ts ss vs = have_terms ts (each HasTerm has_term ts) ss vs

-- ---- a table that is too long stays so

-- the first of the trees
pub overflow_front : (ss : List Symbol) (vs : Variables) (ts more : List Tree) → TermsOverflow ss vs ts → TermsOverflow ss vs (ts ++ more)
overflow_front ss vs ts more (us, sm, vm, g, over) =
    let rest = terms_some more sm vm in (
      us ++ rest.0,
      rest.1,
      rest.2,
      append ss sm rest.1 vs vm rest.2 ts more us rest.0 g rest.3,
      omega (arith, over, longer sm rest.1 vm rest.2 more rest.0 rest.3),
    )

-- trees behind others
pub overflow_behind : (ss sm : List Symbol) (vs vm : Variables) (ts more : List Tree) (us : List Term) → GivesTerms ss vs ts us sm vm
    → TermsOverflow sm vm more → TermsOverflow ss vs (ts ++ more)
overflow_behind ss sm vs vm ts more us g (news, ss', vs', h, over) =
    (us ++ news, ss', vs', append ss sm ss' vs vm vs' ts more us news g h, over)

-- a full table takes no new symbol
pub full_interns : (ss : List Symbol) (s : Symbol) → length ss ≡ 65535 → Lacks ss s → Interns ss (ss ++ s ∷ []) s (length ss)
full_interns ss s full lacks = inr (lacks, refl, refl)

-- ---- how many variables there are

numbered_few : (old new : Variables) (x : List ℕ) (n : ℕ) → IsNumbered old new x n → length new ≤ length old + 1
numbered_few old new x n (inl there) = omega (arith, ap length there.1)
numbered_few old new x n (inr last) = omega (arith, ap length last.2, length-append old (x ∷ []))

pub few_names : (ss ss' : List Symbol) (vs vs' : Variables) (ts : List Tree) (us : List Term) → GivesTerms ss vs ts us ss' vs'
    → length vs' ≤ length vs + sum_by size_of ts
few_names _ _ _ _ _ _ (none ss vs) = omega arith
few_names _ _ _ _ _ _ (variable ss ss' vs between vs' x n rest terms is g) =
    omega (arith, numbered_few vs between x n is, size_of-Var x, sum_by-cons size_of (tree.Var x) rest, few_names ss ss' between vs' rest terms g)
few_names _ _ _ _ _ _ (applied ss inner behind ss' vs between vs' w n args rest terms_in terms is inside g) =
    omega (arith, size_of-App w args, sum_by-cons size_of (tree.App w args) rest, few_names inner behind vs between args terms_in inside, few_names behind ss' between vs' rest terms g)

-- ---- one tree of a list

pub next_taken : {A : Type 0} (ts : List A) (i : ℕ) (x : A) → i < length ts → x ≡ get_or ts i x → take (i + 1) ts ≡ take i ts ++ x ∷ []
next_taken ts i x lt at = take_more ts i x lt ∙ ap (λ y. take i ts ++ y ∷ []) (sym at)

pub room_for : (ss ss' : List Symbol) (vs vs' : Variables) (ts : List Tree) (us : List Term) (i : ℕ) (x : Tree) → i < length ts
    → x ≡ get_or ts i x →
    GivesTerms ss vs (take i ts) us ss' vs' → length vs + sum_by size_of ts ≤ 65535 → length vs' + size_of x ≤ 65535
room_for ss ss' vs vs' ts us i x lt at g few =
    let same : size_of x ≡ size_of (get_or ts i x) = ap size_of at in
    omega (arith, same, few, few_names ss ss' vs vs' (take i ts) us g, sum_by_more size_of ts i x lt, sum_by-take-le size_of ts (i + 1))

pub next_given : (ss sm ss' : List Symbol) (vs vm vs' : Variables) (ts : List Tree) (us : List Term) (i : ℕ) (x : Tree) (u : Term)
    → i < length ts → x ≡ get_or ts i x →
    GivesTerms ss vs (take i ts) us sm vm → GivesTerms sm vm (x ∷ []) (u ∷ []) ss' vs' → GivesTerms ss vs (take (i + 1) ts)
    (us ++ u ∷ []) ss' vs'
next_given ss sm ss' vs vm vs' ts us i x u lt at g h =
    subst (λ xs. GivesTerms ss vs xs (us ++ u ∷ []) ss' vs') (sym (next_taken ts i x lt at))
    (append ss sm ss' vs vm vs' (take i ts) (x ∷ []) us (u ∷ []) g h)

pub next_overflows : (ss sm : List Symbol) (vs vm : Variables) (ts : List Tree) (us : List Term) (i : ℕ) (x : Tree) → i < length ts
    → x ≡ get_or ts i x →
    GivesTerms ss vs (take i ts) us sm vm → TermsOverflow sm vm (x ∷ []) → TermsOverflow ss vs ts
next_overflows ss sm vs vm ts us i x lt at g over =
    subst (TermsOverflow ss vs) (ap (λ xs. xs ++ drop (i + 1) ts) (sym (next_taken ts i x lt at)) ∙ take-append-drop (i + 1) ts)
    (overflow_front ss vs (take i ts ++ x ∷ []) (drop (i + 1) ts) (overflow_behind ss sm vs vm (take i ts) (x ∷ []) us g over))

pub all_given : (ss ss' : List Symbol) (vs vs' : Variables) (ts : List Tree) (us : List Term) (i : ℕ) → length ts ≤ i →
    GivesTerms ss vs (take i ts) us ss' vs' → GivesTerms ss vs ts us ss' vs'
all_given ss ss' vs vs' ts us i le g = subst (λ xs. GivesTerms ss vs xs us ss' vs') (take_all i ts le) g

-- ---- a word with arguments

pub word_given : (ss sm ss' : List Symbol) (vs vs' : Variables) (t : Tree) (w : List ℕ) (args : List Tree) (us : List Term) (n : ℕ)
    → t ≡ tree.App w args →
    Interns ss sm (symbol_of w (length args) Function) n → GivesTerms sm vs args us ss' vs' → GivesTerms ss vs (t ∷ [])
    (term.App n us ∷ []) ss' vs'
word_given ss sm ss' vs vs' t w args us n is interns inside =
    subst (λ (x : Tree). GivesTerms ss vs (x ∷ []) (term.App n us ∷ []) ss' vs') (sym is)
    (applied ss sm ss' ss' vs vs' vs' w n args [] us [] interns inside (none ss' vs'))

pub word_overflows : (ss sm : List Symbol) (vs : Variables) (t : Tree) (w : List ℕ) (args : List Tree) (n : ℕ) → t ≡ tree.App w args →
    Interns ss sm (symbol_of w (length args) Function) n → TermsOverflow sm vs args → TermsOverflow ss vs (t ∷ [])
word_overflows ss sm vs t w args n is interns (us, ss', vs', inside, over) =
    (term.App n us ∷ [], ss', vs', word_given ss sm ss' vs vs' t w args us n is interns inside, over)

pub word_full : (ss : List Symbol) (vs : Variables) (t : Tree) (w : List ℕ) (args : List Tree) → t ≡ tree.App w args →
    length ss ≡ 65535 → Lacks ss (symbol_of w (length args) Function) → TermsOverflow ss vs (t ∷ [])
word_full ss vs t w args is full lacks =
    let s : Symbol = symbol_of w (length args) Function in
    let inside = terms_some args (ss ++ s ∷ []) vs in
    word_overflows ss (ss ++ s ∷ []) vs t w args (length ss) is (full_interns ss s full lacks)
    (inside.0, inside.1, inside.2, inside.3, omega (arith, full, length-append ss (s ∷ []), longer (ss ++ s ∷ []) inside.1 vs inside.2 args inside.0 inside.3))

pub variable_given : (ss : List Symbol) (vs vs' : Variables) (t : Tree) (x : List ℕ) (n : ℕ) → t ≡ tree.Var x → IsNumbered vs vs' x n
    → GivesTerms ss vs (t ∷ []) (term.Var n ∷ []) ss vs'
variable_given ss vs vs' t x n is number =
    subst (λ (y : Tree). GivesTerms ss vs (y ∷ []) (term.Var n ∷ []) ss vs') (sym is)
    (variable ss ss vs vs' vs' x n [] [] number (none ss vs'))

-- few arguments
pub few_arguments : (t : Tree) (w : List ℕ) (args : List Tree) → t ≡ tree.App w args
    → (size_of t ≡ 1 + sum_by size_of args) × (length args < size_of t)
few_arguments t w args is =
    let size : size_of t ≡ 1 + sum_by size_of args = ap size_of is ∙ size_of-App w args in
    (size, omega (arith, size, few_trees args))
