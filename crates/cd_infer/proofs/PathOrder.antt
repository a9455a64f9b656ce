-- The paths of a term lead to its symbols, and ascend.
use Rattle.std.proofs.Common.{◌≡◌, ◌⊎◌, inl, inr, ℕ, zero, suc, ◌+◌, ◌<◌, List, [], ◌∷◌, ◌++◌, map, Option, Some, None, slice_get, option_map, option_and_then, ap, ◌∙◌, sym, subst, refl, arith}
use Rattle.std.specs.List.{AllByRecursion}
use Rattle.std.specs.Cmp.{nat_cmp_is}
use Rattle.std.specs.Cmp.Lexicographic.{slice_cmp}
use Rattle.std.specs.Ordering.{nat_cmp, ordering_then}
use Rattle.std.specs.declared.cmp.Ordering.{Ordering}
use Rattle.std.specs.declared.cmp.Ordering.TheVariants.{Less, Equal}
use Rattle.std.proofs.lemmas.Option.{slice_get-map, same_Some}
use Rattle.cd_list.proofs.Lists.{all_append}
use Rattle.cd_term.specs.declared.Term.{Term}
use Rattle.cd_term.specs.declared.Term.TheVariants.{Var, App}
use Rattle.cd_term.specs.Terms.{subterm}
use Rattle.cd_term.proofs.TermInduction.{ind, Each}
use Rattle.cd_term.proofs.Paths.{argument-Var, argument-App}
use Rattle.cd_term.proofs.MarkLemmas.{Var-App-apart}
use Rattle.cd_clause.specs.declared.Atom.{Atom}
use Rattle.cd_list.specs.Lists.{Among}
use Rattle.cd_clause.specs.Clauses.{terms_of}
use Rattle.cd_infer.specs.Paths.{below, term_paths, atom_paths}
use Rattle.cd_infer.specs.Laws.{LeadsToSymbol, LeadsToSymbolIn, IsAscending, PathsAreSymbols, AtomPathsAreSymbols}
use Rattle.cd_infer.proofs.PathLemmas.{term_paths-Var, term_paths-App}

-- ---- which paths

among_append : {A : Type 0} (P : A → Type 0) (xs ys : List A) → Among P (xs ++ ys) → Among P xs ⊎ Among P ys
among_append P [] ys some = inr some
among_append P (x ∷ xs) ys some = elim some [
  | inl here ↦ inl (inl here)
  | inr there ↦ elim (among_append P xs ys there) [ inl a ↦ inl (inr a) | inr b ↦ inr b ]
]

to_left : {A : Type 0} (P : A → Type 0) (xs ys : List A) → Among P xs → Among P (xs ++ ys)
to_left P [] ys some = absurd some
to_left P (x ∷ xs) ys some = elim some [ inl here ↦ inl here | inr there ↦ inr (to_left P xs ys there) ]

to_right : {A : Type 0} (P : A → Type 0) (xs ys : List A) → Among P ys → Among P (xs ++ ys)
to_right P [] ys some = some
to_right P (x ∷ xs) ys some = inr (to_right P xs ys some)

same_path : (k j : ℕ) (p q : List ℕ) → k ∷ p ≡ j ∷ q → (k ≡ j) × (p ≡ q)
same_path k j p q e = (cc, cc)

behind_same : (k : ℕ) (path : List ℕ) (ps : List (List ℕ)) → Among (λ p. p ≡ path) ps → Among (λ p. p ≡ k ∷ path) (map (λ p. k ∷ p) ps)
behind_same k path [] some = absurd some
behind_same k path (p ∷ ps) some = elim some [ inl here ↦ inl (ap (λ (q : List ℕ). k ∷ q) here) | inr there ↦ inr (behind_same k path ps there) ]

behind_from : (k j : ℕ) (path : List ℕ) (ps : List (List ℕ)) → Among (λ p. p ≡ j ∷ path) (map (λ p. k ∷ p) ps) → (k ≡ j) × Among (λ p. p ≡ path) ps
behind_from k j path [] some = absurd some
behind_from k j path (p ∷ ps) some = elim some [
  | inl here ↦ let both = same_path k j p path here in (both.0, inl both.1)
  | inr there ↦ let rest = behind_from k j path ps there in (rest.0, inr rest.1)
]

-- a path below several terms begins with the place of one, and goes on below it
pub record GoesBelow (n : ℕ) (pss : List (List (List ℕ))) (k : ℕ) (path : List ℕ) : Type 0 where
  pub place : ℕ
  pub paths : List (List ℕ)
  pub is : k ≡ n + place
  pub there : slice_get pss place ≡ Some paths
  pub has : Among (λ p. p ≡ path) paths

goes_below : (n : ℕ) (pss : List (List (List ℕ))) (k : ℕ) (path : List ℕ) → Among (λ p. p ≡ k ∷ path) (below n pss) → GoesBelow n pss k path
goes_below n [] k path some = absurd some
goes_below n (ps ∷ pss) k path some = elim (among_append (λ p. p ≡ k ∷ path) (map (λ p. n ∷ p) ps) (below (suc n) pss) some) [
  | inl here ↦ let h = behind_from n k path ps here in record { place = 0; paths = ps; is = omega arith; there = refl; has = h.1 }
  | inr there ↦ let g = goes_below (suc n) pss k path there in record { place = suc g.place; paths = g.paths; is = omega arith; there = g.there; has = g.has }
]

stands_below : (n : ℕ) (pss : List (List (List ℕ))) (j : ℕ) (ps : List (List ℕ)) (path : List ℕ) → slice_get pss j ≡ Some ps → Among (λ p. p ≡ path) ps → Among (λ p. p ≡ (n + j) ∷ path) (below n pss)
stands_below n [] j ps path there some = absurd cc
stands_below n (qs ∷ pss) zero ps path there some =
    let same : qs ≡ ps = cc in
    subst (λ (k : ℕ). Among (λ p. p ≡ k ∷ path) (below n (qs ∷ pss))) (omega arith)
    (to_left (λ p. p ≡ n ∷ path) (map (λ p. n ∷ p) qs) (below (suc n) pss) (behind_same n path qs (subst (Among (λ p. p ≡ path)) (sym same) some)))
stands_below n (qs ∷ pss) (suc j) ps path there some =
    subst (λ (k : ℕ). Among (λ p. p ≡ k ∷ path) (below n (qs ∷ pss))) (omega arith)
    (to_right (λ p. p ≡ (suc n + j) ∷ path) (map (λ p. n ∷ p) qs) (below (suc n) pss) (stands_below (suc n) pss j ps path there some))

none_below : (n : ℕ) (pss : List (List (List ℕ))) → Among (λ p. p ≡ []) (below n pss) → ⊥
none_below n [] some = some
none_below n (ps ∷ pss) some = elim (among_append (λ p. p ≡ []) (map (λ p. n ∷ p) ps) (below (suc n) pss) some) [
  | inl here ↦ never ps here
  | inr there ↦ none_below (suc n) pss there
]
  where
    never : (ps : List (List ℕ)) → Among (λ p. p ≡ []) (map (λ p. n ∷ p) ps) → ⊥
    never [] some = some
    never (p ∷ ps) some = elim some [ inl here ↦ absurd cc | inr there ↦ never ps there ]

-- ---- in ascending order

same_head : (k : ℕ) (p q : List ℕ) → slice_cmp nat_cmp (k ∷ p) (k ∷ q) ≡ slice_cmp nat_cmp p q
same_head k p q = ap (λ (c : Ordering). ordering_then c (slice_cmp nat_cmp p q)) (sym (nat_cmp_is k k Equal refl))

less_head : (k j : ℕ) (p q : List ℕ) → k < j → slice_cmp nat_cmp (k ∷ p) (j ∷ q) ≡ Less
less_head k j p q lt = ap (λ (c : Ordering). ordering_then c (slice_cmp nat_cmp p q)) (sym (nat_cmp_is k j Less lt))

all_same_head : (k : ℕ) (p : List ℕ) (ps : List (List ℕ)) → AllByRecursion (λ q. slice_cmp nat_cmp p q ≡ Less) ps → AllByRecursion (λ q. slice_cmp nat_cmp (k ∷ p) q ≡ Less) (map (λ q. k ∷ q) ps)
all_same_head k p [] all = tt
all_same_head k p (q ∷ ps) all = (same_head k p q ∙ all.0, all_same_head k p ps all.1)

ascending_behind : (k : ℕ) (ps : List (List ℕ)) → IsAscending ps → IsAscending (map (λ p. k ∷ p) ps)
ascending_behind k [] asc = tt
ascending_behind k (p ∷ ps) asc = (all_same_head k p ps asc.0, ascending_behind k ps asc.1)

all_less_head : (k n : ℕ) (p : List ℕ) (ps : List (List ℕ)) → k < n → AllByRecursion (λ q. slice_cmp nat_cmp (k ∷ p) q ≡ Less) (map (λ q. n ∷ q) ps)
all_less_head k n p [] lt = tt
all_less_head k n p (q ∷ ps) lt = (less_head k n p q lt, all_less_head k n p ps lt)

below_later : (k n : ℕ) (p : List ℕ) (pss : List (List (List ℕ))) → k < n → AllByRecursion (λ q. slice_cmp nat_cmp (k ∷ p) q ≡ Less) (below n pss)
below_later k n p [] lt = tt
below_later k n p (ps ∷ pss) lt =
    all_append (λ q. slice_cmp nat_cmp (k ∷ p) q ≡ Less) (map (λ q. n ∷ q) ps) (below (suc n) pss) (all_less_head k n p ps lt) (below_later k (suc n) p pss (omega arith))

behind_later : (n : ℕ) (ps : List (List ℕ)) (pss : List (List (List ℕ))) → IsAscending (map (λ p. n ∷ p) ps) → IsAscending (below (suc n) pss) → IsAscending (map (λ p. n ∷ p) ps ++ below (suc n) pss)
behind_later n [] pss asc later = later
behind_later n (p ∷ ps) pss asc later =
    (all_append (λ q. slice_cmp nat_cmp (n ∷ p) q ≡ Less) (map (λ q. n ∷ q) ps) (below (suc n) pss) asc.0 (below_later n (suc n) p pss (omega arith)), behind_later n ps pss asc.1 later)

ascending_below : (n : ℕ) (pss : List (List (List ℕ))) → AllByRecursion IsAscending pss → IsAscending (below n pss)
ascending_below n [] all = tt
ascending_below n (ps ∷ pss) all = behind_later n ps pss (ascending_behind n ps all.0) (ascending_below (suc n) pss all.1)

empty_behind : (n : ℕ) (ps : List (List ℕ)) → AllByRecursion (λ q. slice_cmp nat_cmp [] q ≡ Less) (map (λ p. n ∷ p) ps)
empty_behind n [] = tt
empty_behind n (p ∷ ps) = (refl, empty_behind n ps)

empty_first : (n : ℕ) (pss : List (List (List ℕ))) → AllByRecursion (λ q. slice_cmp nat_cmp [] q ≡ Less) (below n pss)
empty_first n [] = tt
empty_first n (ps ∷ pss) = all_append (λ q. slice_cmp nat_cmp [] q ≡ Less) (map (λ p. n ∷ p) ps) (below (suc n) pss) (empty_behind n ps) (empty_first (suc n) pss)

all_of_each : (ts : List Term) → Each (λ t. IsAscending (term_paths t)) ts → AllByRecursion IsAscending (map term_paths ts)
all_of_each [] e = tt
all_of_each (t ∷ ts) e = (e.0, all_of_each ts e.1)

ascends : (t : Term) → IsAscending (term_paths t)
ascends = ind (λ t. IsAscending (term_paths t))
    (λ n. subst IsAscending (sym (term_paths-Var n)) tt)
    (λ f ts e. subst IsAscending (sym (term_paths-App f ts)) (empty_first 0 (map term_paths ts), ascending_below 0 (map term_paths ts) (all_of_each ts e)))

-- ---- the paths of a term

abbrev Tells : Term → Type 0
Tells t = (path : List ℕ) → (Among (λ p. p ≡ path) (term_paths t) → LeadsToSymbol path t) × (LeadsToSymbol path t → Among (λ p. p ≡ path) (term_paths t))

each_get : (P : Term → Type 0) (ts : List Term) (k : ℕ) (t : Term) → Each P ts → slice_get ts k ≡ Some t → P t
each_get P [] k t e there = absurd cc
each_get P (u ∷ ts) zero t e there = let same : u ≡ t = cc in subst P same e.0
each_get P (u ∷ ts) (suc k) t e there = each_get P ts k t e.1 there

mapped_get : (ts : List Term) (k : ℕ) (ps : List (List ℕ)) (o : Option Term) → slice_get ts k ≡ o → option_map term_paths o ≡ Some ps → (t : Term) × (slice_get ts k ≡ Some t) × (ps ≡ term_paths t)
mapped_get ts k ps None is e = absurd cc
mapped_get ts k ps (Some t) is e = (t, is, sym (same_Some (term_paths t) ps e))

variable_tells : (n : ℕ) → Tells (Var n)
variable_tells n path = (
  (λ some. absurd (subst (Among (λ p. p ≡ path)) (term_paths-Var n) some)),
  (λ l. absurd (nowhere path l.symbol l.args l.there)),
)
  where
    nowhere : (path : List ℕ) (f : ℕ) (us : List Term) → subterm path (Var n) ≡ Some (App f us) → ⊥
    nowhere [] f us e = Var-App-apart n f us (same_Some (Var n) (App f us) e)
    nowhere (k ∷ path) f us e = let none = ap (option_and_then (subterm path)) (argument-Var k n) in absurd cc

from_argument : (k : ℕ) (path : List ℕ) (f g : ℕ) (ts us : List Term) (o : Option Term) → slice_get ts k ≡ o → option_and_then (subterm path) o ≡ Some (App g us) → (t : Term) × (slice_get ts k ≡ Some t) × LeadsToSymbol path t
from_argument k path f g ts us None is e = absurd cc
from_argument k path f g ts us (Some t) is e = (t, is, record { symbol = g; args = us; there = e })

symbol_goes : (f : ℕ) (ts : List Term) → Each Tells ts → (path : List ℕ) → Among (λ p. p ≡ path) ([] ∷ below 0 (map term_paths ts)) → LeadsToSymbol path (App f ts)
symbol_goes f ts e [] some = record { symbol = f; args = ts; there = refl }
symbol_goes f ts e (k ∷ path) some = elim some [
  | inl here ↦ absurd cc
  | inr there ↦
      let g = goes_below 0 (map term_paths ts) k path there in
      let m = mapped_get ts g.place g.paths (slice_get ts g.place) refl (sym (slice_get-map term_paths ts g.place) ∙ g.there) in
      let l = (each_get Tells ts g.place m.0 e m.1 path).0 (subst (Among (λ p. p ≡ path)) m.2 g.has) in
      let at : slice_get ts k ≡ Some m.0 = ap (slice_get ts) (omega (arith, g.is)) ∙ m.1 in
      record { symbol = l.symbol; args = l.args; there = ap (option_and_then (subterm path)) (argument-App k f ts ∙ at) ∙ l.there }
]

symbol_comes : (f : ℕ) (ts : List Term) → Each Tells ts → (path : List ℕ) → LeadsToSymbol path (App f ts) → Among (λ p. p ≡ path) ([] ∷ below 0 (map term_paths ts))
symbol_comes f ts e [] l = inl refl
symbol_comes f ts e (k ∷ path) l =
    let m = from_argument k path f l.symbol ts l.args (slice_get ts k) refl (sym (ap (option_and_then (subterm path)) (argument-App k f ts)) ∙ l.there) in
    let has = (each_get Tells ts k m.0 e m.1 path).1 m.2 in
    inr (subst (λ (j : ℕ). Among (λ p. p ≡ j ∷ path) (below 0 (map term_paths ts))) (omega arith)
    (stands_below 0 (map term_paths ts) k (term_paths m.0) path (slice_get-map term_paths ts k ∙ ap (option_map term_paths) m.1) has))

symbol_tells : (f : ℕ) (ts : List Term) → Each Tells ts → Tells (App f ts)
symbol_tells f ts e path = (
  (λ some. symbol_goes f ts e path (subst (Among (λ p. p ≡ path)) (term_paths-App f ts) some)),
  (λ l. subst (Among (λ p. p ≡ path)) (sym (term_paths-App f ts)) (symbol_comes f ts e path l)),
)

pub paths_are_symbols : PathsAreSymbols
paths_are_symbols t = (ind Tells variable_tells symbol_tells t, ascends t)

-- ---- the paths of an atom

atom_goes : (a : Atom) (path : List ℕ) → Among (λ p. p ≡ path) (atom_paths a) → LeadsToSymbolIn path a
atom_goes a [] some = absurd (none_below 0 (map term_paths (terms_of a)) some)
atom_goes a (k ∷ path) some =
    let g = goes_below 0 (map term_paths (terms_of a)) k path some in
    let m = mapped_get (terms_of a) g.place g.paths (slice_get (terms_of a) g.place) refl (sym (slice_get-map term_paths (terms_of a) g.place) ∙ g.there) in
    let l = (ind Tells variable_tells symbol_tells m.0 path).0 (subst (Among (λ p. p ≡ path)) m.2 g.has) in
    let at : slice_get (terms_of a) k ≡ Some m.0 = ap (slice_get (terms_of a)) (omega (arith, g.is)) ∙ m.1 in
    record { symbol = l.symbol; args = l.args; there = ap (option_and_then (subterm path)) at ∙ l.there }

atom_comes : (a : Atom) (path : List ℕ) → LeadsToSymbolIn path a → Among (λ p. p ≡ path) (atom_paths a)
atom_comes a [] l = let none = l.there in absurd cc
atom_comes a (k ∷ path) l =
    let m = from_argument k path 0 l.symbol (terms_of a) l.args (slice_get (terms_of a) k) refl l.there in
    let has = (ind Tells variable_tells symbol_tells m.0 path).1 m.2 in
    subst (λ (j : ℕ). Among (λ p. p ≡ j ∷ path) (below 0 (map term_paths (terms_of a)))) (omega arith)
    (stands_below 0 (map term_paths (terms_of a)) k (term_paths m.0) path (slice_get-map term_paths (terms_of a) k ∙ ap (option_map term_paths) m.1) has)

all_ascend : (ts : List Term) → AllByRecursion IsAscending (map term_paths ts)
all_ascend [] = tt
all_ascend (t ∷ ts) = (ascends t, all_ascend ts)

pub atom_paths_are_symbols : AtomPathsAreSymbols
atom_paths_are_symbols a = ((λ path. (atom_goes a path, atom_comes a path)), ascending_below 0 (map term_paths (terms_of a)) (all_ascend (terms_of a)))
