-- The variables of what a rule makes are those of its premises.
use Rattle.std.proofs.Common.{◌≡◌, ℕ, zero, suc, ◌+◌, ◌≤◌, max, false, List, [], ◌∷◌, ◌++◌, map, take, drop, remove, Some, slice_get, slice_set, ap, ap₂, ◌∙◌, sym, subst, refl, arith}
use Rattle.std.proofs.lemmas.List.{map-append}
use Rattle.std.proofs.lemmas.List.Concat.{flat_map-append}
use Rattle.std.proofs.lemmas.Option.{same_Some}
use Rattle.cd_term.specs.declared.Term.{Term}
use Rattle.cd_term.specs.Terms.{bound_of, greatest, subterm, replaced}
use Rattle.cd_term.proofs.TermInduction.{ind, Each}
use Rattle.cd_term.proofs.Equations.{substituted-Var, substituted-App, bound_of-Var, bound_of-App}
use Rattle.cd_term.proofs.Measures.{greatest-append}
use Rattle.cd_term.proofs.PathLaws.{steps_to, puts_in}
use Rattle.cd_clause.specs.declared.Atom.{Atom}
use Rattle.cd_clause.specs.declared.Atom.TheVariants.{Truth, Pred, Equal}
use Rattle.cd_clause.specs.declared.Literal.{Literal}
use Rattle.cd_clause.specs.declared.Clause.{Clause}
use Rattle.cd_clause.specs.Clauses.{terms_of, clause_terms, literals_changed, variable_bound_of}
use Rattle.cd_clause.specs.Places.{signed, HasSides, subterm_at, with_term, replaced_at}
use Rattle.cd_clause.proofs.PlaceLemmas.{terms_changed, stands_in, replaces_in}
use Rattle.cd_steps.specs.Rules.{Inference, higher, apart, both_bounds, IsResolution, IsFactoring, IsReflexivity, IsEqualityFactoring, IsParamodulation, IsRewriting}
use Rattle.cd_steps.specs.Drafts.{raised}
use Rattle.cd_steps.specs.Laws.{IsBounded}

-- ---- terms

pub argument_bound : (ts : List Term) (i : ℕ) (t : Term) → slice_get ts i ≡ Some t → bound_of t ≤ greatest (map bound_of ts)
argument_bound [] i t there = absurd cc
argument_bound (u ∷ ts) zero t there = let same : u ≡ t = cc in omega (arith, ap bound_of same)
argument_bound (u ∷ ts) (suc i) t there = omega (arith, argument_bound ts i t there)

all_raised : (n : ℕ) (ts : List Term) → Each (λ t. bound_of (raised n t) ≤ n + bound_of t) ts → greatest (map bound_of (map (raised n) ts)) ≤ n + greatest (map bound_of ts)
all_raised n [] e = omega arith
all_raised n (t ∷ ts) e = omega (arith, e.0, all_raised n ts e.1)

pub raised_bound : (n : ℕ) (t : Term) → bound_of (raised n t) ≤ n + bound_of t
raised_bound n = ind (λ t. bound_of (raised n t) ≤ n + bound_of t)
    (λ k. omega (arith, ap bound_of (substituted-Var (higher n) k), bound_of-Var (n + k), bound_of-Var k))
    (λ f ts e. omega (arith, ap bound_of (substituted-App (higher n) f ts), bound_of-App f (map (raised n) ts), bound_of-App f ts, all_raised n ts e))

pub raised_bounds : (n : ℕ) (ts : List Term) → greatest (map bound_of (map (raised n) ts)) ≤ n + greatest (map bound_of ts)
raised_bounds n [] = omega arith
raised_bounds n (t ∷ ts) = omega (arith, raised_bound n t, raised_bounds n ts)

pub subterm_bound : (path : List ℕ) (t u : Term) → subterm path t ≡ Some u → bound_of u ≤ bound_of t
subterm_bound [] t u e = omega (arith, ap bound_of (same_Some t u e))
subterm_bound (k ∷ path) t u e =
    let s = steps_to k path u t e in
    omega (arith, subterm_bound path s.arg u s.rest, argument_bound s.args k s.arg s.here, ap bound_of s.is, bound_of-App s.symbol s.args)

terms_set_bound : (ts : List Term) (k : ℕ) (u : Term) → greatest (map bound_of (slice_set ts k u)) ≤ max (greatest (map bound_of ts)) (bound_of u)
terms_set_bound [] k u = omega arith
terms_set_bound (t ∷ ts) zero u = omega arith
terms_set_bound (t ∷ ts) (suc k) u = omega (arith, terms_set_bound ts k u)

term_replaced_bound : (path : List ℕ) (new t v : Term) → replaced path new t ≡ Some v → bound_of v ≤ max (bound_of t) (bound_of new)
term_replaced_bound [] new t v e = omega (arith, ap bound_of (same_Some new v e))
term_replaced_bound (k ∷ path) new t v e =
    let s = puts_in k path new v t e in
    omega (
      arith,
      ap bound_of s.result,
      bound_of-App s.symbol (slice_set s.args k s.changed),
      terms_set_bound s.args k s.changed,
      term_replaced_bound path new s.arg s.changed s.rest,
      argument_bound s.args k s.arg s.here,
      ap bound_of s.is,
      bound_of-App s.symbol s.args,
    )

-- ---- atoms

-- one more than the greatest variable of an atom, and of several literals
abbrev pub atom_bound : Atom → ℕ
atom_bound a = greatest (map bound_of (terms_of a))

abbrev pub literals_bound : List Literal → ℕ
literals_bound ls = greatest (map bound_of (clause_terms ls))

pub side_bounds : (s : ℕ) (a : Atom) (side other : Term) → HasSides s a side other → (bound_of side ≤ atom_bound a) × (bound_of other ≤ atom_bound a)
side_bounds zero a side other h = let e = ap atom_bound h in (omega (arith, e), omega (arith, e))
side_bounds (suc zero) a side other h = let e = ap atom_bound h in (omega (arith, e), omega (arith, e))
side_bounds (suc (suc s)) a side other h = absurd h

pub place_bound : (path : List ℕ) (a : Atom) (u : Term) → subterm_at path a ≡ Some u → bound_of u ≤ atom_bound a
place_bound [] a u e = absurd cc
place_bound (k ∷ path) a u e =
    let s = stands_in k path a u e in omega (arith, subterm_bound path s.term u s.rest, argument_bound (terms_of a) k s.term s.here)

with_bound : (k : ℕ) (u : Term) (a : Atom) → atom_bound (with_term k u a) ≤ max (atom_bound a) (bound_of u)
with_bound k u Truth = omega arith
with_bound k u (Pred p args) = terms_set_bound args k u
with_bound zero u (Equal s t) = omega arith
with_bound (suc k) u (Equal s t) = omega arith

pub replaced_bound : (path : List ℕ) (new : Term) (a b : Atom) → replaced_at path new a ≡ Some b → atom_bound b ≤ max (atom_bound a) (bound_of new)
replaced_bound [] new a b e = absurd cc
replaced_bound (k ∷ path) new a b e =
    let r = replaces_in k path new a b e in
    omega (
      arith,
      ap atom_bound r.result,
      with_bound k r.changed a,
      term_replaced_bound path new r.term r.changed r.rest,
      argument_bound (terms_of a) k r.term r.here,
    )

-- ---- literals

pub bound_cons : (l : Literal) (ls : List Literal) → literals_bound (l ∷ ls) ≡ max (atom_bound l.atom) (literals_bound ls)
bound_cons l ls = ap greatest (map-append bound_of (terms_of l.atom) (clause_terms ls)) ∙ greatest-append (map bound_of (terms_of l.atom)) (map bound_of (clause_terms ls))

pub bound_append : (xs ys : List Literal) → literals_bound (xs ++ ys) ≡ max (literals_bound xs) (literals_bound ys)
bound_append xs ys =
    ap (λ ts. greatest (map bound_of ts)) (flat_map-append (λ l. terms_of l.atom) xs ys)
    ∙ ap greatest (map-append bound_of (clause_terms xs) (clause_terms ys)) ∙ greatest-append (map bound_of (clause_terms xs)) (map bound_of (clause_terms ys))

pub literal_bound : (ls : List Literal) (i : ℕ) (l : Literal) → slice_get ls i ≡ Some l → atom_bound l.atom ≤ literals_bound ls
literal_bound [] i l there = absurd cc
literal_bound (m ∷ ls) zero l there =
    let same : m ≡ l = cc in omega (arith, ap (λ (k : Literal). atom_bound k.atom) same, bound_cons m ls)
literal_bound (m ∷ ls) (suc i) l there = omega (arith, literal_bound ls i l there, bound_cons m ls)

taken_bound : (ls : List Literal) (i : ℕ) → literals_bound (take i ls) ≤ literals_bound ls
taken_bound ls zero = omega arith
taken_bound [] (suc i) = omega arith
taken_bound (l ∷ ls) (suc i) = omega (arith, taken_bound ls i, bound_cons l ls, bound_cons l (take i ls))

dropped_bound : (ls : List Literal) (i : ℕ) → literals_bound (drop i ls) ≤ literals_bound ls
dropped_bound ls zero = omega arith
dropped_bound [] (suc i) = omega arith
dropped_bound (l ∷ ls) (suc i) = omega (arith, dropped_bound ls i, bound_cons l ls)

pub front_below : (n : ℕ) (ls us : List Literal) (i : ℕ) → us ≡ take i ls → literals_bound ls ≤ n → literals_bound us ≤ n
front_below n ls us i is le = omega (arith, ap literals_bound is, taken_bound ls i)

pub back_below : (n : ℕ) (ls us : List Literal) (i : ℕ) → us ≡ drop (i + 1) ls → literals_bound ls ≤ n → literals_bound us ≤ n
back_below n ls us i is le = omega (arith, ap literals_bound is, dropped_bound ls (i + 1))

pub bound_remove : (ls : List Literal) (i : ℕ) → literals_bound (remove ls i) ≤ literals_bound ls
bound_remove [] zero = omega arith
bound_remove [] (suc i) = omega arith
bound_remove (l ∷ ls) zero = omega (arith, bound_cons l ls)
bound_remove (l ∷ ls) (suc i) = omega (arith, bound_remove ls i, bound_cons l ls, bound_cons l (remove ls i))

pub bound_set : (ls : List Literal) (i : ℕ) (m : Literal) → literals_bound (slice_set ls i m) ≤ max (literals_bound ls) (atom_bound m.atom)
bound_set [] i m = omega arith
bound_set (l ∷ ls) zero m = omega (arith, bound_cons l ls, bound_cons m ls)
bound_set (l ∷ ls) (suc i) m = omega (arith, bound_set ls i m, bound_cons l ls, bound_cons l (slice_set ls i m))

raised_terms : (n : ℕ) (ls : List Literal) → clause_terms (literals_changed (raised n) ls) ≡ map (raised n) (clause_terms ls)
raised_terms n [] = refl
raised_terms n (l ∷ ls) =
    ap₂ (λ (x y : List Term). x ++ y) (terms_changed (raised n) l.atom) (raised_terms n ls) ∙ sym (map-append (raised n) (terms_of l.atom) (clause_terms ls))

pub apart_bound : (a b : Clause) → literals_bound (apart a b).literals ≤ both_bounds a b
apart_bound a b = omega (arith, ap (λ ts. greatest (map bound_of ts)) (raised_terms (variable_bound_of a) b.literals), raised_bounds (variable_bound_of a) (clause_terms b.literals))

-- ---- the rules

pub resolution_bounded : (a : Clause) (i : ℕ) (b : Clause) (j : ℕ) (x : Inference) → IsResolution a i b j x → IsBounded x
resolution_bounded a i b j x r =
    let second = apart_bound a b in
    subst IsBounded (sym r.is) (record {
      left = omega (arith, literal_bound a.literals i _ r.positive);
      right = omega (arith, literal_bound (apart a b).literals j _ r.negative);
      conclusion = omega (arith, bound_append (remove a.literals i) (remove (apart a b).literals j), bound_remove a.literals i, bound_remove (apart a b).literals j);
    })

pub factoring_bounded : (c : Clause) (i j : ℕ) (x : Inference) → IsFactoring c i j x → IsBounded x
factoring_bounded c i j x r = subst IsBounded (sym r.is) (record {
  left = literal_bound c.literals i _ r.first;
  right = literal_bound c.literals j _ r.second;
  conclusion = bound_remove c.literals j;
})

pub reflexivity_bounded : (c : Clause) (i : ℕ) (x : Inference) → IsReflexivity c i x → IsBounded x
reflexivity_bounded c i x r =
    let both = literal_bound c.literals i _ r.equation in
    subst IsBounded (sym r.is) (record { left = omega (arith, both); right = omega (arith, both); conclusion = bound_remove c.literals i })

pub equality_factoring_bounded : (c : Clause) (i s j z : ℕ) (x : Inference) → IsEqualityFactoring c i s j z x → IsBounded x
equality_factoring_bounded c i s j z x r =
    let first = side_bounds s r.first r.left r.left_other r.first_sides in
    let second = side_bounds z r.second r.right r.right_other r.second_sides in
    let in_first = literal_bound c.literals i _ r.at_first in
    let in_second = literal_bound c.literals j _ r.at_second in
    subst IsBounded (sym r.is) (record {
      left = omega (arith, first.0, in_first);
      right = omega (arith, second.0, in_second);
      conclusion = omega (arith, bound_set c.literals i (signed false (Equal r.left_other r.right_other)), first.1, second.1, in_first, in_second);
    })

pub paramodulation_bounded : (a : Clause) (i s : ℕ) (b : Clause) (j : ℕ) (path : List ℕ) (x : Inference) → IsParamodulation a i s b j path x → IsBounded x
paramodulation_bounded a i s b j path x r =
    let sides = side_bounds s r.equation r.side r.other r.sides in
    let giver = literal_bound a.literals i _ r.giver in
    let taker = literal_bound (apart a b).literals j r.taker r.literal in
    let all = apart_bound a b in
    subst IsBounded (sym r.is) (record {
      left = omega (arith, sides.0, giver);
      right = omega (arith, place_bound path r.taker.atom r.inner r.there, taker);
      conclusion = omega (
        arith,
        bound_append (remove a.literals i) (slice_set (apart a b).literals j (signed r.taker.positive r.changed)),
        bound_remove a.literals i,
        bound_set (apart a b).literals j (signed r.taker.positive r.changed),
        replaced_bound path r.other r.taker.atom r.changed r.becomes,
        sides.1,
        giver,
        taker,
      );
    })

pub rewriting_bounded : (e : Clause) (s : ℕ) (c : Clause) (j : ℕ) (path : List ℕ) (x : Inference) → IsRewriting e s c j path x → IsBounded x
rewriting_bounded e s c j path x r = paramodulation_bounded e 0 s c j path x r.into
