-- Counts of symbols: there are no fewer in instances, nor in what a term or a clause is part of.
use Rattle.std.proofs.Common.{◌≡◌, ℕ, ◌+◌, ◌<◌, ◌≤◌, ◌%◌, ◌||◌, max, Bool, true, false, cond, nat_eq, List, [], ◌∷◌, length, map, take, get_or, sum_by, ap, sym, ◌∙◌, arith}
use Rattle.std.proofs.lemmas.List.{map-append, take_all}
use Rattle.std.proofs.lemmas.List.Sums.{sum-map, sum_by-cons, sum_by_more}
use Rattle.cd_term.specs.declared.Term.{Term}
use Rattle.cd_term.specs.declared.Term.TheVariants.{Var, App}
use Rattle.cd_term.specs.Terms.{greatest, substituted}
use Rattle.cd_term.proofs.TermInduction.{ind, Each}
use Rattle.cd_term.proofs.Measures.{greatest-append, greatest-take}
use Rattle.cd_term.proofs.Equations.{fold-Var, fold-App, substituted-App}
use Rattle.cd_clause.specs.declared.Atom.{Atom}
use Rattle.cd_clause.specs.declared.Atom.TheVariants.{Truth, Pred, Equal}
use Rattle.cd_clause.specs.declared.Literal.{Literal}
use Rattle.cd_clause.specs.declared.Clause.{Clause}
use Rattle.cd_clause.specs.Clauses.{terms_of, clause_terms, atom_changed}
use Rattle.cd_clause.proofs.ClauseTerms.{clause_terms_more}
use Rattle.cd_kbo.specs.declared.order.Order.{Order}
use Rattle.cd_subsume.specs.Subsumption.{IsTurned, Subsumes}
use Rattle.cd_subsume.specs.Laws.{NeverFalls}
use Rattle.cd_subsume.proofs.Counts.{no_more}
use Rattle.cd_rewrite.specs.Reduction.{Spot, ReducesBy}
use Rattle.cd_rewrite.proofs.Matched.{Grows}
use Rattle.cd_rewrite.proofs.Fitting.{clause_measure}
use Rattle.cd_contract.specs.declared.tally.Tally.{Tally}
use Rattle.cd_contract.specs.Tallies.{variable_count, symbol_count, count_step, count_in, atom_count, literal_count, signed_count, IsTally, IsAtMost}

pub count-Var : (k n : ℕ) → count_in k (Var n) ≡ variable_count k
count-Var k = fold-Var ℕ (count_step k)

pub count-App : (k f : ℕ) (ts : List Term) → count_in k (App f ts) ≡ symbol_count k f + sum_by (count_in k) ts
count-App k f ts = fold-App ℕ (count_step k) f ts ∙ ap (λ n. symbol_count k f + n) (sum-map (count_in k) ts)

variable_least : (k f : ℕ) → variable_count k ≤ symbol_count k f
variable_least k f = at (nat_eq k 7) (nat_eq (f % 7) k)
  where
    at : (a b : Bool) → ◌≤◌ (cond a 1 0) (cond (a || b) 1 0)
    at true b = omega arith
    at false b = omega arith

count_least : (k : ℕ) (t : Term) → variable_count k ≤ count_in k t
count_least k = ind (λ t. variable_count k ≤ count_in k t)
    (λ n. omega (arith, count-Var k n))
    (λ f ts each. omega (arith, count-App k f ts, variable_least k f))

-- ---- instances

counts_grow : (k : ℕ) (g : ℕ → Term) (ts : List Term) → Each (λ t. count_in k t ≤ count_in k (substituted g t)) ts →
    sum_by (count_in k) ts ≤ sum_by (count_in k) (map (substituted g) ts)
counts_grow k g [] each = omega arith
counts_grow k g (t ∷ ts) each = omega (
  arith,
  each.0,
  counts_grow k g ts each.1,
  sum_by-cons (count_in k) t ts,
  sum_by-cons (count_in k) (substituted g t) (map (substituted g) ts),
)

pub count_grows : (k : ℕ) (g : ℕ → Term) (t : Term) → count_in k t ≤ count_in k (substituted g t)
count_grows k g = ind (λ t. count_in k t ≤ count_in k (substituted g t))
    (λ n. omega (arith, count-Var k n, count_least k (substituted g (Var n))))
    (λ f ts each. omega (
      arith,
      count-App k f ts,
      ap (count_in k) (substituted-App g f ts),
      count-App k f (map (substituted g) ts),
      counts_grow k g ts each,
    ))

each_grows : (k : ℕ) (g : ℕ → Term) (ts : List Term) → Each (λ t. count_in k t ≤ count_in k (substituted g t)) ts
each_grows k g [] = tt
each_grows k g (t ∷ ts) = (count_grows k g t, each_grows k g ts)

straight_grows : (k : ℕ) (g : ℕ → Term) (a : Atom) → atom_count k a ≤ atom_count k (atom_changed (substituted g) a)
straight_grows k g Truth = omega arith
straight_grows k g (Pred p args) = omega (arith, counts_grow k g args (each_grows k g args))
straight_grows k g (Equal s t) = omega (arith, count_grows k g s, count_grows k g t)

atom_grows : (k : ℕ) (g : ℕ → Term) (e : Bool) (a b : Atom) → IsTurned e (atom_changed (substituted g) a) b → atom_count k a ≤ atom_count k b
atom_grows k g false a b is = omega (arith, straight_grows k g a, ap (atom_count k) is)
atom_grows k g true Truth b is = absurd is
atom_grows k g true (Pred p args) b is = absurd is
atom_grows k g true (Equal s t) b is = omega (arith, count_grows k g s, count_grows k g t, ap (atom_count k) is)

literal_grows : (k : ℕ) (g : ℕ → Term) (e : Bool) (a b : Atom) → IsTurned e (atom_changed (substituted g) a) b → literal_count k a ≤ literal_count k b
literal_grows k g e a b is = at (nat_eq k 7) (atom_count k a) (atom_count k b) (atom_grows k g e a b is)
  where
    at : (c : Bool) (m n : ℕ) → m ≤ n → ◌≤◌ (cond c 1 m) (cond c 1 n)
    at true m n le = omega arith
    at false m n le = le

signed_grows : (b c : Bool) (m n : ℕ) → b ≡ c → m ≤ n → (◌≤◌ (cond b m 0) (cond c n 0)) × (◌≤◌ (cond b 0 m) (cond c 0 n))
signed_grows true true m n same le = (le, omega arith)
signed_grows false false m n same le = (omega arith, le)
signed_grows true false m n same le = absurd (cc)
signed_grows false true m n same le = absurd (cc)

pub signed_never_fall : (sign : Bool) (k : ℕ) → NeverFalls (signed_count sign k)
signed_never_fall true k = record {
  at_each = λ g l m e same is. (signed_grows l.positive m.positive (literal_count k l.atom) (literal_count k m.atom) same (literal_grows k g e l.atom m.atom is)).0;
}
signed_never_fall false k = record {
  at_each = λ g l m e same is. (signed_grows l.positive m.positive (literal_count k l.atom) (literal_count k m.atom) same (literal_grows k g e l.atom m.atom is)).1;
}

-- a subsumer has no more of anything
pub subsumers_count : (sign : Bool) (k : ℕ) (d c : Clause) → Subsumes d c → sum_by (signed_count sign k) d.literals ≤ sum_by (signed_count sign k) c.literals
subsumers_count sign k d c = no_more (signed_count sign k) (signed_never_fall sign k) d c

-- ---- subterms

most_of_sum : (k : ℕ) (ts : List Term) → greatest (map (count_in k) ts) ≤ sum_by (count_in k) ts
most_of_sum k [] = omega arith
most_of_sum k (t ∷ ts) = omega (arith, most_of_sum k ts, sum_by-cons (count_in k) t ts)

count_contains : (k : ℕ) → Grows (count_in k)
count_contains k f ts = omega (arith, count-App k f ts, most_of_sum k ts)

-- a side that reduces a clause has no more of anything than one of its terms
pub sides_count : (o : Order) (d c : Clause) (at : Spot) (g : ℕ → Term) (by : ReducesBy o d c at g) (k : ℕ) →
    count_in k by.lowers.from ≤ greatest (map (count_in k) (clause_terms c.literals))
sides_count o d c at g by k = omega (
  arith,
  count_grows k g by.lowers.from,
  ap (count_in k) by.lowers.matched,
  clause_measure (count_in k) (count_contains k) c.literals at.literal by.taker at.path by.old by.literal by.there,
)

-- one more literal
pub most_more : (h : Term → ℕ) (ls : List Literal) (i : ℕ) (l : Literal) → i < length ls → l ≡ get_or ls i l →
    greatest (map h (clause_terms (take (i + 1) ls))) ≡ max (greatest (map h (clause_terms (take i ls)))) (greatest (map h (terms_of l.atom)))
most_more h ls i l lt at = omega (
  arith,
  ap (λ ts. greatest (map h ts)) (clause_terms_more ls i l lt),
  ap greatest (map-append h (clause_terms (take i ls)) (terms_of (get_or ls i l).atom)),
  greatest-append (map h (clause_terms (take i ls))) (map h (terms_of (get_or ls i l).atom)),
  ap (λ (x : Literal). greatest (map h (terms_of x.atom))) at,
)

-- ---- tallies

pub at_most : (h i : ℕ → ℕ) (a b : Tally) → ((k : ℕ) → h k ≤ i k) → IsTally h a → IsTally i b → IsAtMost a b
at_most h i a b le x y = (
  omega (arith, le 7, x.all, y.all),
  omega (arith, le 0, x.zero, y.zero),
  omega (arith, le 1, x.one, y.one),
  omega (arith, le 2, x.two, y.two),
  omega (arith, le 3, x.three, y.three),
  omega (arith, le 4, x.four, y.four),
  omega (arith, le 5, x.five, y.five),
  omega (arith, le 6, x.six, y.six),
)

pub tally_same : (g h : ℕ → ℕ) (t : Tally) → ((k : ℕ) → g k ≡ h k) → IsTally g t → IsTally h t
tally_same g h t same is = record {
  all = omega (arith, same 7, is.all);
  zero = omega (arith, same 0, is.zero);
  one = omega (arith, same 1, is.one);
  two = omega (arith, same 2, is.two);
  three = omega (arith, same 3, is.three);
  four = omega (arith, same 4, is.four);
  five = omega (arith, same 5, is.five);
  six = omega (arith, same 6, is.six);
}

-- one more item of a list
pub sum_next : {A : Type 0} (f : ℕ → A → ℕ) (xs : List A) (i : ℕ) (x : A) (a b r : Tally) → i < length xs → x ≡ get_or xs i x →
    ((g h : ℕ → ℕ) → IsTally g a → IsTally h b → IsTally (λ k. g k + h k) r) → IsTally (λ k. sum_by (f k) (take i xs)) a → IsTally (λ k. f k x) b →
    IsTally (λ k. sum_by (f k) (take (i + 1) xs)) r
sum_next f xs i x a b r lt at adds before here =
    tally_same _ _ r (λ k. omega (arith, sum_by_more (f k) xs i x lt, ap (f k) at)) (adds _ _ before here)

pub sum_behind : (g : ℕ → ℕ) (xs : List Term) (i : ℕ) (x : Term) (a b r : Tally) → i < length xs → x ≡ get_or xs i x →
    ((g h : ℕ → ℕ) → IsTally g a → IsTally h b → IsTally (λ k. g k + h k) r) → IsTally (λ k. g k + sum_by (count_in k) (take i xs)) a → IsTally (λ k. count_in k x) b →
    IsTally (λ k. g k + sum_by (count_in k) (take (i + 1) xs)) r
sum_behind g xs i x a b r lt at adds before here =
    tally_same _ _ r (λ k. omega (arith, sum_by_more (count_in k) xs i x lt, ap (count_in k) at)) (adds _ _ before here)

pub most_next : (xs : List Term) (i : ℕ) (x : Term) (a b r : Tally) → i < length xs → x ≡ get_or xs i x →
    ((g h : ℕ → ℕ) → IsTally g a → IsTally h b → IsTally (λ k. max (g k) (h k)) r) → IsTally (λ k. greatest (map (count_in k) (take i xs))) a → IsTally (λ k. count_in k x) b →
    IsTally (λ k. greatest (map (count_in k) (take (i + 1) xs))) r
most_next xs i x a b r lt at joins before here =
    tally_same _ _ r (λ k. omega (arith, greatest-take (count_in k) xs i x lt, ap (count_in k) at)) (joins _ _ before here)

pub most_literal : (ls : List Literal) (i : ℕ) (l : Literal) (a b r : Tally) → i < length ls → l ≡ get_or ls i l →
    ((g h : ℕ → ℕ) → IsTally g a → IsTally h b → IsTally (λ k. max (g k) (h k)) r) → IsTally (λ k. greatest (map (count_in k) (clause_terms (take i ls)))) a →
    IsTally (λ k. greatest (map (count_in k) (terms_of l.atom))) b → IsTally (λ k. greatest (map (count_in k) (clause_terms (take (i + 1) ls)))) r
most_literal ls i l a b r lt at joins before here = tally_same _ _ r (λ k. sym (most_more (count_in k) ls i l lt at)) (joins _ _ before here)

-- a symbol and all its arguments
pub whole_term : (t : Term) (f : ℕ) (ts xs : List Term) (i : ℕ) (r : Tally) → t ≡ App f ts → xs ≡ ts → length xs ≤ i →
    IsTally (λ k. symbol_count k f + sum_by (count_in k) (take i xs)) r → IsTally (λ k. count_in k t) r
whole_term t f ts xs i r is same le all =
    tally_same _ _ r (λ k. omega (arith, ap (count_in k) is, count-App k f ts, ap (sum_by (count_in k)) (take_all i xs le), ap (sum_by (count_in k)) same)) all

pub whole_predicate : (a : Atom) (p : ℕ) (ts xs : List Term) (r : Tally) → a ≡ Pred p ts → xs ≡ ts → IsTally (λ k. symbol_count k p + sum_by (count_in k) xs) r →
    IsTally (λ k. atom_count k a) r
whole_predicate a p ts xs r is same all = tally_same _ _ r (λ k. omega (arith, ap (atom_count k) is, ap (sum_by (count_in k)) same)) all

pub whole_equation : (a : Atom) (s t : Term) (r : Tally) → a ≡ Equal s t → IsTally (λ k. count_in k s + count_in k t) r → IsTally (λ k. atom_count k a) r
whole_equation a s t r is all = tally_same _ _ r (λ k. omega (arith, ap (atom_count k) is)) all

pub most_equation : (a : Atom) (s t : Term) (r : Tally) → a ≡ Equal s t → IsTally (λ k. max (count_in k s) (count_in k t)) r →
    IsTally (λ k. greatest (map (count_in k) (terms_of a))) r
most_equation a s t r is all = tally_same _ _ r (λ k. omega (arith, ap (λ b. greatest (map (count_in k) (terms_of b))) is)) all
