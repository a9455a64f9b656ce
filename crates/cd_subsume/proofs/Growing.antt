-- Counts and sizes never fall in instances.
use Rattle.std.proofs.Common.{◌≡◌, ℕ, ◌+◌, ◌≤◌, Bool, true, false, List, [], ◌∷◌, length, map, sum_by, ap, arith}
use Rattle.std.proofs.lemmas.List.Sums.{sum_by-cons}
use Rattle.cd_term.specs.declared.Term.{Term}
use Rattle.cd_term.specs.Terms.{substituted, size_of, variables_of}
use Rattle.cd_term.proofs.SizeLaws.{levels, size_of-substituted}
use Rattle.cd_clause.specs.declared.Atom.{Atom}
use Rattle.cd_clause.specs.declared.Atom.TheVariants.{Truth, Pred, Equal}
use Rattle.cd_clause.specs.Clauses.{terms_of, atom_changed, literal_size}
use Rattle.cd_subsume.specs.Subsumption.{IsTurned}
use Rattle.cd_subsume.specs.Laws.{NeverFalls}

pub signs_count : (f : Bool → ℕ) → NeverFalls (λ l. f l.positive)
signs_count f = record { at_each = λ g l m e sign is. omega (arith, ap f sign) }

sizes_least : (g : ℕ → Term) (ns : List ℕ) → length ns ≤ sum_by (λ n. size_of (g n)) ns
sizes_least g [] = omega arith
sizes_least g (n ∷ ns) = omega (arith, sizes_least g ns, sum_by-cons (λ m. size_of (g m)) n ns, (levels (g n)).0, (levels (g n)).1)

size_grows : (g : ℕ → Term) (t : Term) → size_of t ≤ size_of (substituted g t)
size_grows g t = omega (arith, size_of-substituted g t, sizes_least g (variables_of t))

list_grows : (g : ℕ → Term) (ts : List Term) → sum_by size_of ts ≤ sum_by size_of (map (substituted g) ts)
list_grows g [] = omega arith
list_grows g (t ∷ ts) = omega (
  arith,
  list_grows g ts,
  size_grows g t,
  sum_by-cons size_of t ts,
  sum_by-cons size_of (substituted g t) (map (substituted g) ts),
)

pair_size : (s t : Term) → sum_by size_of (s ∷ t ∷ []) ≡ size_of s + size_of t
pair_size s t = omega (arith, sum_by-cons size_of s (t ∷ []), sum_by-cons size_of t [])

straight_grows : (g : ℕ → Term) (a : Atom) → sum_by size_of (terms_of a) ≤ sum_by size_of (terms_of (atom_changed (substituted g) a))
straight_grows g Truth = omega arith
straight_grows g (Pred p args) = list_grows g args
straight_grows g (Equal s t) = omega (arith, pair_size s t, pair_size (substituted g s) (substituted g t), size_grows g s, size_grows g t)

atom_grows : (g : ℕ → Term) (e : Bool) (a b : Atom) → IsTurned e (atom_changed (substituted g) a) b → sum_by size_of (terms_of a) ≤ sum_by size_of (terms_of b)
atom_grows g false a b is = omega (arith, straight_grows g a, ap (λ x. sum_by size_of (terms_of x)) is)
atom_grows g true Truth b is = absurd is
atom_grows g true (Pred p args) b is = absurd is
atom_grows g true (Equal s t) b is = omega (
  arith,
  pair_size s t,
  pair_size (substituted g t) (substituted g s),
  size_grows g s,
  size_grows g t,
  ap (λ x. sum_by size_of (terms_of x)) is,
)

pub sizes_grow : NeverFalls literal_size
sizes_grow = record { at_each = λ g l m e sign is. omega (arith, atom_grows g e l.atom m.atom is) }
