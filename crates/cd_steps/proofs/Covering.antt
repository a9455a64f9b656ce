-- Substitutions that cover both premises, and changes that agree on terms below a bound.
use Rattle.std.proofs.Common.{◌≡◌, ℕ, ◌+◌, ◌<◌, ◌≤◌, max, List, [], ◌∷◌, ◌++◌, length, map, drop, get_or, Option, Some, None, slice_get, option_map, option_and_then, ap, ap₂, ◌∙◌, sym, refl, arith}
use Rattle.std.specs.List.{range_with_len}
use Rattle.std.proofs.lemmas.List.{get_or-drop, get_or_append_left, get_or-append-add, map-append}
use Rattle.std.proofs.lemmas.List.FromFn.{get_or-map-range_with_len}
use Rattle.std.proofs.lemmas.Option.{slice_get-get_or, unwrap_or-slice_get, same_Some}
use Rattle.cd_term.specs.declared.Term.{Term}
use Rattle.cd_term.specs.declared.Term.TheVariants.{Var}
use Rattle.cd_term.specs.Terms.{substituted, applied, value_of, bound_of, greatest, subterm, replaced}
use Rattle.cd_term.proofs.Equations.{substituted-Var}
use Rattle.cd_term.proofs.Measures.{greatest-append}
use Rattle.cd_term.proofs.Substitutions.{substituted-identity, substituted-same, substituted-substituted}
use Rattle.cd_term.proofs.Occurrence.{occurs_below, substituted-agree}
use Rattle.cd_term.proofs.Replaced.{replaced-nowhere}
use Rattle.cd_clause.specs.declared.Atom.{Atom}
use Rattle.cd_clause.specs.declared.Atom.TheVariants.{Truth, Pred, Equal}
use Rattle.cd_clause.specs.declared.Literal.{Literal}
use Rattle.cd_clause.specs.Clauses.{terms_of, clause_terms, atom_changed, literals_changed}
use Rattle.cd_clause.specs.Places.{signed, subterm_at, with_term, replaced_at}
use Rattle.cd_clause.proofs.TidyLemmas.{twice_map}
use Rattle.cd_steps.specs.Rules.{higher}
use Rattle.cd_steps.specs.Drafts.{raised, AreBelow}

-- ---- values of variables

-- two substitutions that agree below a bound
agree_below : (g h : ℕ → Term) (n : ℕ) (t : Term) → ((k : ℕ) → k < n → g k ≡ h k) → bound_of t ≤ n → substituted g t ≡ substituted h t
agree_below g h n t same low = substituted-agree g h t (λ k o. same k (omega (arith, occurs_below k t o, low)))

read : (s : List Term) (k : ℕ) (d : Term) → k < length s → value_of s k ≡ get_or s k d
read s k d lt = same_Some (value_of s k) (get_or s k d)
    (ap Some (unwrap_or-slice_get s k (Var k)) ∙ sym (slice_get-get_or s k (Var k) lt) ∙ slice_get-get_or s k d lt)

-- the values behind the first n, and those of a list in front of another
value_behind : (s : List Term) (n k : ℕ) → n + k < length s → value_of s (n + k) ≡ value_of (drop n s) k
value_behind s n k lt =
    read s (n + k) (Var k) lt ∙ sym (get_or-drop n s k (Var k)) ∙ sym (unwrap_or-slice_get (drop n s) k (Var k))

value_in_front : (s r : List Term) (k : ℕ) → k < length s → value_of (s ++ r) k ≡ value_of s k
value_in_front s r k lt =
    unwrap_or-slice_get (s ++ r) k (Var k) ∙ get_or_append_left s r (Var k) k lt ∙ sym (unwrap_or-slice_get s k (Var k))

value_itself : (s : List Term) (m k : ℕ) → k < m → value_of (s ++ map Var (range_with_len 0 m)) (length s + k) ≡ Var k
value_itself s m k lt =
    unwrap_or-slice_get (s ++ map Var (range_with_len 0 m)) (length s + k) (Var (length s + k))
    ∙ get_or-append-add s (map Var (range_with_len 0 m)) k (Var (length s + k))
    ∙ get_or-map-range_with_len Var 0 m k k (Var (length s + k)) lt (omega arith)

-- ---- moved up and then substituted

applied_raised : (s : List Term) (n : ℕ) (t : Term) → applied s (raised n t) ≡ substituted (λ k. value_of s (n + k)) t
applied_raised s n t =
    substituted-substituted (value_of s) (higher n) t
    ∙ substituted-same (λ k. substituted (value_of s) (higher n k)) (λ k. value_of s (n + k)) (λ k. substituted-Var (value_of s) (n + k)) t

-- a substitution that covers both premises acts on the second one as its last terms do
pub raised_behind : (s : List Term) (n m : ℕ) (t : Term) → length s ≡ n + m → bound_of t ≤ m → applied s (raised n t) ≡ applied (drop n s) t
raised_behind s n m t long low =
    applied_raised s n t
    ∙ agree_below (λ k. value_of s (n + k)) (value_of (drop n s)) m t (λ k lt. value_behind s n k (omega (arith, long, lt))) low

-- terms for the first premise, and then each variable of the second one as its own value
pub in_front : (s r : List Term) (n : ℕ) (t : Term) → length s ≡ n → bound_of t ≤ n → applied (s ++ r) t ≡ applied s t
in_front s r n t long low =
    agree_below (value_of (s ++ r)) (value_of s) n t (λ k lt. value_in_front s r k (omega (arith, long, lt))) low

pub raised_itself : (s : List Term) (n m : ℕ) (t : Term) → length s ≡ n → bound_of t ≤ m → applied (s ++ map Var (range_with_len 0 m)) (raised n t) ≡ t
raised_itself s n m t long low =
    applied_raised (s ++ map Var (range_with_len 0 m)) n t
    ∙ agree_below (λ k. value_of (s ++ map Var (range_with_len 0 m)) (n + k)) Var m t
    (λ k lt. ap (λ i. value_of (s ++ map Var (range_with_len 0 m)) (i + k)) (sym long) ∙ value_itself s m k lt) low
    ∙ substituted-identity t

-- ---- changes that agree on terms below a bound

module _ (g h : Term → Term) (n : ℕ) (same : (t : Term) → bound_of t ≤ n → g t ≡ h t) where
  pub all_alike : (ts : List Term) → greatest (map bound_of ts) ≤ n → map g ts ≡ map h ts
  all_alike [] low = refl
  all_alike (t ∷ ts) low =
      ap₂ (λ (u : Term) (us : List Term). u ∷ us) (same t (omega (arith, low))) (all_alike ts (omega (arith, low)))

  pub atom_alike : (a : Atom) → greatest (map bound_of (terms_of a)) ≤ n → atom_changed g a ≡ atom_changed h a
  atom_alike Truth low = refl
  atom_alike (Pred p args) low = ap (Pred p) (all_alike args low)
  atom_alike (Equal t u) low = ap₂ Equal (same t (omega (arith, low))) (same u (omega (arith, low)))

  pub literals_alike : (ls : List Literal) → AreBelow n ls → literals_changed g ls ≡ literals_changed h ls
  literals_alike [] low = refl
  literals_alike (l ∷ ls) low =
      let split : greatest (map bound_of (terms_of l.atom ++ clause_terms ls)) ≡ max (greatest (map bound_of (terms_of l.atom))) (greatest (map bound_of (clause_terms ls))) =
      ap greatest (map-append bound_of (terms_of l.atom) (clause_terms ls)) ∙ greatest-append (map bound_of (terms_of l.atom)) (map bound_of (clause_terms ls)) in
      ap₂ (λ (m : Literal) (ms : List Literal). m ∷ ms)
      (ap (signed l.positive) (atom_alike l.atom (omega (arith, split, low))))
      (literals_alike ls (omega (arith, split, low)))

pub twice_atom : (g h : Term → Term) (a : Atom) → atom_changed g (atom_changed h a) ≡ atom_changed (λ t. g (h t)) a
twice_atom g h Truth = refl
twice_atom g h (Pred p args) = ap (Pred p) (twice_map g h args)
twice_atom g h (Equal t u) = refl

-- ---- where there is no subterm, none can be replaced

no_term : (k : ℕ) (path : List ℕ) (new : Term) (a : Atom) (o : Option Term) → option_and_then (subterm path) o ≡ None →
    option_map (λ u. with_term k u a) (option_and_then (replaced path new) o) ≡ None
no_term k path new a None out = refl
no_term k path new a (Some t) out = ap (option_map (λ u. with_term k u a)) (replaced-nowhere path new t out)

pub cannot_replace : (path : List ℕ) (new : Term) (a : Atom) → subterm_at path a ≡ None → replaced_at path new a ≡ None
cannot_replace [] new a out = refl
cannot_replace (k ∷ path) new a out = no_term k path new a (slice_get (terms_of a) k) out
