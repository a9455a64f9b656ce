-- Keys and contraction.
use Rattle.std.proofs.Common.{◌≡◌, ◌≤◌, ◌⊎◌, inl, inr, ℕ, List, Some, None, Option, refl, ap, sym, ◌∙◌, arith}
use Rattle.std.specs.Cmp.{nat_cmp_is}
use Rattle.std.proofs.lemmas.Bool.{cases_lt}
use Rattle.std.specs.Ordering.{nat_cmp, ordering_then}
use Rattle.std.specs.declared.cmp.Ordering.{Ordering}
use Rattle.std.specs.declared.cmp.Ordering.TheVariants.{Less, Equal, Greater}
use Rattle.std.proofs.lemmas.Cmp.{tied_itself}
use Rattle.cd_term.specs.declared.Term.{Term}
use Rattle.cd_clause.specs.declared.Clause.{Clause}
use Rattle.cd_clause.specs.Truth.{Interp, IsInterp, Holds}
use Rattle.cd_clause.proofs.TidyLemmas as clauses
use Rattle.cd_names.specs.declared.names.Name.{Name}
use Rattle.cd_kbo.specs.declared.order.Order.{Order}
use Rattle.cd_key.specs.Keys.{key_of, key_compare, forms_compare}
use Rattle.cd_key.specs.Repeats.{repeats_of}
use Rattle.cd_key.proofs.FormLemmas.{key_order}
use Rattle.cd_subsume.proofs.Sound.{subsumes_holds}
use Rattle.cd_contract.proofs.Repeating.{subsumer_keys}
use Rattle.cd_contract.proofs.ReductKeys.{reducts_have_smaller_keys}
use Rattle.cd_machine.specs.Rules.{IsTautology, IsTidied, Subsumes, ReductAt, KeyLess}

pub key_trans : (order : Order) (a b c : Clause) (l m n : Option Name) → KeyLess order a l b m → KeyLess order b m c n → KeyLess order a l c n
unfolding KeyLess
key_trans order a b c l m n x y = (key_order order).transitive (key_of a l) (key_of b m) (key_of c n) x y

pub key_irrefl : (order : Order) (c : Clause) (n : Option Name) → KeyLess order c n c n → ⊥
unfolding KeyLess
key_irrefl order c n e = (key_order order).irreflexive (key_of c n) e

-- an answer is Less, or isn't
is_less : (x : Ordering) → (x ≡ Less) ⊎ (x ≡ Less → ⊥)
is_less Less = inl refl
is_less Equal = inr (λ e. cc)
is_less Greater = inr (λ e. cc)

pub key_decides : (order : Order) (d c : Clause) (m n : Option Name) → KeyLess order d m c n ⊎ (KeyLess order d m c n → ⊥)
unfolding KeyLess
key_decides order d c m n = is_less (key_compare order (key_of d m) (key_of c n))

-- three answers in turn, of which the third is Less
in_turn : (x y : Ordering) → x ≡ Equal → (y ≡ Less) ⊎ (y ≡ Equal) → ordering_then x (ordering_then y Less) ≡ Less
in_turn x y e (inl f) = ap (λ z. ordering_then z (ordering_then y Less)) e ∙ ap (λ z. ordering_then z Less) f
in_turn x y e (inr f) = ap (λ z. ordering_then z (ordering_then y Less)) e ∙ ap (λ z. ordering_then z Less) f

at_most : (m n : ℕ) → m ≤ n → (nat_cmp m n ≡ Less) ⊎ (nat_cmp m n ≡ Equal)
at_most m n le = elim (cases_lt m n) [
  | inl lt ↦ inl (sym (nat_cmp_is m n Less lt))
  | inr same ↦ inr (sym (nat_cmp_is m n Equal (let e : m ≡ n = omega (arith, le, same) in e)))
]

below_unnamed : (order : Order) (d c : Clause) (n : Name) → (forms_compare order d c ≡ Less) ⊎ ((forms_compare order d c ≡ Equal) × (repeats_of d.literals ≤ repeats_of c.literals)) →
    KeyLess order d (Some n) c None
unfolding KeyLess
below_unnamed order d c n (inl less) = ap (λ x. ordering_then x (ordering_then (nat_cmp (repeats_of d.literals) (repeats_of c.literals)) Less)) less
below_unnamed order d c n (inr same) = in_turn (forms_compare order d c) (nat_cmp (repeats_of d.literals) (repeats_of c.literals)) same.0 (at_most (repeats_of d.literals) (repeats_of c.literals) same.1)

-- the forms of one clause are equal, since its key isn't below itself
forms_same : (order : Order) (c : Clause) → forms_compare order c c ≡ Equal
forms_same order c = go (forms_compare order c c) (tied_itself (key_order order).total (key_of c None))
  where
    go : (x : Ordering) → ordering_then x (ordering_then (nat_cmp (repeats_of c.literals) (repeats_of c.literals)) Equal) ≡ Equal → x ≡ Equal
    go Less e = cc
    go Equal e = refl
    go Greater e = cc

pub key_unnamed : (order : Order) (c : Clause) (n : Name) → KeyLess order c (Some n) c None
key_unnamed order c n = below_unnamed order c c n (inr (forms_same order c, omega arith))

pub subsumer_below : (order : Order) (d c : Clause) (n : Name) → Subsumes d c → KeyLess order d (Some n) c None
unfolding Subsumes
subsumer_below order d c n by = below_unnamed order d c n (subsumer_keys order d c by)

pub reduct_falls : (order : Order) (e c : Clause) (s j : ℕ) (path : List ℕ) (t : List Term) (d x : Clause) → ReductAt order e c s j path t d → IsTidied d x → (m n : Option Name) → KeyLess order x m c n
unfolding KeyLess ReductAt IsTidied
reduct_falls order e c s j path t d x r tidied m n = reducts_have_smaller_keys order e c d x (record { literal = j; path = path; side = s }) t m n r (inr tidied)

pub subsumed_holds : (interp : Interp) → IsInterp interp → (d c : Clause) → Subsumes d c → Holds interp d → Holds interp c
unfolding Subsumes
subsumed_holds interp is d c by h = subsumes_holds interp d c is by h

pub tautology_holds : (interp : Interp) (c : Clause) → IsTautology c → Holds interp c
unfolding IsTautology
tautology_holds interp c t = clauses.tautology_holds interp c t
