-- The renaming in the order of first occurrence, and its inverse.
use Rattle.std.proofs.Common.{◌≡◌, ℕ, ◌+◌, ◌<◌, ◌≤◌, max, true, ◌||◌, inl, inr, List, [], ◌∷◌, map, get_or, nat_eq, ap, subst, sym, ◌∙◌, refl, arith, length}
use Rattle.std.specs.List.{list_any, flat_map}
use Rattle.std.proofs.lemmas.Bool.{or_left, or_right, or_cases}
use Rattle.std.proofs.lemmas.List.Folds.{list_any-append}
use Rattle.cd_list.proofs.Numbers.{equal_itself, below_next}
use Rattle.cd_term.specs.declared.Term.{Term}
use Rattle.cd_term.specs.Terms.{greatest, bound_of, variables_of, occurs, substituted, IsNumberedFrom, order_of, rank, ranked, unranked, renumbered}
use Rattle.cd_term.proofs.Firsts.{rank_known}
use Rattle.cd_term.proofs.VariableLaws.{known, occurs-variables, firsts_known, renumbered-numbered, renumbered-bound, renumbered-places}
use Rattle.cd_term.proofs.NumberingLemmas.{variables_bound}
use Rattle.cd_term.proofs.Occurrence.{occurs_below}
use Rattle.cd_clause.specs.declared.Literal.{Literal}
use Rattle.cd_clause.specs.declared.Clause.{Clause}
use Rattle.cd_clause.specs.Clauses.{clause_terms, variable_bound_of, literals_changed, renumbered_literals}
use Rattle.cd_clause.specs.Laws.{OccursIn, AreVariants, RenumberingIsOneToOne}
use Rattle.cd_clause.proofs.TidyLemmas.{clause_of, renumbered_literals-back}
use Rattle.cd_clause.proofs.TidiedLemmas.{changed_terms}

-- a variable occurs in one of some terms where it is among their variables
occurs_known : (k : ℕ) (ts : List Term) → list_any (occurs k) ts ≡ known k (flat_map variables_of ts)
occurs_known k [] = refl
occurs_known k (t ∷ ts) =
    ap (λ b. b || list_any (occurs k) ts) (occurs-variables t k)
    ∙ ap (λ b. known k (variables_of t) || b) (occurs_known k ts)
    ∙ sym (list_any-append (λ y. nat_eq y k) (variables_of t) (flat_map variables_of ts))

among_below : (k : ℕ) (ts : List Term) → list_any (occurs k) ts ≡ true → k < greatest (map bound_of ts)
among_below k [] o = absurd (cc)
among_below k (t ∷ ts) o = elim (or_cases (occurs k t) (list_any (occurs k) ts) o) [
  | inl here ↦ omega (arith, occurs_below k t here)
  | inr there ↦ omega (arith, among_below k ts there)
]

-- numbers in the order of first occurrence leave none out
numbered_known : (a : ℕ) (ms : List ℕ) → IsNumberedFrom a ms → (n : ℕ) → a ≤ n → n < greatest (map (λ m. m + 1) ms) → known n ms ≡ true
numbered_known a [] numbered n le lt = absurd (omega (arith, lt))
numbered_known a (m ∷ ms) numbered n le lt = elim (below_next m n (omega (arith, le, numbered.0))) [
  | inl before ↦ or_right (nat_eq m n) (known n ms) (numbered_known (max a (m + 1)) ms numbered.1 n (omega (arith, le, before)) (omega (arith, lt, before)))
  | inr here ↦ or_left (nat_eq m n) (known n ms) (ap (λ x. nat_eq x n) here ∙ equal_itself n)
]

-- the terms of the renumbered literals
terms_are : (ls ms : List Literal) → ms ≡ renumbered_literals ls → clause_terms ms ≡ renumbered (clause_terms ls)
terms_are ls ms is = ap clause_terms is ∙ changed_terms (substituted (ranked (order_of (clause_terms ls)))) ls

pub renumbered_in_order : (c d : Clause) → d.literals ≡ renumbered_literals c.literals →
    IsNumberedFrom 0 (flat_map variables_of (clause_terms d.literals))
renumbered_in_order c d is = subst (λ ts. IsNumberedFrom 0 (flat_map variables_of ts)) (sym (terms_are c.literals d.literals is))
    (renumbered-numbered (clause_terms c.literals))

below_order : (c d : Clause) (n : ℕ) → d.literals ≡ renumbered_literals c.literals → OccursIn n d → n < length (order_of (clause_terms c.literals))
below_order c d n is o = omega (
  arith,
  among_below n (clause_terms d.literals) o,
  ap (λ ts. greatest (map bound_of ts)) (terms_are c.literals d.literals is),
  renumbered-bound (clause_terms c.literals),
)

-- the renaming to places, and the one back
variants : (c d : Clause) → d.literals ≡ renumbered_literals c.literals →
    AreVariants c d (rank (order_of (clause_terms c.literals))) (λ n. get_or (order_of (clause_terms c.literals)) n 0)
variants c d is =
    let ts : List Term = clause_terms c.literals in
    record {
      renamed = ap clause_of (sym is);
      renamed_back = ap (λ ls. clause_of (literals_changed (substituted (unranked (order_of ts))) ls)) is ∙ ap clause_of (renumbered_literals-back c.literals);
      undone = λ k o. (rank_known (order_of ts) [] k (firsts_known k [] (flat_map variables_of ts) (sym (occurs_known k ts) ∙ o))).2;
      redone = λ n o. renumbered-places ts n (below_order c d n is o);
    }

all_occur : (c d : Clause) (n : ℕ) → d.literals ≡ renumbered_literals c.literals → n < variable_bound_of d → OccursIn n d
all_occur c d n is lt =
    let ts : List Term = clause_terms d.literals in
    occurs_known n ts ∙ numbered_known 0 (flat_map variables_of ts) (renumbered_in_order c d is) n (omega arith) (omega (arith, lt, variables_bound ts))

pub renumbering_one_to_one : RenumberingIsOneToOne
renumbering_one_to_one c d is = (
  (rank (order_of (clause_terms c.literals)), (λ n. get_or (order_of (clause_terms c.literals)) n 0), variants c d is),
  (λ n. ((λ o. among_below n (clause_terms d.literals) o), (λ lt. all_occur c d n is lt))),
)
