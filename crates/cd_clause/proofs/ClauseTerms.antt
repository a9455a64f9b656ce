-- The terms of the first literals of a clause.
use Rattle.std.proofs.Common.{◌≡◌, ℕ, ◌+◌, ◌<◌, ◌≤◌, max, List, [], ◌∷◌, ◌++◌, length, get_or, map, take, ap, ◌∙◌, sym, arith}
use Rattle.std.specs.List.{flat_map}
use Rattle.std.proofs.lemmas.List.{take_more, take_all, map-append, append-nil}
use Rattle.std.proofs.lemmas.List.Concat.{flat_map-append}
use Rattle.cd_term.specs.declared.Term.{Term}
use Rattle.cd_term.specs.Terms.{greatest, bound_of, variables_of, firsts_after}
use Rattle.cd_term.proofs.Measures.{greatest-append}
use Rattle.cd_term.proofs.Firsts.{firsts_after-append}
use Rattle.cd_clause.specs.declared.Atom.{Atom}
use Rattle.cd_clause.specs.declared.Atom.TheVariants.{Equal}
use Rattle.cd_clause.specs.declared.Literal.{Literal}
use Rattle.cd_clause.specs.Clauses.{terms_of, clause_terms}

-- one literal more
pub clause_terms_more : (ls : List Literal) (i : ℕ) (d : Literal) → i < length ls →
    clause_terms (take (i + 1) ls) ≡ clause_terms (take i ls) ++ terms_of (get_or ls i d).atom
clause_terms_more ls i d lt =
    ap clause_terms (take_more ls i d lt)
    ∙ flat_map-append (λ l. terms_of l.atom) (take i ls) (get_or ls i d ∷ [])
    ∙ ap (λ ts. clause_terms (take i ls) ++ ts) (append-nil (terms_of (get_or ls i d).atom))

pub bound_more : (ls : List Literal) (i bound n r : ℕ) (l : Literal) → i < length ls → l ≡ get_or ls i l →
    bound ≡ greatest (map bound_of (clause_terms (take i ls))) → n ≡ greatest (map bound_of (terms_of l.atom)) → r ≡ max bound n →
    r ≡ greatest (map bound_of (clause_terms (take (i + 1) ls)))
bound_more ls i bound n r l lt at so_far is most = omega (
  arith,
  so_far,
  is,
  most,
  ap (λ ts. greatest (map bound_of ts)) (clause_terms_more ls i l lt),
  ap (λ m. greatest (map bound_of (terms_of m.atom))) at,
  ap greatest (map-append bound_of (clause_terms (take i ls)) (terms_of (get_or ls i l).atom)),
  greatest-append (map bound_of (clause_terms (take i ls))) (map bound_of (terms_of (get_or ls i l).atom)),
)

pub bound_all : (ls ms : List Literal) (i bound : ℕ) → length ls ≤ i → ls ≡ ms →
    bound ≡ greatest (map bound_of (clause_terms (take i ls))) → bound ≡ greatest (map bound_of (clause_terms ms))
bound_all ls ms i bound le same so_far =
    so_far ∙ ap (λ ks. greatest (map bound_of (clause_terms ks))) (take_all i ls le ∙ same)

-- the variables of the literals
pub order_more : (seen : List ℕ) (ls : List Literal) (i : ℕ) (l : Literal) (ns ms : List ℕ) → i < length ls → l ≡ get_or ls i l →
    ns ≡ firsts_after seen (flat_map variables_of (clause_terms (take i ls))) → ms ≡ firsts_after ns (flat_map variables_of (terms_of l.atom)) →
    ms ≡ firsts_after seen (flat_map variables_of (clause_terms (take (i + 1) ls)))
order_more seen ls i l ns ms lt at so_far next =
    next ∙ ap (λ xs. firsts_after xs (flat_map variables_of (terms_of l.atom))) so_far
    ∙ sym (firsts_after-append seen (flat_map variables_of (clause_terms (take i ls))) (flat_map variables_of (terms_of l.atom)))
    ∙ ap (firsts_after seen) (sym (flat_map-append variables_of (clause_terms (take i ls)) (terms_of l.atom))
    ∙ ap (λ m. flat_map variables_of (clause_terms (take i ls) ++ terms_of m.atom)) at
    ∙ sym (ap (flat_map variables_of) (clause_terms_more ls i l lt)))

pub both_noted : (seen ns ms : List ℕ) (s t : Term) → ns ≡ firsts_after seen (variables_of s) → ms ≡ firsts_after ns (variables_of t) →
    ms ≡ firsts_after seen (variables_of s ++ (variables_of t ++ []))
both_noted seen ns ms s t first second =
    second ∙ ap (λ xs. firsts_after xs (variables_of t)) first ∙ sym (firsts_after-append seen (variables_of s) (variables_of t))
    ∙ ap (λ xs. firsts_after seen (variables_of s ++ xs)) (sym (append-nil (variables_of t)))

pub equation_noted : (seen ns ms : List ℕ) (a : Atom) (s t : Term) → a ≡ Equal s t → ns ≡ firsts_after seen (variables_of s) →
    ms ≡ firsts_after ns (variables_of t) → ms ≡ firsts_after seen (flat_map variables_of (terms_of a))
equation_noted seen ns ms a s t is first second =
    both_noted seen ns ms s t first second ∙ sym (ap (λ b. firsts_after seen (flat_map variables_of (terms_of b))) is)
