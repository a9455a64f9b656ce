-- A tidy form subsumes its clause: its literals pick what is kept of the clause, by the renaming back.
use Rattle.std.proofs.Common.{◌≡◌, ℕ, zero, suc, ◌+◌, ◌<◌, ◌≤◌, false, inl, inr, List, [], ◌∷◌, ◌++◌, length, map, ap, subst, refl, sym, ◌∙◌, arith, append_assoc, length-append, Some, slice_get}
use Rattle.std.proofs.lemmas.List.{length-map}
use Rattle.std.proofs.lemmas.Option.{same_Some}
use Rattle.cd_term.specs.declared.Term.{Term}
use Rattle.cd_term.specs.Terms.{substituted, order_of, ranked, unranked}
use Rattle.cd_term.proofs.TermInduction.{Each}
use Rattle.cd_term.proofs.VariableLaws.{renumbered-back}
use Rattle.cd_clause.specs.declared.Atom.{Atom}
use Rattle.cd_clause.specs.declared.Atom.TheVariants.{Truth, Pred, Equal as Equation}
use Rattle.cd_clause.specs.declared.Literal.{Literal}
use Rattle.cd_clause.specs.declared.Clause.{Clause}
use Rattle.cd_clause.specs.Clauses.{terms_of, clause_terms, atom_changed, literal_changed, AreKept, IsTidied}
use Rattle.cd_subsume.specs.declared.picks.Pick.{Pick}
use Rattle.cd_subsume.specs.Subsumption.{IsTurned, IsPicked, ArePicked, Subsumes}
use Rattle.cd_subsume.proofs.Items.{get_within, get_some, get_middle}

-- the places of what is kept of a list
pub record Places (whole : List Literal) (from : ℕ) (kept : List Literal) : Type 0 where
  pub picks : List Pick
  pub as_many : length picks ≡ length kept
  pub each : (i : ℕ) (l : Literal) (p : Pick) → slice_get kept i ≡ Some l → slice_get picks i ≡ Some p →
      (slice_get whole p.place ≡ Some l) × (p.is_exchanged ≡ false) × (from ≤ p.place)
  pub apart : (i j : ℕ) (p q : Pick) → i < j → slice_get picks i ≡ Some p → slice_get picks j ≡ Some q → p.place < q.place

no_places : (whole : List Literal) (from : ℕ) → Places whole from []
no_places whole from = record {
  picks = [];
  as_many = refl;
  each = λ i l p li pi. absurd (cc);
  apart = λ i j p q lt pi qj. absurd (cc);
}

later : (whole : List Literal) (from more : ℕ) (kept : List Literal) → from ≤ more → Places whole more kept → Places whole from kept
later whole from more kept le ps = record {
  picks = ps.picks;
  as_many = ps.as_many;
  each = λ i l p li pi. let e = ps.each i l p li pi in (e.0, e.1, omega (arith, le, e.2));
  apart = ps.apart;
}

first_place : (whole : List Literal) (from : ℕ) (l : Literal) (kept : List Literal) → slice_get whole from ≡ Some l → Places whole (from + 1) kept → Places whole from (l ∷ kept)
first_place whole from l kept at ps = record {
  picks = record { place = from; is_exchanged = false } ∷ ps.picks;
  as_many = omega (arith, ps.as_many);
  each = λ i k p ki pi. each i k p ki pi;
  apart = λ i j p q lt pi qj. apart i j p q lt pi qj;
}
  where
    each : (i : ℕ) (k : Literal) (p : Pick) → slice_get (l ∷ kept) i ≡ Some k → slice_get (record { place = from; is_exchanged = false } ∷ ps.picks) i ≡ Some p →
        (slice_get whole p.place ≡ Some k) × (p.is_exchanged ≡ false) × (from ≤ p.place)
    each zero k p ki pi =
        let one = same_Some l k ki in let two = same_Some (record { place = from; is_exchanged = false }) p pi in
        subst (λ (q : Pick). (slice_get whole q.place ≡ Some k) × (q.is_exchanged ≡ false) × (from ≤ q.place)) two (at ∙ ap Some one, refl, omega arith)
    each (suc i) k p ki pi = let e = ps.each i k p ki pi in (e.0, e.1, omega (arith, e.2))

    apart : (i j : ℕ) (p q : Pick) → i < j → slice_get (record { place = from; is_exchanged = false } ∷ ps.picks) i ≡ Some p →
        slice_get (record { place = from; is_exchanged = false } ∷ ps.picks) j ≡ Some q → p.place < q.place
    apart i zero p q lt pi qj = absurd (omega (arith, lt))
    apart zero (suc j) p q lt pi qj =
        let k = get_some kept j (omega (arith, get_within ps.picks j q qj, ps.as_many)) in
        let e = ps.each j k.0 q k.1 qj in
        let two = ap (λ (x : Pick). x.place) (same_Some (record { place = from; is_exchanged = false }) p pi) in
        omega (arith, e.2, two)
    apart (suc i) (suc j) p q lt pi qj = ps.apart i j p q (omega (arith, lt)) pi qj

kept_places : (whole earlier ls kept : List Literal) → whole ≡ earlier ++ ls → AreKept earlier ls kept → Places whole (length earlier) kept
kept_places whole earlier [] kept is are = subst (Places whole (length earlier)) (sym are) (no_places whole (length earlier))
kept_places whole earlier (l ∷ ls) kept is (inl out) =
    later whole (length earlier) (length (earlier ++ l ∷ [])) kept (omega (arith, length-append earlier (l ∷ [])))
    (kept_places whole (earlier ++ l ∷ []) ls kept (is ∙ sym (append_assoc earlier (l ∷ []) ls)) out.1)
kept_places whole earlier (l ∷ ls) kept is (inr some) =
    subst (Places whole (length earlier)) (sym some.1.1)
    (first_place whole (length earlier) l some.1.0 (ap (λ ys. slice_get ys (length earlier)) is ∙ get_middle earlier l ls)
    (subst (λ n. Places whole n some.1.0) (length-append earlier (l ∷ []))
    (kept_places whole (earlier ++ l ∷ []) ls some.1.0 (is ∙ sym (append_assoc earlier (l ∷ []) ls)) some.1.2)))

-- the renaming back
each_same : (f : Term → Term) (ts : List Term) → map f ts ≡ ts → Each (λ t. f t ≡ t) ts
each_same f [] e = tt
each_same f (t ∷ ts) e = let here : f t ≡ t = cc in let rest : map f ts ≡ ts = cc in (here, each_same f ts rest)

same_map : (f : Term → Term) (ts : List Term) → Each (λ t. f t ≡ t) ts → map f ts ≡ ts
same_map f [] e = refl
same_map f (t ∷ ts) e = let here = e.0 in let rest = same_map f ts e.1 in cc

each_front : (P : Term → Type 0) (ts us : List Term) → Each P (ts ++ us) → Each P ts
each_front P [] us e = tt
each_front P (t ∷ ts) us e = (e.0, each_front P ts us e.1)

each_back : (P : Term → Type 0) (ts us : List Term) → Each P (ts ++ us) → Each P us
each_back P [] us e = e
each_back P (t ∷ ts) us e = each_back P ts us e.1

map_twice : (f h : Term → Term) (ts : List Term) → map f (map h ts) ≡ map (λ t. f (h t)) ts
map_twice f h [] = refl
map_twice f h (t ∷ ts) = ap (λ us. f (h t) ∷ us) (map_twice f h ts)

atom_back : (f h : Term → Term) (a : Atom) → Each (λ t. f (h t) ≡ t) (terms_of a) → atom_changed f (atom_changed h a) ≡ a
atom_back f h Truth e = refl
atom_back f h (Pred p args) e = ap (Pred p) (map_twice f h args ∙ same_map (λ t. f (h t)) args e)
atom_back f h (Equation s t) e = let one = e.0 in let two = e.1.0 in ap (λ x. Equation x (f (h t))) one ∙ ap (Equation s) two

literal_terms : (P : Term → Type 0) (ls : List Literal) (i : ℕ) (l : Literal) → Each P (clause_terms ls) → slice_get ls i ≡ Some l → Each P (terms_of l.atom)
literal_terms P [] i l e at = absurd (cc)
literal_terms P (k ∷ ls) zero l e at =
    subst (λ (m : Literal). Each P (terms_of m.atom)) (same_Some k l at) (each_front P (terms_of k.atom) (clause_terms ls) e)
literal_terms P (k ∷ ls) (suc i) l e at = literal_terms P ls i l (each_back P (terms_of k.atom) (clause_terms ls) e) at

get_mapped : (f : Literal → Literal) (ls : List Literal) (i : ℕ) (m : Literal) → slice_get (map f ls) i ≡ Some m → (l : Literal) × (slice_get ls i ≡ Some l) × (f l ≡ m)
get_mapped f [] i m e = absurd (cc)
get_mapped f (l ∷ ls) zero m e = (l, refl, same_Some (f l) m e)
get_mapped f (l ∷ ls) (suc i) m e = get_mapped f ls i m e

there_and_back : (kept : List Literal) → let order = order_of (clause_terms kept) in
    Each (λ t. substituted (unranked order) (substituted (ranked order) t) ≡ t) (clause_terms kept)
there_and_back kept =
    let order = order_of (clause_terms kept) in
    each_same (λ t. substituted (unranked order) (substituted (ranked order) t)) (clause_terms kept)
    (sym (map_twice (substituted (unranked order)) (substituted (ranked order)) (clause_terms kept)) ∙ renumbered-back (clause_terms kept))

picked_at : (whole kept : List Literal) (p : Pick) (i : ℕ) (l m : Literal) → slice_get kept i ≡ Some l →
    literal_changed (substituted (ranked (order_of (clause_terms kept)))) l ≡ m → slice_get whole p.place ≡ Some l → p.is_exchanged ≡ false →
    IsPicked (unranked (order_of (clause_terms kept))) m whole p
picked_at whole kept p i l m at is place straight =
    let order = order_of (clause_terms kept) in record {
      literal = l;
      place = place;
      sign = ap (λ (k : Literal). k.positive) (sym is);
      atom = subst (λ b. IsTurned b (atom_changed (substituted (unranked order)) m.atom) l.atom) (sym straight)
          (ap (λ (k : Literal). atom_changed (substituted (unranked order)) k.atom) (sym is)
          ∙ atom_back (substituted (unranked order)) (substituted (ranked order)) l.atom
          (literal_terms (λ t. substituted (unranked order) (substituted (ranked order) t) ≡ t) kept i l (there_and_back kept) at));
    }

-- a tidy form subsumes its clause
pub tidy_subsumes : (c d : Clause) → IsTidied c d → Subsumes d c
tidy_subsumes c d tidied =
    let kept = tidied.0 in
    let ps = kept_places c.literals [] c.literals kept refl tidied.1 in (
      unranked (order_of (clause_terms kept)),
      (
        ps.picks,
        subst (λ ls. ArePicked (unranked (order_of (clause_terms kept))) ls c.literals ps.picks) (sym tidied.2) (record {
          as_many = ps.as_many ∙ sym (length-map kept (literal_changed (substituted (ranked (order_of (clause_terms kept))))));
          each = λ i m p mi pi.
              let l = get_mapped (literal_changed (substituted (ranked (order_of (clause_terms kept))))) kept i m mi in
              let e = ps.each i l.0 p l.1 pi in
              picked_at c.literals kept p i l.0 m l.1 l.2 e.0 e.1;
          distinct = λ i j p q lt pi qj same. omega (arith, ps.apart i j p q lt pi qj, same);
        }),
      ),
    )
