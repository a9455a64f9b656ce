-- Reducts are steps, and those of an equation and a clause that are tidy, within bounds and over some symbols are so.
use Rattle.std.proofs.Common.{◌≡◌, ◌⊎◌, inl, inr, ℕ, zero, suc, ◌<◌, ◌≤◌, max, true, false, nat_eq, List, [], ◌∷◌, ◌++◌, length, map, sum_by, Some, slice_get, refl, ap, sym, ◌∙◌, subst, arith, length-append}
use Rattle.std.specs.Prelude.{unwrap_or}
use Rattle.std.specs.List.{flat_map}
use Rattle.std.proofs.lemmas.Grind.{flat_map-append}
use Rattle.std.proofs.lemmas.Bool.{or_cases}
use Rattle.std.proofs.lemmas.Option.{same_Some}
use Rattle.std.proofs.lemmas.List.Folds.{list_any-append}
use Rattle.std.proofs.lemmas.List.Sums.{sum_by-cons}
use Rattle.cd_list.proofs.Lists.{all_get, all_set}
use Rattle.cd_term.specs.declared.Term.{Term}
use Rattle.cd_term.specs.declared.Term.TheVariants.{Var}
use Rattle.cd_term.specs.Terms.{greatest, size_of, depth_of, bound_of, variables_of, occurs, substituted, value_of, applied, order_of, ranked, renumbered, IsNumberedFrom}
use Rattle.cd_term.specs.Symbols.{Symbols, is_over}
use Rattle.cd_term.proofs.VariableLaws.{known, occurs-variables, renumbered-numbered}
use Rattle.cd_term.proofs.NumberingLemmas.{variables_bound}
use Rattle.cd_term.proofs.NumberedSizes.{all_variables_le, numbered_bound}
use Rattle.cd_term.proofs.OverLemmas.{instance_over, value_over}
use Rattle.cd_clause.specs.declared.Atom.{Atom}
use Rattle.cd_clause.specs.declared.Atom.TheVariants.{Truth, Pred, Equal}
use Rattle.cd_clause.specs.declared.Literal.{Literal}
use Rattle.cd_clause.specs.declared.Clause.{Clause}
use Rattle.cd_clause.specs.Clauses.{terms_of, clause_terms, literal_size, literal_depth, atom_depth, variable_bound_of, IsTidied}
use Rattle.cd_clause.specs.Over.{AtomOver, LiteralsOver}
use Rattle.cd_clause.specs.Places.{signed, HasSides, subterm_at, replaced_at}
use Rattle.cd_clause.proofs.TidiedLemmas.{changed_terms}
use Rattle.cd_clause.proofs.PlaceLemmas.{stands_in}
use Rattle.cd_clause.proofs.OverLemmas.{place_over, atom_replaced_over, sides_over}
use Rattle.cd_kbo.specs.declared.order.Order.{Order}
use Rattle.cd_rewrite.specs.Reduction.{IsRule, HasVariablesOf, Spot, IsReduct}
use Rattle.cd_rewrite.specs.Laws.{TidySubstitutionsAgree, ReductsAreSteps, IsFit, AreFit, ReductsAreFit}
use Rattle.cd_rewrite.proofs.Turns.{agreement}
use Rattle.cd_rewrite.proofs.Agree.{rule_agree, old_agrees, places_agree}
use Rattle.cd_rewrite.proofs.Matched.{Grows, size_grows, depth_grows, bound_grows, greatest_at, subterm_le, match_size, match_measure, match_over, numbered_known}

-- ---- each variable of a tidy equation stands in the side that has those of the other one

numbered_terms : (e : Clause) → IsTidied e e → IsNumberedFrom 0 (flat_map variables_of (clause_terms e.literals))
numbered_terms e t =
    let ts = clause_terms t.0 in
    let terms : clause_terms e.literals ≡ renumbered ts = ap clause_terms t.2 ∙ changed_terms (substituted (ranked (order_of ts))) t.0 in
    subst (λ us. IsNumberedFrom 0 (flat_map variables_of us)) (sym terms) (renumbered-numbered ts)

in_either : (k : ℕ) (s t : Term) → known k (flat_map variables_of (s ∷ t ∷ [])) ≡ true → (occurs k s ≡ true) ⊎ (occurs k t ≡ true)
in_either k s t e =
    elim (or_cases (known k (variables_of s)) (known k (variables_of t ++ [])) (sym (list_any-append (λ y. nat_eq y k) (variables_of s) (variables_of t ++ [])) ∙ e)) [
      | inl here ↦ inl (occurs-variables s k ∙ here)
      | inr there ↦ elim (or_cases (known k (variables_of t)) false (sym (list_any-append (λ y. nat_eq y k) (variables_of t) []) ∙ there)) [
        | inl at ↦ inr (occurs-variables t k ∙ at)
        | inr never ↦ absurd (cc)
      ]
    ]

in_sides : (side : ℕ) (a : Atom) (from to : Term) (k : ℕ) → HasSides side a from to → HasVariablesOf from to →
    known k (flat_map variables_of (clause_terms (signed true a ∷ []))) ≡ true → occurs k from ≡ true
in_sides zero a from to k is covers there =
    elim (in_either k from to (ap (λ b. known k (flat_map variables_of (clause_terms (signed true b ∷ [])))) (sym is) ∙ there)) [
      | inl here ↦ here
      | inr other ↦ covers k other
    ]
in_sides (suc zero) a from to k is covers there =
    elim (in_either k to from (ap (λ b. known k (flat_map variables_of (clause_terms (signed true b ∷ [])))) (sym is) ∙ there)) [
      | inl other ↦ covers k other
      | inr here ↦ here
    ]
in_sides (suc (suc n)) a from to k is covers there = absurd is

side_has_all : (e : Clause) (side : ℕ) (from to : Term) → IsRule e side from to → HasVariablesOf from to → IsTidied e e → (k : ℕ) → k < variable_bound_of e → occurs k from ≡ true
side_has_all e side from to rule covers tidy k lt =
    let there : known k (flat_map variables_of (clause_terms e.literals)) ≡ true
    = numbered_known 0 k (flat_map variables_of (clause_terms e.literals)) (numbered_terms e tidy) (omega arith) (omega (arith, lt, variables_bound (clause_terms e.literals))) in
    in_sides side rule.equation from to k rule.sides covers (ap (λ ls. known k (flat_map variables_of (clause_terms ls))) (sym rule.one) ∙ there)

-- ---- by a tidy equation there is at most one substitution

values_same : (g h : ℕ → Term) (s u : List Term) → length s ≡ length u → ((k : ℕ) → k < length s → unwrap_or (slice_get s k) (g k) ≡ unwrap_or (slice_get u k) (h k)) → s ≡ u
values_same g h [] [] l f = refl
values_same g h [] (y ∷ u) l f = absurd (omega (arith, l))
values_same g h (x ∷ s) [] l f = absurd (omega (arith, l))
values_same g h (x ∷ s) (y ∷ u) l f =
    let one : x ≡ y = f 0 (omega arith) in
    ap (λ z. z ∷ s) one ∙ ap (λ zs. y ∷ zs) (values_same (λ k. g (suc k)) (λ k. h (suc k)) s u (omega (arith, l)) (λ k lt. f (suc k) (omega (arith, lt))))

subst_once : (o : Order) (e c d r : Clause) (at : Spot) (s u : List Term) → IsTidied e e → IsReduct o e c at s d → IsReduct o e c at u r → s ≡ u
subst_once o e c d r at s u tidy a b =
    let from : a.by.lowers.from ≡ b.by.lowers.from
    = (rule_agree e at.side a.by.lowers.from a.by.lowers.to b.by.lowers.from b.by.lowers.to a.by.lowers.rule b.by.lowers.rule).0 in
    let same : substituted (value_of s) a.by.lowers.from ≡ substituted (value_of u) a.by.lowers.from
    = a.by.lowers.matched ∙ old_agrees o e c d r at s u a b ∙ sym b.by.lowers.matched ∙ ap (substituted (value_of u)) (sym from) in
    values_same Var Var s u (a.covers ∙ sym b.covers)
    (λ k lt. (agreement (value_of s) (value_of u) a.by.lowers.from).1 same k
    (side_has_all e at.side a.by.lowers.from a.by.lowers.to a.by.lowers.rule a.by.lowers.covered tidy k (omega (arith, lt, a.covers))))

pub tidy_substitutions_agree : TidySubstitutionsAgree
tidy_substitutions_agree o e c d r x y s u tidy a b =
    let same : x ≡ y = places_agree o e c d r x y s u a b in
    subst_once o e c d r x s u tidy a (subst (λ z. IsReduct o e c z u r) (sym same) b)

-- ---- reducts are steps

pub reducts_are_steps : ReductsAreSteps
reducts_are_steps o e c d at s r = record {
  from = r.by.lowers.from;
  to = r.by.lowers.to;
  rule = r.by.lowers.rule;
  taker = r.by.taker;
  changed = r.changed;
  literal = r.by.literal;
  there = r.by.there ∙ ap Some (sym r.by.lowers.matched);
  becomes = ap (λ t. replaced_at at.path t r.by.taker.atom) r.by.lowers.result ∙ r.becomes;
  rest = r.rest;
}

-- ---- measures of a term at a place of a clause

atom_measure : (m : Term → ℕ) → Grows m → (path : List ℕ) (a : Atom) (u : Term) → subterm_at path a ≡ Some u → m u ≤ greatest (map m (terms_of a))
atom_measure m grows [] a u e = absurd (cc)
atom_measure m grows (k ∷ path) a u e =
    let s = stands_in k path a u e in omega (arith, subterm_le m grows path s.term u s.rest, greatest_at m (terms_of a) k s.term s.here)

greatest_parts : (m : Term → ℕ) (xs ys : List Term) → greatest (map m (xs ++ ys)) ≡ max (greatest (map m xs)) (greatest (map m ys))
greatest_parts m [] ys = omega arith
greatest_parts m (x ∷ xs) ys = (let rest = greatest_parts m xs ys in omega (arith, rest))

terms_among : (m : Term → ℕ) (ls : List Literal) (j : ℕ) (l : Literal) → slice_get ls j ≡ Some l → greatest (map m (terms_of l.atom)) ≤ greatest (map m (clause_terms ls))
terms_among m [] j l e = absurd (cc)
terms_among m (k ∷ ls) zero l e =
    let more = greatest_parts m (terms_of k.atom) (clause_terms ls) in
    omega (arith, more, ap (λ (x : Literal). greatest (map m (terms_of x.atom))) (same_Some k l e))
terms_among m (k ∷ ls) (suc j) l e =
    let more = greatest_parts m (terms_of k.atom) (clause_terms ls) in omega (arith, more, terms_among m ls j l e)

-- and so none of a term at a place of a clause
pub clause_measure : (m : Term → ℕ) → Grows m → (ls : List Literal) (j : ℕ) (l : Literal) (path : List ℕ) (u : Term) → slice_get ls j ≡ Some l →
    subterm_at path l.atom ≡ Some u → m u ≤ greatest (map m (clause_terms ls))
clause_measure m grows ls j l path u at there = omega (arith, atom_measure m grows path l.atom u there, terms_among m ls j l at)

pub record InClause (ls : List Literal) (l : Literal) : Type 0 where
  pub size : literal_size l ≤ sum_by literal_size ls
  pub depth : literal_depth l ≤ greatest (map literal_depth ls)

in_clause : (ls : List Literal) (j : ℕ) (l : Literal) → slice_get ls j ≡ Some l → InClause ls l
in_clause [] j l e = absurd (cc)
in_clause (m ∷ ls) zero l e =
    let is = same_Some m l e in
    record { size = omega (arith, ap literal_size is, sum_by-cons literal_size m ls); depth = omega (arith, ap literal_depth is) }
in_clause (m ∷ ls) (suc j) l e =
    let rest = in_clause ls j l e in
    record { size = omega (arith, rest.size, sum_by-cons literal_size m ls); depth = omega (arith, rest.depth) }

deep_terms : (a : Atom) → greatest (map depth_of (terms_of a)) ≤ atom_depth a
deep_terms Truth = omega arith
deep_terms (Pred p args) = omega arith
deep_terms (Equal s t) = omega arith

large_terms : (ts : List Term) → greatest (map size_of ts) ≤ sum_by size_of ts
large_terms [] = omega arith
large_terms (t ∷ ts) = omega (arith, large_terms ts, sum_by-cons size_of t ts)

-- a tidy clause has no more variables than its size
variables_among : (ls : List Literal) → length (flat_map variables_of (clause_terms ls)) ≤ sum_by literal_size ls
variables_among [] = omega arith
variables_among (l ∷ ls) =
    omega (
      arith,
      all_variables_le (terms_of l.atom),
      variables_among ls,
      sum_by-cons literal_size l ls,
      ap length (flat_map-append variables_of (terms_of l.atom) (clause_terms ls)),
      length-append (flat_map variables_of (terms_of l.atom)) (flat_map variables_of (clause_terms ls)),
    )

few_variables : (c : Clause) → IsTidied c c → variable_bound_of c ≤ sum_by literal_size c.literals
few_variables c tidy =
    omega (
      arith,
      variables_bound (clause_terms c.literals),
      numbered_bound 0 (flat_map variables_of (clause_terms c.literals)) (numbered_terms c tidy),
      variables_among c.literals,
    )

-- ---- the substitution and the reduct

module _ (o : Order) (y : Symbols) (e c d : Clause) (at : Spot) (s : List Term) (equation : IsFit y e) (clause : IsFit y c) (r : IsReduct o e c at s d) where
  from_there : subterm_at at.path r.by.taker.atom ≡ Some (applied s r.by.lowers.from)
  from_there = r.by.there ∙ ap Some (sym r.by.lowers.matched)

  all_occur : (k : ℕ) → k < length s → occurs k r.by.lowers.from ≡ true
  all_occur k lt = side_has_all e at.side r.by.lowers.from r.by.lowers.to r.by.lowers.rule r.by.lowers.covered equation.tidy k (omega (arith, lt, r.covers))

  taker_over : AtomOver y r.by.taker.atom
  taker_over = all_get (λ (l : Literal). AtomOver y l.atom) c.literals at.literal r.by.taker clause.over r.by.literal

  measured : (m : Term → ℕ) → Grows m → m (applied s r.by.lowers.from) ≤ greatest (map m (terms_of r.by.taker.atom))
  measured m grows = atom_measure m grows at.path r.by.taker.atom (applied s r.by.lowers.from) from_there

  subst_fit : AreFit y s
  subst_fit =
      (let here = in_clause c.literals at.literal r.by.taker r.by.literal in
      record {
        within = (
          omega (arith, match_size s r.by.lowers.from all_occur, measured size_of size_grows, large_terms (terms_of r.by.taker.atom), here.size, clause.within.0),
          omega (arith, match_measure depth_of depth_grows s r.by.lowers.from all_occur, measured depth_of depth_grows, deep_terms r.by.taker.atom, here.depth, clause.within.1),
        );
        few = omega (arith, match_measure bound_of bound_grows s r.by.lowers.from all_occur, clause_measure bound_of bound_grows c.literals at.literal r.by.taker at.path (applied s r.by.lowers.from) r.by.literal from_there, few_variables c clause.tidy, clause.within.0);
        over = match_over y s r.by.lowers.from all_occur (place_over y at.path r.by.taker.atom (applied s r.by.lowers.from) from_there taker_over);
      })

  other_over : is_over y r.by.lowers.to ≡ true
  other_over =
      (let all : LiteralsOver y (signed true r.by.lowers.rule.equation ∷ []) = subst (LiteralsOver y) r.by.lowers.rule.one equation.over in
      (sides_over y at.side r.by.lowers.rule.equation r.by.lowers.from r.by.lowers.to r.by.lowers.rule.sides all.0).1)

  reduct_over : LiteralsOver y d.literals
  reduct_over =
      (let new : is_over y r.by.new ≡ true = ap (is_over y) (sym r.by.lowers.result) ∙ instance_over y (value_of s) (value_over y s subst_fit.over) r.by.lowers.to other_over in
      let changed : AtomOver y r.changed = atom_replaced_over y at.path r.by.new r.by.taker.atom r.changed r.becomes new taker_over in
      subst (LiteralsOver y) (sym r.rest)
      (all_set (λ (l : Literal). AtomOver y l.atom) c.literals at.literal (signed r.by.taker.positive r.changed) clause.over changed))

pub reducts_are_fit : ReductsAreFit
reducts_are_fit o y e c d at s equation clause r = (subst_fit o y e c d at s equation clause r, reduct_over o y e c d at s equation clause r)
