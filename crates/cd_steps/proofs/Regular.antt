-- Each rule gives one inference, over the variables and the symbols of its premises.
use Rattle.std.proofs.Common.{ℕ, ◌+◌, true, false, List, ◌∷◌, [], remove, slice_set, sym, subst}
use Rattle.cd_list.proofs.Lists.{all_append, all_get, all_remove, all_set}
use Rattle.cd_term.specs.Symbols.{Symbols}
use Rattle.cd_term.proofs.OverLemmas.{over-Var}
use Rattle.cd_clause.specs.declared.Atom.TheVariants.{Pred, Equal}
use Rattle.cd_clause.specs.declared.Literal.{Literal}
use Rattle.cd_clause.specs.declared.Clause.{Clause}
use Rattle.cd_clause.specs.Clauses.{variable_bound_of}
use Rattle.cd_clause.specs.Over.{AtomOver, LiteralsOver}
use Rattle.cd_clause.specs.Places.{signed}
use Rattle.cd_clause.proofs.OverLemmas.{literals_over, sides_over, place_over, atom_replaced_over}
use Rattle.cd_steps.specs.Rules.{higher, apart, IsResolution, IsFactoring, IsReflexivity, IsEqualityFactoring, IsParamodulation, IsRewriting}
use Rattle.cd_steps.specs.Laws.{InferenceOver, StayOver, ResolutionsAreRegular, FactoringsAreRegular, ReflexivitiesAreRegular, EqualityFactoringsAreRegular, ParamodulationsAreRegular, RewritingsAreRegular}
use Rattle.cd_steps.proofs.Unique.{resolution_one, factoring_one, reflexivity_one, equality_factoring_one, paramodulation_one, rewriting_one}
use Rattle.cd_steps.proofs.Bounding.{resolution_bounded, factoring_bounded, reflexivity_bounded, equality_factoring_bounded, paramodulation_bounded, rewriting_bounded}

module _ (y : Symbols) where
  apart_over : (a b : Clause) → LiteralsOver y b.literals → LiteralsOver y (apart a b).literals
  apart_over a b all = literals_over y (higher (variable_bound_of a)) (λ k. over-Var y (variable_bound_of a + k)) b.literals all

  removed_over : (ls : List Literal) (i : ℕ) → LiteralsOver y ls → LiteralsOver y (remove ls i)
  removed_over ls i all = all_remove (λ l. AtomOver y l.atom) ls i all

pub resolution_over : (a : Clause) (i : ℕ) (b : Clause) (j : ℕ) → StayOver (a ∷ b ∷ []) (IsResolution a i b j)
resolution_over a i b j y x all r =
    let moved = apart_over y a b all.1.0 in
    let pos : AtomOver y (Pred r.predicate r.left) = all_get (λ l. AtomOver y l.atom) a.literals i (signed true (Pred r.predicate r.left)) all.0 r.positive in
    let neg : AtomOver y (Pred r.predicate r.right) = all_get (λ l. AtomOver y l.atom) (apart a b).literals j (signed false (Pred r.predicate r.right)) moved r.negative in
    subst (InferenceOver y) (sym r.is) (record {
      left = pos.1;
      right = neg.1;
      conclusion = all_append (λ l. AtomOver y l.atom) (remove a.literals i) (remove (apart a b).literals j) (removed_over y a.literals i all.0) (removed_over y (apart a b).literals j moved);
    })

pub factoring_over : (c : Clause) (i j : ℕ) → StayOver (c ∷ []) (IsFactoring c i j)
factoring_over c i j y x all r =
    let one : AtomOver y (Pred r.predicate r.left) = all_get (λ l. AtomOver y l.atom) c.literals i (signed true (Pred r.predicate r.left)) all.0 r.first in
    let two : AtomOver y (Pred r.predicate r.right) = all_get (λ l. AtomOver y l.atom) c.literals j (signed true (Pred r.predicate r.right)) all.0 r.second in
    subst (InferenceOver y) (sym r.is) (record { left = one.1; right = two.1; conclusion = removed_over y c.literals j all.0 })

pub reflexivity_over : (c : Clause) (i : ℕ) → StayOver (c ∷ []) (IsReflexivity c i)
reflexivity_over c i y x all r =
    let one : AtomOver y (Equal r.left r.right) = all_get (λ l. AtomOver y l.atom) c.literals i (signed false (Equal r.left r.right)) all.0 r.equation in
    subst (InferenceOver y) (sym r.is) (record { left = (one.0, tt); right = (one.1.0, tt); conclusion = removed_over y c.literals i all.0 })

pub equality_factoring_over : (c : Clause) (i s j z : ℕ) → StayOver (c ∷ []) (IsEqualityFactoring c i s j z)
equality_factoring_over c i s j z y x all r =
    let one = sides_over y s r.first r.left r.left_other r.first_sides (all_get (λ l. AtomOver y l.atom) c.literals i (signed true r.first) all.0 r.at_first) in
    let two = sides_over y z r.second r.right r.right_other r.second_sides (all_get (λ l. AtomOver y l.atom) c.literals j (signed true r.second) all.0 r.at_second) in
    subst (InferenceOver y) (sym r.is) (record {
      left = (one.0, tt);
      right = (two.0, tt);
      conclusion = all_set (λ l. AtomOver y l.atom) c.literals i (signed false (Equal r.left_other r.right_other)) all.0 (one.1, (two.1, tt));
    })

pub paramodulation_over : (a : Clause) (i s : ℕ) (b : Clause) (j : ℕ) (path : List ℕ) → StayOver (a ∷ b ∷ []) (IsParamodulation a i s b j path)
paramodulation_over a i s b j path y x all r =
    let moved = apart_over y a b all.1.0 in
    let giver = sides_over y s r.equation r.side r.other r.sides (all_get (λ l. AtomOver y l.atom) a.literals i (signed true r.equation) all.0 r.giver) in
    let taker : AtomOver y r.taker.atom = all_get (λ l. AtomOver y l.atom) (apart a b).literals j r.taker moved r.literal in
    let changed : AtomOver y r.changed = atom_replaced_over y path r.other r.taker.atom r.changed r.becomes giver.1 taker in
    subst (InferenceOver y) (sym r.is) (record {
      left = (giver.0, tt);
      right = (place_over y path r.taker.atom r.inner r.there taker, tt);
      conclusion = all_append (λ l. AtomOver y l.atom) (remove a.literals i) (slice_set (apart a b).literals j (signed r.taker.positive r.changed)) (removed_over y a.literals i all.0)
          (all_set (λ l. AtomOver y l.atom) (apart a b).literals j (signed r.taker.positive r.changed) moved changed);
    })

pub rewriting_over : (e : Clause) (s : ℕ) (c : Clause) (j : ℕ) (path : List ℕ) → StayOver (e ∷ c ∷ []) (IsRewriting e s c j path)
rewriting_over e s c j path y x all r = paramodulation_over e 0 s c j path y x all r.into

-- ---- each rule's law

pub resolutions_are_regular : ResolutionsAreRegular
resolutions_are_regular a i b j = record { one = resolution_one a i b j; bounded = resolution_bounded a i b j; over = resolution_over a i b j }

pub factorings_are_regular : FactoringsAreRegular
factorings_are_regular c i j = record { one = factoring_one c i j; bounded = factoring_bounded c i j; over = factoring_over c i j }

pub reflexivities_are_regular : ReflexivitiesAreRegular
reflexivities_are_regular c i = record { one = reflexivity_one c i; bounded = reflexivity_bounded c i; over = reflexivity_over c i }

pub equality_factorings_are_regular : EqualityFactoringsAreRegular
equality_factorings_are_regular c i s j z = record {
  one = equality_factoring_one c i s j z;
  bounded = equality_factoring_bounded c i s j z;
  over = equality_factoring_over c i s j z;
}

pub paramodulations_are_regular : ParamodulationsAreRegular
paramodulations_are_regular a i s b j path = record {
  one = paramodulation_one a i s b j path;
  bounded = paramodulation_bounded a i s b j path;
  over = paramodulation_over a i s b j path;
}

pub rewritings_are_regular : RewritingsAreRegular
rewritings_are_regular e s c j path = record {
  one = rewriting_one e s c j path;
  bounded = rewriting_bounded e s c j path;
  over = rewriting_over e s c j path;
}
