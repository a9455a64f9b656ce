-- A side and a subterm that nothing makes equal.
use Rattle.std.proofs.Common.{◌≡◌, ℕ, zero, suc, true, List, [], ◌∷◌, map, Some, slice_get, option_map, ap, ◌∙◌, sym, subst}
use Rattle.std.proofs.lemmas.Option.{same_Some}
use Rattle.cd_term.specs.declared.Term.{Term}
use Rattle.cd_term.specs.Terms.{substituted}
use Rattle.cd_term.proofs.Substitutions.{substituted-substituted}
use Rattle.cd_clause.specs.declared.Atom.{Atom}
use Rattle.cd_clause.specs.declared.Literal.{Literal}
use Rattle.cd_clause.specs.declared.Clause.{Clause}
use Rattle.cd_clause.specs.Clauses.{literal_changed, variable_bound_of}
use Rattle.cd_clause.specs.Places.{signed, HasSides, subterm_at}
use Rattle.cd_steps.specs.Rules.{Inference, IsParamodulation, higher}
use Rattle.cd_steps.specs.Drafts.{raised}
use Rattle.cd_steps.proofs.Raising.{apart_get, place_raised}
use Rattle.cd_infer.specs.Concluding.{AreApart}
use Rattle.cd_infer.specs.Conclusions.{CanConclude}
use Rattle.cd_infer.proofs.PairLemmas.{same_pair}

side_agrees : (s : ℕ) (a : Atom) (l o m p : Term) → HasSides s a l o → HasSides s a m p → l ≡ m
side_agrees zero a l o m p h k = (same_pair l o m p (sym h ∙ k)).0
side_agrees (suc zero) a l o m p h k = (same_pair o l p m (sym h ∙ k)).1
side_agrees (suc (suc s)) a l o m p h k = absurd h

same_one : (t u : Term) → t ∷ [] ≡ u ∷ [] → t ≡ u
same_one t u e = cc

pub clash_at : (a b : Clause) (i s j : ℕ) (path : List ℕ) (g l : Literal) (side other inner : Term) → slice_get a.literals i ≡ Some g → HasSides s g.atom side other →
    slice_get b.literals j ≡ Some l → subterm_at path l.atom ≡ Some inner → AreApart side inner → CanConclude (IsParamodulation a i s b j path) → ⊥
clash_at a b i s j path g l side other inner at_g sides at_l there apart can =
    let r = can.rule in
    let n = variable_bound_of a in
    let tau = can.tau in
    let giver : g ≡ signed true r.equation = same_Some g (signed true r.equation) (sym at_g ∙ r.giver) in
    let left : side ≡ r.side = side_agrees s r.equation side other r.side r.other (subst (λ (k : Literal). HasSides s k.atom side other) giver sides) r.sides in
    let taker : literal_changed (raised n) l ≡ r.taker = same_Some (literal_changed (raised n) l) r.taker
    (sym (apart_get a b j ∙ ap (option_map (literal_changed (raised n))) at_l) ∙ r.literal) in
    let inside : subterm_at path r.taker.atom ≡ Some (raised n inner) =
    sym (ap (λ (k : Literal). subterm_at path k.atom) taker) ∙ place_raised n path l.atom ∙ ap (option_map (raised n)) there in
    let right : raised n inner ≡ r.inner = same_Some (raised n inner) r.inner (sym inside ∙ r.there) in
    let equal : substituted tau r.side ≡ substituted tau r.inner = same_one (substituted tau r.side) (substituted tau r.inner)
    (subst (λ (x : Inference). map (substituted tau) x.left ≡ map (substituted tau) x.right) r.is can.equal) in
    apart tau (λ k. substituted tau (higher n k))
    (ap (substituted tau) left ∙ equal ∙ sym (ap (substituted tau) right) ∙ substituted-substituted tau (higher n) inner)
