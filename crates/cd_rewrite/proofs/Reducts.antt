-- The reduct at the first place.
use Rattle.std.proofs.Common.{◌≡◌, ℕ, true, List, [], ◌∷◌, ap, subst, sym, ◌∙◌, Some, None, reverse, slice_set}
use Rattle.std.proofs.lemmas.List.{reverse-reverse}
use Rattle.std.proofs.lemmas.Option.{same_Some}
use Rattle.cd_term.specs.declared.Term.{Term}
use Rattle.cd_term.specs.Terms.{substituted, applied, value_of}
use Rattle.cd_clause.specs.declared.Atom.TheVariants.{Equal}
use Rattle.cd_clause.specs.declared.Literal.{Literal}
use Rattle.cd_clause.specs.declared.Clause.{Clause}
use Rattle.cd_clause.specs.Clauses.{variable_bound_of, IsWithinBounds}
use Rattle.cd_clause.specs.Places.{signed, HasSides, subterm_at, replaced_at}
use Rattle.cd_kbo.specs.declared.order.Order.{Order}
use Rattle.cd_rewrite.specs.Reduction.{IsRule, Spot, ReducesBy, IsFirst, IsReduct}
use Rattle.cd_rewrite.specs.Walks.{FoundAt}
use Rattle.cd_rewrite.specs.Rewriting.{AreRewritten, HasNoPlace}
use Rattle.cd_rewrite.proofs.FirstPlaces.{found_spot, found_by, found_first}
use Rattle.cd_rewrite.proofs.Replacing.{IsRefused}

-- the side that takes the place of the other one
pub rule_sides : (e : Clause) (side : ℕ) (from to left right : Term) → IsRule e side from to → e.literals ≡ signed true (Equal left right) ∷ [] →
    HasSides side (Equal left right) from to
rule_sides e side from to left right r is =
    let one : signed true r.equation ∷ [] ≡ signed true (Equal left right) ∷ [] = sym r.one ∙ is in
    let literal : signed true r.equation ≡ signed true (Equal left right) = cc in
    subst (λ a. HasSides side a from to) (ap (λ (l : Literal). l.atom) literal) r.sides

module _ {o : Order} {e d c : Clause} {vars : ℕ} {j : ℕ} {way : List ℕ} {side : ℕ} {s : List Term} (f : FoundAt o d vars c.literals j way side s)
    (is : e ≡ d) (path : List ℕ) (steps : path ≡ reverse way) where
  spot_is : record { literal = j; path = path; side = side } ≡ found_spot f
  unfolding found_spot
  spot_is = ap (λ p. let x : Spot = record { literal = j; path = p; side = side } in x) (steps ∙ ap reverse f.found.way ∙ reverse-reverse f.found.path)

  pub place_there : HasNoPlace c.literals j path → ⊥
  unfolding found_spot
  place_there none =
      let by = found_by f in
      let same : path ≡ f.found.path = ap (λ (x : Spot). x.path) spot_is in
      let both : None ≡ Some by.old = sym (ap (λ p. subterm_at p by.taker.atom) (sym same) ∙ none by.taker by.literal) ∙ by.there in (cc)

  -- what the step is, at the path that was given
  here : ReducesBy o e c (record { literal = j; path = path; side = side }) (value_of s)
  unfolding found_spot
  here = subst (λ x. ReducesBy o x c (record { literal = j; path = path; side = side }) (value_of s)) (sym is)
      (subst (λ x. ReducesBy o d c x (value_of s)) (sym spot_is) (found_by f))

  pub reduct_is : (left right to : Term) (r : Clause) → vars ≡ variable_bound_of e → e.literals ≡ signed true (Equal left right) ∷ [] →
      ((from other : Term) → HasSides side (Equal left right) from other → to ≡ other) → AreRewritten c.literals j path (applied s to) r.literals →
      IsReduct o e c (record { literal = j; path = path; side = side }) s r
  reduct_is left right to r bound shape other rewritten =
      let by = here in
      let taker : by.taker ≡ rewritten.taker = same_Some by.taker rewritten.taker (sym by.literal ∙ rewritten.literal) in
      let new : by.new ≡ applied s to
      = sym by.lowers.result ∙ ap (substituted (value_of s))
      (sym (other by.lowers.from by.lowers.to (rule_sides e side by.lowers.from by.lowers.to left right by.lowers.rule shape))) in record {
        first = subst (λ x. IsFirst o x c (record { literal = j; path = path; side = side })) (sym is) (subst (IsFirst o d c) (sym spot_is) (found_first f));
        covers = f.found.lowering.covers ∙ bound;
        by = by;
        changed = rewritten.changed;
        becomes = ap (λ t. replaced_at path t by.taker.atom) new ∙ ap (λ (l : Literal). replaced_at path (applied s to) l.atom) taker ∙ rewritten.becomes;
        rest = rewritten.rest ∙ ap (λ (l : Literal). slice_set c.literals j (signed l.positive rewritten.changed)) (sym taker);
      }

  pub reduct_refused : (left right to : Term) → vars ≡ variable_bound_of e → e.literals ≡ signed true (Equal left right) ∷ [] →
      ((from other : Term) → HasSides side (Equal left right) from other → to ≡ other) → IsRefused c.literals j path (applied s to) →
      (at : Spot) × (u : List Term) × (r : Clause) × IsReduct o e c at u r × (¬ IsWithinBounds r)
  reduct_refused left right to bound shape other out =
      (record { literal = j; path = path; side = side }, s, out.0, reduct_is left right to out.0 bound shape other out.1, out.2)
