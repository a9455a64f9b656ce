-- The subterms of a clause stand among its parts, and a side that lowers none of the parts reduces nothing.
use Rattle.std.proofs.Common.{◌≡◌, ◌⊎◌, inl, inr, ℕ, zero, suc, ◌+◌, ◌<◌, ◌≤◌, Bool, true, false, IsTrue, ◌↔◌, List, [], ◌∷◌, ◌++◌, length, get_or, ap, subst, sym, ◌∙◌, arith, Some, slice_get}
use Rattle.std.proofs.lemmas.Option.{same_Some, slice_get-get_or, slice_get_within}
use Rattle.cd_list.proofs.Lists.{get_left, get_at, push_get}
use Rattle.cd_term.specs.declared.Term.{Term}
use Rattle.cd_term.specs.Terms.{size_of}
use Rattle.cd_clause.specs.declared.Atom.TheVariants.{Equal}
use Rattle.cd_clause.specs.declared.Literal.{Literal}
use Rattle.cd_clause.specs.declared.Clause.{Clause}
use Rattle.cd_clause.specs.Clauses.{terms_of}
use Rattle.cd_clause.specs.Places.{signed, HasSides}
use Rattle.cd_kbo.specs.declared.order.Order.{Order}
use Rattle.cd_rewrite.specs.Equations.{Falls}
use Rattle.cd_rewrite.specs.Reduction.{Spot, ReducesBy, ReducesAt}
use Rattle.cd_rewrite.specs.Walks.{NoneIn, NoneAmong, NoLiteralBefore}
use Rattle.cd_rewrite.proofs.FirstPaths.{NoneBefore}
use Rattle.cd_rewrite.proofs.FirstPlaces.{at_atom}
use Rattle.cd_rewrite.proofs.Turns.{atoms_same, the_atom}
use Rattle.cd_contract.specs.declared.needs.Needs.{Needs}
use Rattle.cd_contract.specs.declared.parts.Part.{Part}
use Rattle.cd_contract.specs.declared.parts.Sought.{Sought}
use Rattle.cd_contract.specs.Shapes.{shape}
use Rattle.cd_contract.specs.Marks.{BrieflyMarked, Meets}
use Rattle.cd_contract.specs.Needs.{IsNeeds}
use Rattle.cd_contract.specs.Parts.{HasPart, Lacks, AreSmall, Adds, IsSoughtBy, MissesBefore, Misses}
use Rattle.cd_contract.proofs.Needing.{falls_so, false_test}

-- ---- one more part

pub put_in : (ps qs : List Part) (p : Part) → qs ≡ ps ++ p ∷ [] → size_of p.term.now ≤ 65535 → Adds ps qs
put_in ps qs p is small = record {
  kept = λ t h. record { place = h.place; part = h.part; there = ap (λ xs. slice_get xs h.place) is ∙ get_left ps (p ∷ []) h.place h.part h.there; is = h.is; meets = h.meets };
  small = λ all i q at. elim (push_get ps p i q (ap (λ xs. slice_get xs i) (sym is) ∙ at)) [
    | inl before ↦ all i q before
    | inr last ↦ subst (λ (x : Part). size_of x.term.now ≤ 65535) last.1 small
  ];
}

pub stands : (ps qs : List Part) (p : Part) (t : Term) → qs ≡ ps ++ p ∷ [] → p.term.now ≡ t → Meets (BrieflyMarked p.marks) t → HasPart qs t
stands ps qs p t is same met = record { place = length ps; part = p; there = ap (λ xs. slice_get xs (length ps)) is ∙ get_at ps [] p; is = same; meets = met }

-- ---- parts stay

pub adds_none : (ps : List Part) → Adds ps ps
adds_none ps = record { kept = λ t h. h; small = λ all. all }

pub adds_both : (ps qs rs : List Part) → Adds ps qs → Adds qs rs → Adds ps rs
adds_both ps qs rs one other = record { kept = λ t h. other.kept t (one.kept t h); small = λ all. other.small (one.small all) }

lacks_before : (ps qs : List Part) (t : Term) → Adds ps qs → Lacks qs t → Lacks ps t
lacks_before ps qs t adds lacks = (lacks.0, λ h. lacks.1 (adds.kept t h))

pub none_stays : (ps qs : List Part) (t : Term) → Adds ps qs → NoneIn (Lacks ps) t → NoneIn (Lacks qs) t
none_stays ps qs t adds none path u at lacks = none path u at (lacks_before ps qs u adds lacks)

pub before_stays : (ps qs : List Part) (ts : List Term) (i : ℕ) → Adds ps qs → NoneBefore (Lacks ps) ts i → NoneBefore (Lacks qs) ts i
before_stays ps qs ts i adds none k t less at = none_stays ps qs t adds (none k t less at)

pub among_stays : (ps qs : List Part) (ts : List Term) → Adds ps qs → NoneAmong (Lacks ps) ts → NoneAmong (Lacks qs) ts
among_stays ps qs ts adds none path u at lacks = none path u at (lacks_before ps qs u adds lacks)

pub literals_stay : (ps qs : List Part) (ls : List Literal) (i : ℕ) → Adds ps qs → NoLiteralBefore (Lacks ps) ls i → NoLiteralBefore (Lacks qs) ls i
literals_stay ps qs ls i adds none k l less at = among_stays ps qs (terms_of l.atom) adds (none k l less at)

pub none_at_all : AreSmall []
none_at_all i p at = absurd (let both = slice_get_within [] i p at in omega (arith, both))

-- ---- a side is tried on parts

pub misses_start : (o : Order) (from to : Term) (k : ℕ) (ps : List Part) → MissesBefore o from to k ps 0
misses_start o from to k ps i p lt = absurd (omega (arith, lt))

pub misses_next : (o : Order) (from to : Term) (k : ℕ) (ps : List Part) (n : ℕ) (p : Part) → n < length ps → p ≡ get_or ps n p → MissesBefore o from to k ps n →
    (Meets (BrieflyMarked p.marks) p.term.now → k ≡ shape 3 from → (g : ℕ → Term) → Falls o from to g p.term.now → ⊥) → MissesBefore o from to k ps (n + 1)
misses_next o from to k ps n p lt here before none i q less at = by (split i n less)
  where
    split : (a b : ℕ) → a < b + 1 → (a < b) ⊎ (a ≡ b)
    split a b h = grind (arith, h)

    by : (i < n) ⊎ (i ≡ n) → Meets (BrieflyMarked q.marks) q.term.now → k ≡ shape 3 from → (g : ℕ → Term) → Falls o from to g q.term.now → ⊥
    by (inl earlier) = before i q earlier at
    by (inr same) =
        let is : p ≡ q = same_Some p q (ap Some here ∙ sym (slice_get-get_or ps n p lt) ∙ ap (slice_get ps) (sym same) ∙ at) in
        subst (λ (x : Part). Meets (BrieflyMarked x.marks) x.term.now → k ≡ shape 3 from → (g : ℕ → Term) → Falls o from to g x.term.now → ⊥) is none

pub misses_all : (o : Order) (from to : Term) (k : ℕ) (ps : List Part) (n : ℕ) → length ps ≤ n → MissesBefore o from to k ps n → Misses o from to k ps
misses_all o from to k ps n le before i p lt = before i p (omega (arith, le, lt))

-- a part without the shape of a side is no instance of it
pub no_shape : (o : Order) (from to : Term) (k : ℕ) (p : Part) (b : Bool) → (IsTrue b ↔ BrieflyMarked p.marks k) → b ≡ false → Meets (BrieflyMarked p.marks) p.term.now →
    k ≡ shape 3 from → (g : ℕ → Term) → Falls o from to g p.term.now → ⊥
no_shape o from to k p b test out met is g falls =
    false_test b (BrieflyMarked p.marks k) test out (subst (BrieflyMarked p.marks) (sym is) (met.shapes g from falls.1))

reached : (o : Order) (d c : Clause) (s : Sought) (k : ℕ) (at : Spot) (g : ℕ → Term) (by : ReducesBy o d c at g) → IsSoughtBy c s → k ≡ shape 3 by.lowers.from →
    Misses o by.lowers.from by.lowers.to k s.parts.items → ⊥
reached o d c s k at g by sought is misses =
    sought.parts at.literal by.taker (slice_get_within c.literals at.literal by.taker by.literal) by.literal at.path by.old (sym (at_atom at.path by.taker.atom) ∙ by.there) (
      by.lowers.compound,
      λ h. misses h.place h.part (slice_get_within s.parts.items h.place h.part h.there) h.there
          (subst (Meets (BrieflyMarked h.part.marks)) (sym h.is) h.meets) is g (subst (Falls o by.lowers.from by.lowers.to g) (sym h.is) (falls_so o d c at g by)),
    )

pub left_missed : (o : Order) (d c : Clause) (s : Sought) (n : Needs) (left right : Term) → d.literals ≡ signed true (Equal left right) ∷ [] → IsNeeds o d n → IsSoughtBy c s →
    Misses o left right n.left s.parts.items → (at : Spot) → at.side ≡ 0 → ReducesAt o d c at → ⊥
left_missed o d c s n left right are needs sought misses at side (g, by) =
    let sides : HasSides 0 by.lowers.rule.equation by.lowers.from by.lowers.to = subst (λ k. HasSides k by.lowers.rule.equation by.lowers.from by.lowers.to) side by.lowers.rule.sides in
    let one : d.literals ≡ signed true (Equal by.lowers.from by.lowers.to) ∷ [] = by.lowers.rule.one ∙ ap (λ a. signed true a ∷ []) sides in
    let both = atoms_same left right by.lowers.from by.lowers.to (the_atom (Equal left right) (Equal by.lowers.from by.lowers.to) (sym are ∙ one)) in
    reached o d c s n.left at g by sought (needs.left by.lowers.from by.lowers.to one g by.old (falls_so o d c at g by))
    (subst (λ x. Misses o x by.lowers.to n.left s.parts.items) both.0 (subst (λ x. Misses o left x n.left s.parts.items) both.1 misses))

pub right_missed : (o : Order) (d c : Clause) (s : Sought) (n : Needs) (left right : Term) → d.literals ≡ signed true (Equal left right) ∷ [] → IsNeeds o d n → IsSoughtBy c s →
    Misses o right left n.right s.parts.items → (at : Spot) → at.side ≡ 1 → ReducesAt o d c at → ⊥
right_missed o d c s n left right are needs sought misses at side (g, by) =
    let sides : HasSides 1 by.lowers.rule.equation by.lowers.from by.lowers.to = subst (λ k. HasSides k by.lowers.rule.equation by.lowers.from by.lowers.to) side by.lowers.rule.sides in
    let one : d.literals ≡ signed true (Equal by.lowers.to by.lowers.from) ∷ [] = by.lowers.rule.one ∙ ap (λ a. signed true a ∷ []) sides in
    let both = atoms_same left right by.lowers.to by.lowers.from (the_atom (Equal left right) (Equal by.lowers.to by.lowers.from) (sym are ∙ one)) in
    reached o d c s n.right at g by sought (needs.right by.lowers.to by.lowers.from one g by.old (falls_so o d c at g by))
    (subst (λ x. Misses o x by.lowers.to n.right s.parts.items) both.1 (subst (λ x. Misses o right x n.right s.parts.items) both.0 misses))

-- a clause that isn't one equation reduces nothing
pub no_sides : (o : Order) (d c : Clause) → ((s t : Term) → d.literals ≡ signed true (Equal s t) ∷ [] → ⊥) → (at : Spot) → ReducesAt o d c at → ⊥
no_sides o d c none at (g, by) = from at.side by.lowers.rule.sides
  where
    from : (side : ℕ) → HasSides side by.lowers.rule.equation by.lowers.from by.lowers.to → ⊥
    from zero sides = none by.lowers.from by.lowers.to (by.lowers.rule.one ∙ ap (λ a. signed true a ∷ []) sides)
    from (suc zero) sides = none by.lowers.to by.lowers.from (by.lowers.rule.one ∙ ap (λ a. signed true a ∷ []) sides)
    from (suc (suc k)) sides = absurd sides

-- a side that isn't wanted, or lowers no part, reduces nothing
pub not_wanted : (A : Type 0) (w x y : Bool) → (w ≡ false → (x ≡ false) ⊎ (y ≡ false)) → (x ≡ false → A → ⊥) → (y ≡ false → A → ⊥) → w ≡ false → A → ⊥
not_wanted A w x y both marks counts out red = elim (both out) [ inl is ↦ marks is red | inr is ↦ counts is red ]

pub not_met : (A : Type 0) (b w x y : Bool) (M : Type 0) → (b ≡ false → (w ≡ false) ⊎ M) → (w ≡ false → (x ≡ false) ⊎ (y ≡ false)) → (x ≡ false → A → ⊥) →
    (y ≡ false → A → ⊥) → (M → A → ⊥) → b ≡ false → A → ⊥
not_met A b w x y M met both marks counts misses out red =
    elim (met out) [ inl unwanted ↦ not_wanted A w x y both marks counts unwanted red | inr none ↦ misses none red ]
