use Rattle.std.proofs.Common.{ℕ, ◌+◌, ◌<◌, List, [], ◌∷◌, ◌++◌, length, sum_by, ap, refl, sym, subst, arith}
use Rattle.std.proofs.lemmas.Bool.{false≢true}
use Rattle.std.proofs.lemmas.Option.{slice_get_within}
use Rattle.cd_term.specs.Terms.{size_of}
use Rattle.cd_infer.specs.Paths.{walked, paths_from}
use Rattle.cd_infer.specs.Conclusions.{PairGives, PairCan, IsWithin, Enters, para}
use Rattle.cd_infer.proofs.Listing.{adds_none}
use Rattle.cd_infer.proofs.PairLemmas.{all_of_side, side_small, side_place, side_entered, one_size, entered_not_lesser, no_lesser}
use Rattle.cd_infer.proofs.pairing.para_into_side.Goals as goal

pub is_used-requires-clause-place : goal.is_used-requires-clause-place
is_used-requires-clause-place c = slice_get_within c.args.two.now.b.now.literals c.args.places.j c.requires.stands.1.literal c.requires.stands.1.there

pub is_used-requires-clause-side : goal.is_used-requires-clause-side
is_used-requires-clause-side c = side_place c.args.z c.requires.stands.1.literal.atom c.args.side.now c.requires.stands.0 c.requires.stands.1.sides

pub returns-then-not-is_used : goal.returns-then-not-is_used
returns-then-not-is_used c =
    adds_none (PairGives c.args.two.now.order.now c.args.two.now.a_name c.args.two.now.a.now c.args.two.now.b_name c.args.two.now.b.now) (PairCan c.args.two.now.order.now c.args.two.now.a.now c.args.two.now.b.now) IsWithin (walked (para c.args.places.i c.args.places.s c.args.places.j) [] (paths_from c.args.z (c.args.side.now ∷ []))) c.args.found.now
    (all_of_side (λ k. PairCan c.args.two.now.order.now c.args.two.now.a.now c.args.two.now.b.now k → ⊥) (para c.args.places.i c.args.places.s c.args.places.j) c.args.z c.args.side.now
    (λ p g. false≢true (c.if-not-is_used.ensures.1
    (entered_not_lesser c.args.two.now.order.now c.args.two.now.b.now c.args.places.j c.args.z c.args.side.now c.requires.stands.0 p c.requires.stands.1 g.3))))

pub walk-requires-clause-enters : goal.walk-requires-clause-enters
walk-requires-clause-enters c = λ k rest lt.
    let few : k < 1 = omega (arith, lt, ap length c.from_ref.ensures.value) in
    subst (λ (n : ℕ). Enters c.args.two.now.order.now c.args.two.now.b.now c.args.places.j (c.new-path.result ++ (n + k) ∷ rest)) (sym c.from.ensures)
    (subst (λ (ps : List ℕ). Enters c.args.two.now.order.now c.args.two.now.b.now c.args.places.j (ps ++ (c.args.z + k) ∷ rest)) (sym c.new-path.ensures)
    (side_entered c.args.two.now.order.now c.args.two.now.b.now c.args.places.j c.args.z k c.args.side.now c.requires.stands.0 rest c.requires.stands.1
    (λ gr. no_lesser c.args.two.now.order.now c.args.two.now.b.now c.args.places.j c.args.z c.requires.stands.1.literal c.args.side.now c.requires.stands.0 c.requires.stands.1.there c.requires.stands.1.sides gr
    (c.if-not-is_used.ensures.0 refl)) few))

pub walk-requires-clause-small : goal.walk-requires-clause-small
walk-requires-clause-small c = omega (arith, ap (sum_by size_of) c.from_ref.ensures.value, one_size c.args.side.now, side_small c.args.two.now.b.now c.args.places.j c.args.z c.args.side.now c.requires.stands.0 c.requires.giving.pairable.second c.requires.stands.1)
