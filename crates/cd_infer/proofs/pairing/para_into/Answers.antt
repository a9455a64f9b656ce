use Rattle.std.proofs.Common.{ℕ, [], ◌∷◌, ◌++◌, sum_by, ap, sym, arith}
use Rattle.cd_term.specs.Terms.{size_of}
use Rattle.cd_clause.specs.declared.Atom.{Atom}
use Rattle.cd_clause.specs.Clauses.{terms_of}
use Rattle.cd_infer.specs.Paths.{walked, paths_from}
use Rattle.cd_infer.specs.Conclusions.{PairGives, PairCan, IsWithin, para, paras_into, paths_in}
use Rattle.cd_infer.proofs.Listing.{gathers_err, adds_none}
use Rattle.cd_infer.proofs.PathLemmas.{many_of}
use Rattle.cd_infer.proofs.PairLemmas.{all_of_map, gathers_to, gathers_both, equation_paths, overflow_equation, terms_small, nothing_entered}
use Rattle.cd_infer.proofs.pairing.para_into.Goals as goal

pub walk-requires-clause-few : goal.walk-requires-clause-few
walk-requires-clause-few c = omega (arith, many_of c.as_slice.result.now, ap (sum_by size_of) c.as_slice.ensures, ap (λ (a : Atom). sum_by size_of (terms_of a)) c.in-Pred.is, terms_small c.args.two.now.b.now c.args.places.j c.in-Some.taker.now c.requires.giving.pairable.second (sym c.in-Some.ensures.value))

pub walk-requires-clause-small : goal.walk-requires-clause-small
walk-requires-clause-small c = omega (arith, many_of c.as_slice.result.now, ap (sum_by size_of) c.as_slice.ensures, ap (λ (a : Atom). sum_by size_of (terms_of a)) c.in-Pred.is, terms_small c.args.two.now.b.now c.args.places.j c.in-Some.taker.now c.requires.giving.pairable.second (sym c.in-Some.ensures.value))

pub returns-in-Err : goal.returns-in-Err
returns-in-Err c =
    gathers_err (PairGives c.args.two.now.order.now c.args.two.now.a_name c.args.two.now.a.now c.args.two.now.b_name c.args.two.now.b.now) (PairCan c.args.two.now.order.now c.args.two.now.a.now c.args.two.now.b.now) IsWithin ℕ ℕ (walked (para c.args.places.i c.args.places.s c.args.places.j) [] (paths_from 0 (c.in-Equal.left ∷ []))) (paras_into c.args.two.now.b.now c.args.places.i c.args.places.s c.args.places.j) [] [] [] [] c.in-Err.fault
    (overflow_equation (PairGives c.args.two.now.order.now c.args.two.now.a_name c.args.two.now.a.now c.args.two.now.b_name c.args.two.now.b.now) (PairCan c.args.two.now.order.now c.args.two.now.a.now c.args.two.now.b.now) IsWithin (para c.args.places.i c.args.places.s c.args.places.j) c.args.two.now.b.now c.args.places.j c.in-Some.taker.now c.in-Equal.left c.in-Equal.right (sym c.in-Some.ensures.value) c.in-Equal.is) c.in-Err.ensures

pub returns-in_default-para_into_side : goal.returns-in_default-para_into_side
returns-in_default-para_into_side c =
    gathers_to (PairGives c.args.two.now.order.now c.args.two.now.a_name c.args.two.now.a.now c.args.two.now.b_name c.args.two.now.b.now) (PairCan c.args.two.now.order.now c.args.two.now.a.now c.args.two.now.b.now) IsWithin _ (walked (para c.args.places.i c.args.places.s c.args.places.j) [] (paths_from 0 (c.in-Equal.left ∷ [])) ++ walked (para c.args.places.i c.args.places.s c.args.places.j) [] (paths_from 1 (c.in-Equal.right ∷ []))) (paras_into c.args.two.now.b.now c.args.places.i c.args.places.s c.args.places.j) _ _ c.para_into_side-in-Equal.result
    (equation_paths (para c.args.places.i c.args.places.s c.args.places.j) c.args.two.now.b.now c.args.places.j c.in-Some.taker.now c.in-Equal.left c.in-Equal.right (sym c.in-Some.ensures.value) c.in-Equal.is)
    (gathers_both (PairGives c.args.two.now.order.now c.args.two.now.a_name c.args.two.now.a.now c.args.two.now.b_name c.args.two.now.b.now) (PairCan c.args.two.now.order.now c.args.two.now.a.now c.args.two.now.b.now) IsWithin _ (walked (para c.args.places.i c.args.places.s c.args.places.j) [] (paths_from 0 (c.in-Equal.left ∷ []))) (walked (para c.args.places.i c.args.places.s c.args.places.j) [] (paths_from 1 (c.in-Equal.right ∷ []))) _ _ _ c.para_into_side-in-Equal.result c.in_default-para_into_side.ensures c.para_into_side-in-Equal.ensures)

pub returns-in_default : goal.returns-in_default
returns-in_default c =
    adds_none (PairGives c.args.two.now.order.now c.args.two.now.a_name c.args.two.now.a.now c.args.two.now.b_name c.args.two.now.b.now) (PairCan c.args.two.now.order.now c.args.two.now.a.now c.args.two.now.b.now) IsWithin (paras_into c.args.two.now.b.now c.args.places.i c.args.places.s c.args.places.j) c.args.found.now
    (all_of_map (λ k. PairCan c.args.two.now.order.now c.args.two.now.a.now c.args.two.now.b.now k → ⊥) (para c.args.places.i c.args.places.s c.args.places.j) (paths_in c.args.two.now.b.now c.args.places.j) (λ path g. nothing_entered c.args.two.now.order.now c.args.two.now.b.now c.args.places.j path (sym c.in_default.ensures.value) g.3))
