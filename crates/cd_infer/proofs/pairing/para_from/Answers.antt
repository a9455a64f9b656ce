use Rattle.std.proofs.Common.{ℕ, [], ◌++◌, ap, sym, append-nil}
use Rattle.std.proofs.lemmas.Bool.{false≢true}
use Rattle.cd_infer.specs.Conclusions.{PairGives, PairCan, IsWithin, para, places_of, sides, paths_in, paras_into, paras_of_side, paras_from}
use Rattle.cd_infer.proofs.Listing.{adds_none, gathers_err, among_left}
use Rattle.cd_infer.proofs.PairLemmas.{gathers_to, gathers_both, all_of_map, all_of_flat}
use Rattle.cd_infer.proofs.pairing.para_from.Goals as goal

pub returns-then-not-eligible : goal.returns-then-not-eligible
returns-then-not-eligible c =
    adds_none (PairGives c.args.two.now.order.now c.args.two.now.a_name c.args.two.now.a.now c.args.two.now.b_name c.args.two.now.b.now) (PairCan c.args.two.now.order.now c.args.two.now.a.now c.args.two.now.b.now) IsWithin (paras_from c.args.two.now.b.now c.args.i) c.args.found.now
    (all_of_flat (λ k. PairCan c.args.two.now.order.now c.args.two.now.a.now c.args.two.now.b.now k → ⊥) (paras_of_side c.args.two.now.b.now c.args.i) sides (λ s.
    all_of_flat (λ k. PairCan c.args.two.now.order.now c.args.two.now.a.now c.args.two.now.b.now k → ⊥) (paras_into c.args.two.now.b.now c.args.i s) (places_of c.args.two.now.b.now) (λ j. all_of_map (λ k. PairCan c.args.two.now.order.now c.args.two.now.a.now c.args.two.now.b.now k → ⊥) (para c.args.i s j) (paths_in c.args.two.now.b.now j) (λ p g. false≢true (c.if-not-eligible.ensures.1 g.0)))))

pub returns-in-Err : goal.returns-in-Err
returns-in-Err c =
    gathers_err (PairGives c.args.two.now.order.now c.args.two.now.a_name c.args.two.now.a.now c.args.two.now.b_name c.args.two.now.b.now) (PairCan c.args.two.now.order.now c.args.two.now.a.now c.args.two.now.b.now) IsWithin ℕ ℕ (paras_of_side c.args.two.now.b.now c.args.i 0) (paras_from c.args.two.now.b.now c.args.i) [] [] [] [] c.in-Err.fault
    (among_left (PairGives c.args.two.now.order.now c.args.two.now.a_name c.args.two.now.a.now c.args.two.now.b_name c.args.two.now.b.now) (PairCan c.args.two.now.order.now c.args.two.now.a.now c.args.two.now.b.now) IsWithin _ (paras_of_side c.args.two.now.b.now c.args.i 0) (paras_of_side c.args.two.now.b.now c.args.i 1 ++ [])) c.in-Err.ensures

pub returns : goal.returns
returns c =
    gathers_to (PairGives c.args.two.now.order.now c.args.two.now.a_name c.args.two.now.a.now c.args.two.now.b_name c.args.two.now.b.now) (PairCan c.args.two.now.order.now c.args.two.now.a.now c.args.two.now.b.now) IsWithin _ (paras_of_side c.args.two.now.b.now c.args.i 0 ++ paras_of_side c.args.two.now.b.now c.args.i 1) (paras_from c.args.two.now.b.now c.args.i) _ _ c.para_of_side-2.result
    (ap (λ ks. paras_of_side c.args.two.now.b.now c.args.i 0 ++ ks) (sym (append-nil (paras_of_side c.args.two.now.b.now c.args.i 1))))
    (gathers_both (PairGives c.args.two.now.order.now c.args.two.now.a_name c.args.two.now.a.now c.args.two.now.b_name c.args.two.now.b.now) (PairCan c.args.two.now.order.now c.args.two.now.a.now c.args.two.now.b.now) IsWithin _ (paras_of_side c.args.two.now.b.now c.args.i 0) (paras_of_side c.args.two.now.b.now c.args.i 1) _ _ _ c.para_of_side-2.result c.in_default.ensures c.para_of_side-2.ensures)
