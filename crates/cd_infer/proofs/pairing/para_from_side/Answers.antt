use Rattle.std.proofs.Common.{ℕ, [], length, refl, arith}
use Rattle.std.specs.List.{flat_map, range_with_len}
use Rattle.std.proofs.lemmas.Bool.{false≢true}
use Rattle.cd_infer.specs.Conclusions.{PairGives, PairCan, IsWithin, para, paths_in, paras_into}
use Rattle.cd_infer.proofs.Listing.{adds_none, adds_next, gathers_err, overflow_at}
use Rattle.cd_infer.proofs.Giving.{usable_short}
use Rattle.cd_infer.proofs.PairLemmas.{all_of_map}
use Rattle.cd_infer.proofs.pairing.para_from_side.Goals as goal

pub loop-j-preserved-then-not-eligible : goal.loop-j-preserved-then-not-eligible
loop-j-preserved-then-not-eligible c =
    adds_next (PairGives c.args.two.now.order.now c.args.two.now.a_name c.args.two.now.a.now c.args.two.now.b_name c.args.two.now.b.now) (PairCan c.args.two.now.order.now c.args.two.now.a.now c.args.two.now.b.now) IsWithin (paras_into c.args.two.now.b.now c.args.i c.args.s) c.loop-j.j _ _ _ c.loop-j.invariant
    (adds_none (PairGives c.args.two.now.order.now c.args.two.now.a_name c.args.two.now.a.now c.args.two.now.b_name c.args.two.now.b.now) (PairCan c.args.two.now.order.now c.args.two.now.a.now c.args.two.now.b.now) IsWithin (paras_into c.args.two.now.b.now c.args.i c.args.s c.loop-j.j) c.loop-j.found
    (all_of_map (λ k. PairCan c.args.two.now.order.now c.args.two.now.a.now c.args.two.now.b.now k → ⊥) (para c.args.i c.args.s c.loop-j.j) (paths_in c.args.two.now.b.now c.loop-j.j) (λ p g. false≢true (c.if-not-eligible.ensures.1 g.2))))

pub para_into-requires-clause-giving : goal.para_into-requires-clause-giving
para_into-requires-clause-giving c = record {
  pairable = c.requires.pairable;
  in_a = c.requires.place;
  in_b = omega (arith, usable_short c.args.two.now.b.now c.requires.pairable.second);
  giver = c.requires.giver;
  taker = c.if-not-eligible.ensures.0 refl;
  side = c.requires.side;
}

pub returns-in-Err : goal.returns-in-Err
returns-in-Err c =
    gathers_err (PairGives c.args.two.now.order.now c.args.two.now.a_name c.args.two.now.a.now c.args.two.now.b_name c.args.two.now.b.now) (PairCan c.args.two.now.order.now c.args.two.now.a.now c.args.two.now.b.now) IsWithin ℕ ℕ (paras_into c.args.two.now.b.now c.args.i c.args.s c.loop-j.j) (flat_map (paras_into c.args.two.now.b.now c.args.i c.args.s) (range_with_len 0 (length c.args.two.now.b.now.literals))) [] [] [] [] c.in-Err.fault
    (overflow_at (PairGives c.args.two.now.order.now c.args.two.now.a_name c.args.two.now.a.now c.args.two.now.b_name c.args.two.now.b.now) (PairCan c.args.two.now.order.now c.args.two.now.a.now c.args.two.now.b.now) IsWithin (paras_into c.args.two.now.b.now c.args.i c.args.s) c.loop-j.j (length c.args.two.now.b.now.literals) (omega arith)) c.in-Err.ensures

pub loop-j-preserved : goal.loop-j-preserved
loop-j-preserved c = adds_next (PairGives c.args.two.now.order.now c.args.two.now.a_name c.args.two.now.a.now c.args.two.now.b_name c.args.two.now.b.now) (PairCan c.args.two.now.order.now c.args.two.now.a.now c.args.two.now.b.now) IsWithin (paras_into c.args.two.now.b.now c.args.i c.args.s) c.loop-j.j _ _ _ c.loop-j.invariant c.in_default.ensures
