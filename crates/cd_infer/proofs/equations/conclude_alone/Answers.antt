use Rattle.std.proofs.Common.{ℕ, [], ◌++◌}
use Rattle.cd_infer.specs.Conclusions.{SoloGives, SoloCan, IsWithin, refl_places, eqfac_places, factor_places}
use Rattle.cd_infer.proofs.Listing.{among_left, among_right}
use Rattle.cd_infer.proofs.PairLemmas.{solo_err, solo_ok}
use Rattle.cd_infer.proofs.equations.conclude_alone.Goals as goal

pub returns-in-Err : goal.returns-in-Err
returns-in-Err c =
    solo_err ℕ c.args.one.now.order.now c.args.one.now.name c.args.one.now.c.now (factor_places c.args.one.now.c.now) [] [] c.in-Err.fault (among_left (SoloGives c.args.one.now.order.now c.args.one.now.name c.args.one.now.c.now) (SoloCan c.args.one.now.order.now c.args.one.now.c.now) IsWithin _ (factor_places c.args.one.now.c.now) (refl_places c.args.one.now.c.now ++ eqfac_places c.args.one.now.c.now)) c.in-Err.ensures

pub returns-in-Err-reflect_all : goal.returns-in-Err-reflect_all
returns-in-Err-reflect_all c =
    solo_err ℕ c.args.one.now.order.now c.args.one.now.name c.args.one.now.c.now (refl_places c.args.one.now.c.now) [] [] c.in-Err-reflect_all.fault (λ o. among_right (SoloGives c.args.one.now.order.now c.args.one.now.name c.args.one.now.c.now) (SoloCan c.args.one.now.order.now c.args.one.now.c.now) IsWithin _ (factor_places c.args.one.now.c.now) (refl_places c.args.one.now.c.now ++ eqfac_places c.args.one.now.c.now) (among_left (SoloGives c.args.one.now.order.now c.args.one.now.name c.args.one.now.c.now) (SoloCan c.args.one.now.order.now c.args.one.now.c.now) IsWithin _ (refl_places c.args.one.now.c.now) (eqfac_places c.args.one.now.c.now) o)) c.in-Err-reflect_all.ensures

pub returns-in-Err-equate_all : goal.returns-in-Err-equate_all
returns-in-Err-equate_all c =
    solo_err ℕ c.args.one.now.order.now c.args.one.now.name c.args.one.now.c.now (eqfac_places c.args.one.now.c.now) [] [] c.in-Err-equate_all.fault (λ o. among_right (SoloGives c.args.one.now.order.now c.args.one.now.name c.args.one.now.c.now) (SoloCan c.args.one.now.order.now c.args.one.now.c.now) IsWithin _ (factor_places c.args.one.now.c.now) (refl_places c.args.one.now.c.now ++ eqfac_places c.args.one.now.c.now) (among_right (SoloGives c.args.one.now.order.now c.args.one.now.name c.args.one.now.c.now) (SoloCan c.args.one.now.order.now c.args.one.now.c.now) IsWithin _ (refl_places c.args.one.now.c.now) (eqfac_places c.args.one.now.c.now) o)) c.in-Err-equate_all.ensures

pub returns : goal.returns
returns c =
    solo_ok c.args.one.now.order.now c.args.one.now.name c.args.one.now.c.now _ _ _ _ c.new-found.ensures c.in_default.ensures c.in_default-reflect_all.ensures c.in_default-equate_all.ensures
