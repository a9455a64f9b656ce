use Rattle.std.proofs.Common.{ℕ, []}
use Rattle.cd_infer.specs.Conclusions.{PairGives, PairCan, IsWithin, resolve_places, para_places}
use Rattle.cd_infer.proofs.Listing.{among_left, among_right}
use Rattle.cd_infer.proofs.PairLemmas.{answers_err, answers_ok}
use Rattle.cd_infer.proofs.pairing.conclude_both.Goals as goal

pub returns-in-Err : goal.returns-in-Err
returns-in-Err c =
    answers_err ℕ c.args.two.now.order.now c.args.two.now.a_name c.args.two.now.a.now c.args.two.now.b_name c.args.two.now.b.now (resolve_places c.args.two.now.a.now c.args.two.now.b.now) [] [] c.in-Err.fault (among_left (PairGives c.args.two.now.order.now c.args.two.now.a_name c.args.two.now.a.now c.args.two.now.b_name c.args.two.now.b.now) (PairCan c.args.two.now.order.now c.args.two.now.a.now c.args.two.now.b.now) IsWithin _ (resolve_places c.args.two.now.a.now c.args.two.now.b.now) (para_places c.args.two.now.a.now c.args.two.now.b.now)) c.in-Err.ensures

pub returns-in-Err-para_all : goal.returns-in-Err-para_all
returns-in-Err-para_all c =
    answers_err ℕ c.args.two.now.order.now c.args.two.now.a_name c.args.two.now.a.now c.args.two.now.b_name c.args.two.now.b.now (para_places c.args.two.now.a.now c.args.two.now.b.now) [] [] c.in-Err-para_all.fault (among_right (PairGives c.args.two.now.order.now c.args.two.now.a_name c.args.two.now.a.now c.args.two.now.b_name c.args.two.now.b.now) (PairCan c.args.two.now.order.now c.args.two.now.a.now c.args.two.now.b.now) IsWithin _ (resolve_places c.args.two.now.a.now c.args.two.now.b.now) (para_places c.args.two.now.a.now c.args.two.now.b.now)) c.in-Err-para_all.ensures

pub returns : goal.returns
returns c = answers_ok c.args.two.now.order.now c.args.two.now.a_name c.args.two.now.a.now c.args.two.now.b_name c.args.two.now.b.now _ _ _ c.new-found.ensures c.in_default.ensures c.in_default-para_all.ensures
