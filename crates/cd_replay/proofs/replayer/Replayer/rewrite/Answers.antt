use Rattle.std.proofs.Common.{subst}
use Rattle.cd_acts.specs.View.{local_of}
use Rattle.cd_replay.specs.Prospects.{IsProspect}
use Rattle.cd_replay.specs.Replayed.{replayed}
use Rattle.cd_replay.specs.declared.prospects.Prospect.{Prospect}
use Rattle.cd_replay.proofs.Choosing.{large_rewrite, stable_rewrite}
use Rattle.cd_replay.proofs.replayer.Replayer.rewrite.Goals as goal

pub returns-in-TooLarge : goal.returns-in-TooLarge
returns-in-TooLarge c = λ p time f h.
    large_rewrite c.args.order.now (replayed c.args.self.now) c.args.place c.in-Some.item.now c.in-Some.ensures (c.decisions_meet.ensures c.args.order.now)
    (subst (λ (x : Prospect). IsProspect c.args.order.now (local_of c.args.self.now.state) c.in-Some.item.now x) c.in-TooLarge.is c.in_ok-prospect.ensures) f h

pub returns-in-Kept : goal.returns-in-Kept
returns-in-Kept c = λ p time f h.
    stable_rewrite c.args.order.now (replayed c.args.self.now) c.args.place c.in-Some.item.now c.in-Some.ensures
    (subst (λ (x : Prospect). IsProspect c.args.order.now (local_of c.args.self.now.state) c.in-Some.item.now x) c.in-Kept.is c.in_ok-prospect.ensures).0 f h

pub returns-in-Nameless : goal.returns-in-Nameless
returns-in-Nameless c = λ p time f h.
    stable_rewrite c.args.order.now (replayed c.args.self.now) c.args.place c.in-Some.item.now c.in-Some.ensures
    (subst (λ (x : Prospect). IsProspect c.args.order.now (local_of c.args.self.now.state) c.in-Some.item.now x) c.in-Nameless.is c.in_ok-prospect.ensures).stable f h
