use Rattle.std.proofs.Common.{subst}
use Rattle.cd_acts.specs.View.{local_of}
use Rattle.cd_replay.specs.Prospects.{IsProspect}
use Rattle.cd_replay.specs.Replayed.{replayed}
use Rattle.cd_replay.specs.declared.prospects.Prospect.{Prospect}
use Rattle.cd_replay.proofs.Choosing.{nameless_keep, rewriter_keep}
use Rattle.cd_replay.proofs.replayer.Replayer.keep.Goals as goal

pub returns-in-Rewritten : goal.returns-in-Rewritten
returns-in-Rewritten c = λ p f h.
    (let x = subst (λ (y : Prospect). IsProspect c.args.order.now (local_of c.args.self.now.state) c.in-Some.item.now y) c.in-Rewritten.is c.in_ok-prospect.ensures in
    rewriter_keep c.args.order.now (replayed c.args.self.now) c.args.place c.in-Some.item.now c.in-Some.ensures x.equation x.rewriter f h)

pub returns-in-TooLarge : goal.returns-in-TooLarge
returns-in-TooLarge c = λ p f h.
    (let x = subst (λ (y : Prospect). IsProspect c.args.order.now (local_of c.args.self.now.state) c.in-Some.item.now y) c.in-TooLarge.is c.in_ok-prospect.ensures in
    rewriter_keep c.args.order.now (replayed c.args.self.now) c.args.place c.in-Some.item.now c.in-Some.ensures x.0.equation x.2 f h)

pub returns-in-Nameless : goal.returns-in-Nameless
returns-in-Nameless c = λ p f h.
    nameless_keep c.args.order.now (replayed c.args.self.now) c.args.place c.in-Some.item.now c.in-Some.ensures
    (subst (λ (y : Prospect). IsProspect c.args.order.now (local_of c.args.self.now.state) c.in-Some.item.now y) c.in-Nameless.is c.in_ok-prospect.ensures) f h
