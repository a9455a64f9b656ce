use Rattle.std.proofs.Common.{refl}
use Rattle.cd_acts.specs.View.{local_of}
use Rattle.cd_replay.proofs.Frames.{brought_sensible, keep_done, keep_once, keep_tasks, no_problem}
use Rattle.cd_replay.proofs.replayer.Replayer.keep_by.Goals as goal

pub keep-requires-clause-sensible : goal.keep-requires-clause-sensible
keep-requires-clause-sensible c = brought_sensible (local_of c.args.self.now.state) c.args.place c.bring.new.pending.items c.in_ok-bring.ensures c.requires.acts.sensible

pub rejoin-requires-clause-once : goal.rejoin-requires-clause-once
rejoin-requires-clause-once c =
    keep_once c.args.order.now no_problem c.args.self.now (record c.args.self.now.state { pending = c.bring.new.pending }) c.keep.new.self c.args.time c.args.place c.in_ok-letters.letters c.requires.acts
    c.in_ok-bring.ensures refl (c.in_ok-letters.ensures.does no_problem) (c.events_keep_ready.ensures c.args.order.now)

pub rejoin-requires-clause-fresh : goal.rejoin-requires-clause-fresh
rejoin-requires-clause-fresh c =
    keep_tasks c.args.order.now no_problem c.args.self.now (record c.args.self.now.state { pending = c.bring.new.pending }) c.keep.new.self c.args.time c.args.place c.in_ok-letters.letters c.requires.acts
    c.in_ok-bring.ensures refl (c.in_ok-letters.ensures.does no_problem)

pub returns : goal.returns
returns c = λ p.
    keep_done c.args.order.now p c.args.self.now (record c.args.self.now.state { pending = c.bring.new.pending }) c.keep.new.self c.args.time c.args.place c.in_ok-letters.letters c.requires.acts
    c.in_ok-bring.ensures refl (c.in_ok-letters.ensures.does p) (c.events_keep_ready.ensures c.args.order.now) c.rejoin.new.self c.in_ok-rejoin.ensures.joined c.in_ok-rejoin.ensures.drained
