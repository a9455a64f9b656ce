use Rattle.cd_replay.proofs.Frames.{admit_done, admit_once, admit_tasks}
use Rattle.cd_replay.proofs.replayer.Replayer.admit_at.Goals as goal

pub rejoin-requires-clause-once : goal.rejoin-requires-clause-once
rejoin-requires-clause-once c =
    admit_once c.args.order.now c.requires.may.0 c.args.self.now c.admit.new.self c.args.time c.args.place c.in_ok-letters.letters c.requires.acts
    (c.in_ok-letters.ensures.does c.requires.may.0 c.requires.may.1) (c.events_keep_ready.ensures c.args.order.now)

pub rejoin-requires-clause-fresh : goal.rejoin-requires-clause-fresh
rejoin-requires-clause-fresh c =
    admit_tasks c.args.order.now c.requires.may.0 c.args.self.now c.admit.new.self c.args.time c.args.place c.in_ok-letters.letters c.requires.acts
    (c.in_ok-letters.ensures.does c.requires.may.0 c.requires.may.1)

pub returns : goal.returns
returns c = λ p may.
    admit_done c.args.order.now p c.args.self.now c.admit.new.self c.args.time c.args.place c.in_ok-letters.letters c.requires.acts (c.in_ok-letters.ensures.does p may)
    (c.events_keep_ready.ensures c.args.order.now) c.rejoin.new.self c.in_ok-rejoin.ensures.joined c.in_ok-rejoin.ensures.drained
