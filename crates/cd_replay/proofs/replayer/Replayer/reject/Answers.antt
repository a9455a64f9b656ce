use Rattle.std.proofs.Common.{sym, ◌∙◌}
use Rattle.std.proofs.lemmas.Bool.{false≢true}
use Rattle.cd_replay.proofs.Frames.{reject_done}
use Rattle.cd_replay.proofs.replayer.Replayer.reject.Goals as goal

pub reject-letters-requires-clause-may : goal.reject-letters-requires-clause-may
reject-letters-requires-clause-may c = (
  c.args.order.now,
  c.args.problem.now,
  record { letter = c.in-Some.letter.now; there = c.in-Some.ensures.0; ready = c.in-Some.ensures.1; bad = λ h. false≢true (sym c.if-fine.false ∙ c.in_ok-fine.ensures.1 h) },
)

pub returns : goal.returns
returns c = λ time.
    reject_done c.args.order.now c.args.problem.now c.args.self.now c.reject-letters.new.self time c.args.place c.reject-letters.result c.requires
    (c.reject-letters.ensures.does c.args.order.now c.args.problem.now time
    (record { letter = c.in-Some.letter.now; there = c.in-Some.ensures.0; ready = c.in-Some.ensures.1; bad = λ h. false≢true (sym c.if-fine.false ∙ c.in_ok-fine.ensures.1 h) }))
    c.reject-letters.ensures.indexed
