use Rattle.cd_replay.proofs.replayer.Replayer.admit.Goals as goal

pub admit_at-requires-clause-may : goal.admit_at-requires-clause-may
admit_at-requires-clause-may c = (
  c.args.problem.now,
  record { letter = c.in-Some.letter.now; there = c.in-Some.ensures.0; ready = c.in-Some.ensures.1; fine = c.in_ok-fine.ensures.0 c.if-not-fine.false },
)

pub returns : goal.returns
returns c =
    c.in_ok-letters.ensures c.args.problem.now
    (record { letter = c.in-Some.letter.now; there = c.in-Some.ensures.0; ready = c.in-Some.ensures.1; fine = c.in_ok-fine.ensures.0 c.if-not-fine.false })
