use Rattle.std.proofs.Common.{arith}
use Rattle.cd_replay.proofs.Searching.{waits_at}
use Rattle.cd_replay.proofs.admitting.ready_at.Goals as goal

pub letter_at-letter-requires : goal.letter_at-letter-requires
letter_at-letter-requires c = waits_at c.args.state.now.waiting c.args.place (omega (arith, c.len.ensures.value, c.if-place-len.false))
