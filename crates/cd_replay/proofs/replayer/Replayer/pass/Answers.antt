use Rattle.std.proofs.Common.{refl}
use Rattle.cd_replay.proofs.Frames.{pass_done}
use Rattle.cd_replay.proofs.replayer.Replayer.pass.Goals as goal

pub returns-in_ok-letters-in-Some : goal.returns-in_ok-letters-in-Some
returns-in_ok-letters-in-Some c = λ order p.
    pass_done order p c.args.self.now c.pass.new.self c.args.time c.in_ok-letters-in-Some.letters c.requires.1.drained (c.if-not-is_quiet.ensures.0 refl) (c.in_ok-letters-in-Some.ensures.does order p) c.in_ok-letters-in-Some.ensures.indexed
