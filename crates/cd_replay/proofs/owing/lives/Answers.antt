use Rattle.std.proofs.Common.{◌∙◌}
use Rattle.cd_replay.proofs.Searching.{lives_at, lives_none}
use Rattle.cd_replay.proofs.owing.lives.Goals as goal

pub returns-in-None : goal.returns-in-None
returns-in-None c = lives_none c.args.n c.args.known.now c.in-None.ensures

pub returns-in-Some : goal.returns-in-Some
returns-in-Some c = c.holds.ensures ∙ lives_at c.args.n c.args.known.now c.in-Some.found.0 c.in-Some.found.1.now c.in-Some.ensures
