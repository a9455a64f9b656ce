use Rattle.std.proofs.Common.{refl}
use Rattle.std.proofs.Math.Seq.{take-append_seam}
use Rattle.cd_peer.proofs.turning.enter.Goals as goal

pub returns-in-Err-clause-letters : goal.returns-in-Err-clause-letters
returns-in-Err-clause-letters c = rw (c.truncate.ensures, c.in_ok-append.ensures.ok, c.len-before.ensures.value) (take-append_seam c.args.out.now c.args.letters)

pub returns-in-Ok-clause-ok : goal.returns-in-Ok-clause-ok
returns-in-Ok-clause-ok c = rw (c.in-Ok.ensures.ok, c.count_letters-sent.ensures, c.as_slice.ensures) refl
