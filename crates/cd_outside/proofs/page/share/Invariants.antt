use Rattle.std.proofs.Common.{◌≡◌, length}
use Rattle.cd_outside.specs.Page.{share_of}
use Rattle.cd_outside.proofs.page.share.Given as goal

abbrev pub invariant-loop-rest : goal.invariant-loop-rest
invariant-loop-rest l = share_of l.rest l.call ≡ share_of l.fails l.call

abbrev pub decreases-loop-rest : goal.decreases-loop-rest
decreases-loop-rest l = length l.rest
