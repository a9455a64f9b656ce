use Rattle.std.proofs.Common.{◌≡◌, ℕ, List}
use Rattle.cd_outside.proofs.Receiving.{Received}
use Rattle.cd_outside.proofs.folder.read_front.Given as goal

abbrev pub invariant-loop-left : goal.invariant-loop-left
invariant-loop-left g l = record { received : Received (g.O.Opener.left l.initial.file) (g.O.Opener.left l.file) l.cap l.left l.initial.into l.into; stays : (p : List ℕ) → g.O.Opener.holds l.opener p ≡ g.O.Opener.holds l.initial.opener p; none_failed : g.O.Opener.failed l.opener ≡ g.O.Opener.failed l.initial.opener }

abbrev pub decreases-loop-left : goal.decreases-loop-left
decreases-loop-left g l = l.left
