use Rattle.std.proofs.Common.{◌≡◌, map, take, length}
use Rattle.cd_term.specs.Terms.{applied}
use Rattle.cd_term.proofs.instances.+same_applied.Given as goal

abbrev pub invariant-loop-i : goal.invariant-loop-i
invariant-loop-i l = (length l.args ≡ length l.others) × (map (applied l.s) (take l.i l.args) ≡ map (applied l.r) (take l.i l.others))
