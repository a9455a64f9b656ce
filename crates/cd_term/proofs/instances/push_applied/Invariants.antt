use Rattle.std.proofs.Common.{◌≡◌, ◌++◌, map, take}
use Rattle.cd_term.specs.Terms.{applied}
use Rattle.cd_term.proofs.instances.push_applied.Given as goal

abbrev pub invariant-loop-t : goal.invariant-loop-t
invariant-loop-t l = l.into ≡ l.initial.into ++ map (applied l.s) (take l.t-index l.ts)
