use Rattle.std.proofs.Common.{◌≡◌, map, take, length}
use Rattle.cd_term.specs.declared.Term.TheVariants.{Var}
use Rattle.cd_term.specs.Terms.{substituted, applied}
use Rattle.cd_term.proofs.instances.are_applied.Given as goal

abbrev pub invariant-loop-i : goal.invariant-loop-i
invariant-loop-i l = (length l.ts ≡ length l.us) × (map (applied l.s) (take l.i l.ts) ≡ map (substituted Var) (take l.i l.us))
