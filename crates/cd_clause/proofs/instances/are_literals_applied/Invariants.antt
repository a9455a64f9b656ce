use Rattle.std.proofs.Common.{◌≡◌, map, take, length}
use Rattle.cd_term.specs.Terms.{applied}
use Rattle.cd_clause.specs.Clauses.{literal_changed}
use Rattle.cd_clause.proofs.instances.are_literals_applied.Given as goal

abbrev pub invariant-loop-i : goal.invariant-loop-i
invariant-loop-i l = (length l.ls ≡ length l.ms) × (map (literal_changed (applied l.s)) (take l.i l.ls) ≡ take l.i l.ms)
