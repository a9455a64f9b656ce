use Rattle.std.proofs.Common.{◌≡◌, ◌-◌, ◌^◌, ◌≤◌, map}
use Rattle.cd_term.specs.Terms.{bound_of, greatest}
use Rattle.cd_key.specs.Repeats.{clause_sides}
use Rattle.cd_key.proofs.RepeatLemmas.{counted_below}
use Rattle.cd_key.proofs.repeats.distinct_variables.Given as goal

abbrev pub invariant-loop-n : goal.invariant-loop-n
invariant-loop-n l = record {
  counted : l.count ≡ counted_below l.c.literals l.from;
  few : l.count ≤ l.from;
  small : l.from ≤ 2 ^ 32;
  inside : l.from ≤ greatest (map bound_of (clause_sides l.c.literals));
}

abbrev pub decreases-loop-n : goal.decreases-loop-n
decreases-loop-n l = 2 ^ 33 - l.from
