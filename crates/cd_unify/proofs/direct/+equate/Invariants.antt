use Rattle.std.proofs.Common.{◌≡◌, length, map}
use Rattle.cd_unify.specs.declared.direct.Outcome.TheVariants.{Equal}
use Rattle.cd_unify.specs.Unifiers.{raised}
use Rattle.cd_unify.specs.Direct.{bound_to, Settles}
use Rattle.cd_unify.proofs.DirectLemmas.{HeadsJoin}
use Rattle.cd_unify.proofs.direct.+equate.Given as goal

abbrev pub decreases-equate : goal.decreases-equate
decreases-equate l = l.levels

abbrev pub invariant-loop-i : goal.invariant-loop-i
invariant-loop-i l = record {
  covers : length l.values.items ≡ length l.fn.values.items;
  settles : Settles (HeadsJoin (map (raised l.l.up) l.arg-items) (map (raised l.r.up) l.others) l.i) (bound_to l.fn.values.items) (bound_to l.values.items) Equal;
}
