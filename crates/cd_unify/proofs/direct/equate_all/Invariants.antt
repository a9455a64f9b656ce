use Rattle.std.proofs.Common.{◌≡◌, length, map}
use Rattle.cd_unify.specs.declared.direct.Outcome.TheVariants.{Equal}
use Rattle.cd_unify.specs.Unifiers.{raised}
use Rattle.cd_unify.specs.Direct.{bound_to, Settles}
use Rattle.cd_unify.proofs.DirectLemmas.{HeadsJoin}
use Rattle.cd_unify.proofs.direct.equate_all.Given as goal

abbrev pub invariant-loop-i : goal.invariant-loop-i
invariant-loop-i l = record {
  covers : length l.values.items ≡ length l.initial.values.items;
  settles : Settles (HeadsJoin (map (raised 0) l.left) (map (raised l.up) l.right) l.i) (bound_to l.initial.values.items) (bound_to l.values.items) Equal;
}
