use Rattle.std.proofs.Common.{◌≡◌, ◌≤◌}
use Rattle.cd_term.specs.Terms.{bound_of}
use Rattle.cd_unify.specs.Unifiers.{PrefixFits}
use Rattle.cd_unify.specs.Bindings.{values_in, room_in, IsNoted}
use Rattle.cd_unify.proofs.bindings.Bindings.+bind.Given as goal

abbrev pub invariant-loop-i : goal.invariant-loop-i
invariant-loop-i l = record {
  covers : room_in l.self ≡ room_in l.fn.self;
  fits : bound_of l.general ≤ room_in l.fn.self → PrefixFits (values_in l.fn.self) (values_in l.self) l.arg-items l.others l.i;
  noted : IsNoted l.fn.self l.self;
}
