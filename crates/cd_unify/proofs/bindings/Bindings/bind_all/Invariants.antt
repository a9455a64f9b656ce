use Rattle.std.proofs.Common.{◌≡◌, ◌≤◌, map}
use Rattle.cd_term.specs.Terms.{bound_of, greatest}
use Rattle.cd_unify.specs.Unifiers.{PrefixFits}
use Rattle.cd_unify.specs.Bindings.{values_in, room_in, IsNoted}
use Rattle.cd_unify.proofs.bindings.Bindings.bind_all.Given as goal

abbrev pub invariant-loop-i : goal.invariant-loop-i
invariant-loop-i l = record {
  covers : room_in l.self ≡ room_in l.initial.self;
  fits : greatest (map bound_of l.general) ≤ room_in l.initial.self →
      PrefixFits (values_in l.initial.self) (values_in l.self) l.general l.special l.i;
  noted : IsNoted l.initial.self l.self;
}
