use Rattle.std.proofs.Common.{◌≡◌, length, take, drop}
use Rattle.cd_unify.specs.Bindings.{values_in, room_in, trail_in, unbound}
use Rattle.cd_unify.proofs.bindings.Bindings.undo.Given as goal

abbrev pub invariant-loop-self : goal.invariant-loop-self
invariant-loop-self l = record {
  covers : room_in l.self ≡ room_in l.initial.self;
  back : unbound (drop l.mark (trail_in l.self)) (values_in l.self) ≡ unbound (drop l.mark (trail_in l.initial.self)) (values_in l.initial.self);
  front : take l.mark (trail_in l.self) ≡ take l.mark (trail_in l.initial.self);
}

abbrev pub decreases-loop-self : goal.decreases-loop-self
decreases-loop-self l = length (trail_in l.self)
