use Rattle.std.proofs.Common.{refl}
use Rattle.cd_world.proofs.Worlds.{start_is, start_world}
use Rattle.cd_world.proofs.world.World.start.Goals as goal

pub invariant_of-result : goal.invariant_of-result
invariant_of-result c = rw (c.new.ensures, c.new-2.ensures)
    (start_world c.args.problem.now c.args.peers c.args.policy c.args.limits c.in_ok-all.all.items c.requires.some c.ranges.peers.fits c.requires.fit c.in_ok-all.ensures.many c.in_ok-all.ensures.each)

pub returns : goal.returns
returns c = record {
  starts = rw c.new.ensures (start_is c.args.problem.now c.args.peers c.args.policy c.args.limits c.in_ok-all.all.items c.requires.some c.requires.fit c.in_ok-all.ensures.many c.in_ok-all.ensures.each);
  many = c.in_ok-all.ensures.many;
  order = c.new-2.ensures;
  problem = refl;
  policy_is = refl;
  limits_are = refl;
  standing = refl;
}
