use Rattle.std.proofs.Common.{◌^◌, ◌-◌}
use Rattle.cd_clause.specs.Truth.{value}
use Rattle.cd_meaning.specs.Interps.{interp_of, point_of}
use Rattle.cd_meaning.proofs.Values.{place_next}
use Rattle.cd_meaning.proofs.truth.place_of.Goals as goal

pub loop-k-preserved : goal.loop-k-preserved
loop-k-preserved c =
    place_next (value (interp_of c.args.size c.args.tables.now) (point_of c.args.point.now)) c.args.size c.loop-k.at _ _ (2 ^ 64 - 1) c.loop-k.k c.args.terms.now _
    c.requires c.loop-k-test.true (assumption) c.term_value.ensures c.loop-k.invariant c.next_place-at.ensures
