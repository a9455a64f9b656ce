use Rattle.std.proofs.Common.{arith, refl, ◌≡◌, slice_get, Some, length, ap}
use Rattle.std.proofs.lemmas.Option.{slice_get_read}
use Rattle.cd_list.proofs.Lists.{set_same}
use Rattle.cd_list.proofs.sequence.Sequence.at_mut.Goals as goal

pub returns : goal.returns
returns g c =
    let v : slice_get c.args.self.now c.args.i ≡ Some c.index_mut.result.now
    = rw (← c.self.view_is) (slice_get_read c.self.inside.items.items (length c.self.inside.items.items) c.args.i c.index_mut.result.now refl (omega (arith, ap length c.self.view_is)) c.index_mut.ensures.value) in
    ((refl, λ w. rw c.self.view_is refl), record { writes_back = tt; value = v; same = set_same _ _ _ v })
