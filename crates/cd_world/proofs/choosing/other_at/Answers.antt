use Rattle.std.proofs.Common.{◌≡◌, List, false, subst}
use Rattle.std.specs.Prelude.{slice_get}
use Rattle.std.proofs.lemmas.List.{drop_all}
use Rattle.cd_ledger.specs.declared.letters.Letter.{Letter}
use Rattle.cd_world.specs.Schedule.{deliveries_from}
use Rattle.cd_world.proofs.Picks.{some_at}
use Rattle.cd_world.proofs.choosing.other_at.Goals as goal

pub unreachable-requires : goal.unreachable-requires
unreachable-requires c =
    some_at (deliveries_from false 0 c.args.letters.now) c.args.k
    (subst (λ (ls : List Letter). slice_get (deliveries_from false c.loop-letter.letter-index ls) c.loop-letter.left ≡ slice_get (deliveries_from false 0 c.args.letters.now) c.args.k)
    (drop_all c.loop-letter.letter-index c.args.letters.now c.loop-letter-test.false) c.loop-letter.invariant.so_far) c.requires
