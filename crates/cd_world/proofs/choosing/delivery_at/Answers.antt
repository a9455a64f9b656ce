use Rattle.std.proofs.Common.{◌≡◌, ◌<◌, Bool, length, subst, sym}
use Rattle.std.specs.Prelude.{slice_get, Some}
use Rattle.cd_world.specs.declared.moving.Choice.TheVariants.{Deliver}
use Rattle.cd_world.specs.Schedule.{deliveries_from}
use Rattle.cd_world.proofs.Picks.{place_at}
use Rattle.cd_world.proofs.choosing.delivery_at.Goals as goal

pub returns-then-tokens : goal.returns-then-tokens
returns-then-tokens c =
    subst (λ (b : Bool). slice_get (deliveries_from b 0 c.args.letters.now) c.args.k ≡ Some (Deliver c.args.k)) (sym c.if-tokens.true)
    (place_at c.args.letters.now c.args.k (subst (λ (b : Bool). c.args.k < length (deliveries_from b 0 c.args.letters.now)) c.if-tokens.true c.requires))
