use Rattle.std.proofs.Common.{◌≡◌, Bool, true, false, refl}
use Rattle.cd_rewrite.specs.Reduction.{Reduces}
use Rattle.cd_rewrite.proofs.FirstPlaces.{test_yes, test_no}
use Rattle.cd_rewrite.proofs.Sides.{equation_bounds}
use Rattle.cd_rewrite.proofs.Idle.{sides_unwanted, met_left, met_right, met_never}
use Rattle.cd_rewrite.proofs.reducing.reduces_from.Goals as goal

holds : (b : Bool) → (b ≡ false → ⊥) → b ≡ true
holds true none = refl
holds false none = absurd (none refl)

pub returns-then-not-from_right : goal.returns-then-not-from_right
returns-then-not-from_right c =
    test_no (Reduces c.args.order.now c.args.e.now c.args.c.now)
    (sides_unwanted c.args.order.now c.args.e.now c.args.c.now (c.requires.left c.if-not-from_left.true) (c.requires.right c.if-not-from_right.true))

pub is_met-requires-clause-below : goal.is_met-requires-clause-below
is_met-requires-clause-below c =
    (equation_bounds c.args.e.now c.in-Some.left.now c.in-Some.right.now c.args.count c.in-Some.ensures c.requires.count).0

pub is_met-requires-2-clause-below : goal.is_met-requires-2-clause-below
is_met-requires-2-clause-below c =
    (equation_bounds c.args.e.now c.in-Some.left.now c.in-Some.right.now c.args.count c.in-Some.ensures c.requires.count).1

pub returns-then-met : goal.returns-then-met
returns-then-met c =
    test_yes (Reduces c.args.order.now c.args.e.now c.args.c.now)
    (met_left c.args.order.now c.args.e.now c.args.c.now c.in-Some.left.now c.in-Some.right.now c.in-Some.ensures (c.in_ok-met.ensures.0 c.if-met.true))

pub returns : goal.returns
returns c = (
  λ e. met_right c.args.order.now c.args.e.now c.args.c.now c.in-Some.left.now c.in-Some.right.now c.in-Some.ensures (c.in_ok-met-2.ensures.0 e),
  λ red. holds _ (λ out. met_never c.args.order.now c.args.e.now c.args.c.now c.in-Some.left.now c.in-Some.right.now c.args.from_left c.args.from_right c.in-Some.ensures
      (c.in_ok-met.ensures.1 c.if-met.false) (c.in_ok-met-2.ensures.1 out) c.requires.left c.requires.right red),
)
