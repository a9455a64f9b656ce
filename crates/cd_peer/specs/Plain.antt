-- The order of terms that peers use.
use Rattle.std.specs.Prelude.{[]}
use Rattle.std.proofs.Common.{arith}
use Rattle.cd_kbo.specs.Weights.{AreWeights}
use Rattle.cd_kbo.specs.declared.order.Order.{Order}
use Rattle.cd_kbo.specs.declared.order.Select.TheVariants.{Nothing}

pub no_weights : AreWeights []
no_weights = record { positive = λ k. omega arith; small = λ k. omega arith }

-- each symbol weighs 1 and has the rank 0, and nothing is selected
unfoldable pub plain : Order
plain = record { weights = []; ranks = []; select = Nothing; in_range = no_weights }
