-- There is one plain order.
use Rattle.std.proofs.Common.{◌≡◌, ℕ, List, [], ap, sym, ◌∙◌, subst}
use Rattle.std.specs.Coded.{le_prop}
use Rattle.cd_kbo.specs.Weights.{AreWeights}
use Rattle.cd_kbo.specs.declared.order.Order.{Order}
use Rattle.cd_kbo.specs.declared.order.Select.{Select}
use Rattle.cd_kbo.specs.declared.order.Select.TheVariants.{Nothing}
use Rattle.cd_peer.specs.Plain.{no_weights, plain}

weights_prop : (ws : List ℕ) → IsProp (AreWeights ws)
weights_prop ws = hlevel le_prop

abbrev order_of : (ws rs : List ℕ) → Select → AreWeights ws → Order
order_of ws rs s h = record { weights = ws; ranks = rs; select = s; in_range = h }

pub plain_is : (o : Order) → o.weights ≡ [] → o.ranks ≡ [] → o.select ≡ Nothing → o ≡ plain
unfolding plain
plain_is o w r s =
    let P : List ℕ → Type 0 = λ ws. (h : AreWeights ws) → order_of ws o.ranks o.select h ≡ plain in
    subst P (sym w)
    (λ h. ap (λ (rs : List ℕ). order_of [] rs o.select h) r ∙ ap (λ (t : Select). order_of [] [] t h) s ∙ ap (λ (k : AreWeights []). order_of [] [] Nothing k) (weights_prop [] h no_weights))
    o.in_range
