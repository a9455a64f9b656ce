-- Weights and ranks of symbols, and how an order changes.
-- Beyond the headline: no clause of `prove` reaches ChangesOnly.
use Rattle.std.specs.Prelude.{ℕ, ◌≡◌, ◌≢◌, slice_index, slice_index_or}
use Rattle.cd_kbo.specs.declared.order.Order.{Order}

-- what a symbol weighs, 1 past the end
abbrev pub weight_at : Order → ℕ → ℕ
weight_at o f = slice_index_or o.weights f 1

-- the rank of a symbol, 0 past the end
abbrev pub rank_at : Order → ℕ → ℕ
rank_at o f = slice_index o.ranks f

-- the new order gives the symbol this weight and rank, and all else is as before
pub record ChangesOnly (old new : Order) (symbol weight rank : ℕ) : Type 0 where
  pub weight_set : weight_at new symbol ≡ weight
  pub rank_set : rank_at new symbol ≡ rank
  pub other_weights : (f : ℕ) → f ≢ symbol → weight_at new f ≡ weight_at old f
  pub other_ranks : (f : ℕ) → f ≢ symbol → rank_at new f ≡ rank_at old f
  pub same_select : new.select ≡ old.select
