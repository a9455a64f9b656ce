-- Places in an order.
use Rattle.std.proofs.Common.{◌≡◌, ℕ, suc, ◌≤◌, List, [], ◌∷◌, length, nat_eq, Bool, true, false, arith, refl}
use Rattle.cd_term.specs.Terms.{rank}

rank_le_at : (x : ℕ) (xs : List ℕ) (k : ℕ) (b : Bool) → nat_eq x k ≡ b → rank xs k ≤ length xs → rank (x ∷ xs) k ≤ suc (length xs)
rank_le_at x xs k true is rest = rw is (omega arith)
rank_le_at x xs k false is rest = rw is (omega arith)

pub rank_le : (xs : List ℕ) (k : ℕ) → rank xs k ≤ length xs
rank_le [] k = omega arith
rank_le (x ∷ xs) k = rank_le_at x xs k (nat_eq x k) refl (rank_le xs k)
