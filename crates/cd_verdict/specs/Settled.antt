-- All seats, joined.
-- Beyond the headline: no clause of `prove` reaches this file.
use Rattle.std.specs.Prelude.{◌≡◌, ℕ, ◌+◌, true, List, length, Some, slice_get, All}
use Rattle.cd_verdict.specs.Known.{BellId, Known}
use Rattle.cd_verdict.specs.Views.{has, is_marked, AgreesWith}

-- The seats of all peers, in the order of their numbers: each is of this bell and holds its peer's number.
pub record AreAll (bell : BellId) (seats : List Known) : Type 0 where
  pub count : length seats ≡ bell.peers
  pub each : (p : ℕ) (seat : Known) → slice_get seats p ≡ Some seat → (seat.bell ≡ bell.table) × (seat.view.peers ≡ bell.peers) × (has p seat.view.marks ≡ true)

-- The word is the one that each seat noted, if it noted any: where it is 0, none did. Any other word names a peer whose
-- seat has its number marked.
pub record Settles (word : ℕ) (seats : List Known) : Type 0 where
  pub noted : All (λ (seat : Known). AgreesWith word seat.view.noted) seats
  pub rung : (p : ℕ) → word ≡ p + 1 → (seat : Known) × (slice_get seats p ≡ Some seat) × (is_marked p seat.view.marks ≡ true)
