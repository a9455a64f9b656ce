-- The rule of one mailbox.
-- Beyond the headline: no clause of `prove` reaches this file.
use Rattle.std.specs.Prelude.{◌≡◌, ℕ, ◌<◌, true, List, ◌++◌, All}
use mathlib.Core.Option.{some}
use lib.ListN.{get_elem?}
use Rattle.cd_mailbox.specs.declared.rule.View.{View}
use Rattle.cd_mailbox.specs.Views.{letters_of, has, has_in, posted_in}

-- Of each number that the pass holds: the pass knows how many peers there are and who owns the mailbox, no other pass
-- holds the number, a number of its own is below the count of peers, and the pass knows what was posted under it. With
-- the owner's number it knows what was taken.
pub record Fits {L : Type 0} (peers owner : ℕ) (holder : ℕ → ℕ) (posted : ℕ → List L) (taken : List L) (pass : ℕ) (v : View L) : Type 0 where
  pub mailbox : (n : ℕ) → has n v ≡ true → (v.peers ≡ peers) × (v.owner ≡ owner)
  pub alone : (n : ℕ) → has n v ≡ true → holder n ≡ pass
  pub below : (n : ℕ) → has_in n v.parts ≡ true → n < peers
  pub sent : (n : ℕ) → has n v ≡ true → posted_in n v.parts ≡ posted n
  pub got : has owner v ≡ true → v.taken ≡ taken

-- the letter goes to the owner, and comes from a peer
pub record IsFor {L : Type 0} (sender receiver : L → ℕ) (peers owner : ℕ) (letter : L) : Type 0 where
  pub goes : receiver letter ≡ owner
  pub comes : sender letter < peers

-- The mailbox holds the letters, oldest first, and each pass has the view in its place. Each letter goes to the owner
-- and comes from a peer; of each peer, what was taken and then what the mailbox holds is what was posted; and each
-- pass knows what goes by the numbers that it holds.
pub record Delivers {L : Type 0} (sender receiver : L → ℕ) (letters : List L) (views : List (View L)) : Type 0 where
  pub peers : ℕ
  pub owner : ℕ
  pub holder : ℕ → ℕ
  pub posted : ℕ → List L
  pub taken : List L
  pub addressed : All (IsFor sender receiver peers owner) letters
  pub balance : (p : ℕ) → letters_of sender p taken ++ letters_of sender p letters ≡ posted p
  pub fits : (pass : ℕ) (v : View L) → get_elem? views pass ≡ some v → Fits peers owner holder posted taken pass v

-- At one moment the mailbox held the letters, and a pass had the view.
pub record Stood {L : Type 0} (sender receiver : L → ℕ) (v : View L) (letters : List L) : Type 0 where
  pub views : List (View L)
  pub pass : ℕ
  pub rule : Delivers sender receiver letters views
  pub there : get_elem? views pass ≡ some v
