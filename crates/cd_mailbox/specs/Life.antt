-- The first and the last pass of mailboxes.
-- Beyond the headline: no clause of `prove` reaches this file.
use Rattle.std.specs.Prelude.{◌≡◌, ℕ, suc, ◌<◌, ◌++◌, true, false, List, length, Some, slice_get, All}
use Rattle.std.specs.declared.alloc.Global.{Global}
use Rattle.crossbeam_queue.specs.SegTies.{SegId}
use Rattle.cd_mailbox.specs.declared.rule.View.{View}
use Rattle.cd_mailbox.specs.Views.{letters_of, has_in, posted_in, dealt}
use Rattle.cd_mailbox.specs.Rule.{IsFor}
use Rattle.cd_mailbox.specs.Known.{Known, fresh, posted_to}

-- The mailboxes of so many peers, and a fresh pass for each of them, in the order of their numbers.
pub record Opened {L : Type 0} (peers : ℕ) (boxes : List (SegId Global)) (passes : List (Known L)) : Type 0 where
  pub mailboxes : length boxes ≡ peers
  pub count : length passes ≡ peers
  pub each : (p : ℕ) → p < peers → slice_get passes p ≡ Some (fresh boxes p)

-- All passes of these mailboxes, in the order of the peers.
pub record AreAll {L : Type 0} (boxes : List (SegId Global)) (passes : List (Known L)) : Type 0 where
  pub count : length passes ≡ length boxes
  pub each : (p : ℕ) (pass : Known L) → slice_get passes p ≡ Some pass → (pass.boxes ≡ boxes) × (pass.peer ≡ p)

-- What is left in the mailbox of q, the oldest first: for each sender, what q took, followed by what is left, is what was
-- posted. Each letter that is left goes to q and comes from one of the peers.
pub record ClosesAt {L : Type 0} (sender receiver : L → ℕ) (passes : List (Known L)) (q : ℕ) (left : List L) : Type 0 where
  pub balance : (p : ℕ) (from to : Known L) → slice_get passes p ≡ Some from → slice_get passes q ≡ Some to → letters_of sender p to.taken ++ letters_of sender p left ≡ posted_to from q
  pub addressed : All (IsFor sender receiver (length passes) q) left

-- What is left in each mailbox, in the order of the peers.
pub record Closes {L : Type 0} (sender receiver : L → ℕ) (passes : List (Known L)) (left : List (List L)) : Type 0 where
  pub count : length left ≡ length passes
  pub each : (q : ℕ) (rest : List L) → slice_get left q ≡ Some rest → ClosesAt sender receiver passes q rest

-- ---- one mailbox

-- the numbers from some number on are still to be given, and there is one
pub record IsDealt {L : Type 0} (v : View L) : Type 0 where
  pub peers : ℕ
  pub owner : ℕ
  pub from : ℕ
  pub more : ℕ
  pub is : v ≡ dealt peers owner from (suc more)

-- two views of one mailbox, neither of which opens it
pub record AreJoinable {L : Type 0} (v w : View L) : Type 0 where
  pub first : v.opening ≡ false
  pub second : w.opening ≡ false
  pub peers : v.peers ≡ w.peers
  pub owner : v.owner ≡ w.owner

-- the letters that an emptied mailbox had
pub record Drains {L : Type 0} (sender receiver : L → ℕ) (v : View L) (left : List L) : Type 0 where
  pub balance : (p : ℕ) → has_in p v.parts ≡ true → letters_of sender p v.taken ++ letters_of sender p left ≡ posted_in p v.parts
  pub addressed : All (IsFor sender receiver v.peers v.owner) left
