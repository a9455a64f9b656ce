-- The passes, joined from the last to the first.
-- Beyond the headline: no clause of `prove` reaches this file.
use Rattle.std.specs.Prelude.{◌≡◌, ℕ, ◌<◌, ◌≤◌, true, false, List, map, length, Some, slice_get, All}
use Rattle.std.specs.declared.alloc.Global.{Global}
use Rattle.crossbeam_queue.specs.SegTies.{SegId}
use Rattle.cd_mailbox.specs.declared.rule.View.{View}
use Rattle.cd_mailbox.specs.Views.{has_in, posted_in}
use Rattle.cd_mailbox.specs.Known.{MailSeat, Known, posted_to, id_of, seen_at, IsIdle}
use Rattle.cd_mailbox.specs.Life.{Drains}

-- a seat at each mailbox
pub record IsRow {L : Type 0} (boxes : List (SegId Global)) (seats : List (MailSeat L)) : Type 0 where
  pub ids : map id_of seats ≡ boxes
  pub idle : All IsIdle seats

-- the view of the mailbox q has what the passes from some number on have, and nothing else
pub record KnowsFrom {L : Type 0} (from q : ℕ) (passes : List (Known L)) (v : View L) : Type 0 where
  pub closed : v.opening ≡ false
  pub peers : v.peers ≡ length passes
  pub owner : v.owner ≡ q
  pub below : (p : ℕ) → p < from → has_in p v.parts ≡ false
  pub holds : (p : ℕ) (pass : Known L) → from ≤ p → slice_get passes p ≡ Some pass → has_in p v.parts ≡ true
  pub posted : (p : ℕ) (pass : Known L) → from ≤ p → slice_get passes p ≡ Some pass → posted_in p v.parts ≡ posted_to pass q
  pub taken : (pass : Known L) → from ≤ q → slice_get passes q ≡ Some pass → v.taken ≡ pass.taken

-- a seat at each mailbox, with all that the passes have
pub record AreJoined {L : Type 0} (boxes : List (SegId Global)) (passes : List (Known L)) (seats : List (MailSeat L)) : Type 0 where
  pub row : IsRow boxes seats
  pub each : (q : ℕ) → q < length boxes → KnowsFrom 0 q passes (seen_at seats q)

-- the letters that each mailbox had, emptied by these seats
pub record AreEmptied {L : Type 0} (sender receiver : L → ℕ) (boxes : List (SegId Global)) (seats : List (MailSeat L)) (left : List (List L)) : Type 0 where
  pub count : length left ≡ length boxes
  pub each : (q : ℕ) (letters : List L) → slice_get left q ≡ Some letters → Drains sender receiver (seen_at seats q) letters
