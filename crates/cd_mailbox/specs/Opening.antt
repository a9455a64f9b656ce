-- What is left to be given while the passes are made.
-- Beyond the headline: no clause of `prove` reaches this file.
use Rattle.std.specs.Prelude.{◌≡◌, ℕ, ◌-◌, ◌<◌, List, map, length, All}
use Rattle.std.specs.declared.alloc.Global.{Global}
use Rattle.crossbeam_queue.specs.SegTies.{SegId}
use Rattle.cd_mailbox.specs.Views.{dealt}
use Rattle.cd_mailbox.specs.Known.{MailSeat, id_of, seen_at, IsIdle}

-- a seat at each mailbox, with the numbers of the peers from some number on
pub record RestsAre {L : Type 0} (boxes : List (SegId Global)) (peers from : ℕ) (rests : List (MailSeat L)) : Type 0 where
  pub ids : map id_of rests ≡ boxes
  pub idle : All IsIdle rests
  pub views : (q : ℕ) → q < length rests → seen_at rests q ≡ dealt peers q from (peers - from)
