-- What a turn needs of one peer, kept by every event with no premise on the rules.
-- Beyond the headline: no clause of `prove` reaches this file.
use Rattle.std.specs.List.{AllByRecursion as Each}
use Rattle.std.specs.Prelude.{List, ◌<◌, ◌≡◌, ◌≤◌}
use Rattle.cd_kbo.specs.declared.order.Order.{Order}
use Rattle.cd_laws.specs.Turns.{IsForcedHere, IsTaskHere}
use Rattle.cd_ledger.specs.Records.{is_of}
use Rattle.cd_ledger.specs.declared.local.Local.{Local}
use Rattle.cd_ledger.specs.declared.records.Known.{Known}
use Rattle.cd_list.specs.Lists.{tally}
use Rattle.cd_names.specs.declared.names.Name.{Name}

-- each name is known once at most
abbrev pub AreOnce : List Known → Type 0
AreOnce es = (n : Name) → tally (is_of n) es ≤ 1

-- an entry of this peer's own has a number below the next one
abbrev pub IsBelowNext : Local → Known → Type 0
IsBelowNext s e = e.entry.name.peer ≡ s.me → e.entry.name.seq < s.next_seq

-- names once and below the next one, tasks of known names, forced items that are reduced, and units within the limit
pub record IsReady (order : Order) (s : Local) : Type 0 where
  pub places : s.me < s.peers
  pub units : s.units ≤ s.limits.steps
  pub once : AreOnce s.known
  pub own : Each (IsBelowNext s) s.known
  pub tasks : Each (IsTaskHere s.known) s.owed
  pub forced : Each (IsForcedHere order s.known) s.pending
