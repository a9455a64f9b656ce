-- How near a search is to its end.
-- Beyond the headline: no clause of `prove` reaches this file.
use Rattle.std.specs.Prelude.{ℕ, ◌≡◌, ◌≢◌, ◌<◌, ◌⊎◌, false, None}
use Rattle.cd_ledger.specs.declared.local.Limits.{Limits}
use Rattle.cd_ledger.specs.declared.local.Local.{Local}
use Rattle.cd_laws.specs.Measure.{Lower, names_left, units_left}
use Rattle.cd_laws.specs.Schedule.{Same, far}
use Rattle.cd_names.specs.declared.ownership.Policy.{Policy}
use Rattle.cd_peer.specs.Peers.{PeerView}
use Rattle.cd_peer.specs.Plain.{plain}
use Rattle.cd_search.specs.Search.{IsUnderway, alone}

-- a lone peer that hasn't fallen, on its way
pub record IsSearching (policy : Policy) (limits : Limits) (v : PeerView) : Type 0 where
  pub standing : v.fallen ≡ false
  pub underway : IsUnderway plain v.problem policy limits v.local

-- after a turn there is a verdict, or less is left to be done, or the token is nearer to its end
abbrev pub Nearer : Local → Local → Type 0
Nearer s next = (next.verdict ≢ None) ⊎ (Lower (alone next) (alone s) ⊎ (Same (alone next) (alone s) × (far (alone next) < far (alone s))))

-- there is no verdict, and so many units are left
abbrev pub HasUnits : ℕ → Local → Type 0
HasUnits units s = (s.verdict ≡ None) × (units_left s ≡ units)

-- and so many names
abbrev pub HasNames : ℕ → ℕ → Local → Type 0
HasNames units names s = HasUnits units s × (names_left s ≡ names)

-- there is a verdict, or a unit was used
abbrev pub HasSpent : Local → Local → Type 0
HasSpent s next = (next.verdict ≢ None) ⊎ (units_left next < units_left s)

-- there is a verdict, or a unit was used, or none was and a name was given
abbrev pub HasGiven : Local → Local → Type 0
HasGiven s next = HasSpent s next ⊎ ((units_left next ≡ units_left s) × (names_left next < names_left s))
