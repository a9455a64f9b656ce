-- What holds of one peer at each moment, whatever letters it is given: the invariant that every event keeps.
-- Beyond the headline: no clause of `prove` reaches this file.
use Rattle.std.specs.Prelude.{◌≡◌, List, [], None}
use Rattle.std.specs.List.{AllByRecursion as Each}
use Rattle.cd_kbo.specs.declared.order.Order.{Order}
use Rattle.cd_ledger.specs.Records.{GoesOnBehindCopy}
use Rattle.cd_ledger.specs.declared.events.Event.{Event}
use Rattle.cd_ledger.specs.declared.items.Item.{Item}
use Rattle.cd_ledger.specs.declared.local.Local.{Local}
use Rattle.cd_ledger.specs.declared.records.Known.{Known}
use Rattle.cd_read.specs.declared.problem.Problem.{Problem}
use Rattle.cd_machine.specs.Rules.{IsFit, IsTautology, IsTidied}
use Rattle.cd_machine.specs.Events.{Found, after}
use Rattle.cd_machine.specs.Fits.{Fits}
use Rattle.cd_laws.specs.Premises.{Premises}
use Rattle.cd_laws.specs.Sound.{IsContracted}
use Rattle.cd_laws.specs.Rooted.{AreLed}
use Rattle.cd_alone.specs.Ready.{IsReady}
use Rattle.cd_alone.specs.Alone.{IsAloneStart, IsItemLed, Emptiness}

-- a known clause is fit, no tautology, tidy, and not a copy alone
abbrev pub IsSensible : Problem → Known → Type 0
IsSensible p e = IsFit p e.entry.clause × (¬ IsTautology e.entry.clause) × GoesOnBehindCopy e.entry.steps × IsTidied e.entry.clause e.entry.clause

-- entries and items are led to over what was known before
pub record Led (p : Problem) (es : List Known) (is : List Item) : Type 0 where
  pub led : AreLed p [] es
  pub right : Each (IsSensible p) es
  pub items : Each (IsItemLed p es) is

-- a turn has what it needs; all stands on what was known before; the peer is contracted; and the empty clause is known last, where it is
pub record Going (order : Order) (p : Problem) (s : Local) : Type 0 where
  pub ready : IsReady order s
  pub led : Led p s.known s.pending
  pub contracted : IsContracted order s.known
  pub emptiness : Emptiness s.verdict s.known

-- it holds at the start, and every event keeps it
abbrev pub StartsGo : Order → Type 0
StartsGo order = Premises order → (p : Problem) (s : Local) → IsAloneStart p s → Going order p s

-- every event that fits keeps it
abbrev pub EventsKeepGoing : Order → Type 0
EventsKeepGoing order = Premises order → (p : Problem) (s : Local) (e : Event) (f : Found e.act) → s.verdict ≡ None → Fits order p s e.act f → Going order p s → Going order p (after s e f)

-- what a turn needs is kept with no premise on the rules
abbrev pub EventsKeepReady : Order → Type 0
EventsKeepReady order = (p : Problem) (s : Local) (e : Event) (f : Found e.act) → Fits order p s e.act f → IsReady order s → IsReady order (after s e f)
