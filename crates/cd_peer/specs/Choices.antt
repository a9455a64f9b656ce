-- What a peer does next: it is first, and fits.
-- Beyond the headline: no clause of `prove` reaches this file.
use Rattle.std.specs.Prelude.{◌≡◌, [], List, Some}
use Rattle.cd_acts.specs.Acts.{MayAdmit, MayKeep, MayPass, MayReject, MayRewrite, MayWork}
use Rattle.cd_kbo.specs.declared.order.Order.{Order}
use Rattle.cd_ledger.specs.Records.{look}
use Rattle.cd_ledger.specs.declared.events.Verdict.{Verdict}
use Rattle.cd_ledger.specs.declared.items.Item.{Item}
use Rattle.cd_ledger.specs.declared.local.Local.{Local}
use Rattle.cd_ledger.specs.declared.records.Known.{Known}
use Rattle.cd_machine.specs.Fits.{EndFits, IsQuiet, MayDeclare}
use Rattle.cd_machine.specs.Hits.{IsRewriter}
use Rattle.cd_machine.specs.Rules.{Reduces}
use Rattle.cd_machine.specs.Turns.{EndsFirst, IsFirstReady, IsIdle, NoneReady}
use Rattle.cd_names.specs.declared.names.Name.{Name}
use Rattle.cd_names.specs.declared.waves.Token.{Token}
use Rattle.cd_read.specs.declared.problem.Problem.{Problem}
use Rattle.cd_peer.specs.declared.choosing.Choice.{Choice}
use Rattle.cd_peer.specs.declared.choosing.Choice.TheVariants as choice

-- the entry under a name rewrites an item, and reduces it
pub record IsRewriterNamed (order : Order) (es : List Known) (i : Item) (by : Name) : Type 0 where
  pub equation : Known
  pub there : look es by ≡ Some equation
  pub named : by ≡ equation.entry.name
  pub rewriter : IsRewriter order es i.forced i.clause equation
  pub reduces : Reduces order equation.entry.clause i.clause

-- the limit is reached first, and fits
pub record MayEnd (order : Order) (s : Local) (v : Verdict) : Type 0 where
  pub none : NoneReady s
  pub first : EndsFirst order s v
  pub fits : EndFits order s v

-- the token that is held closes both waves
pub record MayClose (s : Local) : Type 0 where
  pub token : Token
  pub held : s.token ≡ Some token
  pub quiet : IsQuiet s
  pub closed : MayDeclare s token

-- what is to be done is first, and fits
abbrev pub IsChoice : Order → Problem → Local → Choice → Type 0
IsChoice order p s (choice.Admit place) = IsFirstReady s place × MayAdmit order p s place
IsChoice order p s (choice.Reject place) = IsFirstReady s place × MayReject order p s place
IsChoice order p s (choice.Rewrite by r) = NoneReady s × MayRewrite order s by r
IsChoice order p s (choice.Keep outcome) = NoneReady s × MayKeep order s outcome
IsChoice order p s (choice.Work task found) = NoneReady s × (s.pending ≡ []) × MayWork order s task found
IsChoice order p s choice.Pass = NoneReady s × MayPass s
IsChoice order p s choice.Declare = NoneReady s × MayClose s
IsChoice order p s (choice.End verdict) = MayEnd order s verdict
IsChoice order p s choice.Idle = IsIdle s
