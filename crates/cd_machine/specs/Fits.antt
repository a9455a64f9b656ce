-- When an event is legal: what was found for it fits the state.
-- Beyond the headline: no clause of `prove` reaches LocalStep.
use Rattle.std.specs.List.{AllByRecursion as Each, list_all}
use Rattle.std.specs.Prelude.{Bool, List, None, Option, Some, [], false, length, slice_get, true, ℕ, ◌&&◌, ◌<◌, ◌^◌, ◌≡◌, ◌≢◌, ◌≤◌, ◌⊎◌}
use Rattle.cd_contract.specs.declared.held.Hit.{Hit}
use Rattle.cd_infer.specs.declared.Conclusion.{Conclusion}
use Rattle.cd_kbo.specs.declared.order.Order.{Order}
use Rattle.cd_ledger.specs.Records.{GoesOnBehindCopy, InShare, IsShape, cites_of, is_known, look, owner_by}
use Rattle.cd_ledger.specs.declared.events.Act.{Act}
use Rattle.cd_ledger.specs.declared.events.Act.TheVariants.{Admit, Declare, End, Keep, Pass, Receive, Reject, Rewrite, Work}
use Rattle.cd_ledger.specs.declared.events.Bound.TheVariants.{Bounds, Names}
use Rattle.cd_ledger.specs.declared.events.Event.{Event}
use Rattle.cd_ledger.specs.declared.events.Verdict.{Verdict}
use Rattle.cd_ledger.specs.declared.events.Verdict.TheVariants.{Limit, Refuted, Saturated, Spent}
use Rattle.cd_ledger.specs.declared.items.Item.{Item}
use Rattle.cd_ledger.specs.declared.items.Outcome.{Outcome}
use Rattle.cd_ledger.specs.declared.items.Outcome.TheVariants.{Named, Subsumed, Trivial}
use Rattle.cd_ledger.specs.declared.letters.Body.{Body}
use Rattle.cd_ledger.specs.declared.letters.Letter.{Letter}
use Rattle.cd_ledger.specs.declared.local.Local.{Local}
use Rattle.cd_ledger.specs.declared.records.Known.{Known}
use Rattle.cd_ledger.specs.declared.records.Record.{Record}
use Rattle.cd_machine.specs.Acts.{Concludes, IsYield, Rewritten, taken}
use Rattle.cd_machine.specs.Arrivals.{new_record, next_name}
use Rattle.cd_machine.specs.Events.{Admitting, Found, Keeping, after, clock_after, sent}
use Rattle.cd_machine.specs.Hits.{AreHits, HowHolds, IsBelow, IsForward, IsReducer, IsRewriter, IsSubsumer}
use Rattle.cd_machine.specs.Lists.{IsFirst}
use Rattle.cd_machine.specs.Right.{IsTidyStep, Lead, registry_of}
use Rattle.cd_machine.specs.Rules.{IsConclusionWithin, IsFit, IsTautology, IsTidied, IsWithin, ReductAt, is_empty}
use Rattle.cd_machine.specs.Tokens.{wave_closed}
use Rattle.cd_names.specs.declared.How.{How}
use Rattle.cd_names.specs.declared.names.Name.{Name}
use Rattle.cd_names.specs.declared.waves.Token.{Token}
use Rattle.cd_read.specs.declared.problem.Problem.{Problem}
use Rattle.cd_tasks.specs.declared.Task.{Task}
use Rattle.cd_steps.specs.declared.Step.TheVariants as step
use Rattle.cd_ledger.specs.declared.letters.Body.TheVariants as body

-- the item is there, and the reduct at the first place by its rewriter is within bounds; a unit is left
pub record RewriteFits (order : Order) (s : Local) (place : ℕ) (r : Rewritten) : Type 0 where
  pub there : slice_get s.pending place ≡ Some r.item
  pub rewriter : IsRewriter order s.known r.item.forced r.item.clause r.equation
  pub reduces : ReductAt order r.equation.entry.clause r.item.clause r.side r.literal r.path r.subst r.reduct
  pub within : IsWithin r.reduct
  pub tidy : IsTidyStep (step.Rewrite r.equation.entry.name r.side r.literal r.path r.subst) r.reduct r.steps r.clause
  pub left : s.units < s.limits.steps

-- a tautology is trivial; else the first held clause that subsumes it; else the next name, where one is left or the clause is empty
abbrev pub OutcomeFits : Local → Item → Outcome → Type 0
OutcomeFits s i (Named n) = (¬ IsTautology i.clause) × Each (λ e. ¬ IsSubsumer i.clause e) s.known × (n ≡ next_name s) × ((s.next_seq < 65536) ⊎ (is_empty i.clause ≡ true))
OutcomeFits s i Trivial = IsTautology i.clause
OutcomeFits s i (Subsumed d) = (¬ IsTautology i.clause) × ((e : Known) × IsFirst (IsSubsumer i.clause) s.known e × (d ≡ e.entry.name))

-- what the record of a named item hits; an item that isn't named hits nothing
abbrev pub KeepHits : Order → Local → ℕ → Item → Outcome → (Known → Option How) → Type 0
KeepHits order s place i (Named n) hit = AreHits order (new_record s i) (taken s place i (Named n)).known hit
KeepHits order s place i Trivial hit = Unit {0}
KeepHits order s place i (Subsumed d) hit = Unit {0}

-- the item is there, isn't forced, and no held equation of smaller key reduces it
pub record KeepFits (order : Order) (s : Local) (place : ℕ) (k : Keeping) : Type 0 where
  pub there : slice_get s.pending place ≡ Some k.item
  pub free : k.item.forced ≡ None
  pub irreducible : Each (λ e. ¬ IsReducer order k.item.clause e) s.known
  pub outcome : OutcomeFits s k.item k.outcome
  pub hits : KeepHits order s place k.item k.outcome k.hit

-- whether a letter's cited names are all known
abbrev pub body_ready : List Known → Body → Bool
body_ready es (body.Kept r) = list_all (is_known es) r.cites
body_ready es (body.Notice of by h) = is_known es of && is_known es by
body_ready es (body.Token t) = true

abbrev pub is_ready : List Known → Letter → Bool
is_ready es l = body_ready es l.body

-- a record that may be admitted
pub record IsFine (p : Problem) (s : Local) (sender : ℕ) (r : Record) : Type 0 where
  pub unknown : is_known s.known r.name ≡ false
  pub issuer : r.name.peer ≡ sender
  pub owner : r.owner ≡ owner_by s.policy s.peers r.name r.clause
  pub shape : IsShape r.steps
  pub behind_copy : GoesOnBehindCopy r.steps
  pub cites : r.cites ≡ cites_of r.steps
  pub share : Each (InShare s.peers sender) r.steps
  pub leads : Lead p (registry_of s) None r.steps r.clause
  pub tidy : IsTidied r.clause r.clause
  pub fit : IsFit p r.clause
  pub no_tautology : ¬ IsTautology r.clause

-- both names are known, this peer owns the first, and the second makes it superfluous with a smaller key
abbrev pub NoticeHolds : Order → Local → Name → Name → How → Type 0
NoticeHolds order s of by h = (c : Known) × (d : Known) × (look s.known of ≡ Some c) × (look s.known by ≡ Some d) × (c.entry.owner ≡ s.me) × IsBelow order d.entry c.entry × HowHolds order h d.entry.clause c.entry.clause

-- what is asked of each letter beside its time and sender
abbrev pub BodyFine : Order → Problem → Local → ℕ → Body → Type 0
BodyFine order p s sender (body.Kept r) = IsFine p s sender r
BodyFine order p s sender (body.Notice of by h) = NoticeHolds order s of by h
BodyFine order p s sender (body.Token t) = (s.token ≡ None) × (length t.one ≤ s.peers) × (length t.two ≤ s.peers)

-- no reason for rejection holds
abbrev pub IsAcceptable : Order → Problem → Local → Letter → Type 0
IsAcceptable order p s l = (l.time < 2 ^ 63) × (l.sender ≢ s.me) × (l.sender < s.peers) × BodyFine order p s l.sender l.body

-- what a record hits that comes to be held; a record that is hit as it comes hits nothing
abbrev pub ArrivalHits : Order → Option Hit → Record → List Known → (Known → Option How) → Type 0
ArrivalHits order None r es hit = AreHits order r es hit
ArrivalHits order (Some h) r es hit = Unit {0}

-- what admitting a letter finds among the held entries
abbrev pub BodyHits : Order → Local → Body → Option Hit → (Known → Option How) → Type 0
BodyHits order s (body.Kept r) forward hit = IsForward order r s.known forward × ArrivalHits order forward r s.known hit
BodyHits order s (body.Notice of by h) forward hit = Unit {0}
BodyHits order s (body.Token t) forward hit = Unit {0}

-- the letter waits, is ready, and no reason for rejection holds
pub record AdmitFits (order : Order) (p : Problem) (s : Local) (place : ℕ) (a : Admitting) : Type 0 where
  pub there : slice_get s.waiting place ≡ Some a.letter
  pub ready : is_ready s.known a.letter ≡ true
  pub fine : IsAcceptable order p s a.letter
  pub hits : BodyHits order s a.letter.body a.forward a.hit

-- the letter waits, is ready, and a reason for rejection holds
pub record RejectFits (order : Order) (p : Problem) (s : Local) (place : ℕ) (l : Letter) : Type 0 where
  pub there : slice_get s.waiting place ≡ Some l
  pub ready : is_ready s.known l ≡ true
  pub bad : ¬ IsAcceptable order p s l

-- nothing is pending, nothing is owed, and no waiting letter is ready
pub record IsQuiet (s : Local) : Type 0 where
  pub pending : s.pending ≡ []
  pub owed : s.owed ≡ []
  pub waiting : Each (λ l. is_ready s.known l ≡ false) s.waiting

-- peer 0 holds a token whose waves are closed
abbrev pub MayDeclare : Local → Token → Type 0
MayDeclare s t = (s.me ≡ 0) × (wave_closed s.peers t ≡ true)

-- some item would be rewritten
abbrev pub IsRewritable : Order → Local → Item → Type 0
IsRewritable order s i = (e : Known) × IsRewriter order s.known i.forced i.clause e

-- some item would be rewritten, or some task done
abbrev pub WouldWork : Order → Local → Type 0
WouldWork order s = (s.owed ≢ []) ⊎ ((place : ℕ) × (i : Item) × (slice_get s.pending place ≡ Some i) × IsRewritable order s i)

-- some item's rewriting, or some task's conclusion, is out of bounds
abbrev pub TooLarge : Order → Local → Type 0
TooLarge order s =
    ((place : ℕ) × (r : Rewritten) × (slice_get s.pending place ≡ Some r.item) × IsRewriter order s.known r.item.forced r.item.clause r.equation
    × ReductAt order r.equation.entry.clause r.item.clause r.side r.literal r.path r.subst r.reduct × (¬ IsWithin r.reduct))
    ⊎ ((t : Task) × (place : ℕ) × (found : List Conclusion) × (slice_get s.owed place ≡ Some t) × Concludes order (registry_of s) t found × (¬ Each IsConclusionWithin found))

-- at which limit a peer may end
abbrev pub EndFits : Order → Local → Verdict → Type 0
EndFits order s Refuted = ⊥
EndFits order s Saturated = ⊥
EndFits order s Spent = (s.units ≡ s.limits.steps) × WouldWork order s
EndFits order s (Limit Bounds) = (s.units < s.limits.steps) × TooLarge order s
EndFits order s (Limit Names) = (65536 ≤ s.next_seq) × ((place : ℕ) × (i : Item) × (slice_get s.pending place ≡ Some i) × (i.forced ≡ None) × Each (λ e. ¬ IsReducer order i.clause e) s.known
    × (¬ IsTautology i.clause) × Each (λ e. ¬ IsSubsumer i.clause e) s.known × (is_empty i.clause ≡ false))

-- what an act asks of the state and of what was found
abbrev pub Fits : Order → Problem → Local → (act : Act) → Found act → Type 0
Fits order p s (Rewrite place) f = RewriteFits order s place f
Fits order p s (Keep place) f = KeepFits order s place f
Fits order p s (Receive l) f = l.to ≡ s.me
Fits order p s (Admit place) f = AdmitFits order p s place f
Fits order p s (Reject place) f = RejectFits order p s place f
Fits order p s (Work task) f = (s.units < s.limits.steps) × IsYield order s task f
Fits order p s Pass f = IsQuiet s × (s.token ≡ Some f) × (¬ MayDeclare s f)
Fits order p s Declare f = IsQuiet s × (s.token ≡ Some f) × MayDeclare s f
Fits order p s (End verdict) f = EndFits order s verdict

-- an event is legal: the peer has no verdict, the event is its own, has the time of the clock, and fits
pub record IsLegal (order : Order) (p : Problem) (s : Local) (e : Event) (f : Found e.act) : Type 0 where
  pub running : s.verdict ≡ None
  pub own : e.peer ≡ s.me
  pub time : e.time ≡ clock_after s.clock e.act
  pub fits : Fits order p s e.act f

-- a legal event with what it leaves and sends
pub record LocalStep (order : Order) (p : Problem) (s : Local) (e : Event) (next : Local) (letters : List Letter) : Type 0 where
  pub found : Found e.act
  pub legal : IsLegal order p s e found
  pub effect : next ≡ after s e found
  pub sends : letters ≡ sent s e found
