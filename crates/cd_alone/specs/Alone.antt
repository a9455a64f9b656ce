-- One peer, whatever letters it is given: its runs, and what holds at each moment of them.
-- Beyond the headline: no clause of `prove` reaches this file.
use Rattle.std.specs.List.{AllByRecursion as Each}
use Rattle.std.specs.Prelude.{List, None, Option, Some, [], false, filter, length, remove, true, ℕ, ◌++◌, ◌<◌, ◌==◌, ◌∷◌, ◌≡◌, ◌⊎◌}
use Rattle.cd_alone.specs.Ready.{AreOnce, IsBelowNext}
use Rattle.cd_clause.specs.Truth.{Holds, Interp, IsInterp}
use Rattle.cd_clause.specs.declared.Clause.{Clause}
use Rattle.cd_kbo.specs.declared.order.Order.{Order}
use Rattle.cd_laws.specs.Premises.{Premises}
use Rattle.cd_laws.specs.Rooted.{AreLed}
use Rattle.cd_laws.specs.Sound.{BehindCopy, IsContracted}
use Rattle.cd_laws.specs.Turns.{Decisions, IsForcedHere}
use Rattle.cd_ledger.specs.Records.{GoesOnBehindCopy, IsShape, Registry, recorded}
use Rattle.cd_ledger.specs.declared.events.Act.TheVariants.{Reject}
use Rattle.cd_ledger.specs.declared.events.Event.{Event}
use Rattle.cd_ledger.specs.declared.events.Verdict.{Verdict}
use Rattle.cd_ledger.specs.declared.events.Verdict.TheVariants.{Limit, Refuted, Saturated, Spent}
use Rattle.cd_ledger.specs.declared.items.Item.{Item}
use Rattle.cd_ledger.specs.declared.letters.Letter.{Letter}
use Rattle.cd_ledger.specs.declared.local.Limits.{Limits}
use Rattle.cd_ledger.specs.declared.local.Local.{Local}
use Rattle.cd_ledger.specs.declared.records.Known.{Known}
use Rattle.cd_machine.specs.Events.{tick}
use Rattle.cd_machine.specs.Fits.{LocalStep}
use Rattle.cd_machine.specs.Right.{IsReplayed, Lead}
use Rattle.cd_machine.specs.Rules.{IsFit, IsTautology, IsTidied, clauses_of, is_empty}
use Rattle.cd_machine.specs.Turns.{IsTurning}
use Rattle.cd_machine.specs.World.{AreShare, IsStart, Run, World, at, starting}
use Rattle.cd_names.specs.declared.ownership.Policy.{Policy}
use Rattle.cd_read.specs.declared.problem.Problem.{Problem}
use Rattle.cd_steps.specs.declared.Step.{Step}

-- what a turn takes from the rules where letters may lie: fitness and replay are decided, a step gives one clause, and clauses can be compared
pub record Tests : Type 0 where
  pub fit : (p : Problem) (c : Clause) → IsFit p c ⊎ (IsFit p c → ⊥)
  pub replay : (p : Problem) (R : Registry) (current : Option Clause) (s : Step) → ((c : Clause) × IsReplayed p R current s c) ⊎ ((c : Clause) → IsReplayed p R current s c → ⊥)
  pub replay_once : (p : Problem) (R : Registry) (current : Option Clause) (s : Step) (c d : Clause) → IsReplayed p R current s c → IsReplayed p R current s d → c ≡ d
  pub same : (c d : Clause) → (c ≡ d) ⊎ (c ≡ d → ⊥)

-- a peer as its start makes it, under the conditions of that call
pub record IsAloneStart (p : Problem) (s : Local) : Type 0 where
  pub me : ℕ
  pub peers : ℕ
  pub policy : Policy
  pub limits : Limits
  pub items : List Item
  pub fit : Each (IsFit p) (clauses_of p)
  pub in_range : me < peers
  pub share : AreShare me peers 0 (clauses_of p) items
  pub is : s ≡ starting me peers policy limits items

-- legal local steps one after another; what a Receive takes is any letter that is addressed to this peer
abbrev pub Steps : Order → Problem → Local → List Event → Local → Type 0
Steps order p s [] t = t ≡ s
Steps order p s (e ∷ es) t = (u : Local) × (letters : List Letter) × LocalStep order p s e u letters × Steps order p u es t

-- a run of one peer from its start
pub record AloneRun (order : Order) (p : Problem) (start : Local) (events : List Event) (s : Local) : Type 0 where
  pub starts : IsAloneStart p start
  pub steps : Steps order p start events s

-- an item's steps lead to its clause over what is known, and the clause is fit and tidy
pub record IsItemLed (p : Problem) (es : List Known) (i : Item) : Type 0 where
  pub leads : Lead p (λ n. recorded n es) None i.steps i.clause
  pub shape : IsShape i.steps
  pub behind_copy : BehindCopy i.forced i.steps
  pub tidy : IsTidied i.clause i.clause
  pub fit : IsFit p i.clause

-- an entry whose clause isn't empty
abbrev pub IsNotEmpty : Known → Type 0
IsNotEmpty e = is_empty e.entry.clause ≡ false

-- the empty clause is known last, and once
pub record EndsEmpty (es : List Known) : Type 0 where
  pub front : List Known
  pub last : Known
  pub split : es ≡ front ++ last ∷ []
  pub others : Each IsNotEmpty front
  pub empty : is_empty last.entry.clause ≡ true

-- the empty clause is known where the verdict is Refuted, and nowhere else
abbrev pub Emptiness : Option Verdict → List Known → Type 0
Emptiness None es = Each IsNotEmpty es
Emptiness (Some Refuted) es = EndsEmpty es
Emptiness (Some Saturated) es = Each IsNotEmpty es
Emptiness (Some Spent) es = Each IsNotEmpty es
Emptiness (Some (Limit b)) es = Each IsNotEmpty es

-- at each moment
pub record IsAlone (order : Order) (p : Problem) (s : Local) : Type 0 where
  pub once : AreOnce s.known
  pub own : Each (IsBelowNext s) s.known
  pub led : AreLed p [] s.known
  pub behind_copy : Each (λ e. GoesOnBehindCopy e.entry.steps) s.known
  pub items : Each (IsItemLed p s.known) s.pending
  -- the equation that an item is to be rewritten by first is known, and reduces it
  pub forced : Each (IsForcedHere order s.known) s.pending
  pub contracted : IsContracted order s.known
  pub no_tautology : Each (λ e. ¬ IsTautology e.entry.clause) s.known
  pub holds : (interp : Interp) → IsInterp interp → Each (Holds interp) (clauses_of p) → Each (λ e. Holds interp e.entry.clause) s.known
  pub items_hold : (interp : Interp) → IsInterp interp → Each (Holds interp) (clauses_of p) → Each (λ i. Holds interp i.clause) s.pending
  pub emptiness : Emptiness s.verdict s.known

-- after every run of one peer
abbrev pub AloneRunsAreLawful : Order → Type 0
AloneRunsAreLawful order = Premises order → (p : Problem) (start s : Local) (events : List Event) → AloneRun order p start events s → IsAlone order p s

-- a Reject takes its letter out, and sends nothing
abbrev pub RejectsChangeNothing : Order → Type 0
RejectsChangeNothing order = (p : Problem) (s next : Local) (e : Event) (letters : List Letter) (place : ℕ) → LocalStep order p s e next letters → e.act ≡ Reject place
    → (next ≡ record s { waiting = remove s.waiting place; clock = tick s.clock; journal = s.journal ++ e ∷ [] }) × (letters ≡ [])

-- one event, or none where it is idle
abbrev pub AloneRunsTurn : Order → Type 0
AloneRunsTurn order = Premises order → Decisions order → Tests → (p : Problem) (start s : Local) (events : List Event) → AloneRun order p start events s → s.verdict ≡ None → IsTurning order p s

-- the events of one peer among all
abbrev pub events_of : ℕ → List Event → List Event
events_of q es = filter (λ e. e.peer == q) es

-- each peer of a run makes a run of its own
abbrev pub RunsAreAlone : Order → Type 0
RunsAreAlone order = (p : Problem) (policy : Policy) (limits : Limits) (start w : World) (events : List Event) → IsStart p policy limits start → Run order p start events w
    → (q : ℕ) → q < length w.locals → AloneRun order p (at start q) (events_of q events) (at w q)
