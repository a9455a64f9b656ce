-- The event that a turn makes.
-- Beyond the headline: no clause of `prove` reaches IsTurn, IsIdle, HasTurn, IsTurning.
use Rattle.std.specs.List.{AllByRecursion as Each}
use Rattle.std.specs.Prelude.{List, None, [], false, length, true, ℕ, ◌++◌, ◌∷◌, ◌≡◌, ◌⊎◌}
use Rattle.cd_infer.specs.declared.Conclusion.{Conclusion}
use Rattle.cd_kbo.specs.declared.order.Order.{Order}
use Rattle.cd_ledger.specs.declared.events.Act.{Act}
use Rattle.cd_ledger.specs.declared.events.Act.TheVariants.{Admit, Declare, End, Keep, Pass, Receive, Reject, Rewrite, Work}
use Rattle.cd_ledger.specs.declared.events.Bound.TheVariants.{Bounds, Names}
use Rattle.cd_ledger.specs.declared.events.Event.{Event}
use Rattle.cd_ledger.specs.declared.events.Verdict.{Verdict}
use Rattle.cd_ledger.specs.declared.events.Verdict.TheVariants.{Limit, Refuted, Saturated, Spent}
use Rattle.cd_ledger.specs.declared.items.Item.{Item}
use Rattle.cd_ledger.specs.declared.letters.Letter.{Letter}
use Rattle.cd_ledger.specs.declared.local.Local.{Local}
use Rattle.cd_machine.specs.Acts.{Concludes, Rewritten}
use Rattle.cd_machine.specs.Events.{Found}
use Rattle.cd_machine.specs.Fits.{IsLegal, IsRewritable, LocalStep, is_ready}
use Rattle.cd_machine.specs.Hits.{IsReducer, IsRewriter, IsSubsumer}
use Rattle.cd_machine.specs.Right.{registry_of}
use Rattle.cd_machine.specs.Rules.{IsConclusionWithin, IsTautology, IsWithin, ReductAt, is_empty}
use Rattle.cd_read.specs.declared.problem.Problem.{Problem}
use Rattle.cd_tasks.specs.declared.Task.{Task}

-- no waiting letter has all its cited names known
abbrev pub NoneReady : Local → Type 0
NoneReady s = Each (λ l. is_ready s.known l ≡ false) s.waiting

-- the first waiting letter that has
pub record IsFirstReady (s : Local) (place : ℕ) : Type 0 where
  pub front : List Letter
  pub letter : Letter
  pub back : List Letter
  pub split : s.waiting ≡ front ++ letter ∷ back
  pub at : place ≡ length front
  pub ready : is_ready s.known letter ≡ true
  pub first : Each (λ l. is_ready s.known l ≡ false) front

-- the first pending item
abbrev pub FirstItem : Local → (Item → Type 0) → Type 0
FirstItem s P = (i : Item) × (others : List Item) × (s.pending ≡ i ∷ others) × P i

-- the first owed task, where nothing is pending
abbrev pub FirstTask : Local → (Task → Type 0) → Type 0
FirstTask s P = (s.pending ≡ []) × ((t : Task) × (others : List Task) × (s.owed ≡ t ∷ others) × P t)

-- the rewriting of an item is out of bounds
abbrev pub ItemTooLarge : Order → Local → Item → Type 0
ItemTooLarge order s i = (r : Rewritten) × (r.item ≡ i) × IsRewriter order s.known i.forced i.clause r.equation
    × ReductAt order r.equation.entry.clause i.clause r.side r.literal r.path r.subst r.reduct × (¬ IsWithin r.reduct)

-- a conclusion of a task is out of bounds
abbrev pub TaskTooLarge : Order → Local → Task → Type 0
TaskTooLarge order s t = (found : List Conclusion) × Concludes order (registry_of s) t found × (¬ Each IsConclusionWithin found)

-- what the event would have been that ends the peer at a limit
abbrev pub EndsFirst : Order → Local → Verdict → Type 0
EndsFirst order s Refuted = ⊥
EndsFirst order s Saturated = ⊥
EndsFirst order s Spent = FirstItem s (IsRewritable order s) ⊎ FirstTask s (λ t. Unit {0})
EndsFirst order s (Limit Bounds) = FirstItem s (ItemTooLarge order s) ⊎ FirstTask s (TaskTooLarge order s)
EndsFirst order s (Limit Names) = FirstItem s (λ i. (i.forced ≡ None) × Each (λ e. ¬ IsReducer order i.clause e) s.known × (¬ IsTautology i.clause) × Each (λ e. ¬ IsSubsumer i.clause e) s.known × (is_empty i.clause ≡ false))

-- letters come first, then the first item, then the first task, then the token
abbrev pub IsFirstAct : Order → Local → Act → Type 0
IsFirstAct order s (Rewrite place) = NoneReady s × (place ≡ 0)
IsFirstAct order s (Keep place) = NoneReady s × (place ≡ 0)
IsFirstAct order s (Receive l) = ⊥
IsFirstAct order s (Admit place) = IsFirstReady s place
IsFirstAct order s (Reject place) = IsFirstReady s place
IsFirstAct order s (Work task) = NoneReady s × FirstTask s (λ t. t ≡ task)
IsFirstAct order s Pass = NoneReady s
IsFirstAct order s Declare = NoneReady s
IsFirstAct order s (End verdict) = NoneReady s × EndsFirst order s verdict

-- a turn: an event that is legal and first
pub record IsTurn (order : Order) (p : Problem) (s next : Local) (letters : List Letter) : Type 0 where
  pub event : Event
  pub first : IsFirstAct order s event.act
  pub step : LocalStep order p s event next letters

-- a turn is idle
abbrev pub IsIdle : Local → Type 0
IsIdle s = NoneReady s × (s.pending ≡ []) × (s.owed ≡ []) × (s.token ≡ None)

-- a legal event that is first
pub record HasTurn (order : Order) (p : Problem) (s : Local) : Type 0 where
  pub event : Event
  pub first : IsFirstAct order s event.act
  pub found : Found event.act
  pub legal : IsLegal order p s event found

-- one event is first and legal where the peer isn't idle; none where it is
pub record IsTurning (order : Order) (p : Problem) (s : Local) : Type 0 where
  pub one : HasTurn order p s ⊎ IsIdle s
  pub idle : IsIdle s → HasTurn order p s → ⊥
  pub once : (t u : HasTurn order p s) → t.event ≡ u.event
