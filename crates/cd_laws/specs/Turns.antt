-- One event fits a turn where the peer is not idle, and no other.
-- Beyond the headline: no clause of `prove` reaches this file.
use Rattle.std.specs.List.{AllByRecursion as Each}
use Rattle.std.specs.Prelude.{List, None, Option, Some, length, slice_get, true, ℕ, ◌<◌, ◌≡◌, ◌≤◌, ◌⊎◌}
use Rattle.cd_clause.specs.declared.Clause.{Clause}
use Rattle.cd_infer.specs.declared.Conclusion.{Conclusion}
use Rattle.cd_kbo.specs.declared.order.Order.{Order}
use Rattle.cd_laws.specs.Premises.{Premises}
use Rattle.cd_ledger.specs.Records.{look, recorded}
use Rattle.cd_ledger.specs.declared.events.Event.{Event}
use Rattle.cd_ledger.specs.declared.items.Item.{Item}
use Rattle.cd_ledger.specs.declared.items.Origin.{Origin}
use Rattle.cd_ledger.specs.declared.letters.Letter.{Letter}
use Rattle.cd_ledger.specs.declared.local.Limits.{Limits}
use Rattle.cd_ledger.specs.declared.local.Local.{Local}
use Rattle.cd_ledger.specs.declared.records.Known.{Known}
use Rattle.cd_ledger.specs.declared.records.Record.{Record}
use Rattle.cd_machine.specs.Fits.{IsAcceptable, is_ready}
use Rattle.cd_machine.specs.Rules.{IsConclusionWithin, IsTautology, IsTidied, IsWithin, PairConcludes, Reduces, ReductAt, SoloConcludes, Subsumes}
use Rattle.cd_machine.specs.Turns.{IsTurning}
use Rattle.cd_machine.specs.World.{IsStart, Run, World, at}
use Rattle.cd_names.specs.declared.names.Name.{Name}
use Rattle.cd_names.specs.declared.ownership.Policy.{Policy}
use Rattle.cd_read.specs.declared.problem.Problem.{Problem}
use Rattle.cd_tasks.specs.declared.Task.{Task}
use Rattle.cd_tasks.specs.declared.Task.TheVariants.{Pair, Solo}
use Rattle.cd_term.specs.declared.Term.{Term}
use Rattle.cd_ledger.specs.declared.items.Origin.TheVariants as origin

-- what a turn takes from the rules beyond the premises: each relation is decided, and what is to be found is there, once
pub record Decisions (order : Order) : Type 0 where
  pub tautology : (c : Clause) → IsTautology c ⊎ (IsTautology c → ⊥)
  pub subsumes : (d c : Clause) → Subsumes d c ⊎ (Subsumes d c → ⊥)
  pub reduces : (e c : Clause) → Reduces order e c ⊎ (Reduces order e c → ⊥)
  pub reduct : (e c : Clause) → Reduces order e c → (s : ℕ) × (j : ℕ) × (path : List ℕ) × (t : List Term) × (d : Clause) × ReductAt order e c s j path t d
  pub reduct_once : (e c : Clause) (s j k i : ℕ) (path at : List ℕ) (t u : List Term) (d x : Clause) → ReductAt order e c s j path t d → ReductAt order e c k i at u x → d ≡ x
  pub reduct_reduces : (e c : Clause) (s j : ℕ) (path : List ℕ) (t : List Term) (d : Clause) → ReductAt order e c s j path t d → Reduces order e c
  pub tidied : (c : Clause) → (d : Clause) × IsTidied c d
  pub tidy : (c : Clause) → IsTidied c c ⊎ (IsTidied c c → ⊥)
  pub within : (c : Clause) → IsWithin c ⊎ (IsWithin c → ⊥)
  pub conclusion_within : (c : Conclusion) → IsConclusionWithin c ⊎ (IsConclusionWithin c → ⊥)
  pub solo : (a : Name) (c : Clause) → (found : List Conclusion) × SoloConcludes order a c found
  pub pair : (a b : Name) (c d : Clause) → (found : List Conclusion) × PairConcludes order a c b d found

-- an item is forced where it is a rework alone
abbrev pub ForcedRework : Origin → Option Name → Type 0
ForcedRework (origin.Input k) f = f ≡ None
ForcedRework (origin.Task t k) f = f ≡ None
ForcedRework (origin.Rework n) f = Unit {0}

-- only a rework is forced, and the units are within the limit
pub record IsBounded (s : Local) : Type 0 where
  pub forced : Each (λ i. ForcedRework i.origin i.forced) s.pending
  pub units : s.units ≤ s.limits.steps

-- a forced item is reduced by the entry that forces it; a task's names are known
abbrev pub IsForcedHere : Order → List Known → Item → Type 0
IsForcedHere order es i = (d : Name) → i.forced ≡ Some d → (e : Known) × (look es d ≡ Some e) × Reduces order e.entry.clause i.clause

-- a name is known here
abbrev pub IsNamed : List Known → Name → Type 0
IsNamed es n = (r : Record) × (recorded n es ≡ Some r)

-- the names of a task are known here
abbrev pub IsTaskHere : List Known → Task → Type 0
IsTaskHere es (Solo a) = IsNamed es a
IsTaskHere es (Pair a b) = IsNamed es a × IsNamed es b

-- what a turn needs of one peer
pub record CanTurn (order : Order) (p : Problem) (s : Local) : Type 0 where
  pub units : s.units ≤ s.limits.steps
  pub forced : Each (IsForcedHere order s.known) s.pending
  pub tasks : Each (IsTaskHere s.known) s.owed
  pub letters : (place : ℕ) (l : Letter) → slice_get s.waiting place ≡ Some l → is_ready s.known l ≡ true → IsAcceptable order p s l ⊎ (IsAcceptable order p s l → ⊥)

-- in every run, at each peer without a verdict
abbrev pub RunsTurn : Order → Type 0
RunsTurn order = Premises order → Decisions order → (p : Problem) (policy : Policy) (limits : Limits) (start w : World) (events : List Event) → IsStart p policy limits start → Run order p start events w
    → (q : ℕ) → q < length w.locals → (at w q).verdict ≡ None → IsTurning order p (at w q)
