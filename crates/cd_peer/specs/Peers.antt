-- A peer as contracts see it, and its calls.
-- Beyond the headline: no clause of `prove` reaches this file.
use Rattle.std.specs.Prelude.{◌≡◌, ◌⊎◌, ℕ, ◌%◌, ◌==◌, ◌++◌, ◌∷◌, Bool, true, false, List, [], None, map}
use Rattle.cd_clause.specs.declared.Clause.{Clause}
use Rattle.cd_ledger.specs.declared.items.Item.{Item}
use Rattle.cd_ledger.specs.declared.items.Origin.TheVariants as origin
use Rattle.cd_ledger.specs.declared.letters.Letter.{Letter}
use Rattle.cd_ledger.specs.declared.local.Limits.{Limits}
use Rattle.cd_ledger.specs.declared.local.Local.{Local}
use Rattle.cd_machine.specs.Acts.{IsItemOf}
use Rattle.cd_machine.specs.Rules.{clauses_of}
use Rattle.cd_machine.specs.Turns.{IsIdle, IsTurn}
use Rattle.cd_machine.specs.World.{AreShare, starting}
use Rattle.cd_names.specs.declared.ownership.Policy.{Policy}
use Rattle.cd_read.specs.declared.problem.Input.{Input}
use Rattle.cd_read.specs.declared.problem.Problem.{Problem}
use Rattle.cd_steps.specs.declared.Step.TheVariants as step
use Rattle.cd_peer.specs.declared.peer.Turned.{Turned}
use Rattle.cd_peer.specs.declared.peer.Turned.TheVariants.{Did, Idle}
use Rattle.cd_peer.specs.Plain.{plain}
use Rattle.cd_peer.specs.Turns.{HasReceived}

-- the state, beside the problem, the letters that nobody has taken, and whether the peer has fallen
pub record PeerView : Type 0 where
  pub problem : Problem
  pub local : Local
  pub outgoing : List Letter
  pub fallen : Bool

-- after want of memory: the journal and the letters as before, and no verdict
pub record IsFallen (v w : PeerView) : Type 0 where
  pub fallen : w.fallen ≡ true
  pub journal : w.local.journal ≡ v.local.journal
  pub outgoing : w.outgoing ≡ v.outgoing
  pub problem : w.problem ≡ v.problem
  pub verdict : w.local.verdict ≡ None

-- the first event, and its letters behind the others
pub record Moves (v w : PeerView) : Type 0 where
  pub letters : List Letter
  pub turn : IsTurn plain v.problem v.local w.local letters
  pub outgoing : w.outgoing ≡ v.outgoing ++ letters
  pub problem : w.problem ≡ v.problem
  pub fallen : w.fallen ≡ false

-- one event, or none where the peer is idle
abbrev pub TurnsTo : PeerView → PeerView → Turned → Type 0
TurnsTo v w Did = Moves v w
TurnsTo v w Idle = IsIdle v.local × (w ≡ v)

-- the event by which a letter is received
pub record ReceivesTo (v w : PeerView) (l : Letter) : Type 0 where
  pub receives : HasReceived plain v.problem v.local w.local l
  pub outgoing : w.outgoing ≡ v.outgoing
  pub problem : w.problem ≡ v.problem
  pub fallen : w.fallen ≡ false

-- the clause of an input
abbrev pub clause_of : Input → Clause
clause_of i = i.clause

-- the items of the inputs in a share
abbrev pub AreShared : ℕ → ℕ → List Input → List Item → Type 0
AreShared me peers inputs items = AreShare me peers 0 (map clause_of inputs) items

-- an input in the share is the last item; another adds none
abbrev pub AddsShared : ℕ → ℕ → ℕ → Clause → List Item → List Item → Type 0
AddsShared me peers k c before after =
    (((k % peers == me) ≡ true) × (item : Item) × IsItemOf (origin.Input k) (step.Input k) c item × (after ≡ before ++ item ∷ [])) ⊎ (((k % peers == me) ≡ false) × (after ≡ before))

-- the start of one peer of a run, with its share of the inputs pending
pub record IsStartOf (p : Problem) (me peers : ℕ) (policy : Policy) (limits : Limits) (s : Local) : Type 0 where
  pub items : List Item
  pub share : AreShare me peers 0 (clauses_of p) items
  pub is : s ≡ starting me peers policy limits items

-- a new peer: no letter is there, and it hasn't fallen
pub record StartsAs (p : Problem) (me peers : ℕ) (policy : Policy) (limits : Limits) (v : PeerView) : Type 0 where
  pub problem : v.problem ≡ p
  pub local : IsStartOf p me peers policy limits v.local
  pub outgoing : v.outgoing ≡ []
  pub fallen : v.fallen ≡ false
