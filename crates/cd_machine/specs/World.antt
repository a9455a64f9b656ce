-- All peers with the travelling letters, their runs, and how they start.
use Rattle.std.specs.List.{AllByRecursion as Each}
use Rattle.std.specs.Prelude.{List, None, Option, Some, [], cond, false, length, remove, slice_get, slice_index_or, slice_set, true, ℕ, ◌%◌, ◌++◌, ◌+◌, ◌<◌, ◌==◌, ◌^◌, ◌∷◌, ◌≡◌, ◌⊎◌}
use Rattle.cd_clause.specs.declared.Clause.{Clause}
use Rattle.cd_kbo.specs.declared.order.Order.{Order}
use Rattle.cd_ledger.specs.declared.events.Act.{Act}
use Rattle.cd_ledger.specs.declared.events.Act.TheVariants.{Admit, Declare, End, Keep, Pass, Receive, Reject, Rewrite, Work}
use Rattle.cd_ledger.specs.declared.events.Event.{Event}
use Rattle.cd_ledger.specs.declared.items.Item.{Item}
use Rattle.cd_ledger.specs.declared.letters.Letter.{Letter}
use Rattle.cd_ledger.specs.declared.local.Limits.{Limits}
use Rattle.cd_ledger.specs.declared.local.Local.{Local}
use Rattle.cd_machine.specs.Acts.{IsItemOf}
use Rattle.cd_machine.specs.Events.{Found, after, sent}
use Rattle.cd_machine.specs.Fits.{IsLegal}
use Rattle.cd_machine.specs.Rules.{IsFit, clauses_of}
use Rattle.cd_names.specs.declared.ownership.Policy.{Policy}
use Rattle.cd_names.specs.declared.ownership.Policy.TheVariants.{Round}
use Rattle.cd_names.specs.declared.waves.Token.{Token}
use Rattle.cd_read.specs.declared.problem.Problem.{Problem}
use Rattle.cd_steps.specs.declared.Step.TheVariants as step
use Rattle.cd_ledger.specs.declared.items.Origin.TheVariants as origin

-- the states of all peers, and the letters that were sent and not received
pub record World : Type 0 where
  pub locals : List Local
  pub travelling : List Letter

-- the state of a peer that isn't there
abbrev pub nobody : Local
nobody = record {
  me = 0;
  peers = 0;
  policy = Round;
  limits = record { steps = 0 };
  known = [];
  pending = [];
  settled = [];
  owed = [];
  done = [];
  waiting = [];
  token = None;
  count = record { sent = 0; received = 0 };
  next_seq = 0;
  units = 0;
  clock = 0;
  verdict = None;
  journal = [];
}

-- the state of peer p
abbrev pub at : World → ℕ → Local
at w p = slice_index_or w.locals p nobody

-- a Receive takes any one letter; the event's letters join
abbrev pub Moves : Act → List Letter → List Letter → List Letter → Type 0
Moves (Rewrite k) before new after = after ≡ before ++ new
Moves (Keep k) before new after = after ≡ before ++ new
Moves (Receive l) before new after = (k : ℕ) × (slice_get before k ≡ Some l) × (after ≡ remove before k ++ new)
Moves (Admit k) before new after = after ≡ before ++ new
Moves (Reject k) before new after = after ≡ before ++ new
Moves (Work t) before new after = after ≡ before ++ new
Moves Pass before new after = after ≡ before ++ new
Moves Declare before new after = after ≡ before ++ new
Moves (End v) before new after = after ≡ before ++ new

-- an event of one peer, legal there, at a time below 2^63
pub record WorldStep (order : Order) (p : Problem) (w : World) (e : Event) (v : World) : Type 0 where
  pub in_range : e.peer < length w.locals
  pub time : e.time < 2 ^ 63
  pub found : Found e.act
  pub legal : IsLegal order p (at w e.peer) e found
  pub stepped : v.locals ≡ slice_set w.locals e.peer (after (at w e.peer) e found)
  pub moved : Moves e.act w.travelling (sent (at w e.peer) e found) v.travelling

-- events one after another
abbrev pub Run : Order → Problem → World → List Event → World → Type 0
Run order p w [] v = v ≡ w
Run order p w (e ∷ es) v = (u : World) × WorldStep order p w e u × Run order p u es v

-- inputs from index k on that are in the share of peer q of n, each as an item
abbrev pub AreShare : ℕ → ℕ → ℕ → List Clause → List Item → Type 0
AreShare q n k [] items = items ≡ []
AreShare q n k (c ∷ cs) items =
    (((k % n == q) ≡ true) × ((item : Item) × (others : List Item) × IsItemOf (origin.Input k) (step.Input k) c item × AreShare q n (k + 1) cs others × (items ≡ item ∷ others)))
    ⊎ (((k % n == q) ≡ false) × AreShare q n (k + 1) cs items)

-- peer 0 holds the token
abbrev pub first_token : ℕ → Option Token
first_token q = cond (q == 0) (Some (record { one = []; two = [] })) None

-- a peer at its start, with the items of its share
abbrev pub starting : ℕ → ℕ → Policy → Limits → List Item → Local
starting q n policy limits items = record {
  me = q;
  peers = n;
  policy = policy;
  limits = limits;
  known = [];
  pending = items;
  settled = [];
  owed = [];
  done = [];
  waiting = [];
  token = first_token q;
  count = record { sent = 0; received = 0 };
  next_seq = 0;
  units = 0;
  clock = 0;
  verdict = None;
  journal = [];
}

-- each peer at its start, and nothing on its way; the inputs are fit
pub record IsStart (p : Problem) (policy : Policy) (limits : Limits) (w : World) : Type 0 where
  pub some_peer : 0 < length w.locals
  pub fit : Each (IsFit p) (clauses_of p)
  pub fresh : (q : ℕ) → q < length w.locals → (items : List Item) × AreShare q (length w.locals) 0 (clauses_of p) items × (at w q ≡ starting q (length w.locals) policy limits items)
  pub travelling : w.travelling ≡ []
