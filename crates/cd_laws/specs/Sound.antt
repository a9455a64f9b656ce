-- What holds at every moment of every run: the invariant of the laws.
-- Beyond the headline: no clause of `prove` reaches IsSpread, IsPlaced, Beaten, TrueReason, TrueStatus, IsRight,
--   TrueKnown, TrueNotice, TrueBody, TrueLetter, NameBelow, ReworkOf, FromTask, FromOrigin, ForcedFits, ItemFalls,
--   BehindCopy, TrueItem, OutcomeBelow, EndFalls, TrueSettled, IsMine, TrueDone, TrueToken, IsTrue, IsTrueWorld,
--   home_times, Owes, OwesPair, OwesSolo, reason_ends, status_ends, is_ended, IsCounted, StatusIs, Linked, IsShared,
--   unheld_times, heard, HasTold, tokens_at, tokens_of, IsSound.
use Rattle.std.specs.List.{AllByRecursion as Each, flat_map}
use Rattle.std.specs.Prelude.{Bool, List, None, Option, Some, [], cond, false, is_some, length, nat_lt, not, slice_get, true, ℕ, ◌%◌, ◌&&◌, ◌+◌, ◌<◌, ◌==◌, ◌^◌, ◌∷◌, ◌≡◌, ◌≢◌, ◌≤◌}
use Rattle.cd_clause.specs.declared.Clause.{Clause}
use Rattle.cd_infer.specs.declared.Conclusion.{Conclusion}
use Rattle.cd_kbo.specs.declared.order.Order.{Order}
use Rattle.cd_ledger.specs.Records.{GoesOnBehindCopy, InShare, IsShape, Registry, cites_of, equations_of, is_of, owner_by, used_in}
use Rattle.cd_ledger.specs.Statuses.{is_held, is_rework}
use Rattle.cd_ledger.specs.declared.items.Done.{Done}
use Rattle.cd_ledger.specs.declared.items.Item.{Item}
use Rattle.cd_ledger.specs.declared.items.Origin.{Origin}
use Rattle.cd_ledger.specs.declared.items.Outcome.{Outcome}
use Rattle.cd_ledger.specs.declared.items.Outcome.TheVariants.{Named, Subsumed, Trivial}
use Rattle.cd_ledger.specs.declared.items.Settled.{Settled}
use Rattle.cd_ledger.specs.declared.letters.Body.{Body}
use Rattle.cd_ledger.specs.declared.letters.Letter.{Letter}
use Rattle.cd_ledger.specs.declared.local.Local.{Local}
use Rattle.cd_ledger.specs.declared.records.Known.{Known}
use Rattle.cd_ledger.specs.declared.records.Reason.{Reason}
use Rattle.cd_ledger.specs.declared.records.Record.{Record}
use Rattle.cd_ledger.specs.declared.records.Status.{Status}
use Rattle.cd_ledger.specs.declared.records.Status.TheVariants.{Dropped, Held, Rework, Told}
use Rattle.cd_list.specs.Lists.{tally}
use Rattle.cd_machine.specs.Acts.{Concludes, resolution}
use Rattle.cd_machine.specs.Events.{is_token}
use Rattle.cd_machine.specs.Hits.{HowHolds, IsBelow}
use Rattle.cd_machine.specs.Right.{Lead}
use Rattle.cd_machine.specs.Rules.{Falls, IsFit, IsTautology, IsTidied, Reduces, Subsumes, clauses_of}
use Rattle.cd_machine.specs.Spread.{Genuine, held_times, issued, known_times, record_of, travelling_times, waiting_times}
use Rattle.cd_machine.specs.World.{World, at}
use Rattle.cd_names.specs.Names.{name_eq}
use Rattle.cd_names.specs.declared.How.{How}
use Rattle.cd_names.specs.declared.names.Name.{Name}
use Rattle.cd_names.specs.declared.ownership.Policy.{Policy}
use Rattle.cd_names.specs.declared.waves.Token.{Token}
use Rattle.cd_read.specs.declared.problem.Problem.{Problem}
use Rattle.cd_steps.specs.declared.Step.{Step}
use Rattle.cd_tasks.specs.declared.Task.{Task}
use Rattle.cd_tasks.specs.declared.Task.TheVariants.{Pair, Solo}
use Rattle.cd_steps.specs.declared.Step.TheVariants as step
use Rattle.cd_names.specs.declared.How.TheVariants as how
use Rattle.cd_ledger.specs.declared.items.Origin.TheVariants as origin
use Rattle.cd_ledger.specs.declared.records.Reason.TheVariants as reason
use Rattle.cd_ledger.specs.declared.letters.Body.TheVariants as body

-- an issued name is known at each peer, or exactly one letter brings it there; no other name is anywhere
abbrev pub IsSpread : World → Type 0
IsSpread w = (n : Name) (q : ℕ) → q < length w.locals → known_times n (at w q) + waiting_times n (at w q) + travelling_times n q w ≡ issued n w

-- a peer has its number, and knows how many peers there are and how names are shared out
abbrev pub IsPlaced : Policy → ℕ → ℕ → Local → Type 0
IsPlaced policy n q s = (s.me ≡ q) × (s.peers ≡ n) × (s.policy ≡ policy)

-- by names a record of smaller key that hits c
pub record Beaten (order : Order) (R : Registry) (c : Record) (by : Name) (h : How) : Type 0 where
  pub winner : Record
  pub recorded : R by ≡ Some winner
  pub below : IsBelow order winner c
  pub hits : HowHolds order h winner.clause c.clause

-- why a name was dropped
abbrev pub TrueReason : Order → Registry → Record → Reason → Type 0
TrueReason order R r (reason.Subsumed d) = Beaten order R r d how.Subsumes
TrueReason order R r (reason.Replaced by using) = Unit {0}
TrueReason order R r (reason.Simplified using end) = Unit {0}

-- a status says what it should
abbrev pub TrueStatus : Order → Registry → ℕ → Record → Status → Type 0
TrueStatus order R me r Held = Unit {0}
TrueStatus order R me r (Rework d) = (r.owner ≡ me) × Beaten order R r d how.Reduces
TrueStatus order R me r (Dropped why) = (r.owner ≡ me) × TrueReason order R r why
TrueStatus order R me r (Told d) = r.owner ≢ me

-- the record alone: its owner, its steps, its clause
pub record IsRight (p : Problem) (policy : Policy) (n : ℕ) (R : Registry) (r : Record) : Type 0 where
  pub owner : r.owner ≡ owner_by policy n r.name r.clause
  pub in_range : r.owner < n
  pub shape : IsShape r.steps
  pub behind_copy : GoesOnBehindCopy r.steps
  pub cites : r.cites ≡ cites_of r.steps
  pub leads : Lead p R None r.steps r.clause
  pub tidy : IsTidied r.clause r.clause
  pub fit : IsFit p r.clause
  pub no_tautology : ¬ IsTautology r.clause

-- a known entry is its issuer's, with a true status, and right
pub record TrueKnown (order : Order) (p : Problem) (policy : Policy) (n : ℕ) (R : Registry) (me : ℕ) (e : Known) : Type 0 where
  pub genuine : Genuine R e.entry
  pub status : TrueStatus order R me e.entry e.status
  pub right : IsRight p policy n R e.entry

-- a notice tells the owner of a loss
pub record TrueNotice (order : Order) (R : Registry) (to : ℕ) (of by : Name) (h : How) : Type 0 where
  pub loser : Record
  pub recorded : R of ≡ Some loser
  pub lost : Beaten order R loser by h
  pub owner : to ≡ loser.owner

-- a letter says what it should
abbrev pub TrueBody : Order → Problem → Policy → ℕ → Registry → ℕ → ℕ → Body → Type 0
TrueBody order p policy n R sender to (body.Kept r) = Genuine R r × (r.name.peer ≡ sender) × IsRight p policy n R r
TrueBody order p policy n R sender to (body.Notice of by h) = TrueNotice order R to of by h
TrueBody order p policy n R sender to (body.Token t) = (length t.one ≤ n) × (length t.two ≤ n)

-- a letter on its way, or waiting
pub record TrueLetter (order : Order) (p : Problem) (policy : Policy) (n : ℕ) (R : Registry) (l : Letter) : Type 0 where
  pub time : l.time < 2 ^ 63
  pub other : l.sender ≢ l.to
  pub sender : l.sender < n
  pub to_range : l.to < n
  pub says : TrueBody order p policy n R l.sender l.to l.body

-- the first step
abbrev pub BeginsWith : Step → List Step → Type 0
BeginsWith s [] = ⊥
BeginsWith s (t ∷ ts) = t ≡ s

-- the name's record has a smaller key
abbrev pub NameBelow : Order → Registry → Record → Name → Type 0
NameBelow order R r m = (d : Record) × (R m ≡ Some d) × IsBelow order d r

-- the steps of a rework begin with its record, and use equations of smaller key
pub record ReworkOf (order : Order) (R : Registry) (me : ℕ) (n : Name) (steps : List Step) : Type 0 where
  pub loser : Record
  pub recorded : R n ≡ Some loser
  pub owner : loser.owner ≡ me
  pub begins : BeginsWith (step.Copy n) steps
  pub below : Each (NameBelow order R loser) (flat_map used_in steps)

-- the steps begin with the conclusion of this number
pub record FromTask (order : Order) (R : Registry) (t : Task) (k : ℕ) (steps : List Step) : Type 0 where
  pub found : List Conclusion
  pub conclusion : Conclusion
  pub concludes : Concludes order R t found
  pub there : slice_get found k ≡ Some conclusion
  pub begins : BeginsWith conclusion.step steps

-- the steps begin as the origin says
abbrev pub FromOrigin : Order → Registry → ℕ → Origin → List Step → Type 0
FromOrigin order R me (origin.Input k) steps = BeginsWith (step.Input k) steps
FromOrigin order R me (origin.Task t k) steps = FromTask order R t k steps
FromOrigin order R me (origin.Rework n) steps = ReworkOf order R me n steps

-- a rework begins with its record's clause, which the forced equation reduces, and is smaller after that
abbrev pub ForcedFits : Order → Registry → Record → Clause → Option Name → Type 0
ForcedFits order R r c None = Falls order c r.clause
ForcedFits order R r c (Some d) = (c ≡ r.clause) × Beaten order R r d how.Reduces

-- the clause of a rework falls
abbrev pub ItemFalls : Order → Registry → Origin → Option Name → Clause → Type 0
ItemFalls order R (origin.Input k) forced c = Unit {0}
ItemFalls order R (origin.Task t k) forced c = Unit {0}
ItemFalls order R (origin.Rework n) forced c = (r : Record) × (R n ≡ Some r) × ForcedFits order R r c forced

-- where nothing forces an item, its steps are more than a copy
abbrev pub BehindCopy : Option Name → List Step → Type 0
BehindCopy None steps = GoesOnBehindCopy steps
BehindCopy (Some d) steps = Unit {0}

-- an item's steps lead to its clause from its origin
pub record TrueItem (order : Order) (p : Problem) (R : Registry) (me : ℕ) (i : Item) : Type 0 where
  pub from_origin : FromOrigin order R me i.origin i.steps
  pub falls : ItemFalls order R i.origin i.forced i.clause
  pub leads : Lead p R None i.steps i.clause
  pub shape : IsShape i.steps
  pub behind_copy : BehindCopy i.forced i.steps
  pub tidy : IsTidied i.clause i.clause
  pub fit : IsFit p i.clause

-- the clause is that of the named record, a tautology, or subsumed by the named record
abbrev pub OutcomeHolds : Registry → Clause → Outcome → Type 0
OutcomeHolds R c (Named n) = (r : Record) × (R n ≡ Some r) × (r.clause ≡ c)
OutcomeHolds R c Trivial = IsTautology c
OutcomeHolds R c (Subsumed d) = (r : Record) × (R d ≡ Some r) × Subsumes r.clause c

-- the named record has a smaller key
abbrev pub OutcomeBelow : Order → Registry → Record → Outcome → Type 0
OutcomeBelow order R r (Named n) = NameBelow order R r n
OutcomeBelow order R r Trivial = Unit {0}
OutcomeBelow order R r (Subsumed d) = NameBelow order R r d

-- the outcome of a rework is below what was reworked
abbrev pub EndFalls : Order → Registry → Origin → Outcome → Type 0
EndFalls order R (origin.Input k) outcome = Unit {0}
EndFalls order R (origin.Task t k) outcome = Unit {0}
EndFalls order R (origin.Rework n) outcome = (r : Record) × (R n ≡ Some r) × OutcomeBelow order R r outcome

-- a settled entry's steps lead from its origin to a clause of which the outcome holds
pub record TrueSettled (order : Order) (p : Problem) (R : Registry) (me : ℕ) (e : Settled) : Type 0 where
  pub clause : Clause
  pub from_origin : FromOrigin order R me e.origin e.steps
  pub leads : Lead p R None e.steps clause
  pub shape : IsShape e.steps
  pub outcome : OutcomeHolds R clause e.outcome
  pub falls : EndFalls order R e.origin e.outcome

-- the task is this peer's
abbrev pub IsMine : Registry → ℕ → Task → Type 0
IsMine R me (Solo a) = (r : Record) × (R a ≡ Some r) × (r.owner ≡ me)
IsMine R me (Pair a b) = (r : Record) × (R b ≡ Some r) × (r.owner ≡ me)

-- a done task has as many conclusions as it says
abbrev pub TrueDone : Order → Registry → ℕ → Done → Type 0
TrueDone order R me d = (found : List Conclusion) × Concludes order R d.task found × (d.conclusions ≡ length found) × IsMine R me d.task

-- a held token is no longer than there are peers
abbrev pub TrueToken : ℕ → Option Token → Type 0
TrueToken n None = Unit {0}
TrueToken n (Some t) = (length t.one ≤ n) × (length t.two ≤ n)

-- all that a peer has is true
pub record IsTrue (order : Order) (p : Problem) (policy : Policy) (n : ℕ) (R : Registry) (s : Local) : Type 0 where
  pub known : Each (TrueKnown order p policy n R s.me) s.known
  pub waiting : Each (TrueLetter order p policy n R) s.waiting
  pub mine : Each (λ l. l.to ≡ s.me) s.waiting
  pub pending : Each (TrueItem order p R s.me) s.pending
  pub settled : Each (TrueSettled order p R s.me) s.settled
  pub done : Each (TrueDone order R s.me) s.done
  pub owed : Each (IsMine R s.me) s.owed
  pub token : TrueToken n s.token

-- all that the peers have and all that travels is true
pub record IsTrueWorld (order : Order) (p : Problem) (policy : Policy) (w : World) : Type 0 where
  pub locals : (q : ℕ) → q < length w.locals → IsTrue order p policy (length w.locals) (record_of w) (at w q)
  pub travelling : Each (TrueLetter order p policy (length w.locals) (record_of w)) w.travelling

-- no held clause hits a held clause of greater key
abbrev pub IsCalm : Order → Known → Known → Type 0
IsCalm order f e = is_held f ≡ true → is_held e ≡ true → IsBelow order f.entry e.entry → (¬ Subsumes f.entry.clause e.entry.clause) × (¬ Reduces order f.entry.clause e.entry.clause)

-- no held clause hits another held one of greater key
abbrev pub IsContracted : Order → List Known → Type 0
IsContracted order es = Each (λ e. Each (λ f. IsCalm order f e) es) es

-- the same task
abbrev pub task_eq : Task → Task → Bool
task_eq (Solo a) (Solo b) = name_eq b a
task_eq (Solo a) (Pair b c) = false
task_eq (Pair a b) (Solo c) = false
task_eq (Pair a b) (Pair c d) = name_eq c a && name_eq d b

-- how often a name is held at its owner
abbrev pub home_times : Name → Local → ℕ
home_times n s = tally (λ e. is_of n e && (is_held e && (e.entry.owner == s.me))) s.known

-- how often a task is owed
abbrev pub owed_times : Task → Local → ℕ
owed_times t s = tally (task_eq t) s.owed

-- and done
abbrev pub done_times : Task → Local → ℕ
done_times t s = tally (λ d. task_eq t d.task) s.done

-- h: a is held; m: b is held at home; o, d: the task is owed, done; ka, kb: they are known
pub record Owes (h m o d ka kb : ℕ) : Type 0 where
  pub both : h ≡ 1 → m ≡ 1 → o + d ≡ 1
  pub first : h ≡ 0 → o ≡ 0
  pub second : m ≡ 0 → o ≡ 0
  pub once : o + d ≤ 1
  pub known_first : ka ≡ 0 → d ≡ 0
  pub known_second : kb ≡ 0 → d ≡ 0

-- a pair is owed or done as its names are held
abbrev pub OwesPair : Local → Name → Name → Type 0
OwesPair s a b = Owes (held_times a s) (home_times b s) (owed_times (Pair a b) s) (done_times (Pair a b) s) (known_times a s) (known_times b s)

-- and so is a task of one name
abbrev pub OwesSolo : Local → Name → Type 0
OwesSolo s a = Owes (home_times a s) (home_times a s) (owed_times (Solo a) s) (done_times (Solo a) s) (known_times a s) (known_times a s)

-- the same origin
abbrev pub origin_eq : Origin → Origin → Bool
origin_eq (origin.Input k) (origin.Input j) = k == j
origin_eq (origin.Input k) (origin.Task t j) = false
origin_eq (origin.Input k) (origin.Rework n) = false
origin_eq (origin.Task t k) (origin.Input j) = false
origin_eq (origin.Task t k) (origin.Task u j) = task_eq t u && (k == j)
origin_eq (origin.Task t k) (origin.Rework n) = false
origin_eq (origin.Rework n) (origin.Input j) = false
origin_eq (origin.Rework n) (origin.Task t k) = false
origin_eq (origin.Rework n) (origin.Rework m) = name_eq m n

-- how many items have an origin
abbrev pub pending_times : Origin → Local → ℕ
pending_times o s = tally (λ i. origin_eq o i.origin) s.pending

-- how many settled entries
abbrev pub settled_times : Origin → Local → ℕ
settled_times o s = tally (λ e. origin_eq o e.origin) s.settled

-- a rework came to its end
abbrev pub reason_ends : Reason → Bool
reason_ends (reason.Subsumed d) = false
reason_ends (reason.Replaced by using) = true
reason_ends (reason.Simplified using end) = true

abbrev pub status_ends : Status → Bool
status_ends Held = false
status_ends (Rework d) = false
status_ends (Dropped why) = reason_ends why
status_ends (Told d) = false

abbrev pub is_ended : Known → Bool
is_ended e = status_ends e.status

-- items and settled entries by their origins
pub record IsCounted (count n : ℕ) (s : Local) : Type 0 where
  pub once : (m : Name) → known_times m s ≤ 1
  pub reworks : (m : Name) → pending_times (origin.Rework m) s ≡ tally (λ e. is_of m e && is_rework e) s.known
  pub ended : (m : Name) → settled_times (origin.Rework m) s ≡ tally (λ e. is_of m e && is_ended e) s.known
  pub inputs : (k : ℕ) → pending_times (origin.Input k) s + settled_times (origin.Input k) s ≡ cond (nat_lt k count && (k % n == s.me)) 1 0
  pub conclusions : (t : Task) (k : ℕ) → pending_times (origin.Task t k) s + settled_times (origin.Task t k) s ≡ tally (λ d. task_eq t d.task && nat_lt k d.conclusions) s.done

-- the status of what an entry reworked is that of its outcome, with the equations that its steps use
abbrev pub StatusIs : List Known → Origin → Status → Type 0
StatusIs es (origin.Input k) st = Unit {0}
StatusIs es (origin.Task t k) st = Unit {0}
StatusIs es (origin.Rework n) st = Each (λ e. is_of n e ≡ true → e.status ≡ st) es

-- a settled rework and the status of its name agree
abbrev pub Linked : List Known → Settled → Type 0
Linked es x = StatusIs es x.origin (resolution x.outcome (equations_of x.steps))

-- inputs among the steps are in the share of the record's issuer, and of this peer
pub record IsShared (n : ℕ) (s : Local) : Type 0 where
  pub known : Each (λ e. Each (InShare n e.entry.name.peer) e.entry.steps) s.known
  pub pending : Each (λ i. Each (InShare n s.me) i.steps) s.pending

-- a notice about a name
abbrev pub body_tells : Name → Body → Bool
body_tells n (body.Kept r) = false
body_tells n (body.Notice of by h) = name_eq of n
body_tells n (body.Token t) = false

abbrev pub tells : Name → Letter → Bool
tells n l = body_tells n l.body

-- the same to a peer
abbrev pub tells_to : Name → ℕ → Letter → Bool
tells_to n q l = (l.to == q) && tells n l

-- how often a name is known and not held
abbrev pub unheld_times : Name → Local → ℕ
unheld_times n s = tally (λ e. is_of n e && not (is_held e)) s.known

-- a notice about n travels to the owner or waits there, or n isn't held there
abbrev pub heard : World → Name → ℕ → ℕ
heard w n o = tally (tells_to n o) w.travelling + tally (tells n) (at w o).waiting + unheld_times n (at w o)

-- its owner was told
abbrev pub status_told : Status → Bool
status_told Held = false
status_told (Rework d) = false
status_told (Dropped why) = false
status_told (Told d) = true

-- who told the owner has a notice on its way, or the owner no longer holds the name
abbrev pub HasTold : World → Known → Type 0
HasTold w e = status_told e.status ≡ true → 0 < heard w e.entry.name e.entry.owner

-- the tokens that a peer holds or that wait there
abbrev pub tokens_at : Local → ℕ
tokens_at s = cond (is_some s.token) 1 0 + tally is_token s.waiting

-- the tokens of some peers
abbrev pub tokens_of : List Local → ℕ
tokens_of [] = 0
tokens_of (s ∷ ss) = tokens_at s + tokens_of ss

-- all of it: what every event keeps
pub record IsSound (order : Order) (p : Problem) (policy : Policy) (w : World) : Type 0 where
  pub places : (q : ℕ) → q < length w.locals → IsPlaced policy (length w.locals) q (at w q)
  pub spread : IsSpread w
  pub truth : IsTrueWorld order p policy w
  pub contracted : (q : ℕ) → q < length w.locals → IsContracted order (at w q).known
  pub counted : (q : ℕ) → q < length w.locals → IsCounted (length (clauses_of p)) (length w.locals) (at w q)
  pub shares : (q : ℕ) → q < length w.locals → IsShared (length w.locals) (at w q)
  pub linked : (q : ℕ) → q < length w.locals → Each (Linked (at w q).known) (at w q).settled
  pub pairs : (q : ℕ) → q < length w.locals → (a b : Name) → OwesPair (at w q) a b
  pub solos : (q : ℕ) → q < length w.locals → (a : Name) → OwesSolo (at w q) a
  pub told : (q : ℕ) → q < length w.locals → Each (HasTold w) (at w q).known
  pub tokens : tokens_of w.locals + tally is_token w.travelling ≡ 1
