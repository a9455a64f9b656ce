-- What a run keeps: names, live clauses and what the others rest on, models, and accounts of tasks.
-- Beyond the headline: no clause of `prove` reaches ByItem, ByEntry, Covered, forced_names, outcome_names, rests,
--   DescendsIn, Descends, BodyGenuine, InRuns, StatusFits, AreNamesOne, NamesAreOne, PeersAreContracted,
--   NamesDescend, CarriedClausesKeepModels, TasksAreAccounted, HasOneToken, TokensAreOne, HasNoLetters,
--   LonePeersSendNothing, Laws, RunsAreLawful, RunsRejectNothing.
use Rattle.std.proofs.Common.{inl, inr}
use Rattle.std.specs.List.{AllByRecursion as Each, flat_map}
use Rattle.std.specs.Prelude.{List, None, Option, Some, [], length, slice_get, suc, true, zero, ℕ, ◌&&◌, ◌++◌, ◌+◌, ◌<◌, ◌∷◌, ◌≡◌, ◌≢◌, ◌⊎◌}
use Rattle.cd_clause.specs.Truth.{Holds, Interp, IsInterp}
use Rattle.cd_clause.specs.declared.Clause.{Clause}
use Rattle.cd_infer.specs.declared.Conclusion.{Conclusion}
use Rattle.cd_kbo.specs.declared.order.Order.{Order}
use Rattle.cd_laws.specs.Premises.{Premises}
use Rattle.cd_laws.specs.Sound.{Beaten, BeginsWith, ForcedFits, IsContracted, IsSpread, NameBelow, OutcomeBelow, OutcomeHolds, done_times, origin_eq, owed_times, pending_times, settled_times, status_told, task_eq, tells, tells_to, tokens_of}
use Rattle.cd_ledger.specs.Records.{IsShape, Registry, equations_of, is_of, used_in}
use Rattle.cd_ledger.specs.declared.events.Act.TheVariants.{Reject}
use Rattle.cd_ledger.specs.declared.events.Event.{Event}
use Rattle.cd_ledger.specs.declared.items.Item.{Item}
use Rattle.cd_ledger.specs.declared.items.Outcome.{Outcome}
use Rattle.cd_ledger.specs.declared.items.Outcome.TheVariants.{Named, Subsumed, Trivial}
use Rattle.cd_ledger.specs.declared.items.Settled.{Settled}
use Rattle.cd_ledger.specs.declared.letters.Body.{Body}
use Rattle.cd_ledger.specs.declared.local.Limits.{Limits}
use Rattle.cd_ledger.specs.declared.local.Local.{Local}
use Rattle.cd_ledger.specs.declared.records.Record.{Record}
use Rattle.cd_ledger.specs.declared.records.Status.{Status}
use Rattle.cd_ledger.specs.declared.records.Status.TheVariants.{Held, Rework, Dropped, Told}
use Rattle.cd_list.specs.Lists.{tally}
use Rattle.cd_machine.specs.Acts.{Concludes, resolution}
use Rattle.cd_machine.specs.Carried.{IsClosed, IsLive, carried, held_by}
use Rattle.cd_machine.specs.Events.{is_token}
use Rattle.cd_machine.specs.Right.{Lead}
use Rattle.cd_machine.specs.Rules.{IsTautology, clauses_of}
use Rattle.cd_machine.specs.Spread.{Genuine, known_times, record_of, travelling_times, waiting_times}
use Rattle.cd_machine.specs.World.{IsStart, Run, World, at}
use Rattle.cd_names.specs.declared.names.Name.{Name}
use Rattle.cd_names.specs.declared.ownership.Policy.{Policy}
use Rattle.cd_read.specs.declared.problem.Problem.{Problem}
use Rattle.cd_tasks.specs.declared.Task.{Task}
use Rattle.cd_tasks.specs.declared.Task.TheVariants.{Pair, Solo}
use Rattle.cd_steps.specs.declared.Step.TheVariants as step
use Rattle.cd_names.specs.declared.How.TheVariants as how
use Rattle.cd_ledger.specs.declared.items.Origin.TheVariants as origin
use Rattle.cd_ledger.specs.declared.letters.Body.TheVariants as body

-- the one pending item that reworks the record: its steps lead from the record to its clause, by equations of smaller key
pub record ByItem (order : Order) (p : Problem) (w : World) (r : Record) : Type 0 where
  pub item : Item
  pub place : ℕ
  pub there : slice_get (at w r.owner).pending place ≡ Some item
  pub once : pending_times (origin.Rework r.name) (at w r.owner) ≡ 1
  pub shape : IsShape item.steps
  pub begins : BeginsWith (step.Copy r.name) item.steps
  pub leads : Lead p (record_of w) None item.steps item.clause
  pub goes_on : Each (NameBelow order (record_of w) r) (flat_map used_in item.steps)
  pub forced : ForcedFits order (record_of w) r item.clause item.forced

-- the one settled entry that reworked it
pub record ByEntry (order : Order) (p : Problem) (w : World) (r : Record) : Type 0 where
  pub entry : Settled
  pub clause : Clause
  pub place : ℕ
  pub there : slice_get (at w r.owner).settled place ≡ Some entry
  pub once : settled_times (origin.Rework r.name) (at w r.owner) ≡ 1
  pub shape : IsShape entry.steps
  pub begins : BeginsWith (step.Copy r.name) entry.steps
  pub leads : Lead p (record_of w) None entry.steps clause
  pub goes_on : Each (NameBelow order (record_of w) r) (flat_map used_in entry.steps)
  pub outcome : OutcomeHolds (record_of w) clause entry.outcome
  pub below : OutcomeBelow order (record_of w) r entry.outcome
  pub reason : Each (λ e. is_of r.name e ≡ true → e.status ≡ resolution entry.outcome (equations_of entry.steps)) (at w r.owner).known

-- a name is live, or in rework with one item, or dropped with its reason
abbrev pub Covered : Order → Problem → World → Record → Type 0
Covered order p w r = IsLive w r ⊎ (ByItem order p w r ⊎ (((d : Name) × Beaten order (record_of w) r d how.Subsumes) ⊎ ByEntry order p w r))

-- the names that a cover rests on
abbrev pub forced_names : Option Name → List Name
forced_names None = []
forced_names (Some d) = d ∷ []

-- the name in an outcome
abbrev pub outcome_names : Outcome → List Name
outcome_names (Named n) = n ∷ []
outcome_names Trivial = []
outcome_names (Subsumed d) = d ∷ []

-- the names in a cover's reason, and those that its item or entry uses
abbrev pub rests : (order : Order) → (p : Problem) (w : World) (r : Record) → Covered order p w r → List Name
rests order p w r (inl l) = []
rests order p w r (inr (inl x)) = forced_names x.item.forced ++ flat_map used_in x.item.steps
rests order p w r (inr (inr (inl x))) = x.0 ∷ []
rests order p w r (inr (inr (inr x))) = outcome_names x.entry.outcome ++ flat_map used_in x.entry.steps

-- covered, and so is each record that the cover rests on, by at most so many falls; each has a smaller key
abbrev pub DescendsIn : Order → ℕ → Problem → World → Record → Type 0
DescendsIn order zero p w r = ⊥
DescendsIn order (suc m) p w r = (c : Covered order p w r) × Each (λ n. (d : Record) × (record_of w n ≡ Some d) × DescendsIn order m p w d) (rests order p w r c)

-- by some number of falls
abbrev pub Descends : Order → Problem → World → Record → Type 0
Descends order p w r = (m : ℕ) × DescendsIn order m p w r

-- two lists of clauses hold in the same finite interpretations
abbrev pub HaveSameModels : List Clause → List Clause → Type 0
HaveSameModels cs ds = (interp : Interp) → IsInterp interp → (Each (Holds interp) cs → Each (Holds interp) ds) × (Each (Holds interp) ds → Each (Holds interp) cs)

-- a conclusion is exactly one pending item or one settled entry, whose steps begin with it
pub record IsKept (p : Problem) (w : World) (s : Local) (t : Task) (k : ℕ) (c : Conclusion) : Type 0 where
  pub once : pending_times (origin.Task t k) s + settled_times (origin.Task t k) s ≡ 1
  pub pending : Each (λ i. origin_eq (origin.Task t k) i.origin ≡ true → BeginsWith c.step i.steps × Lead p (record_of w) None i.steps i.clause) s.pending
  pub settled : Each (λ e. origin_eq (origin.Task t k) e.origin ≡ true → BeginsWith c.step e.steps × ((d : Clause) × Lead p (record_of w) None e.steps d × OutcomeHolds (record_of w) d e.outcome)) s.settled

-- a done task's conclusions are all of them, each kept
pub record IsDone (order : Order) (p : Problem) (w : World) (s : Local) (t : Task) : Type 0 where
  pub found : List Conclusion
  pub concludes : Concludes order (record_of w) t found
  pub counted : Each (λ d. task_eq t d.task ≡ true → d.conclusions ≡ length found) s.done
  pub kept : (k : ℕ) (c : Conclusion) → slice_get found k ≡ Some c → IsKept p w s t k c

-- the Kept letter to q of the record travels or waits
abbrev pub Comes : World → Record → ℕ → Type 0
Comes w r q = (known_times r.name (at w q) ≡ 0) × (waiting_times r.name (at w q) + travelling_times r.name q w ≡ 1)

-- a task is owed once and not done, or done once and not owed
abbrev pub OwedOrDone : Order → Problem → World → Local → Task → Type 0
OwedOrDone order p w s t = ((owed_times t s ≡ 1) × (done_times t s ≡ 0)) ⊎ ((owed_times t s ≡ 0) × (done_times t s ≡ 1) × IsDone order p w s t)

-- a or b is unknown at q, and each unknown one comes
abbrev pub OnItsWay : World → Record → Record → ℕ → Type 0
OnItsWay w a b q = (Comes w a q ⊎ Comes w b q) × (known_times a.name (at w q) ≡ 0 → Comes w a q) × (known_times b.name (at w q) ≡ 0 → Comes w b q)

-- the task is in neither list, a is told elsewhere, and a notice about it travels to its owner or waits there
pub record ToldAway (w : World) (a : Record) (q : ℕ) (t : Task) : Type 0 where
  pub owed : owed_times t (at w q) ≡ 0
  pub done : done_times t (at w q) ≡ 0
  pub told : 0 < tally (λ e. is_of a.name e && status_told e.status) (at w q).known
  pub notice : 0 < tally (tells_to a.name a.owner) w.travelling + tally (tells a.name) (at w a.owner).waiting

-- at the owner of b: a letter is on its way; or both are known, and the task is owed, or done, or a is told away
abbrev pub AccountedPair : Order → Problem → World → Record → Record → Type 0
AccountedPair order p w a b =
    OnItsWay w a b b.owner
    ⊎ ((known_times a.name (at w b.owner) ≡ 1) × (known_times b.name (at w b.owner) ≡ 1)
    × (OwedOrDone order p w (at w b.owner) (Pair a.name b.name) ⊎ ToldAway w a b.owner (Pair a.name b.name)))

-- at its owner: the letter is on its way; or the task is owed, or done
abbrev pub AccountedSolo : Order → Problem → World → Record → Type 0
AccountedSolo order p w a = Comes w a a.owner ⊎ ((known_times a.name (at w a.owner) ≡ 1) × OwedOrDone order p w (at w a.owner) (Solo a.name))

-- no other peer has the task
abbrev pub Elsewhere : World → ℕ → Task → Type 0
Elsewhere w o t = (q : ℕ) → q < length w.locals → q ≢ o → (owed_times t (at w q) ≡ 0) × (done_times t (at w q) ≡ 0)

-- a record in a letter is its issuer's
abbrev pub BodyGenuine : Registry → Body → Type 0
BodyGenuine R (body.Kept r) = Genuine R r
BodyGenuine R (body.Notice of by h) = Unit {0}
BodyGenuine R (body.Token t) = Unit {0}

-- ---- the laws, each at every moment of every run

-- what holds of the problem and of each world that some run reaches
abbrev pub InRuns : Order → (Problem → World → Type 0) → Type 0
InRuns order P = Premises order → (p : Problem) (policy : Policy) (limits : Limits) (start w : World) (events : List Event) → IsStart p policy limits start → Run order p start events w → P p w

-- what is reworked or dropped is so at its owner alone, and what was told away is so elsewhere
abbrev pub StatusFits : ℕ → Record → Status → Type 0
StatusFits me r Held = Unit {0}
StatusFits me r (Rework d) = r.owner ≡ me
StatusFits me r (Dropped why) = r.owner ≡ me
StatusFits me r (Told d) = r.owner ≢ me

-- a name has one record wherever it is known or in a letter; at each peer an issued name is known, or exactly one letter brings it there
pub record AreNamesOne (w : World) : Type 0 where
  pub spread : IsSpread w
  pub known : (q : ℕ) → q < length w.locals → Each (λ e. Genuine (record_of w) e.entry) (at w q).known
  pub waiting : (q : ℕ) → q < length w.locals → Each (λ l. BodyGenuine (record_of w) l.body) (at w q).waiting
  pub travelling : Each (λ l. BodyGenuine (record_of w) l.body) w.travelling
  pub statuses : (q : ℕ) → q < length w.locals → Each (λ e. StatusFits q e.entry e.status) (at w q).known

-- in every run
abbrev pub NamesAreOne : Order → Type 0
NamesAreOne order = InRuns order (λ p w. AreNamesOne w)

-- no clause that is known is a tautology, and no held one is subsumed or reduced by another held one of smaller key
pub record ArePeersContracted (order : Order) (w : World) : Type 0 where
  pub no_tautology : (q : ℕ) → q < length w.locals → Each (λ e. ¬ IsTautology e.entry.clause) (at w q).known
  pub contracted : (q : ℕ) → q < length w.locals → IsContracted order (at w q).known

-- in every run
abbrev pub PeersAreContracted : Order → Type 0
PeersAreContracted order = InRuns order (λ p w. ArePeersContracted order w)

-- each name leads, along falling keys, to live clauses and pending items
abbrev pub NamesDescend : Order → Type 0
NamesDescend order = InRuns order (λ p w. (r : Record) → Genuine (record_of w) r → Descends order p w r)

-- what is carried has the models of the inputs; in a closed world this is what the owners hold
pub record CarriesModels (p : Problem) (w : World) : Type 0 where
  pub models : HaveSameModels (carried w) (clauses_of p)
  pub closed : IsClosed w → HaveSameModels (flat_map held_by w.locals) (clauses_of p)

-- in every run
abbrev pub CarriedClausesKeepModels : Order → Type 0
CarriedClausesKeepModels order = InRuns order CarriesModels

-- each task between live names is accounted for, over the whole world, and by no other peer
pub record AreTasksAccounted (order : Order) (p : Problem) (w : World) : Type 0 where
  pub pairs : (a b : Record) → Genuine (record_of w) a → Genuine (record_of w) b → IsLive w a → IsLive w b → AccountedPair order p w a b
  pub solos : (a : Record) → Genuine (record_of w) a → IsLive w a → AccountedSolo order p w a
  pub pair_elsewhere : (a b : Record) → Genuine (record_of w) a → Genuine (record_of w) b → Elsewhere w b.owner (Pair a.name b.name)
  pub solo_elsewhere : (a : Record) → Genuine (record_of w) a → Elsewhere w a.owner (Solo a.name)

-- in every run
abbrev pub TasksAreAccounted : Order → Type 0
TasksAreAccounted order = InRuns order (AreTasksAccounted order)

-- exactly one token is held, waits or travels
abbrev pub HasOneToken : World → Type 0
HasOneToken w = tokens_of w.locals + tally is_token w.travelling ≡ 1

-- in every run
abbrev pub TokensAreOne : Order → Type 0
TokensAreOne order = InRuns order (λ p w. HasOneToken w)

-- with one peer there are no letters
abbrev pub HasNoLetters : World → Type 0
HasNoLetters w = length w.locals ≡ 1 → (w.travelling ≡ []) × ((at w 0).waiting ≡ [])

-- in every run
abbrev pub LonePeersSendNothing : Order → Type 0
LonePeersSendNothing order = InRuns order (λ p w. HasNoLetters w)

-- all of these together
pub record Laws (order : Order) (p : Problem) (w : World) : Type 0 where
  pub names : AreNamesOne w
  pub contracted : ArePeersContracted order w
  pub descends : (r : Record) → Genuine (record_of w) r → Descends order p w r
  pub carries : CarriesModels p w
  pub tasks : AreTasksAccounted order p w
  pub token : HasOneToken w
  pub lone : HasNoLetters w

-- in every run
abbrev pub RunsAreLawful : Order → Type 0
RunsAreLawful order = InRuns order (Laws order)

-- no event of a run rejects a letter
abbrev pub RunsRejectNothing : Order → Type 0
RunsRejectNothing order = Premises order → (p : Problem) (policy : Policy) (limits : Limits) (start w : World) (events : List Event) → IsStart p policy limits start → Run order p start events w
    → Each (λ e. (k : ℕ) → e.act ≢ Reject k) events
