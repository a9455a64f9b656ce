-- What settling an item, admitting a letter, rewriting and doing a task leave and send.
use Rattle.std.specs.List.{cons_option}
use Rattle.std.specs.List.{AllByRecursion as Each}
use Rattle.std.specs.Prelude.{List, None, Option, Some, [], if◌then◌else◌, length, map, remove, slice_get, slice_set, suc, zero, ℕ, ◌&&◌, ◌++◌, ◌+◌, ◌==◌, ◌∷◌, ◌≡◌}
use Rattle.cd_clause.specs.declared.Clause.{Clause}
use Rattle.cd_contract.specs.declared.held.Hit.{Hit}
use Rattle.cd_infer.specs.declared.Conclusion.{Conclusion}
use Rattle.cd_kbo.specs.declared.order.Order.{Order}
use Rattle.cd_ledger.specs.Records.{Registry, equations_of, is_of}
use Rattle.cd_ledger.specs.Statuses.{is_rework}
use Rattle.cd_ledger.specs.declared.items.Item.{Item}
use Rattle.cd_ledger.specs.declared.items.Origin.{Origin}
use Rattle.cd_ledger.specs.declared.items.Outcome.{Outcome}
use Rattle.cd_ledger.specs.declared.items.Outcome.TheVariants.{Named, Subsumed, Trivial}
use Rattle.cd_ledger.specs.declared.items.Settled.{Settled}
use Rattle.cd_ledger.specs.declared.letters.Body.{Body}
use Rattle.cd_ledger.specs.declared.letters.Letter.{Letter}
use Rattle.cd_ledger.specs.declared.local.Local.{Local}
use Rattle.cd_ledger.specs.declared.records.Known.{Known}
use Rattle.cd_ledger.specs.declared.records.Record.{Record}
use Rattle.cd_ledger.specs.declared.records.Status.{Status}
use Rattle.cd_ledger.specs.declared.records.Status.TheVariants.{Dropped}
use Rattle.cd_machine.specs.Arrivals.{arrived, new_record, next_name, refuted_by, shelved}
use Rattle.cd_machine.specs.Contraction.{lost, named_hit, notice_of, notices}
use Rattle.cd_machine.specs.Right.{IsTidyStep, registry_of}
use Rattle.cd_machine.specs.Rules.{IsConclusionWithin, PairConcludes, SoloConcludes}
use Rattle.cd_names.specs.declared.How.{How}
use Rattle.cd_names.specs.declared.names.Name.{Name}
use Rattle.cd_steps.specs.declared.Step.{Step}
use Rattle.cd_tasks.specs.declared.Task.{Task}
use Rattle.cd_tasks.specs.declared.Task.TheVariants.{Pair, Solo}
use Rattle.cd_term.specs.declared.Term.{Term}
use Rattle.cd_ledger.specs.declared.items.Origin.TheVariants as origin
use Rattle.cd_ledger.specs.declared.records.Reason.TheVariants as reason
use Rattle.cd_ledger.specs.declared.items.End.TheVariants as end
use Rattle.cd_ledger.specs.declared.letters.Body.TheVariants as body

-- what a reworked name becomes by the outcome of its item and the equations used
abbrev pub resolution : Outcome → List Name → Status
resolution (Named m) using = Dropped (reason.Replaced m using)
resolution Trivial using = Dropped (reason.Simplified using end.Trivial)
resolution (Subsumed d) using = Dropped (reason.Simplified using (end.Subsumed d))

-- only what is in rework gets its end
abbrev pub resolve_one : Name → Status → Known → Known
resolve_one n status e = if is_of n e && is_rework e then record e { status = status } else e

-- an item's outcome is the end of the name that it reworked
abbrev pub resolved : Origin → Status → List Known → List Known
resolved (origin.Input k) status es = es
resolved (origin.Task t k) status es = es
resolved (origin.Rework n) status es = map (resolve_one n status) es

-- an item's entry among the settled ones
abbrev pub settlement : Item → Outcome → Settled
settlement item outcome = record { origin = item.origin; steps = item.steps; outcome = outcome }

-- an item is taken out and settled, and what it was a rework of has its end
abbrev pub taken : Local → ℕ → Item → Outcome → Local
taken s place item outcome = record s {
  pending = remove s.pending place;
  settled = s.settled ++ settlement item outcome ∷ [];
  known = resolved item.origin (resolution outcome (equations_of item.steps)) s.known;
}

-- an item is settled; where its clause is recorded, the record comes to be held and strikes
abbrev pub kept : Local → ℕ → Item → Outcome → (Known → Option How) → Local
kept s place item (Named n) hit =
    record (arrived (taken s place item (Named n)) hit (new_record s item)) { next_seq = s.next_seq + 1; verdict = refuted_by item.clause s.verdict }
kept s place item Trivial hit = taken s place item Trivial
kept s place item (Subsumed d) hit = taken s place item (Subsumed d)

-- the letter that tells a peer of a record
abbrev pub kept_letter : ℕ → ℕ → Record → ℕ → Letter
kept_letter me time r to = record { sender = me; to = to; time = time; body = body.Kept r }

-- a letter to each peer below n but me
abbrev pub broadcast : ℕ → ℕ → Record → ℕ → List Letter
broadcast me time r zero = []
broadcast me time r (suc n) = broadcast me time r n ++ (if n == me then [] else kept_letter me time r n ∷ [])

-- to each other peer, and then the notices
abbrev pub keep_letters : Local → ℕ → ℕ → Item → Outcome → (Known → Option How) → List Letter
keep_letters s time place item (Named n) hit =
    broadcast s.me time (new_record s item) s.peers ++ notices s.me time hit (next_name s) (taken s place item (Named n)).known
keep_letters s time place item Trivial hit = []
keep_letters s time place item (Subsumed d) hit = []

-- a record comes to be known: held, or superfluous as it comes
abbrev pub admitted_record : Local → Record → Option Hit → (Known → Option How) → Local
admitted_record s r None hit = record (arrived s hit r) { verdict = refuted_by r.clause s.verdict }
admitted_record s r (Some h) hit = record (shelved s r h.by h.how) { verdict = refuted_by r.clause s.verdict }

-- a letter is admitted
abbrev pub admitted_body : Local → Body → Option Hit → (Known → Option How) → Local
admitted_body s (body.Kept r) forward hit = admitted_record s r forward hit
admitted_body s (body.Notice of by h) forward hit = lost s (named_hit of h) by
admitted_body s (body.Token t) forward hit = record s { token = Some t }

-- a letter no longer waits
abbrev pub unshelved : Local → ℕ → Local
unshelved s place = record s { waiting = remove s.waiting place }

-- the notices that a record's coming gives rise to
abbrev pub record_letters : Local → ℕ → Record → Option Hit → (Known → Option How) → List Letter
record_letters s time r None hit = notices s.me time hit r.name s.known
record_letters s time r (Some h) hit = cons_option (notice_of s.me time h.by r (Some h.how)) []

-- what admitting a letter sends
abbrev pub body_letters : Local → ℕ → Body → Option Hit → (Known → Option How) → List Letter
body_letters s time (body.Kept r) forward hit = record_letters s time r forward hit
body_letters s time (body.Notice of by h) forward hit = notices s.me time (named_hit of h) by s.known
body_letters s time (body.Token t) forward hit = []

-- what a rewriting finds: the item, the equation, the reduct at its first place, and the steps and the clause behind it
pub record Rewritten : Type 0 where
  pub item : Item
  pub equation : Known
  pub side : ℕ
  pub literal : ℕ
  pub path : List ℕ
  pub subst : List Term
  pub reduct : Clause
  pub steps : List Step
  pub clause : Clause

-- an item after a rewriting: it is forced no more
abbrev pub reworked : Rewritten → Item
reworked r = record { origin = r.item.origin; forced = None; steps = r.item.steps ++ r.steps; clause = r.clause }

-- an item is rewritten in its place
abbrev pub rewritten : Local → ℕ → Rewritten → Local
rewritten s place r = record s { pending = slice_set s.pending place (reworked r); units = s.units + 1 }

-- all conclusions of a task, from the records of its names
abbrev pub Concludes : Order → Registry → Task → List Conclusion → Type 0
Concludes order R (Solo a) found = (x : Record) × (R a ≡ Some x) × SoloConcludes order a x.clause found
Concludes order R (Pair a b) found = (x : Record) × (y : Record) × (R a ≡ Some x) × (R b ≡ Some y) × PairConcludes order a x.clause b y.clause found

-- a task in some place is taken out
pub record TakesOut (task : Task) (tasks others : List Task) : Type 0 where
  pub place : ℕ
  pub there : slice_get tasks place ≡ Some task
  pub rest : others ≡ remove tasks place

-- the item of a step that gives a clause
abbrev pub IsItemOf : Origin → Step → Clause → Item → Type 0
IsItemOf o s c item = (item.origin ≡ o) × (item.forced ≡ None) × IsTidyStep s c item.steps item.clause

-- one item for each conclusion, in their order, with its number
abbrev pub AreTaskItems : Task → ℕ → List Conclusion → List Item → Type 0
AreTaskItems task k [] items = items ≡ []
AreTaskItems task k (c ∷ cs) items =
    (item : Item) × (others : List Item) × IsItemOf (origin.Task task k) c.step c.clause item × AreTaskItems task (k + 1) cs others × (items ≡ item ∷ others)

-- what doing a task finds: the other tasks, the conclusions, and their items
pub record Yield : Type 0 where
  pub others : List Task
  pub found : List Conclusion
  pub items : List Item

-- the task is owed, and all its conclusions are within bounds
pub record IsYield (order : Order) (s : Local) (task : Task) (y : Yield) : Type 0 where
  pub takes : TakesOut task s.owed y.others
  pub concludes : Concludes order (registry_of s) task y.found
  pub within : Each IsConclusionWithin y.found
  pub items : AreTaskItems task 0 y.found y.items

-- a task is done: its items are pending behind the others
abbrev pub worked : Local → Task → Yield → Local
worked s task y = record s {
  pending = s.pending ++ y.items;
  owed = y.others;
  done = s.done ++ record { task = task; conclusions = length y.found } ∷ [];
  units = s.units + 1;
}
