-- Truth stays where the registry grows.
use Rattle.std.proofs.Common.{◌≡◌, ℕ, List, [], ◌∷◌}
use Rattle.std.specs.Prelude.{Option, Some, None}
use Rattle.std.specs.List.{flat_map}
use Rattle.cd_names.specs.declared.How.TheVariants as how
use Rattle.cd_ledger.specs.declared.items.Origin.TheVariants as origin
use Rattle.cd_ledger.specs.declared.records.Reason.TheVariants as reason
use Rattle.cd_ledger.specs.declared.letters.Body.TheVariants as body
use Rattle.cd_clause.specs.declared.Clause.{Clause}
use Rattle.cd_names.specs.declared.names.Name.{Name}
use Rattle.cd_steps.specs.declared.Step.{Step}
use Rattle.cd_names.specs.declared.How.{How}
use Rattle.cd_tasks.specs.declared.Task.{Task}
use Rattle.cd_tasks.specs.declared.Task.TheVariants.{Pair, Solo}
use Rattle.cd_ledger.specs.declared.items.Origin.{Origin}
use Rattle.cd_infer.specs.declared.Conclusion.{Conclusion}
use Rattle.cd_ledger.specs.declared.items.Item.{Item}
use Rattle.cd_ledger.specs.declared.records.Record.{Record}
use Rattle.cd_ledger.specs.declared.records.Reason.{Reason}
use Rattle.cd_ledger.specs.declared.records.Status.{Status}
use Rattle.cd_ledger.specs.declared.records.Status.TheVariants.{Dropped, Held, Rework, Told}
use Rattle.cd_ledger.specs.declared.records.Known.{Known}
use Rattle.cd_ledger.specs.declared.items.Outcome.{Outcome}
use Rattle.cd_ledger.specs.declared.items.Outcome.TheVariants.{Named, Subsumed, Trivial}
use Rattle.cd_ledger.specs.declared.items.Settled.{Settled}
use Rattle.cd_ledger.specs.declared.items.Done.{Done}
use Rattle.cd_ledger.specs.declared.letters.Body.{Body}
use Rattle.cd_ledger.specs.declared.letters.Letter.{Letter}
use Rattle.cd_names.specs.declared.ownership.Policy.{Policy}
use Rattle.cd_ledger.specs.declared.local.Local.{Local}
use Rattle.cd_read.specs.declared.problem.Problem.{Problem}
use Rattle.cd_ledger.specs.Records.{Registry, used_in}
use Rattle.cd_steps.specs.Premises.{names_in}
use Rattle.cd_machine.specs.Right.{Lead}
use Rattle.cd_machine.specs.Acts.{Concludes}
use Rattle.cd_laws.specs.Premises.{Premises}
use Rattle.cd_laws.specs.Sound.{Beaten, EndFalls, ForcedFits, FromOrigin, IsMine, IsRight, IsTrue, ItemFalls, NameBelow, OutcomeBelow, OutcomeHolds, TrueBody, TrueDone, TrueItem, TrueKnown, TrueLetter, TrueReason, TrueSettled, TrueStatus}
use Rattle.cd_laws.proofs.Lists.{Each_all, Each_weaker, found}
use Rattle.cd_kbo.specs.declared.order.Order.{Order}

module _ (order : Order) (q : Premises order) (p : Problem) (policy : Policy) (n : ℕ) (R S : Registry) (grows : (m : Name) (r : Record) → R m ≡ Some r → S m ≡ Some r) where
  beaten_grows : (c : Record) (by : Name) (h : How) → Beaten order R c by h → Beaten order S c by h
  beaten_grows c by h x = record { winner = x.winner; recorded = grows by x.winner x.recorded; below = x.below; hits = x.hits }

  reason_grows : (r : Record) (why : Reason) → TrueReason order R r why → TrueReason order S r why
  reason_grows r (reason.Subsumed d) x = beaten_grows r d how.Subsumes x
  reason_grows r (reason.Replaced a b) x = tt
  reason_grows r (reason.Simplified a b) x = tt

  status_grows : (me : ℕ) (r : Record) (s : Status) → TrueStatus order R me r s → TrueStatus order S me r s
  status_grows me r Held x = tt
  status_grows me r (Rework d) x = (x.0, beaten_grows r d how.Reduces x.1)
  status_grows me r (Dropped why) x = (x.0, reason_grows r why x.1)
  status_grows me r (Told d) x = x

  pub lead_grows : (current : Option Clause) (ss : List Step) (c : Clause) → Lead p R current ss c → Lead p S current ss c
  lead_grows current [] c x = x
  lead_grows current (s ∷ ss) c x = (x.0, q.replay_grows p R S current s x.0 (Each_all _ grows (names_in s)) x.1, lead_grows (Some x.0) ss c x.2)

  pub right_grows : (r : Record) → IsRight p policy n R r → IsRight p policy n S r
  right_grows r x = record { owner = x.owner; in_range = x.in_range; shape = x.shape; behind_copy = x.behind_copy; cites = x.cites; leads = lead_grows None r.steps r.clause x.leads; tidy = x.tidy; fit = x.fit; no_tautology = x.no_tautology }

  known_grows : (me : ℕ) (e : Known) → TrueKnown order p policy n R me e → TrueKnown order p policy n S me e
  known_grows me e x = record { genuine = grows e.entry.name e.entry x.genuine; status = status_grows me e.entry e.status x.status; right = right_grows e.entry x.right }

  body_grows : (sender to : ℕ) (b : Body) → TrueBody order p policy n R sender to b → TrueBody order p policy n S sender to b
  body_grows sender to (body.Kept r) x = (grows r.name r x.0, x.1, right_grows r x.2)
  body_grows sender to (body.Notice a b h) x = record { loser = x.loser; recorded = grows a x.loser x.recorded; lost = beaten_grows x.loser b h x.lost; owner = x.owner }
  body_grows sender to (body.Token t) x = x

  pub letter_grows : (l : Letter) → TrueLetter order p policy n R l → TrueLetter order p policy n S l
  letter_grows l x = record { time = x.time; other = x.other; sender = x.sender; to_range = x.to_range; says = body_grows l.sender l.to l.body x.says }

  below_grows : (r : Record) (m : Name) → NameBelow order R r m → NameBelow order S r m
  below_grows r m x = (x.0, grows m x.0 x.1, x.2)

  concludes_grows : (t : Task) (found : List Conclusion) → Concludes order R t found → Concludes order S t found
  concludes_grows (Solo a) found x = (x.0, grows a x.0 x.1, x.2)
  concludes_grows (Pair a b) found x = (x.0, x.1, grows a x.0 x.2, grows b x.1 x.3, x.4)

  origin_grows : (me : ℕ) (o : Origin) (ss : List Step) → FromOrigin order R me o ss → FromOrigin order S me o ss
  origin_grows me (origin.Input k) ss x = x
  origin_grows me (origin.Task t k) ss x = record { found = x.found; conclusion = x.conclusion; concludes = concludes_grows t x.found x.concludes; there = x.there; begins = x.begins }
  origin_grows me (origin.Rework m) ss x = record { loser = x.loser; recorded = grows m x.loser x.recorded; owner = x.owner; begins = x.begins; below = Each_weaker _ _ (below_grows x.loser) (flat_map used_in ss) x.below }

  forced_grows : (r : Record) (c : Clause) (f : Option Name) → ForcedFits order R r c f → ForcedFits order S r c f
  forced_grows r c None x = x
  forced_grows r c (Some d) x = (x.0, beaten_grows r d how.Reduces x.1)

  falls_grows : (o : Origin) (f : Option Name) (c : Clause) → ItemFalls order R o f c → ItemFalls order S o f c
  falls_grows (origin.Input k) f c x = tt
  falls_grows (origin.Task t k) f c x = tt
  falls_grows (origin.Rework m) f c x = (x.0, grows m x.0 x.1, forced_grows x.0 c f x.2)

  item_grows : (me : ℕ) (i : Item) → TrueItem order p R me i → TrueItem order p S me i
  item_grows me i x = record { from_origin = origin_grows me i.origin i.steps x.from_origin; falls = falls_grows i.origin i.forced i.clause x.falls; leads = lead_grows None i.steps i.clause x.leads; shape = x.shape; behind_copy = x.behind_copy; tidy = x.tidy; fit = x.fit }

  outcome_grows : (c : Clause) (o : Outcome) → OutcomeHolds R c o → OutcomeHolds S c o
  outcome_grows c (Named m) x = (x.0, grows m x.0 x.1, x.2)
  outcome_grows c Trivial x = x
  outcome_grows c (Subsumed d) x = (x.0, grows d x.0 x.1, x.2)

  outcome_below : (r : Record) (o : Outcome) → OutcomeBelow order R r o → OutcomeBelow order S r o
  outcome_below r (Named m) x = below_grows r m x
  outcome_below r Trivial x = tt
  outcome_below r (Subsumed d) x = below_grows r d x

  end_grows : (o : Origin) (out : Outcome) → EndFalls order R o out → EndFalls order S o out
  end_grows (origin.Input k) out x = tt
  end_grows (origin.Task t k) out x = tt
  end_grows (origin.Rework m) out x = (x.0, grows m x.0 x.1, outcome_below x.0 out x.2)

  settled_grows : (me : ℕ) (e : Settled) → TrueSettled order p R me e → TrueSettled order p S me e
  settled_grows me e x = record { clause = x.clause; from_origin = origin_grows me e.origin e.steps x.from_origin; leads = lead_grows None e.steps x.clause x.leads; shape = x.shape; outcome = outcome_grows x.clause e.outcome x.outcome; falls = end_grows e.origin e.outcome x.falls }

  mine_grows : (me : ℕ) (t : Task) → IsMine R me t → IsMine S me t
  mine_grows me (Solo a) x = (x.0, grows a x.0 x.1, x.2)
  mine_grows me (Pair a b) x = (x.0, grows b x.0 x.1, x.2)

  done_grows : (me : ℕ) (d : Done) → TrueDone order R me d → TrueDone order S me d
  done_grows me d x = (x.0, concludes_grows d.task x.0 x.1, x.2, mine_grows me d.task x.3)

  pub local_grows : (s : Local) → IsTrue order p policy n R s → IsTrue order p policy n S s
  local_grows s x = record {
    known = Each_weaker _ _ (known_grows s.me) s.known x.known;
    waiting = Each_weaker _ _ letter_grows s.waiting x.waiting;
    mine = x.mine;
    pending = Each_weaker _ _ (item_grows s.me) s.pending x.pending;
    settled = Each_weaker _ _ (settled_grows s.me) s.settled x.settled;
    done = Each_weaker _ _ (done_grows s.me) s.done x.done;
    owed = Each_weaker _ _ (mine_grows s.me) s.owed x.owed;
    token = x.token;
  }
