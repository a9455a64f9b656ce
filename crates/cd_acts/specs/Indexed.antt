-- What stands beside the known records, so that no event has to look through them; and what the state of a peer has to be so
-- that its next act can be done.
-- Beyond the headline: no clause of `prove` reaches this file.
use Rattle.std.specs.Prelude.{◌≡◌, ℕ, ◌<◌, ◌≤◌, Bool, true, false, List, [], ◌∷◌, ◌++◌, Option, Some, None, filter_map, if◌then◌else◌, length, map}
use Rattle.std.specs.List.{AllByRecursion as Each, list_any}
use Rattle.cd_names.specs.declared.names.Name.{Name}
use Rattle.cd_names.specs.Names.{name_eq}
use Rattle.cd_contract.specs.declared.held.Entry.{Entry}
use Rattle.cd_tasks.specs.declared.Arrival.{Arrival}
use Rattle.cd_waiting.specs.declared.waiting.Waiter.{Waiter}
use Rattle.cd_infer.specs.Conclusions.{IsUsable}
use Rattle.cd_ledger.specs.declared.letters.Body.{Body}
use Rattle.cd_ledger.specs.declared.letters.Body.TheVariants as body
use Rattle.cd_ledger.specs.declared.letters.Letter.{Letter}
use Rattle.cd_ledger.specs.declared.local.Local.{Local}
use Rattle.cd_ledger.specs.declared.records.Known.{Known}
use Rattle.cd_ledger.specs.Records.{is_of}
use Rattle.cd_ledger.specs.Statuses.{is_held}
use Rattle.cd_list.specs.Lists.{tally}
use Rattle.cd_machine.specs.Arrivals.{arrival_of}
use Rattle.cd_acts.specs.declared.state.State.{State}

-- ---- what stands beside the known records

abbrev pub entry_of : Known → Entry
entry_of e = record { name = e.entry.name; clause = e.entry.clause }

-- the name and the clause of an entry that is held
abbrev pub held_entry : Known → Option Entry
held_entry e = if is_held e then Some (entry_of e) else None

-- the names that a letter waits for
abbrev pub body_needs : Body → List Name
body_needs (body.Kept r) = r.cites
body_needs (body.Notice of by h) = of ∷ by ∷ []
body_needs (body.Token t) = []

abbrev pub HasNeeds : Waiter Letter → Type 0
HasNeeds w = w.needs ≡ body_needs w.letter.body

-- the arrivals are the known names, the clauses in the table of held ones are those of held entries, and each letter
-- waits for the names that it mentions
pub record AreIndexed (me : ℕ) (es : List Known) (arrived : List Arrival) (table : List Entry) (ws : List (Waiter Letter)) : Type 0 where
  pub names : arrived ≡ map (arrival_of me) es
  pub held : table ≡ filter_map held_entry es
  pub needs : Each HasNeeds ws

abbrev pub IsIndexed : State → Type 0
IsIndexed s = AreIndexed s.me s.known s.tasks.arrivals s.held s.waiting

-- the arrivals are the known names of some peer
abbrev pub AreNamesOf : List Arrival → List Known → Type 0
AreNamesOf arrived es = (me : ℕ) × (arrived ≡ map (arrival_of me) es)

-- whether a name has arrived
abbrev pub has_arrived : Name → List Arrival → Bool
has_arrived n arrived = list_any (λ a. name_eq a.name n) arrived

-- ---- entries by their names

-- each name is known once at most
abbrev pub AreOnce : List Known → Type 0
AreOnce es = (n : Name) → tally (is_of n) es ≤ 1

-- no entry has the name
abbrev pub AreOthers : Name → List Known → Type 0
AreOthers n es = Each (λ e. is_of n e ≡ false) es

-- one entry has the name, and stands in this place
pub record IsOnlyAt (n : Name) (es : List Known) (place : ℕ) (e : Known) : Type 0 where
  pub front : List Known
  pub back : List Known
  pub split : es ≡ front ++ e ∷ back
  pub at : place ≡ length front
  pub named : is_of n e ≡ true
  pub before : AreOthers n front
  pub behind : AreOthers n back

-- ---- what an act asks of the state

-- the names that a peer itself gave are below its next one, so that the next one is new
abbrev pub IsBelowNext : Local → Known → Type 0
IsBelowNext s e = e.entry.name.peer ≡ s.me → e.entry.name.seq < s.next_seq

-- the peer is one of the peers, names are known once, and conclusions can be drawn of each known and each pending clause
pub record IsSensible (s : Local) : Type 0 where
  pub places : s.me < s.peers
  pub once : AreOnce s.known
  pub own : Each (IsBelowNext s) s.known
  pub usable : Each (λ e. IsUsable e.entry.clause) s.known
  pub items : Each (λ i. IsUsable i.clause) s.pending
