-- The clauses that the world carries, and a world in which nothing is left to be done.
use Rattle.std.specs.List.{flat_map}
use Rattle.std.specs.Prelude.{List, None, Option, Some, [], filter_map, if◌then◌else◌, length, map, ℕ, ◌&&◌, ◌++◌, ◌+◌, ◌<◌, ◌==◌, ◌≡◌}
use Rattle.cd_clause.specs.declared.Clause.{Clause}
use Rattle.cd_ledger.specs.Statuses.{is_held}
use Rattle.cd_ledger.specs.declared.letters.Body.{Body}
use Rattle.cd_ledger.specs.declared.letters.Letter.{Letter}
use Rattle.cd_ledger.specs.declared.local.Local.{Local}
use Rattle.cd_ledger.specs.declared.records.Known.{Known}
use Rattle.cd_ledger.specs.declared.records.Record.{Record}
use Rattle.cd_machine.specs.Spread.{held_times, travelling_times, waiting_times}
use Rattle.cd_machine.specs.World.{World, at}
use Rattle.cd_ledger.specs.declared.letters.Body.TheVariants as body

-- held at its owner, or on its way there
abbrev pub IsLive : World → Record → Type 0
IsLive w r = 0 < held_times r.name (at w r.owner) + waiting_times r.name (at w r.owner) + travelling_times r.name r.owner w

-- the clause of a held entry of this peer's own
abbrev pub live_clause : ℕ → Known → Option Clause
live_clause me e = if is_held e && (e.entry.owner == me) then Some e.entry.clause else None

-- the clause of a record that a letter brings to its owner
abbrev pub coming_body : ℕ → Body → Option Clause
coming_body to (body.Kept r) = if to == r.owner then Some r.clause else None
coming_body to (body.Notice of by h) = None
coming_body to (body.Token t) = None

abbrev pub coming_clause : Letter → Option Clause
coming_clause l = coming_body l.to l.body

-- the clauses of the names that a peer owns and holds
abbrev pub held_by : Local → List Clause
held_by s = filter_map (live_clause s.me) s.known

-- what a peer carries: held clauses of its own, pending items, and records of its own that wait
abbrev pub carried_by : Local → List Clause
carried_by s = held_by s ++ (map (λ i. i.clause) s.pending ++ filter_map coming_clause s.waiting)

-- the clauses of all live names and of all pending items of all peers
abbrev pub carried : World → List Clause
carried w = flat_map carried_by w.locals ++ filter_map coming_clause w.travelling

-- nothing travels, and at every peer nothing waits, is pending or is owed
pub record IsClosed (w : World) : Type 0 where
  pub travelling : w.travelling ≡ []
  pub waiting : (q : ℕ) → q < length w.locals → (at w q).waiting ≡ []
  pub pending : (q : ℕ) → q < length w.locals → (at w q).pending ≡ []
  pub owed : (q : ℕ) → q < length w.locals → (at w q).owed ≡ []
