-- Where a name is known, and where a letter brings it.
-- Beyond the headline: no clause of `prove` reaches issued_by, issued.
use Rattle.std.specs.Prelude.{Bool, Some, cond, false, nat_lt, ℕ, ◌&&◌, ◌==◌, ◌≡◌}
use Rattle.cd_ledger.specs.Records.{Registry, is_of, recorded}
use Rattle.cd_ledger.specs.Statuses.{is_held}
use Rattle.cd_ledger.specs.declared.letters.Body.{Body}
use Rattle.cd_ledger.specs.declared.letters.Letter.{Letter}
use Rattle.cd_ledger.specs.declared.local.Local.{Local}
use Rattle.cd_ledger.specs.declared.records.Record.{Record}
use Rattle.cd_list.specs.Lists.{tally}
use Rattle.cd_machine.specs.World.{World, at}
use Rattle.cd_names.specs.Names.{name_eq}
use Rattle.cd_names.specs.declared.names.Name.{Name}
use Rattle.cd_ledger.specs.declared.letters.Body.TheVariants as body

-- how often a name is known at a peer
abbrev pub known_times : Name → Local → ℕ
known_times n s = tally (is_of n) s.known

-- a letter with the record of a name
abbrev pub body_is_kept : Name → Body → Bool
body_is_kept n (body.Kept r) = name_eq r.name n
body_is_kept n (body.Notice of by h) = false
body_is_kept n (body.Token t) = false

abbrev pub is_kept : Name → Letter → Bool
is_kept n l = body_is_kept n l.body

-- the same to a peer
abbrev pub is_kept_to : Name → ℕ → Letter → Bool
is_kept_to n q l = (l.to == q) && is_kept n l

-- how many such letters wait at a peer
abbrev pub waiting_times : Name → Local → ℕ
waiting_times n s = tally (is_kept n) s.waiting

-- and travel to it
abbrev pub travelling_times : Name → ℕ → World → ℕ
travelling_times n q w = tally (is_kept_to n q) w.travelling

-- whether a name was given by its peer
abbrev pub issued_by : Name → Local → ℕ
issued_by n s = cond (nat_lt n.seq s.next_seq) 1 0

abbrev pub issued : Name → World → ℕ
issued n w = issued_by n (at w n.peer)

-- the record of a name is the one that its issuer knows
abbrev pub record_of : World → Registry
record_of w n = recorded n (at w n.peer).known

-- a record is the one that its name has
abbrev pub Genuine : Registry → Record → Type 0
Genuine R r = R r.name ≡ Some r

-- how often a name is held at a peer
abbrev pub held_times : Name → Local → ℕ
held_times n s = tally (λ e. is_of n e && is_held e) s.known
