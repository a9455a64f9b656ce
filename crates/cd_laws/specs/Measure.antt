-- What every event but those of the token lowers, unless it sets a verdict.
-- Beyond the headline: no clause of `prove` reaches this file.
use Rattle.std.specs.Prelude.{List, None, length, not, true, ℕ, ◌*◌, ◌+◌, ◌-◌, ◌<◌, ◌≡◌, ◌≢◌, ◌⊎◌}
use Rattle.cd_kbo.specs.declared.order.Order.{Order}
use Rattle.cd_laws.specs.Closing.{sums}
use Rattle.cd_laws.specs.Premises.{Premises}
use Rattle.cd_ledger.specs.Statuses.{is_held}
use Rattle.cd_ledger.specs.declared.events.Act.{Act}
use Rattle.cd_ledger.specs.declared.events.Act.TheVariants.{Admit, Declare, End, Keep, Pass, Receive, Reject, Rewrite, Work}
use Rattle.cd_ledger.specs.declared.events.Event.{Event}
use Rattle.cd_ledger.specs.declared.local.Limits.{Limits}
use Rattle.cd_ledger.specs.declared.local.Local.{Local}
use Rattle.cd_list.specs.Lists.{tally}
use Rattle.cd_machine.specs.Events.{Found, is_token, no_token}
use Rattle.cd_machine.specs.World.{IsStart, Run, World, WorldStep, at}
use Rattle.cd_names.specs.declared.ownership.Policy.{Policy}
use Rattle.cd_read.specs.declared.problem.Problem.{Problem}

-- the rewritings and tasks that a peer may still do
abbrev pub units_left : Local → ℕ
units_left s = s.limits.steps - s.units

-- the names that it may still give
abbrev pub names_left : Local → ℕ
names_left s = 65536 - s.next_seq

-- the names that it gave
abbrev pub issued_here : Local → ℕ
issued_here s = s.next_seq

-- the names that all peers gave
abbrev pub issued_all : World → ℕ
issued_all w = sums issued_here w.locals

-- known names that aren't held; every other issued name is unknown or held
abbrev pub unheld_all : Local → ℕ
unheld_all s = tally (λ e. not (is_held e)) s.known

-- the issued names that are unknown or held at a peer
abbrev pub open_names : ℕ → Local → ℕ
open_names all s = all - unheld_all s

-- the letters that wait at a peer but the token, and its items
abbrev pub shelf : Local → ℕ
shelf s = tally no_token s.waiting + length s.pending

-- 3 for each pair of a peer and an issued name that is unknown or held there, 2 for each letter that travels, 1 for each that waits and for each item
abbrev pub third : World → ℕ
third w = 3 * sums (open_names (issued_all w)) w.locals + 2 * tally no_token w.travelling + sums shelf w.locals

-- the three numbers, compared in turn
abbrev pub Lower : World → World → Type 0
Lower v w =
    (sums units_left v.locals < sums units_left w.locals)
    ⊎ ((sums units_left v.locals ≡ sums units_left w.locals)
    × ((sums names_left v.locals < sums names_left w.locals)
    ⊎ ((sums names_left v.locals ≡ sums names_left w.locals) × (third v < third w))))

-- a token passed, taken or admitted
abbrev pub IsTokenAct : (a : Act) → Found a → Type 0
IsTokenAct (Rewrite k) f = ⊥
IsTokenAct (Keep k) f = ⊥
IsTokenAct (Receive l) f = is_token l ≡ true
IsTokenAct (Admit k) f = is_token f.letter ≡ true
IsTokenAct (Reject k) f = ⊥
IsTokenAct (Work t) f = ⊥
IsTokenAct Pass f = Unit {0}
IsTokenAct Declare f = ⊥
IsTokenAct (End v) f = ⊥

-- every event of a run is one of the token's, sets a verdict, or lowers them
abbrev pub RunsFall : Order → Type 0
RunsFall order = Premises order → (p : Problem) (policy : Policy) (limits : Limits) (start w v : World) (front : List Event) (e : Event) → IsStart p policy limits start
    → Run order p start front w → (h : WorldStep order p w e v) → IsTokenAct e.act h.found ⊎ (((at v e.peer).verdict ≢ None) ⊎ Lower v w)
