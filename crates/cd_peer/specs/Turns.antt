-- The first event, as a peer makes it: an act that is done, and its entry in the journal.
-- Beyond the headline: no clause of `prove` reaches this file.
use Rattle.std.specs.Prelude.{◌≡◌, ℕ, ◌+◌, Bool, true, false, List, [], ◌∷◌, ◌++◌, Option, Some, None}
use Rattle.cd_acts.specs.Acts.{Does}
use Rattle.cd_kbo.specs.declared.order.Order.{Order}
use Rattle.cd_ledger.specs.declared.events.Act.TheVariants.{Receive}
use Rattle.cd_ledger.specs.declared.events.Event.{Event}
use Rattle.cd_ledger.specs.declared.letters.Letter.{Letter}
use Rattle.cd_ledger.specs.declared.local.Local.{Local}
use Rattle.cd_machine.specs.Events.{clock_after, receives}
use Rattle.cd_machine.specs.Fits.{LocalStep}
use Rattle.cd_machine.specs.Turns.{IsFirstAct, IsIdle, IsTurn}
use Rattle.cd_read.specs.declared.problem.Problem.{Problem}
use Rattle.cd_peer.specs.declared.making.Made.{Made}

-- an act that is first, and that was done
pub record MakesFirst (order : Order) (p : Problem) (s : Local) (time : ℕ) (next : Local) (m : Made) : Type 0 where
  pub first : IsFirstAct order s m.act
  pub does : Does order p s time m.act next m.letters

-- the first act was done; or none is there, and nothing changed
abbrev pub Makes : Order → Problem → Local → ℕ → Local → Option Made → Type 0
Makes order p s time next None = IsIdle s × (next ≡ s)
Makes order p s time next (Some m) = MakesFirst order p s time next m

-- the event enters the journal, with the letters that it sends in the count
abbrev pub stamped : Local → Event → ℕ → Local
stamped s e sent = record s {
  clock = e.time;
  journal = s.journal ++ e ∷ [];
  count = record { sent = s.count.sent + sent; received = s.count.received + receives e.act };
}

-- idle, and nothing changed; or the first event was made, and its letters stand behind the others
abbrev pub HasTurned : Order → Problem → Local → Local → List Letter → List Letter → Bool → Type 0
HasTurned order p s next before after false = IsIdle s × (next ≡ s) × (after ≡ before)
HasTurned order p s next before after true = (letters : List Letter) × IsTurn order p s next letters × (after ≡ before ++ letters)

-- the event by which a letter is received
abbrev pub receipt : Local → Letter → Event
receipt s l = record { time = clock_after s.clock (Receive l); peer = s.me; act = Receive l }

-- a letter was received: one event, which sends nothing
abbrev pub HasReceived : Order → Problem → Local → Local → Letter → Type 0
HasReceived order p s next l = LocalStep order p s (receipt s l) next []
