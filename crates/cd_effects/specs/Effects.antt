-- What an event leaves and sends, whatever was found for it.
-- Beyond the headline: no clause of `prove` reaches this file.
use Rattle.std.specs.Prelude.{List, length, ℕ, ◌<◌, ◌≡◌}
use Rattle.cd_clause.specs.declared.Clause.{Clause}
use Rattle.cd_kbo.specs.declared.order.Order.{Order}
use Rattle.cd_laws.specs.Premises.{Premises}
use Rattle.cd_laws.specs.Sound.{IsSound}
use Rattle.cd_ledger.specs.declared.events.Event.{Event}
use Rattle.cd_ledger.specs.declared.local.Limits.{Limits}
use Rattle.cd_machine.specs.Events.{Found, after, sent}
use Rattle.cd_machine.specs.Fits.{IsLegal}
use Rattle.cd_machine.specs.Rules.{IsTidied, ReductAt}
use Rattle.cd_machine.specs.World.{IsStart, Run, World, at}
use Rattle.cd_names.specs.declared.ownership.Policy.{Policy}
use Rattle.cd_read.specs.declared.problem.Problem.{Problem}
use Rattle.cd_term.specs.declared.Term.{Term}

-- what this takes from the rules beyond the premises: the first reduct by a tidy equation is one, with its place and its
-- substitution, and a clause has one tidy form. By an equation that isn't tidy the substitution isn't one: a variable below
-- its bound that the matched side hasn't may have any value
pub record Single (order : Order) : Type 0 where
  pub reduct : (e c : Clause) (s j k i : ℕ) (path there : List ℕ) (t u : List Term) (d x : Clause) → IsTidied e e → ReductAt order e c s j path t d → ReductAt order e c k i there u x
      → (s ≡ k) × (j ≡ i) × (path ≡ there) × (t ≡ u) × (d ≡ x)
  pub tidied : (c d x : Clause) → IsTidied c d → IsTidied c x → d ≡ x

-- a legal event leaves one state and sends the same letters, whatever was found for it
abbrev pub EffectsAt : Order → Problem → World → Type 0
EffectsAt order p w = (e : Event) (f g : Found e.act) → e.peer < length w.locals → IsLegal order p (at w e.peer) e f → IsLegal order p (at w e.peer) e g
    → (after (at w e.peer) e f ≡ after (at w e.peer) e g) × (sent (at w e.peer) e f ≡ sent (at w e.peer) e g)

-- in each sound world
abbrev pub SoundEffectsOnce : Order → Type 0
SoundEffectsOnce order = Premises order → Single order → (p : Problem) (policy : Policy) (w : World) → IsSound order p policy w → EffectsAt order p w

-- in each world that is reached
abbrev pub EffectsOnce : Order → Type 0
EffectsOnce order = Premises order → Single order → (p : Problem) (policy : Policy) (limits : Limits) (start w : World) (front : List Event) → IsStart p policy limits start → Run order p start front w → EffectsAt order p w

-- of each number of peers there is one start
abbrev pub StartsOnce : Order → Type 0
StartsOnce order = Single order → (p : Problem) (policy : Policy) (limits : Limits) (w v : World) → IsStart p policy limits w → IsStart p policy limits v → length w.locals ≡ length v.locals → w ≡ v
