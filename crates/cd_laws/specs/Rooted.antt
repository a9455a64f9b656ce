-- At each peer a record stands on records that were known there before it; and what an item needs is known there.
-- Beyond the headline: no clause of `prove` reaches this file.
use Rattle.std.specs.List.{AllByRecursion as Each}
use Rattle.std.specs.Prelude.{List, None, Option, Some, [], length, true, ℕ, ◌++◌, ◌<◌, ◌∷◌, ◌≡◌}
use Rattle.cd_kbo.specs.declared.order.Order.{Order}
use Rattle.cd_laws.specs.Premises.{Premises}
use Rattle.cd_ledger.specs.Records.{IsShape, cites_of, is_known, recorded}
use Rattle.cd_ledger.specs.declared.events.Event.{Event}
use Rattle.cd_ledger.specs.declared.items.Item.{Item}
use Rattle.cd_ledger.specs.declared.local.Limits.{Limits}
use Rattle.cd_ledger.specs.declared.local.Local.{Local}
use Rattle.cd_ledger.specs.declared.records.Known.{Known}
use Rattle.cd_machine.specs.Right.{Lead}
use Rattle.cd_machine.specs.World.{IsStart, Run, World, at}
use Rattle.cd_names.specs.declared.names.Name.{Name}
use Rattle.cd_names.specs.declared.ownership.Policy.{Policy}
use Rattle.cd_read.specs.declared.problem.Problem.{Problem}
use Rattle.cd_steps.specs.Premises.{names_in}
use Rattle.cd_steps.specs.declared.Step.{Step}

-- the names in some steps are known
abbrev pub NamesKnown : List Known → List Step → Type 0
NamesKnown es ss = Each (λ s. Each (λ n. is_known es n ≡ true) (names_in s)) ss

-- the name that forces an item is known
abbrev pub ForcedKnown : List Known → Option Name → Type 0
ForcedKnown es None = Unit {0}
ForcedKnown es (Some d) = is_known es d ≡ true

abbrev pub ItemKnown : List Known → Item → Type 0
ItemKnown es i = NamesKnown es i.steps × ForcedKnown es i.forced

-- entries behind the earlier ones: the names in a record's steps are those of earlier entries
abbrev pub AreCited : List Known → List Known → Type 0
AreCited front [] = Unit {0}
AreCited front (e ∷ es) = NamesKnown front e.entry.steps × AreCited (front ++ e ∷ []) es

-- all that a peer has stands on what it knows
pub record IsRooted (s : Local) : Type 0 where
  pub known : AreCited [] s.known
  pub pending : Each (ItemKnown s.known) s.pending

-- entries behind the earlier ones: a record's steps lead to its clause over the earlier entries
abbrev pub AreLed : Problem → List Known → List Known → Type 0
AreLed p front [] = Unit {0}
AreLed p front (e ∷ es) =
    (Lead p (λ n. recorded n front) None e.entry.steps e.entry.clause × IsShape e.entry.steps × (e.entry.cites ≡ cites_of e.entry.steps))
    × AreLed p (front ++ e ∷ []) es

-- in every run, at each peer
abbrev pub RunsAreLed : Order → Type 0
RunsAreLed order = Premises order → (p : Problem) (policy : Policy) (limits : Limits) (start w : World) (events : List Event) → IsStart p policy limits start → Run order p start events w
    → (q : ℕ) → q < length w.locals → AreLed p [] (at w q).known × Each (ItemKnown (at w q).known) (at w q).pending
