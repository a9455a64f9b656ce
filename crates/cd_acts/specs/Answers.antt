-- What the rules of inference answer to a peer.
-- Beyond the headline: no clause of `prove` reaches this file.
use Rattle.std.specs.Prelude.{◌≡◌, ℕ, List, None, Option, Some, Result, Ok, Err}
use Rattle.std.specs.List.{AllByRecursion as Each}
use Rattle.cd_clause.specs.declared.Clause.{Clause}
use Rattle.cd_contract.specs.Hits as contract
use Rattle.cd_contract.specs.declared.held.Entry.{Entry}
use Rattle.cd_infer.specs.declared.Conclusion.{Conclusion}
use Rattle.cd_kbo.specs.declared.order.Order.{Order}
use Rattle.cd_ledger.specs.declared.records.Known.{Known}
use Rattle.cd_ledger.specs.Records.{Registry}
use Rattle.cd_machine.specs.Acts.{Concludes}
use Rattle.cd_machine.specs.Hits.{IsReducer, IsSubsumer}
use Rattle.cd_machine.specs.Lists.{IsFirst}
use Rattle.cd_machine.specs.Rules.{IsConclusionWithin, IsWithin, PairConcludes, ReductAt, SoloConcludes}
use Rattle.cd_names.specs.declared.names.Name.{Name}
use Rattle.cd_rewrite.specs.declared.reducing.ReductAt.{ReductAt as Reduct}
use Rattle.cd_tasks.specs.declared.Task.{Task}
use Rattle.cd_term.specs.declared.Term.{Term}
use Rattle.cd_term.specs.declared.TermFault.{TermFault}
use Rattle.cd_term.specs.declared.TermFault.TheVariants.{OutOfBounds}
use Rattle.cd_acts.specs.declared.rules.Standing.{Standing}
use Rattle.cd_acts.specs.declared.rules.Standing.TheVariants.{Free, Reduced, Subsumed}
use Rattle.cd_acts.specs.declared.rules.Reduction.{Reduction}
use Rattle.cd_acts.specs.declared.rules.Reduction.TheVariants as reduction
use Rattle.cd_acts.specs.declared.rules.Concluded.{Concluded}
use Rattle.cd_acts.specs.declared.rules.Concluded.TheVariants as concluded

-- the name is that of the first entry that has a property
abbrev pub IsFirstNamed : (Known → Type 0) → List Known → Name → Type 0
IsFirstNamed P es n = (e : Known) × IsFirst P es e × (n ≡ e.entry.name)

-- the first held clause that subsumes a clause, or none does
abbrev pub IsSubsumerOf : Clause → List Known → Option Name → Type 0
IsSubsumerOf c es None = Each (λ e. ¬ IsSubsumer c e) es
IsSubsumerOf c es (Some d) = IsFirstNamed (IsSubsumer c) es d

-- the first held equation that reduces a clause, else the first held clause that subsumes it, else neither
abbrev pub IsStanding : Order → Clause → List Known → Standing → Type 0
IsStanding order c es (Reduced d) = IsFirstNamed (IsReducer order c) es d
IsStanding order c es (Subsumed d) = Each (λ e. ¬ IsReducer order c e) es × IsFirstNamed (IsSubsumer c) es d
IsStanding order c es Free = Each (λ e. ¬ IsReducer order c e) es × Each (λ e. ¬ IsSubsumer c e) es

-- the same of a clause that one with a name subsumes: the first held equation of smaller key that reduces it goes first
abbrev pub IsSubsumedStanding : Order → Clause → List Entry → Name → Standing → Type 0
IsSubsumedStanding order c held subsumer (Reduced d) = contract.IsReducer order c None held (Some d)
IsSubsumedStanding order c held subsumer (Subsumed d) = contract.IsReducer order c None held None × (d ≡ subsumer)
IsSubsumedStanding order c held subsumer Free = ⊥

-- what an equation makes of a clause
abbrev pub IsReduct : Order → Clause → Clause → Reduct → Type 0
IsReduct order e c r = ReductAt order e c r.s r.j r.at r.subst r.clause

-- some reduct is out of bounds
pub record IsReductOutside (order : Order) (e c : Clause) : Type 0 where
  pub side : ℕ
  pub literal : ℕ
  pub path : List ℕ
  pub subst : List Term
  pub clause : Clause
  pub reduces : ReductAt order e c side literal path subst clause
  pub outside : ¬ IsWithin clause

abbrev pub IsReduction : Order → Clause → Clause → Reduction → Type 0
IsReduction order e c (reduction.To r) = IsReduct order e c r × IsWithin r.clause
IsReduction order e c reduction.TooLarge = IsReductOutside order e c

-- what a search for conclusions answered, where it wasn't want of memory
abbrev pub IsSearched : Result (List Conclusion) TermFault → Concluded → Type 0
IsSearched answer (concluded.Found found) = answer ≡ Ok found
IsSearched answer concluded.TooLarge = answer ≡ Err OutOfBounds

-- the conclusions of one clause, or of two, all within bounds; or whatever they are, one is out of bounds
abbrev pub IsAlone : Order → Name → Clause → Concluded → Type 0
IsAlone order a c (concluded.Found found) = SoloConcludes order a c found × Each IsConclusionWithin found
IsAlone order a c concluded.TooLarge = (found : List Conclusion) → SoloConcludes order a c found → ¬ Each IsConclusionWithin found

abbrev pub IsTogether : Order → Name → Clause → Name → Clause → Concluded → Type 0
IsTogether order a c b d (concluded.Found found) = PairConcludes order a c b d found × Each IsConclusionWithin found
IsTogether order a c b d concluded.TooLarge = (found : List Conclusion) → PairConcludes order a c b d found → ¬ Each IsConclusionWithin found

-- the same of a task
abbrev pub IsConcluded : Order → Registry → Task → Concluded → Type 0
IsConcluded order R t (concluded.Found found) = Concludes order R t found × Each IsConclusionWithin found
IsConcluded order R t concluded.TooLarge = (found : List Conclusion) → Concludes order R t found → ¬ Each IsConclusionWithin found
