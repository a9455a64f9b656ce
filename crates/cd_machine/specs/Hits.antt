-- Which held clauses a record hits, and which held clause hits a record or an item.
use Rattle.std.specs.List.{AllByRecursion as Each}
use Rattle.std.specs.Prelude.{List, None, Option, Some, true, ◌≡◌}
use Rattle.cd_clause.specs.declared.Clause.{Clause}
use Rattle.cd_contract.specs.declared.held.Hit.{Hit}
use Rattle.cd_kbo.specs.declared.order.Order.{Order}
use Rattle.cd_ledger.specs.Records.{look}
use Rattle.cd_ledger.specs.Statuses.{is_held}
use Rattle.cd_ledger.specs.declared.records.Known.{Known}
use Rattle.cd_ledger.specs.declared.records.Record.{Record}
use Rattle.cd_machine.specs.Contraction.{hit_on}
use Rattle.cd_machine.specs.Lists.{IsFirst}
use Rattle.cd_machine.specs.Rules.{KeyLess, Reduces, Subsumes}
use Rattle.cd_names.specs.declared.How.{How}
use Rattle.cd_names.specs.declared.names.Name.{Name}
use Rattle.cd_names.specs.declared.How.TheVariants as how

-- the first clause makes the second superfluous in this way
abbrev pub HowHolds : Order → How → Clause → Clause → Type 0
HowHolds order how.Subsumes d c = Subsumes d c
HowHolds order how.Reduces d c = Reduces order d c

-- the key of the first record is smaller
abbrev pub IsBelow : Order → Record → Record → Type 0
IsBelow order d c = KeyLess order d.clause (Some d.name) c.clause (Some c.name)

-- a held entry that hits the record
abbrev pub IsBeater : Order → How → Record → Known → Type 0
IsBeater order h r e = (is_held e ≡ true) × IsBelow order e.entry r × HowHolds order h e.entry.clause r.clause

-- how the record hits a held entry of greater key
abbrev pub IsBackHit : Order → Record → Known → Option How → Type 0
IsBackHit order r e None = is_held e ≡ true → IsBelow order r e.entry → (¬ Subsumes r.clause e.entry.clause) × (¬ Reduces order r.clause e.entry.clause)
IsBackHit order r e (Some how.Subsumes) = IsBelow order r e.entry × Subsumes r.clause e.entry.clause
IsBackHit order r e (Some how.Reduces) = IsBelow order r e.entry × (¬ Subsumes r.clause e.entry.clause) × Reduces order r.clause e.entry.clause

-- how a record hits each entry
abbrev pub AreHits : Order → Record → List Known → (Known → Option How) → Type 0
AreHits order r es hit = Each (λ e. IsBackHit order r e (hit_on hit e)) es

-- an equation is looked at only where no clause subsumes
abbrev pub ReducesLater : Order → How → Record → List Known → Type 0
ReducesLater order how.Subsumes r es = Unit {0}
ReducesLater order how.Reduces r es = Each (λ e. ¬ IsBeater order how.Subsumes r e) es

-- the first hit of a record that comes: a subsumer, else an equation
abbrev pub IsForward : Order → Record → List Known → Option Hit → Type 0
IsForward order r es None = Each (λ e. (¬ IsBeater order how.Subsumes r e) × (¬ IsBeater order how.Reduces r e)) es
IsForward order r es (Some h) = (e : Known) × IsFirst (IsBeater order h.how r) es e × (h.by ≡ e.entry.name) × ReducesLater order h.how r es

-- a held equation of smaller key that reduces a clause without a name
abbrev pub IsReducer : Order → Clause → Known → Type 0
IsReducer order c e = (is_held e ≡ true) × KeyLess order e.entry.clause (Some e.entry.name) c None × Reduces order e.entry.clause c

-- a held clause that subsumes a clause without a name
abbrev pub IsSubsumer : Clause → Known → Type 0
IsSubsumer c e = (is_held e ≡ true) × Subsumes e.entry.clause c

-- what rewrites an item: the equation that forces it, else the first held one
abbrev pub IsRewriter : Order → List Known → Option Name → Clause → Known → Type 0
IsRewriter order es (Some d) c e = look es d ≡ Some e
IsRewriter order es None c e = IsFirst (IsReducer order c) es e
