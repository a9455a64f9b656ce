-- What is to become of a pending item, wherever it stands.
-- Beyond the headline: no clause of `prove` reaches this file.
use Rattle.std.specs.Prelude.{◌≡◌, ◌≤◌, ℕ, false, List, None}
use Rattle.std.specs.List.{AllByRecursion as Each}
use Rattle.cd_acts.specs.Answers.{IsReduct}
use Rattle.cd_kbo.specs.declared.order.Order.{Order}
use Rattle.cd_ledger.specs.declared.items.Item.{Item}
use Rattle.cd_ledger.specs.declared.local.Local.{Local}
use Rattle.cd_ledger.specs.declared.records.Known.{Known}
use Rattle.cd_machine.specs.Fits.{OutcomeFits}
use Rattle.cd_machine.specs.Hits.{IsReducer, IsRewriter, IsSubsumer}
use Rattle.cd_machine.specs.Rules.{IsTautology, IsWithin, is_empty}
use Rattle.cd_machine.specs.Turns.{ItemTooLarge}
use Rattle.cd_names.specs.declared.names.Name.{Name}
use Rattle.cd_rewrite.specs.declared.reducing.ReductAt.{ReductAt as Reduct}
use Rattle.cd_replay.specs.declared.prospects.Prospect.{Prospect}
use Rattle.cd_replay.specs.declared.prospects.Prospect.TheVariants as prospect

-- the equation with this name rewrites the item, to this reduct within bounds
pub record IsRewritten (order : Order) (es : List Known) (i : Item) (by : Name) (r : Reduct) : Type 0 where
  pub equation : Known
  pub name : by ≡ equation.entry.name
  pub rewriter : IsRewriter order es i.forced i.clause equation
  pub reduces : IsReduct order equation.entry.clause i.clause r
  pub within : IsWithin r.clause

-- nothing rewrites the item
pub record IsStable (order : Order) (es : List Known) (i : Item) : Type 0 where
  pub free : i.forced ≡ None
  pub irreducible : Each (λ e. ¬ IsReducer order i.clause e) es

-- the item would be named, and no name is left: the next number is given
pub record LacksName (order : Order) (es : List Known) (seq : ℕ) (i : Item) : Type 0 where
  pub stable : IsStable order es i
  pub full : 65536 ≤ seq
  pub no_tautology : ¬ IsTautology i.clause
  pub unsubsumed : Each (λ e. ¬ IsSubsumer i.clause e) es
  pub some_literal : is_empty i.clause ≡ false

abbrev pub IsProspect : Order → Local → Item → Prospect → Type 0
IsProspect order s i (prospect.Rewritten by r) = IsRewritten order s.known i by r
IsProspect order s i prospect.TooLarge = ItemTooLarge order s i
IsProspect order s i (prospect.Kept outcome) = IsStable order s.known i × OutcomeFits s i outcome
IsProspect order s i prospect.Nameless = LacksName order s.known s.next_seq i
