-- What holds of a peer that hasn't fallen is kept, and is what its acts ask.
use Rattle.std.proofs.Common.{◌≡◌, ◌<◌, ℕ, List, sym, subst}
use Rattle.std.specs.List.{AllByRecursion as Each}
use Rattle.cd_acts.specs.Indexed.{IsIndexed, IsSensible}
use Rattle.cd_acts.specs.View.{local_of}
use Rattle.cd_acts.specs.declared.state.State.{State}
use Rattle.cd_alone.specs.Alone.{IsItemLed}
use Rattle.cd_alone.specs.Going.{EventsKeepGoing, Going, IsSensible as IsRight, StartsGo}
use Rattle.cd_infer.specs.Conclusions.{IsUsable}
use Rattle.cd_infer.specs.Laws.{TidyClausesAreUsable}
use Rattle.cd_kbo.specs.declared.order.Order.{Order}
use Rattle.cd_laws.specs.Premises.{Premises}
use Rattle.cd_ledger.specs.declared.items.Item.{Item}
use Rattle.cd_ledger.specs.declared.letters.Letter.{Letter}
use Rattle.cd_ledger.specs.declared.local.Limits.{Limits}
use Rattle.cd_ledger.specs.declared.local.Local.{Local}
use Rattle.cd_ledger.specs.declared.records.Known.{Known}
use Rattle.cd_list.proofs.Lists.{all_weaker}
use Rattle.cd_machine.specs.Rules.{IsFit, IsTidied, clauses_of}
use Rattle.cd_machine.specs.Turns.{IsTurn}
use Rattle.cd_names.specs.declared.ownership.Policy.{Policy}
use Rattle.cd_read.specs.declared.problem.Problem.{Problem}
use Rattle.cd_peer.specs.Peers.{IsStartOf}
use Rattle.cd_peer.specs.Turns.{HasReceived, receipt}
use Rattle.cd_peer.specs.Whole.{IsWhole}

module _ (usable : TidyClausesAreUsable) (order : Order) (p : Problem) where
  entry_usable : (e : Known) → IsRight p e → IsUsable e.entry.clause
  unfolding IsTidied
  entry_usable e h = usable e.entry.clause h.3 h.0.within

  item_usable : (s : Local) (i : Item) → IsItemLed p s.known i → IsUsable i.clause
  unfolding IsTidied
  item_usable s i h = usable i.clause h.tidy h.fit.within

  pub sensible_of : (s : Local) → Going order p s → IsSensible s
  sensible_of s g = record {
    places = g.ready.places;
    once = g.ready.once;
    own = g.ready.own;
    usable = all_weaker (IsRight p) (λ e. IsUsable e.entry.clause) s.known entry_usable g.led.right;
    items = all_weaker (IsItemLed p s.known) (λ i. IsUsable i.clause) s.pending (item_usable s) g.led.items;
  }

module _ (order : Order) (q : Premises order) (keeps : EventsKeepGoing order) (p : Problem) where
  pub going_turned : (s next : Local) (letters : List Letter) → IsTurn order p s next letters → Going order p s → Going order p next
  going_turned s next letters t g = subst (Going order p) (sym t.step.effect) (keeps q p s t.event t.step.found t.step.legal.running t.step.legal.fits g)

  pub going_received : (s next : Local) (l : Letter) → HasReceived order p s next l → Going order p s → Going order p next
  going_received s next l t g = subst (Going order p) (sym t.effect) (keeps q p s (receipt s l) t.found t.legal.running t.legal.fits g)

pub whole_same : (order : Order) (p : Problem) (s t : State) → IsIndexed t → local_of t ≡ local_of s → IsWhole order p s → IsWhole order p t
whole_same order p s t indexed same w = record { indexed = indexed; going = subst (Going order p) (sym same) w.going }

pub whole_start : (order : Order) → Premises order → StartsGo order → (p : Problem) (me peers : ℕ) (policy : Policy) (limits : Limits) (s : State) → Each (IsFit p) (clauses_of p) → me < peers
    → IsIndexed s → IsStartOf p me peers policy limits (local_of s) → IsWhole order p s
whole_start order q starts p me peers policy limits s fit small indexed start = record {
  indexed = indexed;
  going = starts q p (local_of s) (record { me = me; peers = peers; policy = policy; limits = limits; items = start.items; fit = fit; in_range = small; share = start.share; is = start.is });
}
