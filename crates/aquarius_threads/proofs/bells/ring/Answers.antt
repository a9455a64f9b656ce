use Rattle.std.proofs.Common.{◌≡◌, ℕ, ◌<◌, ⊎_elim, true, List, length, get_or, Some, slice_get, slice_set, sym, ap, subst, ◌∙◌, length-set}
use Rattle.std.proofs.lemmas.Bool.{cases_eq}
use Rattle.std.proofs.lemmas.List.{get_or-set_same, get_or-set_other}
use Rattle.std.proofs.lemmas.Option.{slice_get_within, get_or_from_slice_get, slice_get-get_or}
use Rattle.cd_verdict.specs.Views.{has}
use Rattle.cd_verdict.specs.Known.{BellId, Known}
use Rattle.cd_verdict.specs.Settled.{AreAll}
use Rattle.aquarius_threads.proofs.bells.ring.Goals as goal

-- one seat gives way to another that holds the same numbers
changed : (bell : BellId) (seats : List Known) (p : ℕ) (old new : Known) → AreAll bell seats → slice_get seats p ≡ Some old → new.bell ≡ old.bell → new.view.peers ≡ old.view.peers → ((n : ℕ) → has n new.view.marks ≡ has n old.view.marks) → AreAll bell (slice_set seats p new)
changed bell seats p old new all at table peers numbers = record {
  count = length-set seats p new ∙ all.count;
  each = λ q seat e.
      let lt : q < length seats = subst (λ n. q < n) (length-set seats p new) (slice_get_within (slice_set seats p new) q seat e) in
      let there : get_or (slice_set seats p new) q seat ≡ seat = get_or_from_slice_get (slice_set seats p new) q seat seat e in
      ⊎_elim (λ (same : q ≡ p).
      let is : seat ≡ new = sym there ∙ ap (λ i. get_or (slice_set seats p new) i seat) same ∙ get_or-set_same seats p new seat (subst (λ i. i < length seats) same lt) in
      let a = all.each p old at in
      subst (λ (x : Known). (x.bell ≡ bell.table) × (x.view.peers ≡ bell.peers) × (has q x.view.marks ≡ true)) (sym is) (table ∙ a.0, peers ∙ a.1, numbers q ∙ subst (λ i. has i old.view.marks ≡ true) (sym same) a.2))
      (λ (other : q ≡ p → ⊥). all.each q seat (slice_get-get_or seats q seat lt ∙ ap (λ x. Some x) (sym (get_or-set_other seats p q new seat other) ∙ there))) (cases_eq q p);
}

pub declare-requires : goal.declare-requires
declare-requires c = (c.requires.seats.each c.args.peer c.at_mut-seat.result.now c.at_mut-seat.ensures.value).0

pub returns : goal.returns
returns c =
    changed c.args.bell.now c.args.seats.now c.args.peer c.at_mut-seat.result.now c.declare.new.seat c.requires.seats c.at_mut-seat.ensures.value (ap (λ (k : Known). k.bell) c.declare.ensures.seat) (ap (λ (k : Known). k.view.peers) c.declare.ensures.seat) c.declare.ensures.holds
