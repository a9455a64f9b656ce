-- What callers see of a seat.
use Rattle.std.proofs.Common.{◌≡◌, ℕ, ◌+◌, ◌-◌, ◌<◌, ◌^◌, ◌==◌, true, [], refl, sym, ap, ◌∙◌, subst, arith}
use Rattle.std.proofs.lemmas.Bool.{or_left, eqb-true, eq-eqb}
use Rattle.atomic_table.specs.Seated.{TableId}
use Rattle.atomic_table.specs.Table.{Me}
use Rattle.atomic_table.specs.declared.shared.Seat.{Seat}
use Rattle.cd_verdict.specs.declared.rule.View.{View}
use Rattle.cd_verdict.specs.Views.{has, marks_from, view, after_declare, joined, others}
use Rattle.cd_verdict.specs.Rule.{Learns}
use Rattle.cd_verdict.specs.Known.{Declares, BellId, Known, known, IsSeated, IsRest}
use Rattle.cd_verdict.proofs.Steps.{has_mark, has_append, others_from}

pub same_table : (k : Known) (b : BellId) (t u : TableId) (n p : ℕ) (v : View) → known t n v ≡ k → k.bell ≡ b.table → record { table = u; peers = p } ≡ b → t ≡ u
same_table k b t u n p v e f g = ap (λ (x : Known). x.bell) e ∙ f ∙ sym (ap (λ (x : BellId). x.table) g)

-- a seat whose view changed, and holds its number as before
pub still_seated : (n : ℕ) (s t : Seat (Unit {0}) View) (w : View) → IsSeated n s → t.me ≡ (w, s.me.1) → has n w.marks ≡ true → w.peers ≡ s.me.0.peers → IsSeated n t
still_seated n s t w is e holds peers = record {
  own = ap (λ (y : Me (Unit {0}) View). has n y.0.marks) e ∙ holds;
  empty = ap (λ (y : Me (Unit {0}) View). y.1) e ∙ is.empty;
  small = subst (λ k. k < 2 ^ 16) (sym (ap (λ (y : Me (Unit {0}) View). y.0.peers) e ∙ peers)) is.small;
}

pub declared_seated : (n m word : ℕ) (s t : Seat (Unit {0}) View) → IsSeated n s → t.me ≡ (after_declare m word s.me.0, s.me.1) → IsSeated n t
declared_seated n m word s t is e = still_seated n s t (after_declare m word s.me.0) is e (has_mark m n s.me.0.marks ∙ is.own) refl

-- what a declaration tells callers
pub tells_one : (n m word : ℕ) (k : Known) (s t : Seat (Unit {0}) View) → known s.table_id n s.me.0 ≡ k → m ≡ n + 1 → has n s.me.0.marks ≡ true → t.table_id ≡ s.table_id → t.me ≡ (after_declare (m - 1) word s.me.0, s.me.1) → Learns s.me.0 word → Declares k (known t.table_id n t.me.0) (word == 0)
tells_one n m word k s t is next own same e l =
    let to : t.me ≡ (after_declare n word s.me.0, s.me.1) = e ∙ ap (λ q. (after_declare q word s.me.0, s.me.1)) (omega arith) in
    let seat : known t.table_id n t.me.0 ≡ known s.table_id n (after_declare n word s.me.0) = λ i. known (same i) n (to i).0 in
    subst (λ (x : Known). Declares x (known t.table_id n t.me.0) (word == 0)) is (record {
      word = word;
      is_first = (eqb-true word 0, eq-eqb word 0);
      seat = seat;
      holds = λ q. ap (λ (x : Known). has q x.view.marks) seat ∙ has_mark n q s.me.0.marks;
      below = l.below n own;
      marked = l.marked;
      noted = l.noted;
    })

pub joined_seated : (n : ℕ) (s t : Seat (Unit {0}) View) (w : View) → IsSeated n s → t.me ≡ (joined s.me.0 w, s.me.1) → IsSeated n t
joined_seated n s t w is e = still_seated n s t (joined s.me.0 w) is e (has_append n s.me.0.marks w.marks ∙ or_left (has n s.me.0.marks) (has n w.marks) is.own) refl

-- one number was given away
pub rest_given : (table : TableId) (peers from : ℕ) (old new : Seat (Unit {0}) View) → IsRest table peers from old → new.table_id ≡ old.table_id → new.me ≡ (others old.me.0, old.me.1) → IsRest table peers (from + 1) new
rest_given table peers from old new r t e = record {
  bell = t ∙ r.bell;
  me = e ∙ ap (λ (y : Me (Unit {0}) View). (others y.0, y.1)) r.me ∙ ap (λ ms. (view peers ms [] [], [])) (others_from from (peers - from) ∙ ap (marks_from (from + 1)) (omega arith));
}
