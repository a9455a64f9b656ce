use Rattle.std.proofs.Common.{◌≡◌, ◌-◌, ◌<◌, ℕ, suc, length, List, Some, slice_get, get_or, drop, ap, sym, ◌∙◌, subst, arith}
use Rattle.std.proofs.lemmas.Option.{slice_get-get_or}
use Rattle.cd_alone.specs.Derived.{choose, last_names}
use Rattle.cd_ledger.specs.declared.records.Known.{Known}
use Rattle.cd_build.proofs.Marking.{AreMarked, marks_room, marks_start, marks_step}
use Rattle.cd_build.proofs.chosen.marks.Goals as goal

pub loop-i-init : goal.loop-i-init
loop-i-init c =
    let known = c.args.known.now in
    let count = ap (λ (es : List Known). length es) c.as_slice-entries.ensures in
    record {
      within = omega (arith, count);
      marked = marks_start (last_names known) known (length c.as_slice-entries.result.now) _ c.want_last.new.wanted c.in_ok-marks.marks count c.len-2.ensures.value c.want_last.ensures c.in_ok-marks.ensures;
    }

pub mark_wanted-requires-clause-marks : goal.mark_wanted-requires-clause-marks
mark_wanted-requires-clause-marks c = ((choose (last_names c.args.known.now) (drop c.loop-i.i c.args.known.now)).wanted, c.loop-i.invariant.marked.wanted_are)

pub mark_wanted-requires-clause-place : goal.mark_wanted-requires-clause-place
mark_wanted-requires-clause-place c =
    let known = c.args.known.now in
    let i = c.loop-i.i - 1 in
    let back : c.loop-i.i ≡ suc i = omega arith in
    marks_room (last_names known) known i c.loop-i.wanted c.loop-i.marks (subst (λ (k : ℕ). AreMarked (last_names known) known k c.loop-i.wanted c.loop-i.marks) back c.loop-i.invariant.marked)

pub loop-i-preserved : goal.loop-i-preserved
loop-i-preserved c =
    let known = c.args.known.now in
    let entries = c.as_slice-entries.result.now in
    let i = c.loop-i.i - 1 in
    let back : c.loop-i.i ≡ suc i = omega arith in
    let e = get_or entries i c.index-entries-i.result in
    let small : i < length entries = omega (arith, c.loop-i.invariant.within, ap (λ (es : List Known). length es) c.as_slice-entries.ensures) in
    let there : slice_get known i ≡ Some e =
    ap (λ (es : List Known). slice_get es i) (sym c.as_slice-entries.ensures) ∙ slice_get-get_or entries i c.index-entries-i.result small in
    record {
      within = omega (arith, c.loop-i.invariant.within);
      marked = marks_step (last_names known) known i e c.loop-i.wanted c.loop-i.marks c.mark_wanted.new.wanted c.mark_wanted.new.marks there
          (subst (λ (k : ℕ). AreMarked (last_names known) known k c.loop-i.wanted c.loop-i.marks) back c.loop-i.invariant.marked)
          c.mark_wanted.ensures.marks c.mark_wanted.ensures.wanted;
    }

pub returns : goal.returns
returns c =
    let known = c.args.known.now in
    let none : c.loop-i.i ≡ 0 = omega arith in
    (subst (λ (k : ℕ). AreMarked (last_names known) known k c.loop-i.wanted c.loop-i.marks) none c.loop-i.invariant.marked).marks_are
