use Rattle.std.proofs.Common.{◌^◌, ◌-◌, map, slice_index, ap, ◌∙◌, sym}
use Rattle.cd_clause.specs.Truth.{value, place}
use Rattle.cd_clause.proofs.SoundnessLemmas.{value-App}
use Rattle.cd_meaning.specs.Interps.{interp_of, point_of}
use Rattle.cd_meaning.proofs.Values.{place_next, place_all, kept_value}
use Rattle.cd_meaning.proofs.truth.+term_value.Goals as goal

pub loop-k-preserved : goal.loop-k-preserved
loop-k-preserved t c =
    place_next (value (interp_of c.args.size c.args.tables.now) (point_of c.args.point.now)) c.args.size c.loop-k.at _ _ (2 ^ 64 - 1) c.loop-k.k c.as_slice-args.result.now _
    c.requires c.loop-k-test.true c.index-args-k.is c.term_value.ensures c.loop-k.invariant c.next_place-at.ensures

pub returns-after-loop-k : goal.returns-after-loop-k
returns-after-loop-k t c =
    let i = interp_of c.args.size c.args.tables.now in
    let p = point_of c.args.point.now in
    let at = place c.args.size (map (value i p) c.in-App.args) in
    c.value_in-in-App.ensures
    ∙ kept_value c.values_of_function.result.now at c.loop-k.at c.values_of_function.ensures.small
    (place_all (value i p) c.args.size c.loop-k.at (2 ^ 64 - 1) c.loop-k.k c.as_slice-args.result.now c.in-App.args c.loop-k-test.false c.as_slice-args.ensures c.loop-k.invariant)
    ∙ ap (λ vs. slice_index vs at) c.values_of_function.ensures.value
    ∙ sym (ap (value i p) c.in-App.is ∙ value-App i p c.in-App.f c.in-App.args)
