use Rattle.std.proofs.Common.{arith, ap, length, option_map, ◌∙◌}
use Rattle.std.specs.List.{flat_map}
use Rattle.std.proofs.lemmas.List.{length-map}
use Rattle.cd_term.specs.Terms.{variables_of, firsts_after}
use Rattle.cd_unify.specs.Direct.{standing, bound_to}
use Rattle.cd_unify.proofs.UnifierLemmas.{order_le}
use Rattle.cd_unify.proofs.DirectEnds.{finished_from, some_at, ends}
use Rattle.cd_unify.proofs.direct.finish.Goals as goal

pub build_all-requires-clause-few : goal.build_all-requires-clause-few
build_all-requires-clause-few c =
    let s = some_at _ _ _ c.in_ok-survey_all.ensures c.in-Some.is 1000 (omega arith) in
    let ts = ends (bound_to c.args.values.now) c.as_slice.result.now 1000 in
    omega (arith, ap length (c.as_slice-3.ensures ∙ s.noted ∙ ap (λ b. firsts_after b (flat_map variables_of ts)) c.new-seen.ensures), order_le ts, s.within.0)

pub returns : goal.returns
returns c =
    finished_from c.args.vars c.in-Some.field-0 (bound_to c.args.values.now) c.in_ok-variables.variables c.as_slice.result.now c.as_slice-2.result.now c.in_ok-build_all.field-0
    c.new-seen.result c.survey_all.new.seen c.as_slice-3.result.now c.in_ok-variables.ensures (length-map c.args.values.now (option_map standing) ∙ c.requires) c.new-seen.ensures c.as_slice.ensures c.as_slice-2.ensures c.as_slice-3.ensures
    (some_at _ _ _ c.in_ok-survey_all.ensures c.in-Some.is) c.in_ok-build_all.ensures
