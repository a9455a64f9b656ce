use Rattle.std.proofs.Common.{Bool, List, [], length, ap, sym, ◌∙◌, subst}
use Rattle.std.specs.Prelude.{IfOk}
use Rattle.cd_acts.specs.View.{local_of}
use Rattle.cd_alone.specs.Derived.{last_names}
use Rattle.cd_alone.proofs.Refuting.{empty, led}
use Rattle.cd_laws.specs.Rooted.{AreLed}
use Rattle.cd_ledger.specs.declared.records.Known.{Known}
use Rattle.cd_premises.proofs.Whole.{premises_meet}
use Rattle.cd_build.specs.Building.{AreLinesOf}
use Rattle.cd_build.proofs.Marking.{are_chosen, marks_count}
use Rattle.cd_build.proofs.derive.derivation.Goals as goal

pub marks-requires-clause-names : goal.marks-requires-clause-names
marks-requires-clause-names c = (c.args.state.now.me, c.requires.indexed.names)

pub marks-requires-clause-once : goal.marks-requires-clause-once
marks-requires-clause-once c = c.requires.going.1.ready.once

pub lines_of-requires-clause-names : goal.lines_of-requires-clause-names
lines_of-requires-clause-names c = (c.args.state.now.me, c.requires.indexed.names)

pub lines_of-requires-clause-once : goal.lines_of-requires-clause-once
lines_of-requires-clause-once c = c.requires.going.1.ready.once

pub lines_of-requires-clause-marks : goal.lines_of-requires-clause-marks
lines_of-requires-clause-marks c = ap (λ (bs : List Bool). length bs) c.in_ok-marks.ensures ∙ marks_count (last_names c.args.state.now.known) c.args.state.now.known

pub lines_of-requires-clause-led : goal.lines_of-requires-clause-led
lines_of-requires-clause-led c =
    let p = c.args.problem.now in
    let s = local_of c.args.state.now in
    let order = c.requires.going.0 in
    let q = premises_meet order in
    subst (AreLed p []) (sym (are_chosen s.known c.in_ok-marks.marks (empty order q p s c.requires.going.1 c.requires.refuted) c.in_ok-marks.ensures)) (led order q p s c.requires.going.1 c.requires.refuted)

pub returns : goal.returns
returns c =
    let p = c.args.problem.now in
    let s = local_of c.args.state.now in
    let order = c.requires.going.0 in
    let q = premises_meet order in
    subst (λ (es : List Known). IfOk c.lines_of.result (AreLinesOf p es)) (are_chosen s.known c.in_ok-marks.marks (empty order q p s c.requires.going.1 c.requires.refuted) c.in_ok-marks.ensures) c.lines_of.ensures
