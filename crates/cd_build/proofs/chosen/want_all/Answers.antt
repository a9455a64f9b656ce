use Rattle.std.proofs.Common.{List, ◌++◌, ap, sym, ◌∙◌, append-nil, take, arith}
use Rattle.std.proofs.lemmas.List.{take_all}
use Rattle.cd_names.specs.declared.names.Name.{Name}
use Rattle.cd_build.specs.Marks.{wanted_marks}
use Rattle.cd_build.proofs.Marking.{want_next}
use Rattle.cd_build.proofs.chosen.want_all.Goals as goal

pub loop-name-init : goal.loop-name-init
loop-name-init c ns is = is ∙ ap (λ (ms : List Name). wanted_marks ms c.args.known.now) (sym (append-nil ns))

pub want-requires-clause-marks : goal.want-requires-clause-marks
want-requires-clause-marks c = (c.requires.marks.0 ++ take c.loop-name.name-index c.args.names.now, c.loop-name.invariant c.requires.marks.0 c.requires.marks.1)

pub loop-name-preserved : goal.loop-name-preserved
loop-name-preserved c ns is =
    want_next ns c.args.names.now c.loop-name.name-index _ c.args.known.now c.loop-name.wanted c.want.new.wanted c.loop-name-test.true (c.loop-name.invariant ns is) c.want.ensures

pub returns : goal.returns
returns c ns is =
    c.loop-name.invariant ns is
    ∙ ap (λ (ms : List Name). wanted_marks (ns ++ ms) c.args.known.now) (take_all c.loop-name.name-index c.args.names.now (omega arith))
