use Rattle.std.proofs.Common.{sym, ◌∙◌}
use Rattle.std.proofs.lemmas.Option.{unwrap_or-slice_get}
use Rattle.cd_build.proofs.Numbering.{number_only, number_others}
use Rattle.cd_build.proofs.derive.number_of.Goals as goal

pub returns-in-None : goal.returns-in-None
returns-in-None c = sym (number_others c.args.n c.args.known.now c.args.numbers.now c.in-None.ensures)

pub returns-in-Some : goal.returns-in-Some
returns-in-Some c =
    c.number_at.ensures
    ∙ sym (number_only c.args.n c.args.known.now c.in-Some.found.0 c.in-Some.found.1.now c.args.numbers.now c.in-Some.ensures ∙ unwrap_or-slice_get c.args.numbers.now c.in-Some.found.0 0)
