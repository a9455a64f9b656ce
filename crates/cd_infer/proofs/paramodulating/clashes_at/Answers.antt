use Rattle.std.proofs.Common.{ap, sym, ◌∙◌}
use Rattle.std.specs.Option.{option_copied}
use Rattle.cd_infer.proofs.ClashLemmas.{clash_at}
use Rattle.cd_infer.proofs.paramodulating.clashes_at.Goals as goal

pub returns : goal.returns
returns c = λ e.
    clash_at c.args.two.now.a.now c.args.two.now.b.now c.args.places.i c.args.places.s c.args.places.j c.args.steps.now c.in-Some.giver.now c.in-Some-get.taker.now
    c.in-Some-sides_of.side.now c.in-Some-sides_of.field-0-1.now c.in-Some-at_atom.inner.now (sym c.in-Some.ensures.value) c.in-Some-sides_of.ensures (sym c.in-Some-get.ensures.value)
    (sym c.at_atom.ensures ∙ ap option_copied c.in-Some-at_atom.is) (c.clash.ensures e)
