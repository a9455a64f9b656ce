use Rattle.std.proofs.Common.{ap, arith, length, map, sym, ◌∙◌}
use Rattle.cd_term.specs.Terms.{substituted}
use Rattle.cd_term.proofs.Equations.{substituted-App}
use Rattle.cd_term.proofs.VariableLaws.{App-injective}
use Rattle.cd_unify.proofs.Binding.{item_becomes}
use Rattle.cd_unify.proofs.shapes.+may_match.Goals as goal

pub returns-then-not-may_match : goal.returns-then-not-may_match
returns-then-not-may_match t c = λ _ g is.
    let m = c.in-App-App in
    let same = (App-injective m.f m.g (map (substituted g) m.args) m.others
    (sym (ap (substituted g) m.is-0 ∙ substituted-App g m.f m.args) ∙ is ∙ m.is-1)).1 in
    c.may_match.ensures c.if-not-may_match.true g
    (item_becomes (substituted g) c.as_slice-arg-items.result.now c.as_slice-others.result.now c.loop-i.i c.arg-item.result c.index-others-i.result
    c.loop-i-test.true (omega (arith, ap length c.as_slice-others.ensures, ap length c.as_slice-arg-items.ensures)) c.arg-item.is c.index-others-i.is
    (ap (map (substituted g)) c.as_slice-arg-items.ensures ∙ same ∙ sym c.as_slice-others.ensures))
