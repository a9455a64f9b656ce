use Rattle.std.proofs.Common.{◌≡◌, Bool, true, false, not, refl, sym, ◌∙◌}
use Rattle.cd_rewrite.proofs.Variables.{variable_lowers_none}
use Rattle.cd_rewrite.proofs.equations.may_lower.Goals as goal

holds : (b : Bool) → not b ≡ false → b ≡ true
holds true out = refl
holds false out = absurd (cc)

pub returns-in-Var : goal.returns-in-Var
returns-in-Var c = λ out.
    variable_lowers_none c.args.from.now c.args.to.now c.in-Var.n c.in-Var.is (sym c.occurs_in.ensures ∙ holds _ out)
