use Rattle.std.proofs.Common.{sym}
use Rattle.cd_contract.proofs.Shaping.{variable_shape, made_shape}
use Rattle.cd_contract.proofs.shapes.shape_of.Goals as goal

pub returns-in-Var-clause-value : goal.returns-in-Var-clause-value
returns-in-Var-clause-value c = sym (variable_shape 2 c.in-Var.field-0 c.args.t.now c.in-Var.is)

pub returns-in-App-clause-value : goal.returns-in-App-clause-value
returns-in-App-clause-value c =
    made_shape 2 c.in-App.f _ _ _ c.mixed.result c.args.t.now _ _ _ _ c.in-App.is c.as_slice-args.ensures c.argument.ensures c.argument-in-App.ensures c.from.ensures
    c.short_part-first.ensures c.short_part-second.ensures c.mixed.ensures.value
