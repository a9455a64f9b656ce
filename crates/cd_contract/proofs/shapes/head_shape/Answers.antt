use Rattle.std.proofs.Common.{sym}
use Rattle.cd_contract.proofs.Shaping.{variable_shape, made_shape}
use Rattle.cd_contract.proofs.shapes.head_shape.Goals as goal

pub returns-in-Var : goal.returns-in-Var
returns-in-Var c = sym (variable_shape 0 c.in-Var.field-0 c.args.t.now c.in-Var.is)

pub returns-in-App : goal.returns-in-App
returns-in-App c =
    made_shape 0 c.in-App.f _ _ _ c.mixed.result c.args.t.now _ _ _ _ c.in-App.is c.as_slice-args.ensures c.argument.ensures c.argument-in-App.ensures c.from.ensures
    c.mark_of-first.ensures c.mark_of-second.ensures c.mixed.ensures.value
