use Rattle.std.proofs.Common.{inl, refl, [], ◌∷◌}
use Rattle.cd_contract.proofs.Shaping.{variable_shapes, made_heads}
use Rattle.cd_contract.proofs.shapes.heads.Goals as goal

pub returns-in-Var : goal.returns-in-Var
returns-in-Var c = variable_shapes 0 c.in-Var.field-0 c.args.t.now (0 ∷ 0 ∷ []) c.in-Var.is (inl refl)

pub returns-in-App : goal.returns-in-App
returns-in-App c =
    made_heads c.in-App.f _ _ _ c.mixed.result c.args.t.now _ _ _ _ c.in-App.is c.as_slice-args.ensures c.argument.ensures c.argument-in-App.ensures c.from.ensures
    c.mark_of-first.ensures c.mark_of-second.ensures c.mixed.ensures.value
