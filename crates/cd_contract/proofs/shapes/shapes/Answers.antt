use Rattle.std.proofs.Common.{inl, refl, [], ◌∷◌, arith}
use Rattle.cd_contract.proofs.Shaping.{variable_shapes, made_shapes}
use Rattle.cd_contract.proofs.shapes.shapes.Goals as goal

pub returns-in-Var : goal.returns-in-Var
returns-in-Var c = variable_shapes 1 c.in-Var.field-0 c.args.t.now (0 ∷ 0 ∷ 0 ∷ 0 ∷ 0 ∷ []) c.in-Var.is (inl refl)

pub returns-in-App : goal.returns-in-App
returns-in-App c =
    made_shapes c.in-App.f c.from-f.result c.mixed.result c.mixed-in-App.result c.mixed-in-App-2.result c.mixed-in-App-3.result c.args.t.now _ _ c.heads_of_part.result
    c.heads_of_part-in-App.result _ _ c.in-App.is c.as_slice-args.ensures c.argument.ensures c.argument-in-App.ensures c.from-f.ensures (omega arith) (omega arith)
    c.heads_of_part.ensures c.heads_of_part-in-App.ensures c.mixed.ensures.value c.mixed-in-App.ensures.value c.mixed-in-App-2.ensures.value c.mixed-in-App-3.ensures.value
