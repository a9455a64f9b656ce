use Rattle.std.proofs.Common.{ap, sym, ◌∙◌}
use Rattle.std.specs.Option.{option_copied}
use Rattle.cd_contract.specs.Shapes.{part, shape}
use Rattle.cd_contract.proofs.Shaping.{shape-none}
use Rattle.cd_contract.proofs.shapes.mark_of.Goals as goal

pub returns-in-Some : goal.returns-in-Some
returns-in-Some c = sym (ap (λ o. part (shape 0) (option_copied o)) c.in-Some.is ∙ shape-none c.in-Some.field-0.now)
