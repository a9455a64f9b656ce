use Rattle.std.proofs.Common.{◌∙◌, ap₂}
use Rattle.std.proofs.lemmas.Result.{IfOk-weaker}
use Rattle.clap.specs.Simple.{with_rule}
use Rattle.cd_options.proofs.command.command.Goals as goal

pub returns : goal.returns
returns c = IfOk-weaker c.arg-6.result _ _ (λ r adds. adds.shape c.file.ensures.local
    ∙ ap₂ with_rule (c.in_ok-arg-5.ensures.shape c.option-5.ensures.local
    ∙ ap₂ with_rule (c.in_ok-arg-4.ensures.shape c.option-4.ensures.local
    ∙ ap₂ with_rule (c.in_ok-arg-3.ensures.shape c.option-3.ensures.local
    ∙ ap₂ with_rule (c.in_ok-arg-2.ensures.shape c.option-2.ensures.local
    ∙ ap₂ with_rule (c.in_ok-arg.ensures.shape c.option.ensures.local
    ∙ ap₂ with_rule c.bare.ensures c.option.ensures.rule) c.option-2.ensures.rule) c.option-3.ensures.rule)
    c.option-4.ensures.rule) c.option-5.ensures.rule) c.file.ensures.rule) c.arg-6.ensures
