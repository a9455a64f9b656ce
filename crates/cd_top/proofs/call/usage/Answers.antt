use Rattle.std.proofs.Common.{refl}
use Rattle.cd_top.specs.declared.answer.Answer.TheVariants.{Usage}
use Rattle.cd_top.proofs.Reading.{usage_or_memory}
use Rattle.cd_top.proofs.call.usage.Goals as goal

pub returns-in-Ok-clause-made : goal.returns-in-Ok-clause-made
returns-in-Ok-clause-made g c = usage_or_memory Usage c.written.result.made c.empty_account.result c.written.result.account refl c.written.ensures.kept
