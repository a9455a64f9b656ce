use Rattle.std.proofs.Common.{Err, ap, inl, sym, ◌∙◌}
use Rattle.cd_top.proofs.Reading.{is_free, needs_threads, usage_words}
use Rattle.cd_top.proofs.call.prove.Goals as goal

pub returns-in-Err-Usage-clause-words : goal.returns-in-Err-Usage-clause-words
returns-in-Err-Usage-clause-words g c =
    usage_words c.args.words.now c.usage.result.made c.usage.result.account.asked c.usage.ensures.account.asked (inl ((c.in-Err-Usage.ensures {u = tt}).usage (ap Err c.in-Err-Usage.field-0-is))) c.usage.ensures.made

pub returns-clause-words : goal.returns-clause-words
returns-clause-words g c =
    usage_words c.args.words.now c.usage-2.result.made c.usage-2.result.account.asked c.usage-2.ensures.account.asked
    (needs_threads c.args.words.now c.in-Ok.options (c.in-Ok.ensures {u = tt}).ok (is_free c.in-Ok.options.schedule (sym c.is_some.ensures ∙ c.if-is_some.false)) c.if-options-eq1.false) c.usage-2.ensures.made
