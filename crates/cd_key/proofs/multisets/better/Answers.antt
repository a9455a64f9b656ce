use Rattle.std.proofs.Common.{sym, ◌∙◌}
use Rattle.std.specs.Option.{option_copied}
use Rattle.cd_key.specs.Forms.{literal_compare}
use Rattle.cd_key.specs.Multisets.{counts_differ}
use Rattle.cd_key.proofs.FormLemmas.{forms_total}
use Rattle.cd_key.proofs.TopLemmas.{top_new}
use Rattle.cd_key.proofs.multisets.better.Goals as goal

pub returns-clause-value : goal.returns-clause-value
returns-clause-value c = λ ls top. top_new (literal_compare c.args.order.now) (forms_total c.args.order.now) (counts_differ (literal_compare c.args.order.now) c.args.c.now c.args.d.now) ls c.args.l.now (option_copied c.args.best)
    (sym c.is_uneven.ensures ∙ c.if-not-is_uneven.false) (c.is_higher.ensures.0 c.if-not-is_higher.false) top
