use Rattle.std.proofs.Common.{◌∙◌, sym, subst}
use Rattle.cd_read.specs.declared.labels.Wanted.{Wanted}
use Rattle.cd_read.specs.Labels.{IsWanted}
use Rattle.cd_read.proofs.LabelLemmas.{any_contains, contains_any}
use Rattle.cd_read.proofs.labels.Wanted.wants.Goals as goal

pub returns-in-Listed : goal.returns-in-Listed
returns-in-Listed c = (
  λ e. subst (λ (w : Wanted). IsWanted w c.args.label.now) (sym c.in-Listed.is)
      (any_contains c.in-Listed.labels.keys c.args.label.now (sym c.contains.ensures ∙ e)),
  λ h. c.contains.ensures
      ∙ contains_any c.in-Listed.labels.keys c.args.label.now (subst (λ (w : Wanted). IsWanted w c.args.label.now) c.in-Listed.is h),
)
