use Rattle.std.proofs.Common.{List, Some, None, sym, subst, true≢false, leb-true, le-leb}
use Rattle.cd_parse.specs.declared.label.Label.{Label}
use Rattle.cd_read.specs.Labels.{LastAt}
use Rattle.cd_read.proofs.LabelLemmas.{later_occurs, occurs_later, occurs_nowhere}
use Rattle.cd_read.proofs.labels.Seen.occurs_since.Goals as goal

pub returns-in-Some : goal.returns-in-Some
returns-in-Some c =
    let last = subst (LastAt c.self.inside.labels c.args.label.now) (sym c.in-Some.ensures.value) (c.self.invariant c.args.label.now) in
    let here = subst (λ (ls : List Label). LastAt ls c.args.label.now (Some c.in-Some.place.now)) c.self.view_is last in (
      λ e. later_occurs c.args.self.now c.args.label.now c.in-Some.place.now c.args.from here (leb-true _ _ e),
      λ h. le-leb _ _ (occurs_later c.args.self.now c.args.label.now c.in-Some.place.now c.args.from here h),
    )

pub returns-in-None : goal.returns-in-None
returns-in-None c =
    let last = subst (LastAt c.self.inside.labels c.args.label.now) (sym c.in-None.ensures.value) (c.self.invariant c.args.label.now) in
    let here = subst (λ (ls : List Label). LastAt ls c.args.label.now None) c.self.view_is last in (
      λ e. absurd (true≢false (sym e)),
      λ h. absurd (occurs_nowhere c.args.self.now c.args.label.now c.args.from here h),
    )
