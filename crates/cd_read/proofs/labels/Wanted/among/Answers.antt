use Rattle.std.proofs.Common.{◌≡◌, List, Contains, take, sym, subst}
use Rattle.std.proofs.lemmas.List.{take_all}
use Rattle.cd_parse.specs.declared.label.Label.{Label}
use Rattle.cd_read.specs.Labels.{IsWanted}
use Rattle.cd_read.proofs.LabelLemmas.{kept_more}
use Rattle.cd_read.proofs.labels.Wanted.among.Goals as goal

pub loop-label-preserved : goal.loop-label-preserved
loop-label-preserved c =
    kept_more c.args.labels.now c.loop-label.kept.keys c.keep.new.kept.keys c.loop-label.label-index c.label-item.result
    (IsWanted c.args.self.now)
    c.loop-label-test.true c.label-item.is c.loop-label.invariant c.in_ok-keep.ensures

pub returns : goal.returns
returns c = λ l.
    let all : take c.loop-label.label-index c.args.labels.now ≡ c.args.labels.now = take_all c.loop-label.label-index c.args.labels.now c.loop-label-test.false in
    let so_far = c.loop-label.invariant l in (
      λ h. let p = so_far.0 h in (subst (λ (xs : List Label). Contains xs l) all p.0, p.1),
      λ p. so_far.1 (subst (λ (xs : List Label). Contains xs l) (sym all) p.0, p.1),
    )
