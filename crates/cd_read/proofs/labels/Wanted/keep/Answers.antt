use Rattle.std.proofs.Common.{◌∙◌, ap}
use Rattle.indexmap.specs.IndexSet.{insert_key}
use Rattle.cd_parse.specs.contracts.label.LabelPartialEq.TheImpl.{eq-value}
use Rattle.cd_read.specs.Labels.{IsWanted}
use Rattle.cd_read.proofs.LabelLemmas.{kept_new}
use Rattle.cd_read.proofs.labels.Wanted.keep.Goals as goal

pub returns : goal.returns
returns c =
    kept_new c.args.kept.now.keys c.insert.new.self.keys c.args.label.now (IsWanted c.args.self.now)
    (c.wants.ensures.0 c.if-not-wants.false)
    (c.in_ok-insert.ensures.keys ∙ ap (insert_key eq-value.it c.args.kept.now.keys) c.in_ok-copy.ensures)
