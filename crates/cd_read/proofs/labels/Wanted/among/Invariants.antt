use Rattle.std.proofs.Common.{◌↔◌, take, Contains}
use Rattle.cd_parse.specs.declared.label.Label.{Label}
use Rattle.cd_read.specs.Labels.{IsWanted}
use Rattle.cd_read.proofs.labels.Wanted.among.Given as goal

abbrev pub invariant-loop-label : goal.invariant-loop-label
invariant-loop-label l = (x : Label) → Contains l.kept.keys x ↔ (Contains (take l.label-index l.labels) x × IsWanted l.self x)
