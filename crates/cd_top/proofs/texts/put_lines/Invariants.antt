use Rattle.std.proofs.Common.{◌≡◌, ◌++◌, length}
use Rattle.cd_top.specs.Texts.{lines_text}
use Rattle.cd_top.proofs.texts.put_lines.Given as goal

abbrev pub invariant-loop-rest : goal.invariant-loop-rest
invariant-loop-rest l = l.into ++ lines_text l.symbols l.rest ≡ l.initial.into ++ lines_text l.symbols l.lines

abbrev pub decreases-loop-rest : goal.decreases-loop-rest
decreases-loop-rest l = length l.rest
