-- That the derivation of a peer that is refuted is a refutation.
-- Beyond the headline: no clause of `prove` reaches this file.
use Rattle.std.specs.Prelude.{◌≡◌, List, Some}
use Rattle.cd_alone.specs.Going.{Going}
use Rattle.cd_check.specs.Accepted.{IsRefutation}
use Rattle.cd_kbo.specs.declared.order.Order.{Order}
use Rattle.cd_ledger.specs.declared.events.Verdict.TheVariants.{Refuted}
use Rattle.cd_ledger.specs.declared.local.Local.{Local}
use Rattle.cd_read.specs.Formed.{IsFormed}
use Rattle.cd_read.specs.declared.problem.Problem.{Problem}
use Rattle.cd_text.specs.declared.line.Line.{Line}
use Rattle.cd_build.specs.Derivation.{IsDerivation}

-- of a problem that is formed, and a peer that is refuted, whatever letters it was given: the lines of its derivation are accepted
abbrev pub DerivationsRefute : Type 0
DerivationsRefute = (order : Order) (p : Problem) (s : Local) (lines : List Line) → IsFormed p → Going order p s → s.verdict ≡ Some Refuted → IsDerivation p s lines → IsRefutation p lines
