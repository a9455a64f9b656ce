use Rattle.std.proofs.Common.{take}
use Rattle.std.specs.Prelude.{IfSome}
use Rattle.std.specs.Option.{option_copied}
use Rattle.cd_key.specs.Literals.{HasSmallSides}
use Rattle.cd_key.specs.Forms.{literal_compare}
use Rattle.cd_key.specs.Multisets.{counts_differ, IsTop}
use Rattle.cd_key.proofs.multisets.top.Given as goal

abbrev pub invariant-loop-l : goal.invariant-loop-l
invariant-loop-l l = record {
  top : IsTop (literal_compare l.order) (counts_differ (literal_compare l.order) l.c l.d) (take l.l-index l.ls) (option_copied l.best);
  small : IfSome l.best (λ b. HasSmallSides b.now.atom);
}
