use Rattle.std.proofs.Common.{◌≡◌, ◌-◌, ◌≤◌, ◌++◌, replicate}
use Rattle.cd_kbo.proofs.order.pad.Given as goal

abbrev pub invariant-loop-place : goal.invariant-loop-place
invariant-loop-place l = record {
  padded : l.list ≡ l.fn.list ++ replicate (l._place - l.old) l.default;
  none : l.len ≤ l.old → l._place ≡ l.old;
}
