use Rattle.std.proofs.Common.{◌≡◌, length}
use Rattle.cd_acts.specs.Acts.{AddsItems}
use Rattle.cd_replay.proofs.working.add_items.Given as goal

abbrev pub invariant-loop-conclusion : goal.invariant-loop-conclusion
invariant-loop-conclusion l = record {
  adds : AddsItems l.task l.yielded l.initial.pending.items l.pending.items;
  counted : l.index ≡ length l.yielded;
}
