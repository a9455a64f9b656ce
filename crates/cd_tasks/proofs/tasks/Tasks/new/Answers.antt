use Rattle.std.proofs.Common.{◌≡◌, List, [], arith}
use Rattle.cd_tasks.specs.declared.Arrival.{Arrival}
use Rattle.cd_tasks.specs.declared.cursor.Stage.TheVariants.{Alone}
use Rattle.cd_tasks.specs.Order.{owed_of}
use Rattle.cd_tasks.specs.Owing.{Owing}
use Rattle.cd_tasks.proofs.Tracked.{none_tracked}
use Rattle.cd_tasks.proofs.tasks.Tasks.new.Goals as goal

shown : (es : List Arrival) → es ≡ [] → ◌≡◌ {A = Owing} (record { arrivals = es; owed = owed_of es 0 Alone; spare = 0 }) (record { arrivals = []; owed = []; spare = 0 })
unfolding owed_of
shown es e = λ i. record { arrivals = e i; owed = owed_of (e i) 0 Alone; spare = 0 }

pub returns : goal.returns
returns c = shown c.new-2.result.items c.new-2.ensures.items

pub invariant_of-result : goal.invariant_of-result
invariant_of-result c = (
  none_tracked c.new.result.keys c.new-2.result.items c.new-3.result.items c.new-4.result.items c.new.ensures.empty c.new-2.ensures.items c.new-3.ensures.items c.new-4.ensures.items,
  omega arith,
  omega (arith, c.new-2.ensures.len, c.new-2.ensures.capacity),
  omega (arith, c.new-3.ensures.len, c.new-3.ensures.capacity),
  omega (arith, c.new-4.ensures.len, c.new-4.ensures.capacity),
)
