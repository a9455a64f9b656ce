use Rattle.std.proofs.Common.{arith}
use Rattle.cd_contract.specs.Needs.{HasNeeds, HasMarks}
use Rattle.cd_contract.proofs.Naming.{removed_entry, removed_rest, place_within}
use Rattle.cd_contract.proofs.Columns.{columns_less, step_length}
use Rattle.cd_contract.proofs.held.Held.remove.Goals as goal

pub remove-requires : goal.remove-requires
remove-requires c = omega (
  arith,
  place_within c.args.name c.self.inside.kept.items _ c.in-Some.place c.as_slice.ensures.value c.in-Some.ensures,
  step_length (HasNeeds c.self.inside.order) c.self.inside.kept.items c.self.inside.needs.items c.self.invariant.needs,
)

pub remove-requires-2 : goal.remove-requires-2
remove-requires-2 c = omega (
  arith,
  place_within c.args.name c.self.inside.kept.items _ c.in-Some.place c.as_slice.ensures.value c.in-Some.ensures,
  step_length HasMarks c.self.inside.kept.items c.self.inside.marks.items c.self.invariant.marks,
)

pub invariant_of-self : goal.invariant_of-self
invariant_of-self c =
    columns_less c.self.inside.order c.self.inside.kept.items _ c.self.inside.needs.items _ c.self.inside.marks.items _ c.in-Some.place c.self.invariant c.remove-kept.ensures.items
    c.remove.ensures.items c.remove-2.ensures.items

pub returns-clause-entry : goal.returns-clause-entry
returns-clause-entry c =
    removed_entry c.args.name c.self.inside.kept.items _ c.args.self.now c.in-Some.place c.remove-kept.result c.self.view_is c.as_slice.ensures.value c.in-Some.ensures
    c.remove-kept.ensures.value

pub returns-clause-rest : goal.returns-clause-rest
returns-clause-rest c =
    removed_rest c.args.name c.self.inside.kept.items _ c.remove-kept.new.self.items c.args.self.now c.in-Some.place c.self.view_is c.as_slice.ensures.value c.in-Some.ensures
    c.remove-kept.ensures.items
