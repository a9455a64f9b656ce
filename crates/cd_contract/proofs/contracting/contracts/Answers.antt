use Rattle.std.proofs.Common.{inl, inr}
use Rattle.cd_contract.proofs.contracting.contracts.Goals as goal

pub reduces_from-requires-clause-left : goal.reduces_from-requires-clause-left
reduces_from-requires-clause-left c = λ out. elim (c.are_both-from_left.ensures out) [
  | inl is ↦ c.requires.left is
  | inr is ↦ c.may_reduce_left.ensures is c.args.order.now c.args.d.now c.args.c.now c.requires.row c.requires.sought
]

pub reduces_from-requires-clause-right : goal.reduces_from-requires-clause-right
reduces_from-requires-clause-right c = λ out. elim (c.are_both-from_right.ensures out) [
  | inl is ↦ c.requires.right is
  | inr is ↦ c.may_reduce_right.ensures is c.args.order.now c.args.d.now c.args.c.now c.requires.row c.requires.sought
]
