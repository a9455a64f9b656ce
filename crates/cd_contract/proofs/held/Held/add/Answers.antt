use Rattle.std.proofs.Common.{◌≡◌, ◌++◌, ◌∷◌, [], ap, ◌∙◌}
use Rattle.cd_contract.specs.Marks.{Marked, BrieflyMarked}
use Rattle.cd_contract.proofs.Meeting.{sought_stays}
use Rattle.cd_contract.proofs.Columns.{columns_more}
use Rattle.cd_contract.proofs.held.Held.add.Goals as goal

pub invariant_of-self-2 : goal.invariant_of-self-2
invariant_of-self-2 c =
    let same : c.in_ok-clause.clause ≡ c.args.clause.now = cc (c.in_ok-clause.ensures) in
    columns_more c.self.inside.order c.self.inside.kept.items _ c.self.inside.needs.items _ c.self.inside.marks.items _ c.in_ok-clause.clause c.args.clause.now c.args.name c.of-row.result c.of-needs.result
    c.brief-marks.result c.self.invariant c.in_ok-push.ensures.items (c.in_ok-push-2.ensures.items ∙ ap (λ xs. xs ++ c.of-needs.result ∷ []) c.in_ok-reserve.ensures.items)
    (c.in_ok-push-3.ensures.items ∙ ap (λ xs. xs ++ c.brief-marks.result ∷ []) c.in_ok-reserve-2.ensures.items) same c.requires c.of-row.ensures c.of-needs.ensures
    (sought_stays (Marked c.marks_of.result) (BrieflyMarked c.brief-marks.result) c.args.clause.now.literals c.brief-marks.ensures c.marks_of.ensures)
