use Rattle.std.proofs.Common.{List, ◌≡◌, ◌≢◌, ◌∙◌, [], drop, arith, sym, ap, subst}
use Rattle.cd_tasks.specs.declared.Task.{Task}
use Rattle.cd_tasks.specs.declared.cursor.Cursor.{Cursor}
use Rattle.cd_tasks.specs.Order.{owed_of, task_order, IsBackOf}
use Rattle.cd_tasks.specs.Links.{after}
use Rattle.cd_tasks.specs.Owing.{Owing, finished}
use Rattle.cd_tasks.proofs.Backs.{back_next}
use Rattle.cd_tasks.proofs.Tracked.{settled_due, due_head, task_at}
use Rattle.cd_tasks.proofs.tasks.Tasks.finish.Goals as goal

pub returns : goal.returns
returns c =
    let old = c.self.inside in
    let es = old.arrivals.items in
    let turn = old.cursor.turn in
    let stage = old.cursor.stage in
    let some : owed_of es turn stage ≢ [] = subst (λ (t : Owing). t.owed ≢ []) (sym c.self.view_is) c.requires in
    let due = settled_due es turn stage c.self.invariant.0.settled some in
    let owed : owed_of es c.settle_lists-self-inside.result.turn c.settle_lists-self-inside.result.stage ≡ drop 1 (owed_of es turn stage)
    = sym c.settle_lists-self-inside.ensures.same
    ∙ ap (λ (k : Cursor). owed_of es k.turn k.stage) c.advanced-next.ensures
    ∙ sym (ap (drop 1) (due_head es turn stage due.0 due.1)) in
    (λ i. record { arrivals = es; owed = owed i; spare = old.room }) ∙ ap finished c.self.view_is

pub invariant_of-self : goal.invariant_of-self
invariant_of-self c =
    let old = c.self.inside in
    let es = old.arrivals.items in
    let turn = old.cursor.turn in
    let stage = old.cursor.stage in
    let some : owed_of es turn stage ≢ [] = subst (λ (t : Owing). t.owed ≢ []) (sym c.self.view_is) c.requires in
    let due = settled_due es turn stage c.self.invariant.0.settled some in
    let settled = c.settle_lists-self-inside.ensures in (
      record {
        keyed = c.self.invariant.0.keyed;
        lives = settled.later;
        homes = settled.home;
        settled = settled.settled;
        ordered = subst (λ (l : List Task). IsBackOf l (task_order es)) (sym (ap (λ (k : Cursor). owed_of es k.turn k.stage) c.advanced-next.ensures) ∙ settled.same)
            (back_next (task_at es turn stage) (owed_of es turn (after turn stage)) (task_order es)
            (subst (λ (l : List Task). IsBackOf l (task_order es)) (due_head es turn stage due.0 due.1) c.self.invariant.0.ordered));
      },
      c.self.invariant.1,
      c.self.invariant.2,
      omega (arith, settled.later_room.0, settled.later_room.1, c.self.invariant.3),
      omega (arith, settled.home_room.0, settled.home_room.1, c.self.invariant.4),
    )
