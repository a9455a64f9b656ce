use Rattle.std.proofs.Common.{◌≡◌, ◌∙◌, ◌+◌, ◌-◌, ◌<◌, ◌++◌, ◌∷◌, [], ℕ, List, map, length, sym, ap, subst, arith}
use Rattle.cd_tasks.specs.declared.Task.{Task}
use Rattle.cd_tasks.specs.declared.Arrival.{Arrival}
use Rattle.cd_tasks.specs.Order.{is_live, is_home, tasks_at, task_order, owed_of, IsBackOf}
use Rattle.cd_tasks.specs.Links.{AreLinks}
use Rattle.cd_tasks.specs.Owing.{Owing, IsNew, put_in}
use Rattle.cd_tasks.specs.Tracking.{key_of}
use Rattle.cd_tasks.proofs.Backs.{back_more}
use Rattle.cd_tasks.proofs.Covering.{owed_more}
use Rattle.cd_tasks.proofs.Tracked.{links_more, keyed_more, settled_end}
use Rattle.cd_tasks.proofs.tasks.Tasks.put.Goals as goal

-- links to the new arrival, which stands where they were pushed
linked : (test : Arrival → _) (es more : List Arrival) (links further : List ℕ) (a : Arrival) (n : ℕ) → AreLinks test es links → more ≡ es ++ a ∷ [] → further ≡ links ++ (n + 1) ∷ [] → n ≡ length es
    → AreLinks test more further
linked test es more links further a n are grown put count =
    subst (λ (l : List Arrival). AreLinks test l further) (sym grown)
    (subst (λ (l : List ℕ). AreLinks test (es ++ a ∷ []) l) (sym (put ∙ ap (λ (k : ℕ). links ++ (k + 1) ∷ []) count)) (links_more test es links a are))

pub settle_lists-self-inside-requires-clause-later : goal.settle_lists-self-inside-requires-clause-later
settle_lists-self-inside-requires-clause-later c =
    let old = c.self.inside in
    linked is_live old.arrivals.items _ old.later.items _ c.args.arrival c.len-next.result
    c.self.invariant.0.lives c.push_reserved.ensures.items c.push_reserved-2.ensures.items (c.len-next.ensures ∙ old.arrivals.ok.0)

pub settle_lists-self-inside-requires-clause-home : goal.settle_lists-self-inside-requires-clause-home
settle_lists-self-inside-requires-clause-home c =
    let old = c.self.inside in
    linked is_home old.arrivals.items _ old.home.items _ c.args.arrival c.len-next.result
    c.self.invariant.0.homes c.push_reserved.ensures.items c.push_reserved-3.ensures.items (c.len-next.ensures ∙ old.arrivals.ok.0)

-- what is owed then
owed_now : (c : goal.After-self-2-1) → owed_of (c.self.inside.arrivals.items ++ c.args.arrival ∷ []) c.settle_lists-self-inside.result.turn c.settle_lists-self-inside.result.stage
    ≡ owed_of c.self.inside.arrivals.items c.self.inside.cursor.turn c.self.inside.cursor.stage ++ tasks_at c.args.arrival c.self.inside.arrivals.items
owed_now c =
    let old = c.self.inside in
    let es = old.arrivals.items in
    let a = c.args.arrival in
    ap (λ (l : List Arrival). owed_of l c.settle_lists-self-inside.result.turn c.settle_lists-self-inside.result.stage) (sym c.push_reserved.ensures.items)
    ∙ sym c.settle_lists-self-inside.ensures.same ∙ ap (λ (l : List Arrival). owed_of l old.cursor.turn old.cursor.stage) c.push_reserved.ensures.items
    ∙ owed_more es old.cursor.turn old.cursor.stage a (settled_end es old.cursor.turn old.cursor.stage c.self.invariant.0.settled)

pub invariant_of-self : goal.invariant_of-self
invariant_of-self c =
    let old = c.self.inside in
    let es = old.arrivals.items in
    let a = c.args.arrival in
    let new : IsNew c.args.arrival.name es = subst (λ (t : Owing). IsNew c.args.arrival.name t.arrivals) (sym c.self.view_is) c.requires.new in
    let room : 0 < old.room = subst (λ (t : Owing). 0 < t.spare) (sym c.self.view_is) c.requires.room in
    let settled = c.settle_lists-self-inside.ensures in (
      record {
        keyed = c.in-Ok.ensures.keys ∙ keyed_more old.names.keys es a c.self.invariant.0.keyed new ∙ ap (map (λ e. key_of e.name)) (sym c.push_reserved.ensures.items);
        lives = settled.later;
        homes = settled.home;
        settled = settled.settled;
        ordered = subst (λ (l : List Arrival). IsBackOf (owed_of l c.settle_lists-self-inside.result.turn c.settle_lists-self-inside.result.stage) (task_order l)) (sym c.push_reserved.ensures.items)
            (subst (λ (l : List Task). IsBackOf l (task_order (es ++ a ∷ []))) (sym (owed_now c)) (back_more es a (owed_of es old.cursor.turn old.cursor.stage) c.self.invariant.0.ordered));
      },
      omega (arith, c.in-Ok.ensures.spare, c.self.invariant.1, room),
      omega (arith, c.push_reserved.ensures.len, c.push_reserved.ensures.capacity, c.self.invariant.2, room),
      omega (arith, c.push_reserved-2.ensures.len, c.push_reserved-2.ensures.capacity, settled.later_room.0, settled.later_room.1, c.self.invariant.3, room),
      omega (arith, c.push_reserved-3.ensures.len, c.push_reserved-3.ensures.capacity, settled.home_room.0, settled.home_room.1, c.self.invariant.4, room),
    )

pub returns : goal.returns
returns c =
    let old = c.self.inside in
    let es = old.arrivals.items in
    let turn = old.cursor.turn in
    let stage = old.cursor.stage in
    let a = c.args.arrival in
    let grown = c.push_reserved.ensures.items in
    let owed = sym c.settle_lists-self-inside.ensures.same ∙ ap (λ (l : List Arrival). owed_of l turn stage) grown
    ∙ owed_more es turn stage a (settled_end es turn stage c.self.invariant.0.settled) in
    (λ i. record { arrivals = grown i; owed = owed i; spare = old.room - 1 }) ∙ ap (λ (t : Owing). put_in t c.args.arrival) c.self.view_is
