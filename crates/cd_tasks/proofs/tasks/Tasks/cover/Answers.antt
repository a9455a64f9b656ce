use Rattle.std.proofs.Common.{◌∙◌, List, map, sym, ap, subst, arith}
use Rattle.cd_tasks.specs.declared.Task.{Task}
use Rattle.cd_tasks.specs.declared.Arrival.{Arrival}
use Rattle.cd_tasks.specs.declared.tasks.Key.{Key}
use Rattle.cd_tasks.specs.Order.{is_live, is_home, task_order, owed_of, IsBackOf}
use Rattle.cd_tasks.specs.Links.{AreLinks}
use Rattle.cd_tasks.specs.Owing.{Owing, cover_one, without}
use Rattle.cd_tasks.specs.Tracking.{key_of, Lacks}
use Rattle.cd_tasks.proofs.Backs.{back_covered}
use Rattle.cd_tasks.proofs.Covering.{owed_covered}
use Rattle.cd_tasks.proofs.Tracked.{cover_nothing, cover_written, key_within, keys_covered, links_covered, live_fades, home_fades}
use Rattle.cd_tasks.proofs.tasks.Tasks.cover.Goals as goal

pub returns-in_default : goal.returns-in_default
returns-in_default c =
    let old = c.self.inside in
    let es = old.arrivals.items in
    let n = c.args.n in
    let lacks : Lacks (map (λ e. key_of e.name) es) (key_of n) = subst (λ (ks : List Key). Lacks ks (key_of n)) c.self.invariant.0.keyed c.in_default.ensures.place in
    let same = sym (cover_nothing n es lacks) in
    let owed = ap (λ (l : List Arrival). owed_of l old.cursor.turn old.cursor.stage) same ∙ owed_covered n es old.cursor.turn old.cursor.stage in
    sym c.self.view_is ∙ (λ i. record { arrivals = same i; owed = owed i; spare = old.room }) ∙ ap (λ (t : Owing). without t n) c.self.view_is

pub index_mut-requires : goal.index_mut-requires
index_mut-requires c =
    let old = c.self.inside in
    omega (arith, key_within c.args.n old.names.keys old.arrivals.items c.in-Some.place c.self.invariant.0.keyed c.in-Some.ensures.place, old.arrivals.ok)

pub settle_lists-self-inside-requires-clause-later : goal.settle_lists-self-inside-requires-clause-later
settle_lists-self-inside-requires-clause-later c =
    let old = c.self.inside in
    let es = old.arrivals.items in
    subst (λ (l : List Arrival). AreLinks is_live l old.later.items)
    (sym (cover_written c.args.n old.names.keys es c.in-Some.place c.index_mut.result.now c.self.invariant.0.keyed c.in-Some.ensures.distinct c.in-Some.ensures.place c.index_mut.ensures.value))
    (links_covered is_live live_fades c.args.n es old.later.items c.self.invariant.0.lives)

pub settle_lists-self-inside-requires-clause-home : goal.settle_lists-self-inside-requires-clause-home
settle_lists-self-inside-requires-clause-home c =
    let old = c.self.inside in
    let es = old.arrivals.items in
    subst (λ (l : List Arrival). AreLinks is_home l old.home.items)
    (sym (cover_written c.args.n old.names.keys es c.in-Some.place c.index_mut.result.now c.self.invariant.0.keyed c.in-Some.ensures.distinct c.in-Some.ensures.place c.index_mut.ensures.value))
    (links_covered is_home home_fades c.args.n es old.home.items c.self.invariant.0.homes)

pub invariant_of-self : goal.invariant_of-self
invariant_of-self c =
    let old = c.self.inside in
    let es = old.arrivals.items in
    let n = c.args.n in
    let written = cover_written n old.names.keys es c.in-Some.place c.index_mut.result.now c.self.invariant.0.keyed c.in-Some.ensures.distinct c.in-Some.ensures.place c.index_mut.ensures.value in
    let settled = c.settle_lists-self-inside.ensures in (
      record {
        keyed = c.self.invariant.0.keyed ∙ sym (keys_covered n es) ∙ ap (map (λ e. key_of e.name)) (sym written);
        lives = settled.later;
        homes = settled.home;
        settled = settled.settled;
        ordered = subst (λ (l : List Arrival). IsBackOf (owed_of l c.settle_lists-self-inside.result.turn c.settle_lists-self-inside.result.stage) (task_order l)) (sym written)
            (subst (λ (l : List Task). IsBackOf l (task_order (map (cover_one n) es)))
            (sym (ap (λ (l : List Arrival). owed_of l c.settle_lists-self-inside.result.turn c.settle_lists-self-inside.result.stage) (sym written)
            ∙ sym settled.same ∙ ap (λ (l : List Arrival). owed_of l old.cursor.turn old.cursor.stage) written ∙ owed_covered n es old.cursor.turn old.cursor.stage))
            (back_covered n es (owed_of es old.cursor.turn old.cursor.stage) c.self.invariant.0.ordered));
      },
      c.self.invariant.1,
      c.self.invariant.2,
      omega (arith, settled.later_room.0, settled.later_room.1, c.self.invariant.3),
      omega (arith, settled.home_room.0, settled.home_room.1, c.self.invariant.4),
    )

pub returns : goal.returns
returns c =
    let old = c.self.inside in
    let es = old.arrivals.items in
    let turn = old.cursor.turn in
    let stage = old.cursor.stage in
    let n = c.args.n in
    let written = cover_written n old.names.keys es c.in-Some.place c.index_mut.result.now c.self.invariant.0.keyed c.in-Some.ensures.distinct c.in-Some.ensures.place c.index_mut.ensures.value in
    let owed = sym c.settle_lists-self-inside.ensures.same ∙ ap (λ (l : List Arrival). owed_of l turn stage) written ∙ owed_covered n es turn stage in
    (λ i. record { arrivals = written i; owed = owed i; spare = old.room }) ∙ ap (λ (t : Owing). without t n) c.self.view_is
