use Rattle.std.proofs.Common.{◌<◌, arith, ap, length, map, refl, ◌∙◌}
use Rattle.cd_term.proofs.Measures.{at_map, below_map, past_map}
use Rattle.cd_unify.specs.declared.direct.Outcome.TheVariants.{Equal, Apart}
use Rattle.cd_unify.specs.Unifiers.{raised}
use Rattle.cd_unify.specs.Direct.{bound_to}
use Rattle.cd_unify.proofs.DirectLemmas.{followed_in, settles_left, settles_right, settles_same, heads_apart, lengths_apart, heads_more, heads_stuck, heads_all, symbols_settled}
use Rattle.cd_unify.proofs.direct.+equate.Goals as goal
use Rattle.cd_unify.proofs.direct.+equate.Goals.{then-f-g-via-then-f-g, then-f-g-via-else-f-g+then-len}

pub returns-then-x-y-clause-settles : goal.returns-then-x-y-clause-settles
returns-then-x-y-clause-settles t c =
    settles_same c.args.values.now.items c.args.left c.args.right c.followed-l.result c.followed-r.result c.in-Var-Var.a c.in-Var-Var.b
    (followed_in c.as_slice.result.now c.args.values.now.items c.args.left c.followed-l.result c.as_slice.ensures.value c.followed-l.ensures) (followed_in c.as_slice-2.result.now c.args.values.now.items c.args.right c.followed-r.result c.as_slice-2.ensures.value c.followed-r.ensures)
    c.in-Var-Var.is-0 c.in-Var-Var.is-1 (omega arith)

pub returns-then-f-g-clause-settles : goal.returns-then-f-g-clause-settles
returns-then-f-g-clause-settles t c =
    elim c.then-f-g.branch [
      | then-f-g-via-then-f-g w ↦ heads_apart c.args.values.now.items (bound_to c.args.values.now.items) c.args.left c.args.right c.followed-l.result c.followed-r.result
          c.in-App-App.f c.in-App-App.g c.in-App-App.args c.in-App-App.others
          (followed_in c.as_slice.result.now c.args.values.now.items c.args.left c.followed-l.result c.as_slice.ensures.value c.followed-l.ensures) (followed_in c.as_slice-2.result.now c.args.values.now.items c.args.right c.followed-r.result c.as_slice-2.ensures.value c.followed-r.ensures)
          c.in-App-App.is-0 c.in-App-App.is-1 (λ e. omega (arith, e, w.if-f-g.true))
      | then-f-g-via-else-f-g+then-len w ↦ lengths_apart c.args.values.now.items (bound_to c.args.values.now.items) c.args.left c.args.right c.followed-l.result c.followed-r.result
          c.in-App-App.f c.in-App-App.g c.in-App-App.args c.in-App-App.others
          (followed_in c.as_slice.result.now c.args.values.now.items c.args.left c.followed-l.result c.as_slice.ensures.value c.followed-l.ensures) (followed_in c.as_slice-2.result.now c.args.values.now.items c.args.right c.followed-r.result c.as_slice-2.ensures.value c.followed-r.ensures)
          c.in-App-App.is-0 c.in-App-App.is-1 (λ e. omega (arith, e, w.if-len.true, w.len.ensures.value, w.len-else-f-g.ensures.value))
    ]

pub returns-else-x-y-clause-settles : goal.returns-else-x-y-clause-settles
returns-else-x-y-clause-settles t c =
    settles_left c.args.values.now.items (bound_to c.bind.new.values.items) c.args.left c.args.right c.followed-l.result c.followed-r.result c.in-Var-Var.a _
    (followed_in c.as_slice.result.now c.args.values.now.items c.args.left c.followed-l.result c.as_slice.ensures.value c.followed-l.ensures) (followed_in c.as_slice-2.result.now c.args.values.now.items c.args.right c.followed-r.result c.as_slice-2.ensures.value c.followed-r.ensures)
    c.in-Var-Var.is-0 refl c.bind.result c.bind.ensures.settles

pub returns-in-Var-App-clause-settles : goal.returns-in-Var-App-clause-settles
returns-in-Var-App-clause-settles t c =
    settles_left c.args.values.now.items (bound_to c.bind-in-Var-App.new.values.items) c.args.left c.args.right c.followed-l.result c.followed-r.result c.in-Var-App.a _
    (followed_in c.as_slice.result.now c.args.values.now.items c.args.left c.followed-l.result c.as_slice.ensures.value c.followed-l.ensures) (followed_in c.as_slice-2.result.now c.args.values.now.items c.args.right c.followed-r.result c.as_slice-2.ensures.value c.followed-r.ensures)
    c.in-Var-App.is-0 refl c.bind-in-Var-App.result c.bind-in-Var-App.ensures.settles

pub returns-in-App-Var-clause-settles : goal.returns-in-App-Var-clause-settles
returns-in-App-Var-clause-settles t c =
    settles_right c.args.values.now.items (bound_to c.bind-in-App-Var.new.values.items) c.args.left c.args.right c.followed-l.result c.followed-r.result c.in-App-Var.b _
    (followed_in c.as_slice.result.now c.args.values.now.items c.args.left c.followed-l.result c.as_slice.ensures.value c.followed-l.ensures) (followed_in c.as_slice-2.result.now c.args.values.now.items c.args.right c.followed-r.result c.as_slice-2.ensures.value c.followed-r.ensures)
    c.in-App-Var.is-1 refl c.bind-in-App-Var.result c.bind-in-App-Var.ensures.settles

pub returns-in-Apart-clause-settles : goal.returns-in-Apart-clause-settles
returns-in-Apart-clause-settles t c =
    let h = raised c.followed-l.result.up in
    let k = raised c.followed-r.result.up in
    let few = c.loop-i-test.true in
    let others : c.loop-i.i < length c.as_slice-others.result.now
    = omega (arith, few, ap length c.as_slice-others.ensures, ap length c.as_slice-arg-items.ensures, c.if-len.false, c.len.ensures.value, c.len-else-f-g.ensures.value) in
    symbols_settled c.args.values.now.items (bound_to c.equate.new.values.items) c.args.left c.args.right c.followed-l.result c.followed-r.result
    c.in-App-App.f c.in-App-App.g c.in-App-App.args c.in-App-App.others c.as_slice-arg-items.result.now c.as_slice-others.result.now
    (followed_in c.as_slice.result.now c.args.values.now.items c.args.left c.followed-l.result c.as_slice.ensures.value c.followed-l.ensures) (followed_in c.as_slice-2.result.now c.args.values.now.items c.args.right c.followed-r.result c.as_slice-2.ensures.value c.followed-r.ensures)
    c.in-App-App.is-0 c.in-App-App.is-1 c.if-f-g.false c.as_slice-arg-items.ensures c.as_slice-others.ensures Apart
    (heads_stuck (bound_to c.args.values.now.items) (bound_to c.loop-i.values.items) (bound_to c.equate.new.values.items) (bound_to c.equate.new.values.items)
    (map h c.as_slice-arg-items.result.now) (map k c.as_slice-others.result.now) c.loop-i.i (h c.arg-item.result) (k c.index-others-i.result)
    (below_map h _ _ few) (below_map k _ _ others) (at_map h _ _ _ few c.arg-item.is) (at_map k _ _ _ others c.index-others-i.is)
    c.loop-i.invariant.settles c.equate.result c.equate.ensures.settles c.in-Apart.is)

pub loop-i-preserved : goal.loop-i-preserved
loop-i-preserved t c =
    let h = raised c.followed-l.result.up in
    let k = raised c.followed-r.result.up in
    let few = c.loop-i-test.true in
    let others : c.loop-i.i < length c.as_slice-others.result.now
    = omega (arith, few, ap length c.as_slice-others.ensures, ap length c.as_slice-arg-items.ensures, c.if-len.false, c.len.ensures.value, c.len-else-f-g.ensures.value) in
    record {
      covers = c.equate.ensures.covers ∙ c.loop-i.invariant.covers;
      settles = heads_more (bound_to c.args.values.now.items) (bound_to c.loop-i.values.items) (bound_to c.equate.new.values.items)
          (map h c.as_slice-arg-items.result.now) (map k c.as_slice-others.result.now) c.loop-i.i (h c.arg-item.result) (k c.index-others-i.result)
          (below_map h _ _ few) (below_map k _ _ others) (at_map h _ _ _ few c.arg-item.is) (at_map k _ _ _ others c.index-others-i.is)
          c.loop-i.invariant.settles c.equate.result c.equate.ensures.settles c.in-Equal.is;
    }

pub returns-after-loop-i-clause-settles : goal.returns-after-loop-i-clause-settles
returns-after-loop-i-clause-settles t c =
    let h = raised c.followed-l.result.up in
    let k = raised c.followed-r.result.up in
    symbols_settled c.args.values.now.items (bound_to c.loop-i.values.items) c.args.left c.args.right c.followed-l.result c.followed-r.result
    c.in-App-App.f c.in-App-App.g c.in-App-App.args c.in-App-App.others c.as_slice-arg-items.result.now c.as_slice-others.result.now
    (followed_in c.as_slice.result.now c.args.values.now.items c.args.left c.followed-l.result c.as_slice.ensures.value c.followed-l.ensures) (followed_in c.as_slice-2.result.now c.args.values.now.items c.args.right c.followed-r.result c.as_slice-2.ensures.value c.followed-r.ensures)
    c.in-App-App.is-0 c.in-App-App.is-1 c.if-f-g.false c.as_slice-arg-items.ensures c.as_slice-others.ensures Equal
    (heads_all (bound_to c.args.values.now.items) (bound_to c.loop-i.values.items)
    (map h c.as_slice-arg-items.result.now) (map k c.as_slice-others.result.now) c.loop-i.i
    (past_map h _ _ c.loop-i-test.false)
    (past_map k _ _ (omega (arith, c.loop-i-test.false, ap length c.as_slice-others.ensures, ap length c.as_slice-arg-items.ensures, c.if-len.false, c.len.ensures.value, c.len-else-f-g.ensures.value)))
    c.loop-i.invariant.settles)
