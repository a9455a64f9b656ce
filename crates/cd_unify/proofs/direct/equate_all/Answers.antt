use Rattle.std.proofs.Common.{◌<◌, List, arith, length, map, subst, ◌∙◌}
use Rattle.cd_term.specs.declared.Term.{Term}
use Rattle.cd_term.proofs.Measures.{at_map, below_map, past_map}
use Rattle.cd_unify.specs.declared.direct.Outcome.TheVariants.{Equal, Apart}
use Rattle.cd_unify.specs.Unifiers.{raised}
use Rattle.cd_unify.specs.Direct.{bound_to, Settles, JoinsAll}
use Rattle.cd_unify.proofs.GraphLemmas.{all_raised_none}
use Rattle.cd_unify.proofs.DirectLemmas.{heads_more, heads_stuck, heads_all}
use Rattle.cd_unify.proofs.direct.equate_all.Goals as goal

pub returns-in-Apart-clause-settles : goal.returns-in-Apart-clause-settles
returns-in-Apart-clause-settles c =
    let k = raised c.args.up in
    let few = c.loop-i-test.true in
    let more : c.loop-i.i < length c.args.right.now = omega (arith, few, c.requires) in
    subst (λ (ts : List Term). Settles (JoinsAll ts (map k c.args.right.now)) (bound_to c.args.values.now.items) (bound_to c.equate.new.values.items) Apart) (all_raised_none c.args.left.now)
    (heads_stuck (bound_to c.args.values.now.items) (bound_to c.loop-i.values.items) (bound_to c.equate.new.values.items) (bound_to c.equate.new.values.items)
    (map (raised 0) c.args.left.now) (map k c.args.right.now) c.loop-i.i (raised 0 c.index-left-i.result) (k c.index-right-i.result)
    (below_map (raised 0) _ _ few) (below_map k _ _ more) (at_map (raised 0) _ _ _ few c.index-left-i.is) (at_map k _ _ _ more c.index-right-i.is)
    c.loop-i.invariant.settles c.equate.result c.equate.ensures.settles c.in-Apart.is)

pub loop-i-preserved : goal.loop-i-preserved
loop-i-preserved c =
    let k = raised c.args.up in
    let few = c.loop-i-test.true in
    let more : c.loop-i.i < length c.args.right.now = omega (arith, few, c.requires) in
    record {
      covers = c.equate.ensures.covers ∙ c.loop-i.invariant.covers;
      settles = heads_more (bound_to c.args.values.now.items) (bound_to c.loop-i.values.items) (bound_to c.equate.new.values.items)
          (map (raised 0) c.args.left.now) (map k c.args.right.now) c.loop-i.i (raised 0 c.index-left-i.result) (k c.index-right-i.result)
          (below_map (raised 0) _ _ few) (below_map k _ _ more) (at_map (raised 0) _ _ _ few c.index-left-i.is) (at_map k _ _ _ more c.index-right-i.is)
          c.loop-i.invariant.settles c.equate.result c.equate.ensures.settles c.in-Equal.is;
    }

pub returns-clause-settles : goal.returns-clause-settles
returns-clause-settles c =
    let k = raised c.args.up in
    subst (λ (ts : List Term). Settles (JoinsAll ts (map k c.args.right.now)) (bound_to c.args.values.now.items) (bound_to c.loop-i.values.items) Equal) (all_raised_none c.args.left.now)
    (heads_all (bound_to c.args.values.now.items) (bound_to c.loop-i.values.items)
    (map (raised 0) c.args.left.now) (map k c.args.right.now) c.loop-i.i
    (past_map (raised 0) _ _ c.loop-i-test.false) (past_map k _ _ (omega (arith, c.loop-i-test.false, c.requires))) c.loop-i.invariant.settles)
