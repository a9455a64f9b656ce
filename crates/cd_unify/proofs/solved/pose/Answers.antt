use Rattle.std.proofs.Common.{◌≡◌, ◌++◌, ap, arith, length, map, subst, ◌∙◌}
use Rattle.std.proofs.lemmas.List.{length-map}
use Rattle.cd_unify.specs.Unifiers.{raised}
use Rattle.cd_unify.specs.Graph.{Adds}
use Rattle.cd_unify.specs.Classes.{paired}
use Rattle.cd_unify.proofs.GraphLemmas.{all_raised_none}
use Rattle.cd_unify.proofs.TermLemmas.{as_many_nodes, problem_of}
use Rattle.cd_unify.proofs.solved.pose.Goals as goal

pub push_pairs-requires : goal.push_pairs-requires
push_pairs-requires c =
    let right = map (raised c.args.up) c.args.right.now in
    let many : length c.args.left.now ≡ length right = omega (arith, c.requires.as_many, length-map c.args.right.now (raised c.args.up)) in
    omega (
      arith,
      ap length c.as_slice.ensures,
      ap length c.as_slice-2.ensures,
      as_many_nodes c.args.vars c.in_ok-graph.graph c.add_all.new.graph c.add_all-2.new.graph c.args.left.now right c.in_ok-lefts.lefts c.in_ok-rights.rights
          c.in_ok-graph.ensures many c.requires.left c.requires.right
          (subst (λ ts. Adds c.in_ok-graph.graph c.add_all.new.graph ts c.in_ok-lefts.lefts) (all_raised_none c.args.left.now) c.in_ok-lefts.ensures)
          c.in_ok-rights.ensures,
    )

pub returns : goal.returns
returns c =
    let right = map (raised c.args.up) c.args.right.now in
    let many : length c.args.left.now ≡ length right = omega (arith, c.requires.as_many, length-map c.args.right.now (raised c.args.up)) in
    problem_of c.args.vars c.in_ok-graph.graph c.add_all.new.graph c.args.left.now right c.in_ok-lefts.lefts c.in_ok-rights.rights _
    c.in_ok-graph.ensures many c.requires.left c.requires.right
    (subst (λ ts. Adds c.in_ok-graph.graph c.add_all.new.graph ts c.in_ok-lefts.lefts) (all_raised_none c.args.left.now) c.in_ok-lefts.ensures)
    c.in_ok-rights.ensures
    (c.in_ok-push_pairs.ensures ∙ ap (λ ps. ps ++ paired c.as_slice.result.now c.as_slice-2.result.now) c.new-pairs.ensures
    ∙ ap (λ xs. paired xs c.as_slice-2.result.now) c.as_slice.ensures ∙ ap (paired c.in_ok-lefts.lefts) c.as_slice-2.ensures)
