use Rattle.std.proofs.Common.{ap, map, subst, sym, ◌∙◌}
use Rattle.cd_term.specs.Terms.{renumbered, AreWithin}
use Rattle.cd_unify.specs.Unifiers.{raised, IsMgu, HaveNoUnifier}
use Rattle.cd_unify.specs.Solved.{IsSolved}
use Rattle.cd_unify.proofs.UnifierLemmas.{within_renumbered}
use Rattle.cd_unify.proofs.TermLemmas.{built, too_large, solved_mgu, at_some}
use Rattle.cd_unify.proofs.unifier.mgu_by_classes.Goals as goal

pub normalized-requires : goal.normalized-requires
normalized-requires c =
    let is = at_some c.in_ok-solved.field-0 c.in-Some.solved (HaveNoUnifier c.args.left.now (map (raised c.args.up) c.args.right.now))
    (IsSolved c.args.vars c.args.left.now (map (raised c.args.up) c.args.right.now)) c.in_ok-solved.ensures c.in-Some.is in
    subst (AreWithin 65535 1000) (sym c.as_slice-3.ensures)
    (built c.args.vars _ _ c.in-Some.solved _ _ _ _ c.in_ok-nodes.nodes c.in_ok-terms.terms _ is c.as_slice-roots.ensures c.as_slice-roots.ensures
    c.as_slice.ensures c.as_slice-2.ensures c.in-Some-measure_nodes.ensures c.in_ok-terms.ensures).1

pub returns-clause-answer : goal.returns-clause-answer
returns-clause-answer c =
    let is = at_some c.in_ok-solved.field-0 c.in-Some.solved (HaveNoUnifier c.args.left.now (map (raised c.args.up) c.args.right.now))
    (IsSolved c.args.vars c.args.left.now (map (raised c.args.up) c.args.right.now)) c.in_ok-solved.ensures c.in-Some.is in
    let made = built c.args.vars _ _ c.in-Some.solved _ _ _ _ c.in_ok-nodes.nodes c.in_ok-terms.terms _ is c.as_slice-roots.ensures c.as_slice-roots.ensures
    c.as_slice.ensures c.as_slice-2.ensures c.in-Some-measure_nodes.ensures c.in_ok-terms.ensures in
    subst (IsMgu c.args.vars c.args.left.now (map (raised c.args.up) c.args.right.now)) (sym (c.in_ok-normalized.ensures ∙ ap renumbered (c.as_slice-3.ensures ∙ made.0)))
    (solved_mgu c.args.vars c.args.left.now (map (raised c.args.up) c.args.right.now) c.in-Some.solved c.in_ok-nodes.nodes is c.requires.left c.requires.right
    c.in_ok-nodes.ensures.covers c.in_ok-nodes.ensures.own)

pub returns-clause-within : goal.returns-clause-within
returns-clause-within c =
    let is = at_some c.in_ok-solved.field-0 c.in-Some.solved (HaveNoUnifier c.args.left.now (map (raised c.args.up) c.args.right.now))
    (IsSolved c.args.vars c.args.left.now (map (raised c.args.up) c.args.right.now)) c.in_ok-solved.ensures c.in-Some.is in
    let made = built c.args.vars _ _ c.in-Some.solved _ _ _ _ c.in_ok-nodes.nodes c.in_ok-terms.terms _ is c.as_slice-roots.ensures c.as_slice-roots.ensures
    c.as_slice.ensures c.as_slice-2.ensures c.in-Some-measure_nodes.ensures c.in_ok-terms.ensures in
    subst (AreWithin 65535 1000) (sym (c.in_ok-normalized.ensures ∙ ap renumbered c.as_slice-3.ensures))
    (within_renumbered 65535 1000 c.in_ok-terms.terms made.1)

pub returns-in_default-measure_nodes-clause-out_of_bounds : goal.returns-in_default-measure_nodes-clause-out_of_bounds
returns-in_default-measure_nodes-clause-out_of_bounds c =
    let is = at_some c.in_ok-solved.field-0 c.in-Some.solved (HaveNoUnifier c.args.left.now (map (raised c.args.up) c.args.right.now))
    (IsSolved c.args.vars c.args.left.now (map (raised c.args.up) c.args.right.now)) c.in_ok-solved.ensures c.in-Some.is in
    λ e. (
      renumbered (map is.tree.0 c.in_ok-nodes.nodes),
      solved_mgu c.args.vars c.args.left.now (map (raised c.args.up) c.args.right.now) c.in-Some.solved c.in_ok-nodes.nodes is c.requires.left c.requires.right
          c.in_ok-nodes.ensures.covers c.in_ok-nodes.ensures.own,
      too_large c.args.vars _ _ c.in-Some.solved _ _ c.in_ok-nodes.nodes is c.as_slice-roots.ensures c.as_slice.ensures c.in_default-measure_nodes.ensures,
    )
