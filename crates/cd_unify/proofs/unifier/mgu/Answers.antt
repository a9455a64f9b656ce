use Rattle.std.proofs.Common.{List, length, map, ap, ◌∙◌, subst, arith, IfOk}
use Rattle.cd_term.specs.declared.Term.{Term}
use Rattle.cd_term.specs.Terms.{bound_of, greatest}
use Rattle.cd_unify.specs.Unifiers.{raised, IsMgu, IsUnifierOrNone}
use Rattle.cd_unify.proofs.GraphLemmas.{all_raised_none}
use Rattle.cd_unify.proofs.unifier.mgu.Goals as goal

pub mgu_apart-requires-clause-as_many : goal.mgu_apart-requires-clause-as_many
mgu_apart-requires-clause-as_many c = omega (arith, ap length c.as_slice.ensures, ap length c.as_slice-2.ensures, c.requires.as_many)

pub mgu_apart-requires-clause-left : goal.mgu_apart-requires-clause-left
mgu_apart-requires-clause-left c = omega (arith, ap (λ (ts : List Term). greatest (map bound_of ts)) c.as_slice.ensures, c.requires.left)

pub mgu_apart-requires-clause-right : goal.mgu_apart-requires-clause-right
mgu_apart-requires-clause-right c =
    omega (arith, ap (λ (ts : List Term). greatest (map bound_of ts)) (all_raised_none c.as_slice-2.result.now ∙ c.as_slice-2.ensures), c.requires.right)

pub returns-clause-answer : goal.returns-clause-answer
returns-clause-answer c =
    subst (λ (ts : List Term). IfOk c.mgu_apart.result (IsUnifierOrNone c.args.vars c.args.left.now ts)) (all_raised_none c.as_slice-2.result.now ∙ c.as_slice-2.ensures)
    (subst (λ (ts : List Term). IfOk c.mgu_apart.result (IsUnifierOrNone c.args.vars ts (map (raised 0) c.as_slice-2.result.now))) c.as_slice.ensures c.mgu_apart.ensures.answer)

pub returns-clause-out_of_bounds : goal.returns-clause-out_of_bounds
returns-clause-out_of_bounds c = λ e.
    let x = c.mgu_apart.ensures.out_of_bounds e in (
      x.0,
      subst (λ (ts : List Term). IsMgu c.args.vars c.args.left.now ts x.0) (all_raised_none c.as_slice-2.result.now ∙ c.as_slice-2.ensures)
          (subst (λ (ts : List Term). IsMgu c.args.vars ts (map (raised 0) c.as_slice-2.result.now) x.0) c.as_slice.ensures x.1),
      x.2,
    )
