use Rattle.std.proofs.Common.{ap, arith, map, ◌∙◌}
use Rattle.cd_term.specs.Terms.{bound_of, greatest}
use Rattle.cd_clause.specs.Clauses.{clause_terms}
use Rattle.cd_unify.specs.Bindings.{values_in}
use Rattle.cd_subsume.proofs.Searching.{bounds_within, nothing_subsumes, subsumes_by}
use Rattle.cd_subsume.proofs.search.subsumes.Goals as goal

pub returns-in_default : goal.returns-in_default
returns-in_default c =
    nothing_subsumes c.args.d.now c.args.c.now _ _ c.as_slice-ls.ensures c.as_slice-ms.ensures (rw c.in_default.is at c.in_ok-goals.ensures)

pub picked_values-requires-clause-bounded : goal.picked_values-requires-clause-bounded
picked_values-requires-clause-bounded c =
    bounds_within c.as_slice-ls.result.now _
    (omega (arith, c.in_ok-bindings.ensures.covers, c.variables.ensures, ap (λ ls. greatest (map bound_of (clause_terms ls))) c.as_slice-ls.ensures))

pub returns-in_default-2 : goal.returns-in_default-2
returns-in_default-2 c =
    nothing_subsumes c.args.d.now c.args.c.now _ _ c.as_slice-ls.ensures c.as_slice-ms.ensures (rw c.in_default-2.is at c.in_ok-values.ensures)

pub returns : goal.returns
returns c =
    let found = rw c.in-Some-2.is at c.in_ok-values.ensures in
    subsumes_by c.args.d.now c.args.c.now _ _ (values_in c.in-Some-2.values) _ _
    c.as_slice-ls.ensures c.as_slice-ms.ensures c.in_ok-subst.ensures.covers
    (found.0 ∙ c.in_ok-bindings.ensures.covers ∙ c.variables.ensures) found.1 c.in_ok-subst.ensures.fits
