use Rattle.std.proofs.Common.{◌≡◌, ap, ◌∙◌, sym, subst, Result, Ok, Err, IsErrAnd}
use Rattle.cd_term.specs.declared.TermFault.{TermFault}
use Rattle.cd_term.specs.declared.TermFault.TheVariants.{OutOfBounds, Memory}
use Rattle.cd_clause.specs.declared.Clause.{Clause}
use Rattle.cd_clause.specs.Clauses.{joined, AreLiteralsWithin}
use Rattle.cd_clause.proofs.JoinLemmas.{joined_within}
use Rattle.cd_clause.proofs.joining.join.Goals as goal

no_refusal : (r : Result Clause TermFault) → IsErrAnd r (λ e. e ≡ Memory) → r ≡ Err OutOfBounds → ⊥
no_refusal (Ok c) memory refused = absurd (cc)
no_refusal (Err e) memory refused = cc

pub returns-in_err-joined_literals-clause-refused : goal.returns-in_err-joined_literals-clause-refused
returns-in_err-joined_literals-clause-refused c = (
  λ e. absurd (no_refusal _ c.from_residual.ensures.1 e),
  λ out. absurd (out (joined_within c.args.a.now c.args.b.now c.args.skip_a c.args.skip_b _ _ _ c.as_slice.ensures c.in-Some.ensures)),
)

pub returns-clause-value : goal.returns-clause-value
returns-clause-value c =
    c.in_ok-joined_literals.ensures ∙ ap (joined c.args.a.now c.args.skip_a c.args.b.now c.args.skip_b) c.as_slice-2.ensures

pub returns-clause-within : goal.returns-clause-within
returns-clause-within c =
    subst (λ ls. AreLiteralsWithin 65535 1000 ls)
    (sym (c.in_ok-joined_literals.ensures ∙ ap (joined c.args.a.now c.args.skip_a c.args.b.now c.args.skip_b) c.as_slice-2.ensures))
    (joined_within c.args.a.now c.args.b.now c.args.skip_a c.args.skip_b _ _ _ c.as_slice.ensures c.in-Some.ensures)

pub returns-clause-refused : goal.returns-clause-refused
returns-clause-refused c =
    (λ e. absurd (cc), λ out. absurd (out (joined_within c.args.a.now c.args.b.now c.args.skip_a c.args.skip_b _ _ _ c.as_slice.ensures c.in-Some.ensures)))
