use Rattle.std.proofs.Common.{◌≡◌, Result, Ok, Err, IsErrAnd, subst}
use Rattle.cd_term.specs.declared.Term.{Term}
use Rattle.cd_term.specs.declared.TermFault.{TermFault}
use Rattle.cd_term.specs.declared.TermFault.TheVariants.{OutOfBounds, Memory}
use Rattle.cd_term.specs.Terms.{applied, IsWithinLimits}
use Rattle.cd_term.proofs.substitution.apply.Goals as goal

no_refusal : (r : Result Term TermFault) → IsErrAnd r (λ e. e ≡ Memory) → r ≡ Err OutOfBounds → ⊥
no_refusal (Ok t) memory refused = absurd (cc)
no_refusal (Err e) memory refused = cc

pub returns-in_err-substitute-clause-refused : goal.returns-in_err-substitute-clause-refused
returns-in_err-substitute-clause-refused c = (
  λ e. absurd (no_refusal _ c.from_residual.ensures.1 e),
  λ out. absurd (out (subst (λ s. IsWithinLimits (applied s c.args.t.now)) c.as_slice.ensures c.in-Some.ensures.1)),
)
