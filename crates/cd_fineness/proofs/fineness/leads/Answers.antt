use Rattle.std.proofs.Common.{subst}
use Rattle.std.specs.Prelude.{Option, Some}
use Rattle.std.specs.Option.{option_copied}
use Rattle.cd_clause.specs.declared.Clause.{Clause}
use Rattle.cd_ledger.specs.Records.{recorded}
use Rattle.cd_fineness.specs.Fine.{IsReplay}
use Rattle.cd_fineness.proofs.Fine.{leads_more}
use Rattle.cd_fineness.proofs.fineness.leads.Goals as goal

pub loop-step-preserved : goal.loop-step-preserved
loop-step-preserved c =
    leads_more c.args.problem.now (λ n. recorded n c.args.known.now) c.args.steps.now c.args.clause.now c.loop-step.current c.loop-step.step-index c.step-item.result c.loop-step-test.true c.step-item.is c.loop-step.invariant c.in-Some.next
    (subst (λ (o : Option Clause). IsReplay c.args.problem.now (λ n. recorded n c.args.known.now) o c.step-item.result (Some c.in-Some.next)) c.as_ref.ensures.value
    (subst (λ (o : Option Clause). IsReplay c.args.problem.now (λ n. recorded n c.args.known.now) (option_copied c.as_ref.result) c.step-item.result o) c.in-Some.is c.in_ok-next.ensures))
