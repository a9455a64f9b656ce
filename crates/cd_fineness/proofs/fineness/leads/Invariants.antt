use Rattle.cd_ledger.specs.Records.{recorded}
use Rattle.cd_fineness.proofs.Fine.{LeadsOn}
use Rattle.cd_fineness.proofs.fineness.leads.Given as goal

abbrev pub invariant-loop-step : goal.invariant-loop-step
invariant-loop-step l = LeadsOn l.problem (λ n. recorded n l.known) l.steps l.clause l.current l.step-index
