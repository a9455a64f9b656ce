use Rattle.std.proofs.Common.{sym, ◌∙◌}
use Rattle.cd_ledger.specs.Records.{equations_of}
use Rattle.cd_machine.specs.Acts.{resolution}
use Rattle.cd_acts.proofs.Arrivals.{resolve_in, resolve_kept, resolve_others}
use Rattle.cd_acts.proofs.Names.{get_only}
use Rattle.cd_acts.proofs.settling.resolve_name.Goals as goal

pub returns-in-None : goal.returns-in-None
returns-in-None c = resolve_others c.args.n (resolution c.args.outcome (equations_of c.args.steps.now)) c.args.known.now c.in-None.ensures

pub returns-then-not-reworks : goal.returns-then-not-reworks
returns-then-not-reworks c =
    resolve_kept c.args.n (resolution c.args.outcome (equations_of c.args.steps.now)) c.args.known.now c.in-Some.found.0 c.in-Some.found.1.now c.in-Some.ensures (sym c.reworks.ensures ∙ c.if-not-reworks.true)

pub returns-in_ok-status-in-Some : goal.returns-in_ok-status-in-Some
returns-in_ok-status-in-Some c =
    rw (c.set_status.ensures c.in-Some.found.1.now (get_only c.args.n c.args.known.now c.in-Some.found.0 c.in-Some.found.1.now c.in-Some.ensures), c.in_ok-status-in-Some.ensures)
    (resolve_in c.args.n (resolution c.args.outcome (equations_of c.args.steps.now)) c.args.known.now c.in-Some.found.0 c.in-Some.found.1.now c.in-Some.ensures (sym c.reworks.ensures ∙ c.if-not-reworks.false))
