use Rattle.std.proofs.Common.{refl}
use Rattle.cd_ledger.specs.Records.{equations_of}
use Rattle.cd_machine.specs.Acts.{resolution}
use Rattle.cd_acts.proofs.Arrivals.{indexed_resolved, resolution_held}
use Rattle.cd_acts.proofs.state.State.settle.Goals as goal

pub returns-clause-indexed : goal.returns-clause-indexed
returns-clause-indexed c =
    rw (c.in_ok-resolve.ensures, c.as_slice.ensures)
    (indexed_resolved c.args.self.now.me c.args.origin (resolution c.args.outcome (equations_of c.args.steps)) c.args.self.now.known c.args.self.now.tasks.arrivals c.args.self.now.held c.args.self.now.waiting
    (resolution_held c.args.outcome (equations_of c.args.steps)) c.requires.indexed)
