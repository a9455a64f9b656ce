use Rattle.cd_acts.proofs.Arrivals.{indexed_joined}
use Rattle.cd_acts.proofs.Names.{unknown_new}
use Rattle.cd_acts.proofs.state.State.join.Goals as goal

pub add_arrival-requires : goal.add_arrival-requires
add_arrival-requires c = record { new = unknown_new c.args.self.now.me c.args.r.name c.args.self.now.tasks.arrivals c.args.self.now.known c.requires.indexed.names c.requires.unknown }

pub returns-clause-indexed : goal.returns-clause-indexed
returns-clause-indexed c =
    rw (c.in_ok-push.ensures.ok, c.in_ok-add_arrival.ensures.ok, c.in_ok-add.ensures.ok)
    (indexed_joined c.args.self.now.me c.args.self.now.known c.args.self.now.tasks.arrivals c.args.self.now.held c.args.self.now.waiting c.requires.indexed c.args.r)
