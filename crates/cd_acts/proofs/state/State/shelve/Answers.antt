use Rattle.cd_machine.specs.Contraction.{loss}
use Rattle.cd_acts.proofs.Arrivals.{indexed_shelved}
use Rattle.cd_acts.proofs.Names.{unknown_new}
use Rattle.cd_acts.proofs.Strikes.{loss_held}
use Rattle.cd_acts.proofs.state.State.shelve.Goals as goal

pub add_covered-requires : goal.add_covered-requires
add_covered-requires c = record { new = unknown_new c.args.self.now.me c.args.r.name c.args.self.now.tasks.arrivals c.args.self.now.known c.requires.indexed.names c.requires.unknown }

pub returns-clause-indexed : goal.returns-clause-indexed
returns-clause-indexed c =
    rw (c.in_ok-push.ensures.ok, c.in_ok-add_covered.ensures.ok, c.lost-status.ensures)
    (indexed_shelved c.args.self.now.me c.args.self.now.known c.args.self.now.tasks.arrivals c.args.self.now.held c.args.self.now.waiting c.requires.indexed c.args.r
    (loss c.args.self.now.me c.args.hit.by c.args.hit.how c.args.r) (loss_held c.args.self.now.me c.args.hit.by c.args.hit.how c.args.r))
