use Rattle.std.proofs.Common.{refl, rules}
use Rattle.cd_acts.specs.Indexed.{has_arrived}
use Rattle.cd_acts.specs.View.{local_of}
use Rattle.cd_acts.proofs.Names.{arrived_is}
use Rattle.cd_acts.proofs.Ready.{first_is}
use Rattle.cd_acts.proofs.state.State.first_ready.Goals as goal

pub returns : goal.returns
returns c =
    first_is c.args.self.now.known (λ n. has_arrived n c.args.self.now.tasks.arrivals) (λ n. arrived_is c.args.self.now.me n c.args.self.now.tasks.arrivals c.args.self.now.known c.requires.names)
    (local_of c.args.self.now) c.args.self.now.waiting c.first_ready.result refl refl c.requires.needs
    (c.first_ready.ensures.place (λ n. has_arrived n c.args.self.now.tasks.arrivals) (λ n b h. search rules))
