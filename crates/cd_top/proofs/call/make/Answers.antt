use Rattle.cd_outside.specs.Outside.{Rose}
use Rattle.cd_top.proofs.Reading.{if_ok, solved_made}
use Rattle.cd_top.proofs.call.make.Goals as goal

pub returns-in-Ok-clause-made : goal.returns-in-Ok-clause-made
returns-in-Ok-clause-made g c =
    if_ok c.solve.result (λ r out. solved_made c.args.options.now (g.L.Library.holds c.args.library.now) (g.L.Library.told c.args.library.now) (g.L.Library.told c.problem_of.new.library)
    (Rose (g.L.Library.faults c.args.library.now) (g.L.Library.faults c.problem_of.new.library)) c.in-Ok.problem r.0 r.1 c.in-Ok.ensures.problem out) c.solve.ensures
