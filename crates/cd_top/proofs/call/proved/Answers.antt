use Rattle.cd_outside.specs.Outside.{Rose}
use Rattle.cd_top.proofs.Reading.{kept_made}
use Rattle.cd_top.proofs.call.proved.Goals as goal

pub returns-in-Ok-clause-made : goal.returns-in-Ok-clause-made
returns-in-Ok-clause-made g c =
    kept_made c.args.options.now (g.L.Library.holds c.args.library.now) (g.L.Library.told c.args.library.now) (g.L.Library.told c.make.new.library)
    (Rose (g.L.Library.faults c.args.library.now) (g.L.Library.faults c.make.new.library)) c.in-Ok.made c.in-Ok.account c.written.result.made c.written.result.account c.in-Ok.ensures.made c.written.ensures.kept
