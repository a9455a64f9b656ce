use Rattle.cd_contract.proofs.Hitting.{subsumer_told}
use Rattle.cd_contract.proofs.contracting.is_subsumer.Goals as goal

pub returns : goal.returns
returns c =
    let found = rw c.in-Some.is at c.in_ok-_subst.ensures in subsumer_told c.args.d.now c.args.c.now c.in-Some._subst found.1
