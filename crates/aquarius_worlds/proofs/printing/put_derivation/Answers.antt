use Rattle.std.proofs.Common.{subst}
use Rattle.cd_acts.specs.View.{local_of}
use Rattle.cd_alone.specs.Going.{Going}
use Rattle.cd_peer.specs.Plain.{plain}
use Rattle.aquarius_worlds.proofs.printing.put_derivation.Goals as goal

pub derivation-requires-clause-going : goal.derivation-requires-clause-going
derivation-requires-clause-going c =
    (plain, subst (λ q. Going plain q (local_of c.state-state.result.now)) c.requires.problem (c.state-state.ensures.whole c.requires.standing).going)
