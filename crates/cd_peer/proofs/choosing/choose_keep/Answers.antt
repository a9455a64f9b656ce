use Rattle.cd_acts.specs.View.{local_of}
use Rattle.cd_peer.proofs.Firsts.{may_keep, no_names}
use Rattle.cd_peer.proofs.choosing.choose_keep.Goals as goal

pub returns-in-Some : goal.returns-in-Some
returns-in-Some c = λ order p irreducible. (
  c.requires.none,
  may_keep order (local_of c.args.state.now) c.requires.none c.args.item.now c.requires.there c.in-Some.outcome c.requires.free irreducible c.in-Some.ensures,
)

pub returns-in-None : goal.returns-in-None
returns-in-None c = λ order p irreducible.
    no_names order (local_of c.args.state.now) c.requires.none c.args.item.now c.requires.there c.requires.free irreducible c.in-None.ensures.0 c.in-None.ensures.1 c.in-None.ensures.2 c.in-None.ensures.3
