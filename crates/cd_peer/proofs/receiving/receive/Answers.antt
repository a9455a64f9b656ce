use Rattle.cd_acts.specs.View.{local_of}
use Rattle.cd_peer.proofs.Stamps.{receives_letter}
use Rattle.cd_peer.proofs.receiving.receive.Goals as goal

pub returns-clause-ok : goal.returns-clause-ok
returns-clause-ok c = λ order p.
    receives_letter order p (local_of c.args.state.now) (local_of c.put_letter.new.self) (local_of c.stamp.new.state) c.receiving_time-time.result c.args.l c.in_ok-letter.letter c.requires.running c.requires.mine
    c.receiving_time-time.ensures c.in_ok-letter.ensures c.in_ok-put_letter.ensures.state c.in_ok-stamp.ensures.ok
