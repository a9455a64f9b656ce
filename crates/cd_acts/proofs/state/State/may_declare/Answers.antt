use Rattle.cd_acts.proofs.Waves.{closed_from, closed_to}
use Rattle.cd_acts.proofs.state.State.may_declare.Goals as goal

pub returns-then-self-eq0 : goal.returns-then-self-eq0
returns-then-self-eq0 c = (
  (λ e. (c.if-self-eq0.true, closed_to c.args.token.now c.args.self.now.peers (c.wave_closed.ensures.0 e))),
  (λ m. c.wave_closed.ensures.1 (closed_from c.args.token.now c.args.self.now.peers m.1)),
)
