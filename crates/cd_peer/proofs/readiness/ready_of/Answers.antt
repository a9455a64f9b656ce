use Rattle.std.proofs.Common.{sym, ◌∙◌}
use Rattle.std.specs.Prelude.{None, Some}
use Rattle.cd_acts.specs.View.{local_of}
use Rattle.cd_peer.proofs.Outlook.{ready_first, ready_letter, ready_token}
use Rattle.cd_peer.proofs.readiness.ready_of.Goals as goal

pub returns-in-None : goal.returns-in-None
returns-in-None c = ready_first (local_of c.args.state.now) None c.ready_alone.result c.in-None.ensures c.ready_alone.ensures

pub returns-then-is_token : goal.returns-then-is_token
returns-then-is_token c = ready_first (local_of c.args.state.now) (Some c.in-Some.l.now) _ c.in-Some.ensures (ready_token (local_of c.args.state.now) c.in-Some.l.now (sym c.is_token.ensures ∙ c.if-is_token.true))

pub returns-else-is_token : goal.returns-else-is_token
returns-else-is_token c = ready_first (local_of c.args.state.now) (Some c.in-Some.l.now) _ c.in-Some.ensures (ready_letter (local_of c.args.state.now) c.in-Some.l.now (sym c.is_token.ensures ∙ c.if-is_token.false))
