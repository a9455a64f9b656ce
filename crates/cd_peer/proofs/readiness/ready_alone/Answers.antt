use Rattle.std.proofs.Common.{sym, ◌∙◌}
use Rattle.std.proofs.lemmas.Bool.{false≢true}
use Rattle.cd_acts.specs.View.{local_of}
use Rattle.cd_peer.proofs.Outlook.{ready_busy, ready_declare, ready_nothing, ready_pass}
use Rattle.cd_peer.proofs.readiness.ready_alone.Goals as goal

pub returns-then-has_work : goal.returns-then-has_work
returns-then-has_work c = ready_busy (local_of c.args.state.now) (sym c.has_work.ensures ∙ c.if-has_work.true)

pub returns-in-None : goal.returns-in-None
returns-in-None c = ready_nothing (local_of c.args.state.now) (sym c.has_work.ensures ∙ c.if-has_work.false) c.in-None.is

pub returns-then-may_declare : goal.returns-then-may_declare
returns-then-may_declare c = ready_declare (local_of c.args.state.now) (sym c.has_work.ensures ∙ c.if-has_work.false) c.in-Some.token c.in-Some.is (c.may_declare.ensures.0 c.if-may_declare.true)

pub returns-else-may_declare : goal.returns-else-may_declare
returns-else-may_declare c =
    ready_pass (local_of c.args.state.now) (sym c.has_work.ensures ∙ c.if-has_work.false) c.in-Some.token c.in-Some.is (λ m. false≢true (sym c.if-may_declare.false ∙ c.may_declare.ensures.1 m))
