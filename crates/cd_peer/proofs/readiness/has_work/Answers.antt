use Rattle.cd_acts.specs.View.{local_of}
use Rattle.cd_peer.proofs.Outlook.{work_none, work_owed, work_pending}
use Rattle.cd_peer.proofs.readiness.has_work.Goals as goal

pub returns-in-Some : goal.returns-in-Some
returns-in-Some c = work_pending (local_of c.args.state.now) c.in-Some._item.now c.in-Some.ensures

pub returns-in-Some-next : goal.returns-in-Some-next
returns-in-Some-next c = work_owed (local_of c.args.state.now) c.in-None.ensures c.in-Some-next._task c.in-Some-next.ensures.first

pub returns-in-None-next : goal.returns-in-None-next
returns-in-None-next c = work_none (local_of c.args.state.now) c.in-None.ensures c.in-None-next.ensures.first
