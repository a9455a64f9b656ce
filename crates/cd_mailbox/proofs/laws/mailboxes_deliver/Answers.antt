use Rattle.cd_mailbox.proofs.Said.{held_once, in_order, addressed}
use Rattle.cd_mailbox.proofs.laws.mailboxes_deliver.Goals as goal

pub returns-clause-once : goal.returns-clause-once
returns-clause-once g c = held_once g.L.Addressed.sender g.L.Addressed.receiver

pub returns-clause-order : goal.returns-clause-order
returns-clause-order g c = in_order g.L.Addressed.sender g.L.Addressed.receiver

pub returns-clause-addressed : goal.returns-clause-addressed
returns-clause-addressed g c = addressed g.L.Addressed.sender g.L.Addressed.receiver
