use Rattle.std.proofs.lemmas.Result.{IfOk-weaker}
use Rattle.cd_mailbox.proofs.Joining.{owners, closes}
use Rattle.cd_mailbox.proofs.closing.close.Goals as goal

pub empty_all-requires-clause-owners : goal.empty_all-requires-clause-owners
empty_all-requires-clause-owners g c = owners g.L.Addressed.sender g.L.Addressed.receiver c.args.boxes c.args.passes c.join_all-seats.result.items c.requires c.join_all-seats.ensures

pub returns : goal.returns
returns g c = IfOk-weaker c.empty_all.result _ _ (closes g.L.Addressed.sender g.L.Addressed.receiver c.args.boxes c.args.passes c.join_all-seats.result.items c.requires c.join_all-seats.ensures) c.empty_all.ensures
