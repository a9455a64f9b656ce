use Rattle.std.proofs.Common.{◌≡◌, ◌-◌, List, length, take, drop, subst}
use Rattle.cd_read.specs.declared.problem.Input.{Input}
use Rattle.cd_check.specs.Inputs.{AreAdded}
use Rattle.cd_check.proofs.Index.{added_on, parted}
use Rattle.cd_check.proofs.judging.add_bodies.Goals as goal

pub loop-rest-preserved : goal.loop-rest-preserved
loop-rest-preserved c new h =
    let rest = c.loop-rest.rest.now in
    c.loop-rest.invariant new
    (subst (λ (is : List Input). AreAdded c.args.symbols.now is c.loop-rest.bodies new) (parted rest c.first-item.result c.in-len1-up.len_at_least c.first-item.is)
    (added_on c.args.symbols.now c.first-item.result (take (length rest - 1) (drop 1 rest)) c.loop-rest.bodies c.add_body.new.bodies new c.in_ok-add_body.ensures h))
