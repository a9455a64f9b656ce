use Rattle.std.proofs.Common.{◌≡◌, [], List, ℕ, subst}
use Rattle.cd_read.specs.declared.problem.Input.{Input}
use Rattle.cd_check.specs.Inputs.{AreAdded}
use Rattle.cd_check.proofs.Index.{indexed}
use Rattle.cd_check.proofs.judging.index.Goals as goal

pub returns : goal.returns
returns c =
    let p = c.args.problem.now in
    let new = c.add_bodies.new.bodies in
    indexed p new
    (subst (λ (is : List Input). AreAdded p.symbols is [] new) c.as_slice.ensures
    (subst (λ (old : List (List ℕ)). AreAdded p.symbols c.as_slice.result.now old new) c.new-bodies.ensures c.in_ok-add_bodies.ensures))
