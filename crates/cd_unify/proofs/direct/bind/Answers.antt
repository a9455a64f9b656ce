use Rattle.std.proofs.Common.{arith, sym, ◌∙◌}
use Rattle.cd_unify.specs.Direct.{bound_to}
use Rattle.cd_unify.proofs.DirectLemmas.{among_in, circular_apart, bound_new}
use Rattle.cd_unify.specs.Unifiers.{raised}
use Rattle.std.proofs.Common.{map}
use Rattle.cd_unify.proofs.direct.bind.Goals as goal

pub returns-then-occurs_among-clause-settles : goal.returns-then-occurs_among-clause-settles
returns-then-occurs_among-clause-settles c =
    circular_apart c.args.values.now.items (bound_to c.args.values.now.items) c.args.x c.args.to c.in-App.field-0 c.in-App.args c.as_slice.result.now c.in-App.is c.as_slice.ensures
    (among_in c.as_slice-in-App.result.now c.args.values.now.items c.args.x (map (raised c.args.to.up) c.as_slice.result.now) c.as_slice-in-App.ensures.value
    (c.occurs_among.ensures c.if-occurs_among.true))

pub returns-in-None-clause-settles : goal.returns-in-None-clause-settles
returns-in-None-clause-settles c =
    bound_new c.args.values.now.items c.args.x c.index.result.now c.args.to (omega arith) (sym c.index.ensures ∙ c.in-None.is)
