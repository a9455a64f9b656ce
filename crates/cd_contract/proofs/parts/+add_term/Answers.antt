use Rattle.std.proofs.Common.{arith}
use Rattle.cd_rewrite.proofs.FirstPaths.{none_next, none_in, none_in_variable, argument_below}
use Rattle.cd_contract.specs.Parts.{Lacks}
use Rattle.cd_contract.proofs.Parting.{adds_both, before_stays}
use Rattle.cd_contract.proofs.parts.+add_term.Goals as goal

pub returns-in_default-clause-all : goal.returns-in_default-clause-all
returns-in_default-clause-all t c = none_in_variable (Lacks c.args.parts.now.items) c.args.t.now _ c.in_default.is (λ lacks. lacks.0 _ c.in_default.is)

pub add_term-requires : goal.add_term-requires
add_term-requires t c =
    let below = argument_below c.args.t.now _ _ c.as_slice-args.result.now _ c.arg-item.result c.in-App.is c.as_slice-args.ensures c.loop-arg-test.true c.arg-item.is in
    (omega (arith, below), omega (arith, below, c.requires))

pub loop-arg-preserved : goal.loop-arg-preserved
loop-arg-preserved t c = record {
  adds = adds_both c.add_part.new.parts.items c.loop-arg.parts.items c.add_term.new.parts.items c.loop-arg.invariant.adds c.in_ok-add_term.ensures.adds;
  all = none_next (Lacks c.add_term.new.parts.items) c.as_slice-args.result.now c.loop-arg.arg-index c.arg-item.result c.loop-arg-test.true c.arg-item.is
      (before_stays c.loop-arg.parts.items c.add_term.new.parts.items c.as_slice-args.result.now c.loop-arg.arg-index c.in_ok-add_term.ensures.adds c.loop-arg.invariant.all)
      c.in_ok-add_term.ensures.all;
}

pub returns-clause-all : goal.returns-clause-all
returns-clause-all t c =
    none_in (Lacks c.loop-arg.parts.items) c.args.t.now _ _ c.as_slice-args.result.now _ c.in-App.is c.as_slice-args.ensures c.loop-arg-test.false
    (λ lacks. lacks.1 (c.loop-arg.invariant.adds.kept c.args.t.now c.in_ok-add_part.ensures.there)) c.loop-arg.invariant.all
