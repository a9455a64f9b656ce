use Rattle.std.proofs.Common.{◌≡◌, ◌+◌, [], List, Err, take, sym, subst, rules}
use Rattle.cd_term.specs.declared.Term.{Term}
use Rattle.cd_read.specs.Meaning.{GivesTerms, none}
use Rattle.cd_read.specs.Overflow.{WhyTerms}
use Rattle.cd_read.proofs.Gives.{room_for, next_given}
use Rattle.cd_read.proofs.WhyLemmas.{err_is, next_why}
use Rattle.cd_read.proofs.numbering.numbered_all.Goals as goal

pub loop-tree-init : goal.loop-tree-init
loop-tree-init c = record {
  gives = subst (λ (us : List Term). GivesTerms c.args.symbols.now c.args.variables.now [] us c.args.symbols.now c.args.variables.now) (sym c.in_ok-terms.ensures)
      (none c.args.symbols.now c.args.variables.now);
}

pub numbered-requires : goal.numbered-requires
numbered-requires c = record {
  few = room_for _ _ c.args.variables.now c.loop-tree.variables c.args.trees.now _ c.loop-tree.tree-index _ c.loop-tree-test.true c.tree-item.is c.loop-tree.invariant.gives c.requires.few;
}

pub returns-in_err-term-clause-why : goal.returns-in_err-term-clause-why
returns-in_err-term-clause-why c =
    let e : c.from_residual-in_err-term.result ≡ Err c.in_err-term.field-0.0 = search rules in
    err_is c.from_residual-in_err-term.result c.in_err-term.field-0.0 (WhyTerms c.args.symbols.now c.args.variables.now c.args.trees.now) e
    (next_why _ _ c.args.variables.now _ c.args.trees.now _ c.loop-tree.tree-index _ c.in_err-term.field-0.0 c.loop-tree-test.true c.tree-item.is c.loop-tree.invariant.gives c.in_err-term.ensures.why)

pub loop-tree-preserved : goal.loop-tree-preserved
loop-tree-preserved c = record {
  gives = subst (λ (us : List Term). GivesTerms c.args.symbols.now c.args.variables.now (take (c.loop-tree.tree-index + 1) c.args.trees.now) us c.numbered.new.symbols c.numbered.new.variables)
      (sym c.in_ok-push.ensures.ok)
      (next_given _ _ _ _ _ _ c.args.trees.now c.loop-tree.terms c.loop-tree.tree-index _ c.in_ok-term.term c.loop-tree-test.true c.tree-item.is c.loop-tree.invariant.gives c.in_ok-term.ensures.gives);
}
