use Rattle.std.proofs.Common.{arith, subst}
use Rattle.cd_acts.specs.Answers.{IsReduction}
use Rattle.cd_acts.specs.View.{local_of}
use Rattle.cd_acts.specs.declared.rules.Reduction.{Reduction}
use Rattle.cd_peer.proofs.Firsts.{item_bounds, may_rewrite, name_there, reduces_there, rewriter_there, spent_item}
use Rattle.cd_peer.proofs.choosing.choose_rewriting.Goals as goal

pub returns-then-state : goal.returns-then-state
returns-then-state c = λ p.
    spent_item c.args.order.now (local_of c.args.state.now) c.requires.none c.args.item.now c.requires.there c.in-Some.equation.now
    (rewriter_there c.args.order.now c.args.state.now.known c.args.item.now c.args.by c.requires.rewriter c.in-Some.equation.now c.in-Some.ensures.entry) c.if-state.true

pub reduction_of-requires-clause-reduces : goal.reduction_of-requires-clause-reduces
reduction_of-requires-clause-reduces c = reduces_there c.args.order.now c.args.state.now.known c.args.item.now c.args.by c.requires.rewriter c.in-Some.equation.now c.in-Some.ensures.entry

pub returns-in-To : goal.returns-in-To
returns-in-To c = λ p.
    (let x = subst (λ (r : Reduction). IsReduction c.args.order.now c.in-Some.equation.now.entry.clause c.args.item.now.clause r) c.in-To.is c.in_ok-reduction.ensures in (
      c.requires.none,
      may_rewrite c.args.order.now (local_of c.args.state.now) c.requires.none c.args.item.now c.requires.there c.args.by c.in-Some.equation.now c.in-To.r
          (name_there c.args.order.now c.args.state.now.known c.args.item.now c.args.by c.requires.rewriter c.in-Some.equation.now c.in-Some.ensures.entry)
          (rewriter_there c.args.order.now c.args.state.now.known c.args.item.now c.args.by c.requires.rewriter c.in-Some.equation.now c.in-Some.ensures.entry)
          x.0 x.1 (omega (arith, c.requires.ready.units, c.if-state.false)),
    ))

pub returns-in-TooLarge : goal.returns-in-TooLarge
returns-in-TooLarge c = λ p.
    (let x = subst (λ (r : Reduction). IsReduction c.args.order.now c.in-Some.equation.now.entry.clause c.args.item.now.clause r) c.in-TooLarge.is c.in_ok-reduction.ensures in
    item_bounds c.args.order.now (local_of c.args.state.now) c.requires.none c.args.item.now c.requires.there c.in-Some.equation.now
    (rewriter_there c.args.order.now c.args.state.now.known c.args.item.now c.args.by c.requires.rewriter c.in-Some.equation.now c.in-Some.ensures.entry)
    x (omega (arith, c.requires.ready.units, c.if-state.false)))
