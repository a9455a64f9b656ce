use Rattle.std.proofs.Common.{◌+◌, arith, subst, sym}
use Rattle.std.proofs.lemmas.Bool.{false≢true}
use Rattle.std.proofs.lemmas.Grind.{common_steps}
use Rattle.cd_clause.proofs.AlikeLemmas.{IsClearBetween, clear_here, clear_more, clear_all}
use Rattle.cd_clause.proofs.tidiness.clear_from.Goals as goal
use Rattle.cd_clause.proofs.tidiness.clear_from.Goals.{then-is_superfluous, else-is_superfluous}

pub loop-i-preserved : goal.loop-i-preserved
loop-i-preserved c = elim c.if-is_superfluous.branch [
  | then-is_superfluous w ↦ (omega (arith, w.clear-is), clear_here _ _ c.args.literals.now w.clear-is)
  | else-is_superfluous w ↦ (
    omega (arith, w.clear-is, c.loop-i.invariant.0),
    subst (λ x. IsClearBetween x (c.loop-i.i + 1) c.args.literals.now) (sym w.clear-is)
        (clear_more _ _ c.args.literals.now _ _ c.loop-i-test.true c.index-literals-i.is (grind (arith, common_steps))
        (λ out. false≢true (w.if-is_superfluous.ensures.1 out)) c.loop-i.invariant.1),
  )
]

pub returns : goal.returns
returns c = clear_all _ _ c.args.literals.now c.loop-i-test.false c.loop-i.invariant.1
