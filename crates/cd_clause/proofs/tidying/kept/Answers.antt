use Rattle.std.proofs.Common.{refl, sym, ◌∙◌}
use Rattle.std.proofs.lemmas.Bool.{false≢true}
use Rattle.cd_clause.proofs.CodeLemmas.{met_next}
use Rattle.cd_clause.proofs.KeptLemmas.{kept_in, kept_out, kept_end}
use Rattle.cd_clause.proofs.tidying.kept.Goals as goal

pub loop-literal-preserved-then-branch : goal.loop-literal-preserved-then-branch
loop-literal-preserved-then-branch c =
    let h = c.in_ok-is_superfluous_behind.ensures _ c.loop-literal.invariant.met in
    record {
      kept = kept_out c.args.literals.now _ _ _ _ c.loop-literal-test.true c.literal-item.is refl (h.0.0 c.if-branch.true) c.loop-literal.invariant.kept;
      met = met_next _ c.args.literals.now _ _ c.loop-literal-test.true c.literal-item.is h.1;
    }

pub loop-literal-preserved : goal.loop-literal-preserved
loop-literal-preserved c =
    let h = c.in_ok-is_superfluous_behind.ensures _ c.loop-literal.invariant.met in
    record {
      kept = kept_in c.args.literals.now _ _ _ _ _ _ c.loop-literal-test.true c.literal-item.is refl
          (λ out. false≢true (sym c.if-branch.false ∙ h.0.1 out)) c.in_ok-copy.ensures c.in_ok-push.ensures.ok c.loop-literal.invariant.kept;
      met = met_next _ c.args.literals.now _ _ c.loop-literal-test.true c.literal-item.is h.1;
    }

pub returns : goal.returns
returns c = kept_end _ _ _ c.loop-literal-test.false c.loop-literal.invariant.kept
