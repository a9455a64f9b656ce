use Rattle.std.proofs.Common.{◌||◌, Bool, refl, sym, ap, ap₂, ◌∙◌}
use Rattle.std.proofs.lemmas.Bool.{false≢true}
use Rattle.std.proofs.lemmas.List.Folds.{list_any_more, list_any_at}
use Rattle.cd_clause.specs.Truth.{literal_true}
use Rattle.cd_meaning.specs.Interps.{interp_of, point_of}
use Rattle.cd_meaning.proofs.Holding.{none_whole}
use Rattle.cd_meaning.proofs.truth.is_true.Goals as goal

pub returns-then-is_literal_true : goal.returns-then-is_literal_true
returns-then-is_literal_true c =
    let test = literal_true (interp_of c.args.size c.args.tables.now) (point_of c.args.point.now) in (
      (λ _. list_any_at test c.args.literals.now c.loop-literal.literal-index c.literal-item.result c.loop-literal-test.true (ap test (sym c.literal-item.is) ∙ sym c.is_literal_true.ensures ∙ c.if-is_literal_true.true)),
      (λ _. refl),
    )

pub loop-literal-preserved : goal.loop-literal-preserved
loop-literal-preserved c =
    let test = literal_true (interp_of c.args.size c.args.tables.now) (point_of c.args.point.now) in
    list_any_more test c.args.literals.now c.loop-literal.literal-index c.literal-item.result c.loop-literal-test.true
    ∙ ap₂ (λ (a b : Bool). a || b) c.loop-literal.invariant (ap test (sym c.literal-item.is) ∙ sym c.is_literal_true.ensures ∙ c.if-is_literal_true.false)

pub returns : goal.returns
returns c =
    let test = literal_true (interp_of c.args.size c.args.tables.now) (point_of c.args.point.now) in
    let none = none_whole test c.args.literals.now c.loop-literal.literal-index c.loop-literal-test.false c.loop-literal.invariant in (
      (λ e. absurd (false≢true e)),
      (λ e. absurd (false≢true (sym none ∙ e))),
    )
