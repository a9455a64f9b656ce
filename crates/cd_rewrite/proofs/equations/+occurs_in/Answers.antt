use Rattle.std.proofs.Common.{ap, sym, ◌∙◌}
use Rattle.std.specs.List.{list_any}
use Rattle.std.proofs.lemmas.List.{drop_all}
use Rattle.cd_term.specs.Terms.{occurs}
use Rattle.cd_rewrite.proofs.Sides.{occurs_arguments, any_at}
use Rattle.cd_rewrite.proofs.equations.+occurs_in.Goals as goal

pub returns-then-occurs_in : goal.returns-then-occurs_in
returns-then-occurs_in t c =
    sym (occurs_arguments c.args.k c.args.t.now _ _ c.in-App.is ∙ ap (list_any (occurs c.args.k)) (sym c.as_slice-arg-items.ensures)
    ∙ any_at c.args.k _ _ _ c.loop-arg-test.true c.arg-item.is (sym c.occurs_in.ensures ∙ c.if-occurs_in.true))

pub returns-after-loop-arg : goal.returns-after-loop-arg
returns-after-loop-arg t c =
    sym (occurs_arguments c.args.k c.args.t.now _ _ c.in-App.is ∙ ap (list_any (occurs c.args.k)) (sym c.as_slice-arg-items.ensures)
    ∙ c.loop-arg.invariant ∙ ap (list_any (occurs c.args.k)) (drop_all _ _ c.loop-arg-test.false))
