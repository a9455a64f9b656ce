use Rattle.std.proofs.Common.{inl, subst, List, ℕ}
use Rattle.std.proofs.lemmas.Result.{IfOk-weaker}
use Rattle.cd_checktop.specs.Checked.{IsTextAnswer}
use Rattle.cd_checktop.proofs.Telling.{told_is, told_few}
use Rattle.cd_checktop.proofs.call.judge.Goals as goal

pub returns-in-Ok-clause-derived : goal.returns-in-Ok-clause-derived
returns-in-Ok-clause-derived g c =
    IfOk-weaker c.judge_text.result _ _
    (λ made a. inl (c.fetch.new.into, told_is (g.L.Library.holds c.args.library.now c.args.derivation.now) (g.L.Library.told c.args.library.now) (g.L.Library.told c.fetch.new.self) c.args.derivation.now c.new-text.result c.fetch.new.into c.new-text.ensures c.in-Ok.ensures.gives c.in-Ok.ensures.front, subst (λ (t : List ℕ). IsTextAnswer c.args.problem.now c.args.derivation.now t made) c.as_slice.ensures a))
    c.judge_text.ensures

pub returns-in-Ok-clause-fetched : goal.returns-in-Ok-clause-fetched
returns-in-Ok-clause-fetched g c = told_few (g.L.Library.told c.args.library.now) (g.L.Library.told c.fetch.new.self) c.args.derivation.now c.new-text.result c.fetch.new.into c.in-Ok.ensures.gives
