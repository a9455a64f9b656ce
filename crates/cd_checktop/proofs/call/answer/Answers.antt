use Rattle.std.proofs.Common.{sym, subst, Option, List, ℕ}
use Rattle.std.specs.Prelude.{IfOk}
use Rattle.cd_checktop.specs.Checked.{IsChecked}
use Rattle.cd_checktop.proofs.Telling.{few_none}
use Rattle.cd_checktop.proofs.call.answer.Goals as goal

pub returns-clause-checked : goal.returns-clause-checked
returns-clause-checked g c =
    subst (λ (ws : Option (List ℕ × List ℕ)). IfOk c.answer_for.result (IsChecked (g.L.Library.holds c.args.library.now) ws (g.L.Library.told c.args.library.now) (g.L.Library.told c.answer_for.new.library))) (sym c.in-Some.ensures) c.answer_for.ensures.checked

pub returns-in_default-clause-fetched : goal.returns-in_default-clause-fetched
returns-in_default-clause-fetched g c = few_none (g.L.Library.told c.args.library.now)
