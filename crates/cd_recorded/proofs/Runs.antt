-- Runs that grow on the right.
use Rattle.std.proofs.Common.{◌≡◌, List, [], ◌∷◌, ◌++◌, length, refl, ◌∙◌, subst, ap}
use Rattle.cd_kbo.specs.declared.order.Order.{Order}
use Rattle.cd_ledger.specs.declared.events.Event.{Event}
use Rattle.cd_machine.specs.Schedule.{IsChosen}
use Rattle.cd_machine.specs.World.{Run, World, WorldStep, at}
use Rattle.cd_read.specs.declared.problem.Problem.{Problem}
use Rattle.cd_laws.proofs.Steps.{step_length}
use Rattle.cd_recorded.specs.Laws.{ChosenAreRuns}
use Rattle.cd_recorded.specs.Recorded.{ChosenRun}

module _ (order : Order) (p : Problem) where
  pub run_of : (es : List Event) (w v : World) → ChosenRun order p w es v → Run order p w es v
  run_of [] w v r = r
  run_of (e ∷ es) w v r = (r.0, r.1, run_of es r.0 v r.3)

  pub run_more : (es : List Event) (w v u : World) (e : Event) → Run order p w es v → WorldStep order p v e u → Run order p w (es ++ e ∷ []) u
  run_more [] w v u e r h = (u, subst (λ (x : World). WorldStep order p x e u) r h, refl)
  run_more (f ∷ es) w v u e r h = (r.0, r.1, run_more es r.0 v u e r.2 h)

  pub chosen_more : (es : List Event) (w v u : World) (e : Event) → ChosenRun order p w es v → WorldStep order p v e u → IsChosen order (at v e.peer) e.act → ChosenRun order p w (es ++ e ∷ []) u
  chosen_more [] w v u e r h c = (u, subst (λ (x : World). WorldStep order p x e u) r h, subst (λ (x : World). IsChosen order (at x e.peer) e.act) r c, refl)
  chosen_more (f ∷ es) w v u e r h c = (r.0, r.1, r.2, chosen_more es r.0 v u e r.3 h c)

  -- no peer comes or goes
  pub run_length : (es : List Event) (w v : World) → Run order p w es v → length v.locals ≡ length w.locals
  run_length [] w v r = ap (λ (x : World). length x.locals) r
  run_length (e ∷ es) w v r = run_length es r.0 v r.2 ∙ step_length order p w e r.0 r.1

pub chosen_are_runs : ChosenAreRuns
chosen_are_runs order p start events w r = run_of order p events start w r
