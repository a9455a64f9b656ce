use Rattle.std.proofs.Common.{◌≡◌, ◌≢◌, ◌∙◌, ◌<◌, ℕ, List, Some, slice_get, sym, ap, subst, length, arith}
use Rattle.std.proofs.lemmas.List.{get_or_read}
use Rattle.cd_tasks.specs.declared.Task.{Task}
use Rattle.cd_tasks.specs.declared.Task.TheVariants.{Solo, Pair}
use Rattle.cd_tasks.specs.declared.Arrival.{Arrival}
use Rattle.cd_tasks.specs.declared.cursor.Stage.{Stage}
use Rattle.cd_tasks.specs.declared.cursor.Stage.TheVariants.{Alone, Second, First}
use Rattle.cd_tasks.specs.Order.{owed_of, task_order, IsBackOf}
use Rattle.cd_tasks.specs.Owing.{Owing}
use Rattle.cd_tasks.specs.Links.{IsSettled, IsDue}
use Rattle.cd_tasks.proofs.Walking.{nobody, owed_end}
use Rattle.cd_tasks.proofs.Tracked.{settled_before, due_head, task_at}
use Rattle.cd_tasks.proofs.tasks.Tasks.next.Goals as goal

first : (es : List Arrival) (turn : ℕ) (stage s : Stage) (owed : List Task) → owed_of es turn stage ≡ owed → stage ≡ s → IsSettled es turn stage → turn ≢ length es
    → (turn < length es) × IsDue es turn s × (Some (task_at es turn s) ≡ slice_get owed 0)
first es turn stage s owed is at settled ne =
    let due = settled_before es turn stage settled ne in
    let there : IsDue es turn s = subst (IsDue es turn) at due.1 in
    (due.0, there, sym (ap (λ (ts : List Task). slice_get ts 0) (sym is ∙ ap (owed_of es turn) at ∙ due_head es turn s due.0 there)))

pub returns-then-turn-len-clause-first : goal.returns-then-turn-len-clause-first
returns-then-turn-len-clause-first c =
    let old = c.self.inside in
    let es = old.arrivals.items in
    ap (λ (ts : List Task). slice_get ts 0)
    (sym (owed_end es old.cursor.turn old.cursor.stage (omega (arith, c.if-turn-len.true, c.len.ensures, old.arrivals.ok))) ∙ ap (λ (t : Owing). t.owed) c.self.view_is)

pub returns-in-Alone-clause-first : goal.returns-in-Alone-clause-first
returns-in-Alone-clause-first c =
    let old = c.self.inside in
    let es = old.arrivals.items in
    let f = first es old.cursor.turn old.cursor.stage Alone c.args.self.now.owed (ap (λ (t : Owing). t.owed) c.self.view_is) c.in-Alone.is c.self.invariant.0.settled
    (λ e. c.if-turn-len.false (omega (arith, e, c.len.ensures, old.arrivals.ok))) in
    ap (λ (x : Arrival). Some (Solo x.name)) (get_or_read es old.cursor.turn c.index.result.now f.0 c.index.ensures nobody) ∙ f.2

pub returns-in-Second-clause-first : goal.returns-in-Second-clause-first
returns-in-Second-clause-first c =
    let old = c.self.inside in
    let es = old.arrivals.items in
    let k = c.in-Second.k in
    let f = first es old.cursor.turn old.cursor.stage (Second k) c.args.self.now.owed (ap (λ (t : Owing). t.owed) c.self.view_is) c.in-Second.is c.self.invariant.0.settled
    (λ e. c.if-turn-len.false (omega (arith, e, c.len.ensures, old.arrivals.ok))) in
    (λ i. Some (Pair (get_or_read es k c.index-in-Second.result.now (omega (arith, f.0, f.1.0)) c.index-in-Second.ensures nobody i).name
    (get_or_read es old.cursor.turn c.index.result.now f.0 c.index.ensures nobody i).name)) ∙ f.2

pub returns-in-First-clause-first : goal.returns-in-First-clause-first
returns-in-First-clause-first c =
    let old = c.self.inside in
    let es = old.arrivals.items in
    let k = c.in-First.k in
    let f = first es old.cursor.turn old.cursor.stage (First k) c.args.self.now.owed (ap (λ (t : Owing). t.owed) c.self.view_is) c.in-First.is c.self.invariant.0.settled
    (λ e. c.if-turn-len.false (omega (arith, e, c.len.ensures, old.arrivals.ok))) in
    (λ i. Some (Pair (get_or_read es old.cursor.turn c.index.result.now f.0 c.index.ensures nobody i).name
    (get_or_read es k c.index-in-First.result.now (omega (arith, f.0, f.1.0)) c.index-in-First.ensures nobody i).name)) ∙ f.2

pub returns-then-turn-len-clause-ordered : goal.returns-then-turn-len-clause-ordered
returns-then-turn-len-clause-ordered c = subst (λ (u : Owing). IsBackOf u.owed (task_order u.arrivals)) c.self.view_is c.self.invariant.0.ordered

pub returns-in-Alone-clause-ordered : goal.returns-in-Alone-clause-ordered
returns-in-Alone-clause-ordered c = subst (λ (u : Owing). IsBackOf u.owed (task_order u.arrivals)) c.self.view_is c.self.invariant.0.ordered

pub returns-in-Second-clause-ordered : goal.returns-in-Second-clause-ordered
returns-in-Second-clause-ordered c = subst (λ (u : Owing). IsBackOf u.owed (task_order u.arrivals)) c.self.view_is c.self.invariant.0.ordered

pub returns-in-First-clause-ordered : goal.returns-in-First-clause-ordered
returns-in-First-clause-ordered c = subst (λ (u : Owing). IsBackOf u.owed (task_order u.arrivals)) c.self.view_is c.self.invariant.0.ordered
