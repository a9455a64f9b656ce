use Rattle.std.proofs.Common.{◌≡◌, ◌+◌, ◌<◌, ◌≤◌, ◌∙◌, ◌⊎◌, List, ℕ, true, false, not, ◌&&◌, ap, length, arith, inl, inr, get_or, Option, Some, None, MatchOption}
use Rattle.std.proofs.lemmas.Bool.{cases_order}
use Rattle.cd_tasks.specs.declared.Arrival.{Arrival}
use Rattle.cd_tasks.specs.declared.cursor.Stage.{Stage}
use Rattle.cd_tasks.specs.declared.cursor.Stage.TheVariants.{Alone, First}
use Rattle.cd_tasks.specs.Order.{is_live, is_home, owed_of}
use Rattle.cd_tasks.specs.Links.{passes_at}
use Rattle.cd_tasks.proofs.Passing.{passes_get}
use Rattle.cd_tasks.proofs.Walking.{nobody, pass_covered, pass_alone, pass_seconds}
use Rattle.cd_tasks.proofs.cursor.stage_due.Goals as goal

live : (es : List Arrival) (turn : ℕ) (d : Arrival) → turn < length es → (get_or es turn d).covered ≡ false → passes_at is_live es turn ≡ true
live es turn d within free = passes_get is_live es turn d within ∙ ap not free

pub returns-then-arrival-clause-next : goal.returns-then-arrival-clause-next
returns-then-arrival-clause-next c =
    pass_covered c.args.arrivals.now c.args.turn c.args.stage c.requires.turn
    (passes_get is_live c.args.arrivals.now c.args.turn _ c.requires.turn ∙ ap not c.if-arrival.true)

pub first_due-requires-clause-live : goal.first_due-requires-clause-live
first_due-requires-clause-live c = live c.args.arrivals.now c.args.turn _ c.requires.turn c.if-arrival.false

pub first_due-requires-in-First-clause-live : goal.first_due-requires-in-First-clause-live
first_due-requires-in-First-clause-live c = live c.args.arrivals.now c.args.turn _ c.requires.turn c.if-arrival.false

pub returns-then-arrival-2-clause-due : goal.returns-then-arrival-2-clause-due
returns-then-arrival-2-clause-due c =
    passes_get is_home c.args.arrivals.now c.args.turn _ c.requires.turn
    ∙ (λ i. not (c.if-arrival.false i) && c.if-arrival-2.true i)

-- from a stage with the same left
from_there : (es : List Arrival) (turn : ℕ) (s t : Stage) (o : Option Stage) → owed_of es turn s ≡ owed_of es turn t
    → MatchOption o (owed_of es turn t ≡ owed_of es (turn + 1) Alone) (λ next. owed_of es turn t ≡ owed_of es turn next)
    → MatchOption o (owed_of es turn s ≡ owed_of es (turn + 1) Alone) (λ next. owed_of es turn s ≡ owed_of es turn next)
from_there es turn s t (Some next) e h = e ∙ h
from_there es turn s t None e h = e ∙ h

pub returns-else-arrival-2-clause-next : goal.returns-else-arrival-2-clause-next
returns-else-arrival-2-clause-next c =
    let es = c.args.arrivals.now in
    let strange : (get_or es c.args.turn nobody).resident ≡ false = c.if-arrival-2.false in
    from_there es c.args.turn c.args.stage (First 0) c.first_due.result
    (ap (owed_of es c.args.turn) c.in-Alone.is ∙ pass_alone es c.args.turn c.requires.turn strange)
    c.first_due.ensures.next

pub returns-in-Second-clause-next : goal.returns-in-Second-clause-next
returns-in-Second-clause-next c =
    let es = c.args.arrivals.now in
    let next = c.next_due-place.ensures in
    ap (owed_of es c.args.turn) c.in-Second.is
    ∙ pass_seconds es c.args.turn c.in-Second.from c.next_due-place.result c.requires.turn next.above next.within next.passed

up_to : (es : List Arrival) (k turn : ℕ) → (k ≡ turn) ⊎ ((k < turn) ⊎ (turn < k)) → passes_at is_live es turn ≡ true → (k < turn → passes_at is_live es k ≡ true) → k ≤ turn
    → passes_at is_live es k ≡ true
up_to es k turn (inl e) here found within = ap (passes_at is_live es) e ∙ here
up_to es k turn (inr (inl lt)) here found within = found lt
up_to es k turn (inr (inr gt)) here found within = absurd (omega (arith, gt, within))

pub returns-in-Second-clause-due : goal.returns-in-Second-clause-due
returns-in-Second-clause-due c =
    let es = c.args.arrivals.now in
    let next = c.next_due-place.ensures in
    let here = live es c.args.turn _ c.requires.turn c.if-arrival.false in
    (next.within, up_to es c.next_due-place.result c.args.turn (cases_order c.next_due-place.result c.args.turn) here next.found next.within, here)
