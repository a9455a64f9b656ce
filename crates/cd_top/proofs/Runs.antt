-- The run that is left of peers, and its states.
use Rattle.std.proofs.Common.{◌≡◌, true, ℕ, zero, suc, ◌<◌, ◌^◌, List, [], ◌∷◌, ◌++◌, length, map, replicate, Option, Some, None, IsSome, refl, sym, ap, ◌∙◌, subst, arith}
use Rattle.std.proofs.lemmas.List.{length-map}
use Rattle.std.specs.Prelude.{slice_index_or}
use Rattle.std.specs.List.{AllByRecursion as Each}
use Rattle.cd_acts.specs.View.{local_of}
use Rattle.cd_acts.specs.declared.state.State.{State}
use Rattle.cd_kbo.specs.declared.order.Order.{Order}
use Rattle.cd_laws.proofs.Steps.{step_length}
use Rattle.cd_ledger.specs.declared.events.Event.{Event}
use Rattle.cd_ledger.specs.declared.local.Limits.{Limits}
use Rattle.cd_ledger.specs.declared.local.Local.{Local}
use Rattle.cd_ledger.specs.declared.events.Verdict.{Verdict}
use Rattle.cd_ledger.specs.declared.events.Verdict.TheVariants as verdict
use Rattle.cd_machine.specs.World.{IsStart, World, at, nobody}
use Rattle.cd_names.specs.declared.ownership.Policy.{Policy}
use Rattle.cd_options.specs.declared.options.Options.{Options}
use Rattle.cd_peer.specs.Plain.{plain}
use Rattle.cd_peer.specs.Whole.{IsWhole}
use Rattle.cd_read.specs.declared.problem.Problem.{Problem}
use Rattle.cd_recorded.specs.Recorded.{AreStarting, ChosenRun, peer_of}
use Rattle.cd_recorded.proofs.Runs.{run_length, run_of}
use Rattle.cd_top.specs.declared.finding.Ending.TheVariants as ending
use Rattle.cd_top.specs.Finding.{ended_as}
use Rattle.cd_top.specs.Headline.{FollowsSeed, least}
use Rattle.cd_top.specs.Running.{AreStatesOf, HasRun}
use Rattle.cd_world.specs.Draws.{SchedulesAreChosen}
use Rattle.cd_world.specs.Schedule.{RunsScheduled, Scheduled}
use Rattle.cd_world.specs.Worlds.{StartsWorld, WorldView, world_of}
use Rattle.cd_top.proofs.Least.{at_first, least_passes, refuted_is}

-- at the start no peer has a verdict
pub starts_running : (p : Problem) (policy : Policy) (limits : Limits) (w : World) → IsStart p policy limits w → (q : ℕ) → q < length w.locals → (at w q).verdict ≡ None
starts_running p policy limits w h q l = ap (λ (s : Local). s.verdict) (h.fresh q l).2

-- the states of a finished run are so few
pub few_states : (o : Options) (p : Problem) (states : List State) (order : List ℕ) → o.peers < 2 ^ 16 → HasRun o p states order → length states < 2 ^ 16
few_states o p states order few h =
    let count : length (map local_of states) ≡ length h.last.locals = ap (λ (ss : List Local). length ss) (sym h.locals) in
    let same : length h.last.locals ≡ length h.first.locals = run_length plain p h.events h.first h.last (run_of plain p h.events h.first h.last h.run) in
    let begun : length h.first.locals ≡ o.peers = h.starts.count in
    omega (arith, few, count, same, begun, length-map states local_of)

-- what a scheduled world leaves
pub scheduled_run : (o : Options) (p : Problem) (seed : ℕ) (v w : WorldView) (states : List State) → SchedulesAreChosen → o.schedule ≡ Some seed
    → StartsWorld p o.peers o.policy (record { steps = o.steps }) v → RunsScheduled v w seed → AreStatesOf p w.parts.peers states → HasRun o p states w.parts.order
scheduled_run o p seed v w states chosen stated starts runs left =
    let scheduled : Scheduled plain p seed (world_of v.parts) runs.events (world_of w.parts) =
    subst (λ (q : Problem). Scheduled plain q seed (world_of v.parts) runs.events (world_of w.parts)) starts.problem runs.scheduled in
    record {
      first = world_of v.parts;
      last = world_of w.parts;
      events = runs.events;
      starts = record { count = length-map v.parts.peers (λ x. x.local) ∙ starts.many; starts = starts.starts };
      run = chosen plain p seed (world_of v.parts) runs.events (world_of w.parts) scheduled;
      schedule = subst (λ (x : Option ℕ). FollowsSeed x p (world_of v.parts) runs.events (world_of w.parts)) (sym stated) scheduled;
      locals = sym left.locals;
      order_is = runs.order ∙ ap (λ (os : List ℕ). os ++ map peer_of runs.events) starts.order;
      ended = scheduled.verdict;
      whole = left.whole;
    }

-- ---- one of the states

pub each_at : {A : Type 0} (P : A → Type 0) (xs : List A) (q : ℕ) (d : A) → Each P xs → q < length xs → P (slice_index_or xs q d)
each_at P [] q d h l = absurd (omega (arith, l))
each_at P (x ∷ xs) zero d h l = h.0
each_at P (x ∷ xs) (suc q) d h l = each_at P xs q d h.1 (omega (arith, l))

pub local_at : (states : List State) (q : ℕ) (d : State) → q < length states → slice_index_or (map local_of states) q nobody ≡ local_of (slice_index_or states q d)
local_at [] q d l = absurd (omega (arith, l))
local_at (s ∷ ss) zero d l = refl
local_at (s ∷ ss) (suc q) d l = local_at ss q d (omega (arith, l))

-- the peer that is found to be refuted is one of these, and its verdict says so
pub refuted_peer : (states : List State) (peer place : ℕ) → least (ended_as ending.Refuted) 0 (map local_of states) ≡ Some peer → place ≡ peer
    → (place < length states) × ((slice_index_or (map local_of states) place nobody).verdict ≡ Some verdict.Refuted)
refuted_peer states peer place h is =
    let found = at_first peer (map local_of states) (λ s. ended_as ending.Refuted s ≡ true) (least_passes (ended_as ending.Refuted) 0 (map local_of states) peer h) in
    subst (λ (q : ℕ). (q < length states) × ((slice_index_or (map local_of states) q nobody).verdict ≡ Some verdict.Refuted)) (sym is)
    (omega (arith, found.0, length-map states local_of), refuted_is (slice_index_or (map local_of states) peer nobody).verdict found.1)

-- the state at a place, as the machine sees it
pub state_is : (states : List State) (peer place : ℕ) (d : State) → place ≡ peer → place < length states → d ≡ slice_index_or states place d → local_of d ≡ slice_index_or (map local_of states) peer nobody
state_is states peer place d same inside is =
    ap (λ (s : State). local_of s) is ∙ sym (local_at states place d inside) ∙ ap (λ (q : ℕ). slice_index_or (map local_of states) q nobody) same

-- ---- one peer alone

-- of one peer each event is its own
alone_order : (order : Order) (p : Problem) (es : List Event) (w v : World) → ChosenRun order p w es v → length w.locals ≡ 1 → replicate (length es) 0 ≡ map peer_of es
alone_order order p [] w v r one = refl
alone_order order p (e ∷ es) w v r one =
    let own : 0 ≡ e.peer = omega (arith, r.1.in_range, one) in
    ap (λ (q : ℕ). q ∷ replicate (length es) 0) own ∙ ap (λ (qs : List ℕ). e.peer ∷ qs) (alone_order order p es r.0 v r.3 (step_length order p w e r.0 r.1 ∙ one))

abbrev world_alone : Local → World
world_alone s = record { locals = s ∷ []; travelling = [] }

-- what one peer alone leaves
pub alone_run : (o : Options) (p : Problem) (start s : Local) (state : State) → o.schedule ≡ None → o.peers ≡ 1 → AreStarting p 1 o.policy (record { steps = o.steps }) (record { locals = start ∷ []; travelling = [] })
    → ChosenRun plain p (record { locals = start ∷ []; travelling = [] }) s.journal (record { locals = s ∷ []; travelling = [] }) → IsSome s.verdict → local_of state ≡ s → IsWhole plain p state
    → (order : List ℕ) → order ≡ replicate (length s.journal) 0 → HasRun o p (state ∷ []) order
alone_run o p start s state free one starting run ended is whole order are = record {
  first = world_alone start;
  last = world_alone s;
  events = s.journal;
  starts = subst (λ (n : ℕ). AreStarting p n o.policy (record { steps = o.steps }) (world_alone start)) (sym one) starting;
  run = run;
  schedule = subst (λ (x : Option ℕ). FollowsSeed x p (world_alone start) s.journal (world_alone s)) (sym free) tt;
  locals = ap (λ (x : Local). x ∷ []) (sym is);
  order_is = are ∙ alone_order plain p s.journal (world_alone start) (world_alone s) run refl;
  ended = (0, omega arith, λ none. not_ended s.verdict ended none);
  whole = (whole, tt);
}
  where
    not_ended : (v : Option Verdict) → IsSome v → v ≡ None → ⊥
    not_ended None some none = absurd (cc some)
    not_ended (Some w) some none = absurd (cc none)
