-- What a call that makes an act says of it.
-- Beyond the headline: no clause of `prove` reaches this file.
use Rattle.std.specs.Prelude.{◌≡◌, ℕ, ◌+◌, ◌<◌, ◌≤◌, ◌++◌, ◌∷◌, [], List, Option, Some, None, true, false, slice_get}
use Rattle.std.specs.List.{AllByRecursion as Each}
use Rattle.cd_clause.specs.declared.Clause.{Clause}
use Rattle.cd_contract.specs.declared.held.Hit.{Hit}
use Rattle.cd_infer.specs.declared.Conclusion.{Conclusion}
use Rattle.cd_kbo.specs.declared.order.Order.{Order}
use Rattle.cd_ledger.specs.declared.events.Act.{Act}
use Rattle.cd_ledger.specs.declared.items.Item.{Item}
use Rattle.cd_ledger.specs.declared.items.Origin.{Origin}
use Rattle.cd_ledger.specs.declared.items.Outcome.{Outcome}
use Rattle.cd_ledger.specs.declared.letters.Body.{Body}
use Rattle.cd_ledger.specs.declared.letters.Letter.{Letter}
use Rattle.cd_ledger.specs.declared.local.Local.{Local}
use Rattle.cd_ledger.specs.declared.records.Known.{Known}
use Rattle.cd_ledger.specs.declared.records.Record.{Record}
use Rattle.cd_ledger.specs.Records.{cites_of, equations_of, look, owner_by, recorded}
use Rattle.cd_machine.specs.Acts.{AreTaskItems, Concludes, admitted_body, body_letters, resolution, resolved}
use Rattle.cd_machine.specs.Arrivals.{next_name}
use Rattle.cd_machine.specs.Events.{Found, acted, sent_by}
use Rattle.cd_machine.specs.Fits.{BodyHits, Fits, IsAcceptable, IsQuiet, MayDeclare, OutcomeFits, is_ready}
use Rattle.cd_machine.specs.Hits.{IsReducer, IsRewriter, IsSubsumer}
use Rattle.cd_machine.specs.Right.{IsTidyStep, registry_of}
use Rattle.cd_machine.specs.Rules.{IsConclusionWithin, IsTautology, IsWithin, Reduces, is_empty}
use Rattle.cd_names.specs.declared.How.{How}
use Rattle.cd_names.specs.declared.names.Name.{Name}
use Rattle.cd_names.specs.declared.waves.Token.{Token}
use Rattle.cd_read.specs.declared.problem.Problem.{Problem}
use Rattle.cd_rewrite.specs.declared.reducing.ReductAt.{ReductAt as Reduct}
use Rattle.cd_steps.specs.declared.Step.{Step}
use Rattle.cd_steps.specs.declared.Step.TheVariants as step
use Rattle.cd_tasks.specs.declared.Task.{Task}
use Rattle.cd_tasks.specs.declared.Task.TheVariants.{Pair, Solo}
use Rattle.cd_acts.specs.Answers.{IsReduct}

-- what the act finds fits, and its effect and its letters are those of the act
pub record Does (order : Order) (p : Problem) (s : Local) (time : ℕ) (act : Act) (next : Local) (letters : List Letter) : Type 0 where
  pub found : Found act
  pub fits : Fits order p s act found
  pub effect : next ≡ acted s act found
  pub sends : letters ≡ sent_by s time act found

-- the record of a clause under the next name
abbrev pub named_record : Local → List Step → Clause → Record
named_record s steps c = record { name = next_name s; owner = owner_by s.policy s.peers (next_name s) c; clause = c; steps = steps; cites = cites_of steps }

-- an item that was taken out is settled
abbrev pub settled_by : Local → Origin → List Step → Outcome → Local
settled_by s origin steps outcome = record s {
  settled = s.settled ++ record { origin = origin; steps = steps; outcome = outcome } ∷ [];
  known = resolved origin (resolution outcome (equations_of steps)) s.known;
}

-- how an item ends that isn't rewritten; None where it would be named, and no name is left
abbrev pub IsOutcome : Local → Item → Option Outcome → Type 0
IsOutcome s i (Some o) = OutcomeFits s i o
IsOutcome s i None = (65536 ≤ s.next_seq) × (¬ IsTautology i.clause) × Each (λ e. ¬ IsSubsumer i.clause e) s.known × (is_empty i.clause ≡ false)

-- the first item is kept, with this outcome
pub record MayKeep (order : Order) (s : Local) (outcome : Outcome) : Type 0 where
  pub item : Item
  pub others : List Item
  pub pending : s.pending ≡ item ∷ others
  pub free : item.forced ≡ None
  pub irreducible : Each (λ e. ¬ IsReducer order item.clause e) s.known
  pub fits : OutcomeFits s item outcome

-- the step, and Tidy where it is needed, stand behind the others
pub record AddsStep (step : Step) (c : Clause) (before after : List Step) (d : Clause) : Type 0 where
  pub steps : List Step
  pub are : IsTidyStep step c steps d
  pub added : after ≡ before ++ steps

-- the items of these conclusions stand behind the others
pub record AddsItems (task : Task) (found : List Conclusion) (before after : List Item) : Type 0 where
  pub items : List Item
  pub are : AreTaskItems task 0 found items
  pub added : after ≡ before ++ items

abbrev pub IsRecorded : List Known → Name → Type 0
IsRecorded es n = (r : Record) × (recorded n es ≡ Some r)

abbrev pub IsTaskKnown : List Known → Task → Type 0
IsTaskKnown es (Solo a) = IsRecorded es a
IsTaskKnown es (Pair a b) = IsRecorded es a × IsRecorded es b

-- the first owed task is done, with these conclusions
pub record MayWork (order : Order) (s : Local) (task : Task) (found : List Conclusion) : Type 0 where
  pub others : List Task
  pub owed : s.owed ≡ task ∷ others
  pub concludes : Concludes order (registry_of s) task found
  pub within : Each IsConclusionWithin found
  pub left : s.units < s.limits.steps

-- a forced item is reduced by the equation that forces it
abbrev pub IsForcedRight : Order → List Known → Item → Type 0
IsForcedRight order es i = (d : Name) → i.forced ≡ Some d → (e : Known) × (look es d ≡ Some e) × Reduces order e.entry.clause i.clause

-- the first item is rewritten, by this equation, to this reduct
pub record MayRewrite (order : Order) (s : Local) (by : Name) (r : Reduct) : Type 0 where
  pub item : Item
  pub others : List Item
  pub pending : s.pending ≡ item ∷ others
  pub equation : Known
  pub rewriter : IsRewriter order s.known item.forced item.clause equation
  pub name : by ≡ equation.entry.name
  pub reduces : IsReduct order equation.entry.clause item.clause r
  pub within : IsWithin r.clause
  pub left : s.units < s.limits.steps

abbrev pub rewrite_step : Name → Reduct → Step
rewrite_step by r = step.Rewrite by r.s r.j r.at r.subst

-- the item with the step behind its own, and its reduct tidied
pub record Reworks (i : Item) (by : Name) (r : Reduct) (j : Item) : Type 0 where
  pub steps : List Step
  pub clause : Clause
  pub tidy : IsTidyStep (rewrite_step by r) r.clause steps clause
  pub is : j ≡ record { origin = i.origin; forced = None; steps = i.steps ++ steps; clause = clause }

-- a body that was taken out of the waiting letters has its effect, and its letters
pub record AdmitsBody (order : Order) (s : Local) (time : ℕ) (b : Body) (next : Local) (letters : List Letter) : Type 0 where
  pub forward : Option Hit
  pub hit : Known → Option How
  pub hits : BodyHits order s b forward hit
  pub effect : next ≡ admitted_body s b forward hit
  pub sends : letters ≡ body_letters s time b forward hit

-- a letter that is ready may be admitted
pub record MayAdmit (order : Order) (p : Problem) (s : Local) (place : ℕ) : Type 0 where
  pub letter : Letter
  pub there : slice_get s.waiting place ≡ Some letter
  pub ready : is_ready s.known letter ≡ true
  pub fine : IsAcceptable order p s letter

pub record MayReject (order : Order) (p : Problem) (s : Local) (place : ℕ) : Type 0 where
  pub letter : Letter
  pub there : slice_get s.waiting place ≡ Some letter
  pub ready : is_ready s.known letter ≡ true
  pub bad : ¬ IsAcceptable order p s letter

-- the token that is held is passed on
pub record MayPass (s : Local) : Type 0 where
  pub token : Token
  pub held : s.token ≡ Some token
  pub quiet : IsQuiet s
  pub stays : ¬ MayDeclare s token
