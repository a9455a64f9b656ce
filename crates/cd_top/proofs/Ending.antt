-- What the account of a finished run says of its answer.
use Rattle.std.proofs.Common.{◌≡◌, ◌≢◌, ℕ, zero, suc, ◌<◌, true, false, List, [], ◌∷◌, length, map, Option, Some, None, refl, sym, ap, ◌∙◌, subst, arith}
use Rattle.std.specs.Prelude.{option_map, slice_index_or}
use Rattle.std.specs.List.{AllByRecursion as Each}
use Rattle.cd_acts.specs.View.{local_of}
use Rattle.cd_acts.specs.declared.state.State.{State}
use Rattle.cd_alone.specs.Going.{Going}
use Rattle.cd_build.specs.Derivation.{IsDerivation}
use Rattle.cd_check.specs.Accepted.{AcceptedText}
use Rattle.cd_check.proofs.Refuting.{accepted_texts_refute}
use Rattle.cd_ledger.specs.declared.events.Bound.{Bound}
use Rattle.cd_ledger.specs.declared.events.Event.{Event}
use Rattle.cd_ledger.specs.declared.events.Verdict.{Verdict}
use Rattle.cd_ledger.specs.declared.events.Verdict.TheVariants as verdict
use Rattle.cd_ledger.specs.declared.local.Limits.{Limits}
use Rattle.cd_ledger.specs.declared.local.Local.{Local}
use Rattle.cd_laws.specs.Statements.{Laws}
use Rattle.cd_machine.specs.Carried.{IsClosed}
use Rattle.cd_machine.specs.World.{Run, World, at, nobody}
use Rattle.cd_options.specs.declared.options.Options.{Options}
use Rattle.cd_peer.specs.Plain.{plain}
use Rattle.cd_peer.specs.Whole.{IsWhole}
use Rattle.cd_premises.proofs.Runs.{runs_are_right}
use Rattle.cd_read.specs.declared.problem.Problem.{Problem}
use Rattle.cd_recorded.specs.Laws.{ChosenAreRuns, LiveNamesAreOne, RunsAreJournalled, RunsSay, Says, VerdictSays}
use Rattle.cd_recorded.specs.Recorded.{ChosenRun, EndsWith, MeetsBound, has_empty, journal_of, recorded}
use Rattle.cd_ledger.specs.declared.events.Act.TheVariants.{End}
use Rattle.cd_text.specs.declared.line.Line.{Line}
use Rattle.cd_top.specs.declared.answer.Account.{Account}
use Rattle.cd_top.specs.declared.answer.Answer.{Answer}
use Rattle.cd_top.specs.declared.answer.Answer.TheVariants.{Refuted, Saturated, Spent, Limit, Usage, Refused, LibraryFault, SinkFault, Memory}
use Rattle.cd_top.specs.declared.finding.Ending.TheVariants as ending
use Rattle.cd_top.specs.Ends.{IsRunAnswer, IsSolved, IsTold}
use Rattle.cd_top.specs.Finding.{ended_as, is_refuted, least_bound}
use Rattle.cd_top.specs.Headline.{AccountsForAll, AtEachMoment, EndsIn, FollowsSeed, HasModelsOf, IsContracted, IsRecorded, Refutes, RunEnds, is_limit, is_spent, knows_empty, least, met_bound}
use Rattle.cd_top.specs.Running.{HasRun}
use Rattle.cd_top.specs.Texts.{refuted_text}
use Rattle.cd_top.proofs.Least.{at_first, bound_least, bound_passes, least_passes, least_same, none_passes, refuted_is}

-- what is known of runs
pub record RunLaws : Type 0 where
  pub chosen : ChosenAreRuns
  pub say : RunsSay
  pub journalled : RunsAreJournalled
  pub live : LiveNamesAreOne

-- the text of a refuted peer's derivation is accepted
abbrev pub DerivationsAreAccepted : Problem → Type 0
DerivationsAreAccepted p = (s : Local) (lines : List Line) → Going plain p s → s.verdict ≡ Some verdict.Refuted → IsDerivation p s lines → AcceptedText p (refuted_text p lines)

-- the account of a run of peers as these options ask
abbrev pub account_of : Options → Problem → List (List Event) → List ℕ → List ℕ → Account
account_of o p journals order text = record {
  asked = Some o;
  problem = Some p;
  peers = o.peers;
  policy = o.policy;
  limits = record { steps = o.steps };
  journals = journals;
  order = order;
  text = text;
}

-- ---- what a verdict says

module _ (p : Problem) (first : World) (events : List Event) (w : World) (q : ℕ) where
  -- the empty clause is known exactly where the verdict is Refuted
  empty_by : (v : Option Verdict) → VerdictSays plain p first events w q v → has_empty (at w q).known ≡ is_refuted v
  empty_by None says = says
  empty_by (Some verdict.Refuted) says = says
  empty_by (Some verdict.Saturated) says = says.0
  empty_by (Some verdict.Spent) says = says.0
  empty_by (Some (verdict.Limit b)) says = says.0

  spent_by : (v : Option Verdict) → is_spent v ≡ true → VerdictSays plain p first events w q v → ((at w q).units ≡ (at w q).limits.steps) × EndsWith (at w q).journal (End verdict.Spent)
  spent_by None is says = absurd (cc is)
  spent_by (Some verdict.Refuted) is says = absurd (cc is)
  spent_by (Some verdict.Saturated) is says = absurd (cc is)
  spent_by (Some verdict.Spent) is says = (says.1, says.2)
  spent_by (Some (verdict.Limit b)) is says = absurd (cc is)

  -- a verdict that is none of the others is that of a closed world
  closed_by : (v : Option Verdict) → v ≢ None → is_refuted v ≡ false → is_limit v ≡ false → is_spent v ≡ false → VerdictSays plain p first events w q v → IsClosed w
  closed_by None ended refuted limit spent says = absurd (ended refl)
  closed_by (Some verdict.Refuted) ended refuted limit spent says = absurd (cc refuted)
  closed_by (Some verdict.Saturated) ended refuted limit spent says = says.1
  closed_by (Some verdict.Spent) ended refuted limit spent says = absurd (cc spent)
  closed_by (Some (verdict.Limit b)) ended refuted limit spent says = absurd (cc limit)

-- ---- states that are whole

going_at : (p : Problem) (states : List State) (q : ℕ) → Each (IsWhole plain p) states → q < length (map local_of states) → Going plain p (slice_index_or (map local_of states) q nobody)
going_at p [] q h l = absurd (omega (arith, l))
going_at p (s ∷ ss) zero h l = h.0.going
going_at p (s ∷ ss) (suc q) h l = going_at p ss q h.1 (omega (arith, l))

-- ---- the end of a run

module _ (laws : RunLaws) (o : Options) (p : Problem) (accepts : DerivationsAreAccepted p) (states : List State) (order : List ℕ) (h : HasRun o p states order) where
  run : Run plain p h.first h.events h.last
  run = laws.chosen plain p h.first h.events h.last h.run

  says : (q : ℕ) → q < length h.last.locals → Says plain p (record { steps = o.steps }) h.first h.events h.last q
  says = laws.say plain p o.policy (record { steps = o.steps }) h.first h.events h.last h.starts.starts h.run

  laws_hold : Laws plain p h.last
  laws_hold = (runs_are_right plain p o.policy (record { steps = o.steps }) h.first h.last h.events h.starts.starts run).laws

  going : (q : ℕ) → q < length h.last.locals → Going plain p (at h.last q)
  going q l =
      subst (λ (ss : List Local). q < length ss → Going plain p (slice_index_or ss q nobody)) (sym h.locals) (going_at p states q h.whole) l

  -- who knows the empty clause is who ended with it
  same : least knows_empty 0 h.last.locals ≡ least (ended_as ending.Refuted) 0 h.last.locals
  same = least_same knows_empty (ended_as ending.Refuted) 0 h.last.locals (λ q l. empty_by p h.first h.events h.last q (at h.last q).verdict (says q l).verdict)

  no_bound : least_bound 0 h.last.locals ≡ None → least met_bound 0 h.last.locals ≡ None
  no_bound none = bound_least 0 h.last.locals ∙ ap (λ (x : Option (ℕ × Bound)). option_map (λ y. y.0) x) none

  -- the run ends closed, where no verdict is another
  closed : least (ended_as ending.Refuted) 0 h.last.locals ≡ None → least_bound 0 h.last.locals ≡ None → least (ended_as ending.Spent) 0 h.last.locals ≡ None → IsClosed h.last
  closed refuted bound spent =
      let q = h.ended.0 in
      closed_by p h.first h.events h.last q (at h.last q).verdict h.ended.2 (none_passes (ended_as ending.Refuted) 0 h.last.locals refuted q h.ended.1)
      (none_passes met_bound 0 h.last.locals (no_bound bound) q h.ended.1) (none_passes (ended_as ending.Spent) 0 h.last.locals spent q h.ended.1) (says q h.ended.1).verdict

  module _ (text : List ℕ) where
    events_are : recorded (map journal_of h.last.locals) order ≡ h.events
    events_are = ap (λ (os : List ℕ). recorded (map journal_of h.last.locals) os) h.order_is ∙ (laws.journalled plain p o.policy (record { steps = o.steps }) h.first h.events h.last h.starts.starts run).events_are

    is_recorded : IsRecorded (account_of o p (map journal_of h.last.locals) order text) p h.first h.last
    is_recorded = record {
      starts = h.starts;
      run = subst (λ (es : List Event). ChosenRun plain p h.first es h.last) (sym events_are) h.run;
      schedule = subst (λ (es : List Event). FollowsSeed o.schedule p h.first es h.last) (sym events_are) h.schedule;
      journals = refl;
      order = ap (λ (os : List ℕ). length os) h.order_is ∙ (laws.journalled plain p o.policy (record { steps = o.steps }) h.first h.events h.last h.starts.starts run).count;
    }

    ends_in : (made : Answer) → IsTold o p h.last.locals made text → EndsIn (account_of o p (map journal_of h.last.locals) order text) p h.first h.last made
    ends_in (Refuted peer) told =
        let found = at_first peer h.last.locals (λ s. ended_as ending.Refuted s ≡ true) (least_passes (ended_as ending.Refuted) 0 h.last.locals peer told.0) in
        record {
          is_least = same ∙ told.0;
          lines = told.1.0;
          derivation = told.1.1;
          accepted = accepts (at h.last peer) told.1.0 (going peer found.0) (refuted_is (at h.last peer).verdict found.1) told.1.1;
          text = told.1.2;
        }
    ends_in Saturated told =
        let all_closed = closed told.0 told.1 told.2 in
        record {
          none = same ∙ told.0;
          no_bound = no_bound told.1;
          unspent = told.2;
          closed = all_closed;
          records = told.3.records;
          live = laws.live plain p o.policy (record { steps = o.steps }) h.first h.events h.last told.3.records h.starts.starts run told.3.live told.3.sorted;
          text = told.3.text_is;
          models = laws_hold.carries.closed all_closed;
        }
    ends_in (Spent peer) told =
        let found = at_first peer h.last.locals (λ s. ended_as ending.Spent s ≡ true) (least_passes (ended_as ending.Spent) 0 h.last.locals peer told.2) in
        let said = says peer found.0 in
        let spent = spent_by p h.first h.events h.last peer (at h.last peer).verdict found.1 said.verdict in
        record {
          none = same ∙ told.0;
          no_bound = no_bound told.1;
          is_least = told.2;
          units = said.units ∙ spent.0 ∙ ap (λ (l : Limits). l.steps) said.limits_are;
          ends = spent.1;
          text = told.3;
        }
    ends_in (Limit peer b) told =
        let found = at_first peer h.last.locals (λ s. s.verdict ≡ Some (verdict.Limit b)) (bound_passes 0 h.last.locals peer b told.1) in
        let said = subst (VerdictSays plain p h.first h.events h.last peer) found.1 (says peer found.0).verdict in
        record {
          none = same ∙ told.0;
          is_least = bound_least 0 h.last.locals ∙ ap (λ (x : Option (ℕ × Bound)). option_map (λ y. y.0) x) told.1;
          meets = subst (λ (es : List Event). MeetsBound plain p h.first es peer b) (sym events_are) said.1;
          text = told.2;
        }
    ends_in Usage told = absurd told
    ends_in (Refused wrong) told = absurd told
    ends_in (LibraryFault path) told = absurd told
    ends_in SinkFault told = absurd told
    ends_in Memory told = absurd told

    of_world : (made : Answer) → IsTold o p h.last.locals made text → RunEnds (account_of o p (map journal_of h.last.locals) order text) made (Some p)
    of_world made told = (h.first, h.last, is_recorded, ends_in made told)

    -- the account of a finished run has its cause
    pub run_ends : (journals : List (List Event)) → journals ≡ map journal_of (map local_of states) → (made : Answer) → IsTold o p (map local_of states) made text
        → RunEnds (account_of o p journals order text) made (Some p)
    run_ends journals are made told =
        subst (λ (js : List (List Event)). RunEnds (account_of o p js order text) made (Some p)) (ap (λ (ss : List Local). map journal_of ss) h.locals ∙ sym are)
        (of_world made (subst (λ (ss : List Local). IsTold o p ss made text) (sym h.locals) told))

told_answer : (o : Options) (p : Problem) (ss : List Local) (made : Answer) (text : List ℕ) → IsTold o p ss made text → IsRunAnswer made
told_answer o p ss (Refuted peer) text told = tt
told_answer o p ss Saturated text told = tt
told_answer o p ss (Spent peer) text told = tt
told_answer o p ss (Limit peer b) text told = tt
told_answer o p ss Usage text told = told
told_answer o p ss (Refused w) text told = told
told_answer o p ss (LibraryFault path) text told = told
told_answer o p ss SinkFault text told = told
told_answer o p ss Memory text told = told

-- the answer and the account of a finished run
pub solved_is : RunLaws → (o asked : Options) (p : Problem) → DerivationsAreAccepted p → (states : List State) (order : List ℕ) → HasRun o p states order → asked ≡ o
    → (journals : List (List Event)) → journals ≡ map journal_of (map local_of states) → (made : Answer) (text : List ℕ) → IsTold o p (map local_of states) made text
    → IsSolved o p made (record (account_of o p journals order text) { asked = Some asked })
solved_is laws o asked p accepts states order h same journals are made text told =
    subst (λ (x : Options). IsSolved o p made (record (account_of o p journals order text) { asked = Some x })) (sym same) (record {
      answer = told_answer o p (map local_of states) made text told;
      asked = refl;
      problem = refl;
      values = record { peers = refl; policy = refl; limits = refl };
      run = run_ends laws o p accepts states order h text journals are made told;
    })

-- ---- what holds at each moment

-- what holds in every run from the problem holds at each moment of the recorded one
at_each_moment : (Says : Problem → World → Type 0) → ((p : Problem) (w : World) → Laws plain p w → Says p w) → (a : Account) (o : Option Problem) → AtEachMoment Says a o
at_each_moment Says law a None = tt
at_each_moment Says law a (Some p) = λ front rest first w events starts run. law p w (runs_are_right plain p a.policy a.limits first w front starts.starts run).laws

pub keeps_models : (a : Account) (o : Option Problem) → AtEachMoment HasModelsOf a o
keeps_models = at_each_moment HasModelsOf (λ p w laws. laws.carries)

pub accounts_for_all : (a : Account) (o : Option Problem) → AtEachMoment AccountsForAll a o
accounts_for_all = at_each_moment AccountsForAll (λ p w laws. laws.tasks)

pub is_contracted : (a : Account) (o : Option Problem) → AtEachMoment IsContracted a o
is_contracted = at_each_moment IsContracted (λ p w laws. laws.contracted)

-- an accepted text shows that there is no model
pub run_refutes : (a : Account) (made : Answer) (p : Problem) → RunEnds a made (Some p) → Refutes made (Some p)
run_refutes a (Refuted peer) p ran = accepted_texts_refute p (refuted_text p ran.3.lines) ran.3.accepted
run_refutes a Saturated p ran = tt
run_refutes a (Spent peer) p ran = tt
run_refutes a (Limit peer b) p ran = tt
run_refutes a Usage p ran = absurd ran.3
run_refutes a (Refused w) p ran = absurd ran.3
run_refutes a (LibraryFault path) p ran = absurd ran.3
run_refutes a SinkFault p ran = absurd ran.3
run_refutes a Memory p ran = absurd ran.3
