-- An event leaves a peer ready.
use Rattle.std.proofs.Common.{◌≡◌, ℕ, ◌+◌, ◌<◌, ◌≤◌, Bool, true, false, cond, eqb, ◌&&◌, not, List, [], ◌∷◌, ◌++◌, map, refl, ap, sym, ◌∙◌, subst, arith}
use Rattle.std.specs.Prelude.{remove, Option, Some, None}
use Rattle.std.proofs.lemmas.Bool.{false≢true}
use Rattle.cd_names.specs.declared.How.TheVariants as how
use Rattle.cd_ledger.specs.declared.letters.Body.TheVariants as body
use Rattle.cd_names.specs.declared.names.Name.{Name}
use Rattle.cd_names.specs.declared.How.{How}
use Rattle.cd_contract.specs.declared.held.Hit.{Hit}
use Rattle.cd_ledger.specs.declared.records.Known.{Known}
use Rattle.cd_ledger.specs.declared.records.Record.{Record}
use Rattle.cd_ledger.specs.declared.items.Item.{Item}
use Rattle.cd_tasks.specs.declared.Task.{Task}
use Rattle.cd_tasks.specs.declared.Task.TheVariants.{Pair, Solo}
use Rattle.cd_ledger.specs.declared.records.Status.{Status}
use Rattle.cd_ledger.specs.declared.items.Origin.{Origin}
use Rattle.cd_ledger.specs.declared.items.Outcome.{Outcome}
use Rattle.cd_ledger.specs.declared.items.Outcome.TheVariants.{Named, Subsumed, Trivial}
use Rattle.cd_infer.specs.declared.Conclusion.{Conclusion}
use Rattle.cd_ledger.specs.declared.letters.Body.{Body}
use Rattle.cd_ledger.specs.declared.events.Act.{Act}
use Rattle.cd_ledger.specs.declared.events.Act.TheVariants.{Admit, Declare, End, Keep, Pass, Receive, Reject, Rewrite, Work}
use Rattle.cd_ledger.specs.declared.events.Event.{Event}
use Rattle.cd_ledger.specs.declared.local.Local.{Local}
use Rattle.cd_list.specs.Lists.{tally}
use Rattle.std.specs.List.{AllByRecursion as Each}
use Rattle.std.specs.List.{cons_option}
use Rattle.std.specs.Prelude.{filter_map}
use Rattle.cd_machine.specs.Lists.{IsFirst}
use Rattle.cd_read.specs.declared.problem.Problem.{Problem}
use Rattle.cd_machine.specs.Rules.{Reduces}
use Rattle.cd_ledger.specs.Records.{equations_of, is_of, look, recorded}
use Rattle.cd_ledger.specs.Statuses.{is_held}
use Rattle.cd_machine.specs.Arrivals.{arrived, held, new_record, next_name, shelved, tasks_of}
use Rattle.cd_machine.specs.Contraction.{hit_on, is_struck, loss, lost, named_hit, rework_item, rework_of, reworks, strike_one, struck, uncovered}
use Rattle.cd_tasks.specs.Owing.{touches}
use Rattle.cd_laws.proofs.Gathered.{first_of, gathered_tasks, own_tasks, same_tasks, second_of}
use Rattle.cd_machine.specs.Acts.{AreTaskItems, admitted_body, kept, resolution, resolved, reworked, taken, unshelved}
use Rattle.cd_machine.specs.Tokens.{passed}
use Rattle.cd_machine.specs.Events.{Found, acted, after}
use Rattle.cd_machine.specs.Hits.{AreHits, HowHolds, IsBackHit, IsBeater}
use Rattle.cd_machine.specs.Fits.{BodyFine, BodyHits, Fits, KeepHits}
use Rattle.cd_laws.proofs.Lists.{Each_append, Each_filter, Each_gather, Each_map, Each_push, Each_remove, Each_set, Each_weaker, none_of_tally, tally_push}
use Rattle.cd_laws.proofs.Steps.{name_eq_refl, name_eq_true}
use Rattle.cd_laws.proofs.Strikes.{resolve_entry, resolved_each, resolved_of, strike_entry, struck_tally}
use Rattle.cd_laws.proofs.Whole.{recorded_append, recorded_map, recorded_new, recorded_resolved}
use Rattle.cd_laws.specs.Turns.{IsForcedHere, IsNamed, IsTaskHere}
use Rattle.cd_alone.specs.Ready.{AreOnce, IsReady}
use Rattle.cd_kbo.specs.declared.order.Order.{Order}

abbrev pub Grows : List Known → List Known → Type 0
Grows es fs = (n : Name) (r : Record) → recorded n es ≡ Some r → recorded n fs ≡ Some r

pub grows_resolved : (o : Origin) (st : Status) (es : List Known) → Grows es (resolved o st es)
grows_resolved o st es n r h = recorded_resolved n o st es ∙ h

pub grows_struck : (me : ℕ) (hit : Known → Option How) (d : Name) (es : List Known) → Grows es (struck me hit d es)
grows_struck me hit d es n r h = recorded_map n (strike_one me hit d) (strike_entry me hit d) es ∙ h

pub grows_push : (es : List Known) (e : Known) → Grows es (es ++ e ∷ [])
grows_push es e n r h = recorded_append n es (e ∷ []) r h

-- the entry under a name, and the record under it
looked : (n : Name) (es : List Known) (r : Record) → recorded n es ≡ Some r → (e : Known) × (look es n ≡ Some e) × (e.entry ≡ r)
looked n [] r h = absurd cc
looked n (x ∷ es) r h =
    elim (is_of n x) as (λ b. cond b (Some x.entry) (recorded n es) ≡ Some r → (e : Known) × (cond b (Some x) (look es n) ≡ Some e) × (e.entry ≡ r))
    [ true ↦ λ g. (x, refl, (let y : Some x.entry ≡ Some r = g in cc)) | false ↦ λ g. looked n es r g ] h

entry_of : (n : Name) (es : List Known) (e : Known) → look es n ≡ Some e → recorded n es ≡ Some e.entry
entry_of n [] e h = absurd cc
entry_of n (x ∷ es) e h =
    elim (is_of n x) as (λ b. cond b (Some x) (look es n) ≡ Some e → cond b (Some x.entry) (recorded n es) ≡ Some e.entry)
    [ true ↦ λ g. (let y : Some x ≡ Some e = g in let z : x ≡ e = cc in ap (λ (k : Known). Some k.entry) z) | false ↦ λ g. entry_of n es e g ] h

module _ (order : Order) (es fs : List Known) (grows : Grows es fs) where
  recorded_grow : (n : Name) → IsNamed es n → IsNamed fs n
  recorded_grow n h = (h.0, grows n h.0 h.1)

  task_grow : (t : Task) → IsTaskHere es t → IsTaskHere fs t
  task_grow (Solo a) h = recorded_grow a h
  task_grow (Pair a b) h = (recorded_grow a h.0, recorded_grow b h.1)

  forced_grow : (i : Item) → IsForcedHere order es i → IsForcedHere order fs i
  forced_grow i h d is =
      let x = h d is in
      let y = looked d fs x.0.entry (grows d x.0.entry (entry_of d es x.0 x.1)) in
      (y.0, y.1, subst (λ (r : Record). (Reduces order) r.clause i.clause) (sym y.2) x.2)

-- where the record under the name is this one, and reduces the clause
forced_by : (order : Order) → (fs : List Known) (d : Name) (r : Record) (i : Item) → recorded d fs ≡ Some r → i.forced ≡ Some d → Reduces order r.clause i.clause → IsForcedHere order fs i
forced_by order fs d r i rec is red n other =
    let same : Some d ≡ Some n = sym is ∙ other in
    let m : d ≡ n = cc in
    let y = looked d fs r rec in
    (y.0, subst (λ (k : Name). look fs k ≡ Some y.0) m y.1, subst (λ (x : Record). (Reduces order) x.clause i.clause) (sym y.2) red)

pub free_forced : (order : Order) → (fs : List Known) (i : Item) → i.forced ≡ None → IsForcedHere order fs i
free_forced order fs i is d other = absurd (let e : None ≡ Some d = sym is ∙ other in cc)

one_of : (p : Known → Bool) (e : Known) (es : List Known) → p e ≡ true → 0 < tally p (e ∷ es)
one_of p e es h = rw h (omega arith)

none_each : (p : Known → Bool) (P : Known → Type 0) (es : List Known) → tally p es ≡ 0 → Each (λ e. p e ≡ true → P e) es
none_each p P [] h = tt
none_each p P (e ∷ es) h =
    elim (p e) as (λ b. cond b 1 0 + tally p es ≡ 0 → (b ≡ true → P e) × Each (λ x. p x ≡ true → P x) es)
    [ true ↦ λ g. absurd (omega (arith, g)) | false ↦ λ g. ((λ f. absurd (false≢true f)), none_each p P es (omega (arith, g))) ] h

all_recorded : (es : List Known) → Each (λ e. IsNamed es e.entry.name) es
all_recorded [] = tt
all_recorded (x ∷ es) =
    ((x.entry, rw (name_eq_refl x.entry.name) refl), Each_weaker (λ e. IsNamed es e.entry.name) (λ e. IsNamed (x ∷ es) e.entry.name) more es (all_recorded es))
  where
    more : (e : Known) → IsNamed es e.entry.name → IsNamed (x ∷ es) e.entry.name
    more e h = elim (is_of e.entry.name x) as (λ b. (r : Record) × (cond b (Some x.entry) (recorded e.entry.name es) ≡ Some r)) [ true ↦ (x.entry, refl) | false ↦ h ]

-- with each name once, an entry under the name is the one that is found
once_each : (n : Name) (es : List Known) (c : Known) → tally (is_of n) es ≤ 1 → look es n ≡ Some c → Each (λ e. is_of n e ≡ true → e ≡ c) es
once_each n [] c h l = tt
once_each n (x ∷ es) c h l =
    elim (is_of n x) as (λ b. cond b 1 0 + tally (is_of n) es ≤ 1 → cond b (Some x) (look es n) ≡ Some c → (b ≡ true → x ≡ c) × Each (λ e. is_of n e ≡ true → e ≡ c) es) [
      | true ↦ λ g k. ((λ f. (let y : Some x ≡ Some c = k in cc)), none_each (is_of n) (λ e. e ≡ c) es (omega (arith, g)))
      | false ↦ λ g k. ((λ f. absurd (false≢true f)), once_each n es c (omega (arith, g)) k)
    ] h l

last_recorded : (es : List Known) (e : Known) → IsNamed (es ++ e ∷ []) e.entry.name
last_recorded [] e = (e.entry, rw (name_eq_refl e.entry.name) refl)
last_recorded (x ∷ es) e = elim (is_of e.entry.name x) as (λ b. (r : Record) × (cond b (Some x.entry) (recorded e.entry.name (es ++ e ∷ [])) ≡ Some r)) [ true ↦ (x.entry, refl) | false ↦ last_recorded es e ]

-- a record whose name is new stands under it
pub new_recorded : (es : List Known) (e : Known) → tally (is_of e.entry.name) es ≡ 0 → recorded e.entry.name (es ++ e ∷ []) ≡ Some e.entry
new_recorded es e h = recorded_new e.entry.name es (e ∷ []) h ∙ rw (name_eq_refl e.entry.name) refl

once_push : (es : List Known) (e : Known) → tally (is_of e.entry.name) es ≡ 0 → AreOnce es → AreOnce (es ++ e ∷ [])
once_push es e fresh h n = go (is_of n e) refl
  where
    go : (b : Bool) → is_of n e ≡ b → tally (is_of n) (es ++ e ∷ []) ≤ 1
    go true f = let same : e.entry.name ≡ n = name_eq_true e.entry.name n f in
        rw (tally_push (is_of n) es e, f) (omega (arith, subst (λ (m : Name). tally (is_of m) es ≡ 0) same fresh))
    go false f = rw (tally_push (is_of n) es e, f) (omega (arith, h n))

abbrev Below : ℕ → ℕ → Known → Type 0
Below me k e = e.entry.name.peer ≡ me → e.entry.name.seq < k

below_map : (me k : ℕ) (f : Known → Known) → ((e : Known) → (f e).entry ≡ e.entry) → (es : List Known) → Each (Below me k) es → Each (Below me k) (map f es)
below_map me k f same es h = Each_map (Below me k) f es (Each_weaker (Below me k) (λ e. Below me k (f e)) (λ e g. subst (λ (r : Record). r.name.peer ≡ me → r.name.seq < k) (sym (same e)) g) es h)

below_more : (me k : ℕ) (es : List Known) → Each (Below me k) es → Each (Below me (k + 1)) es
below_more me k es h = Each_weaker (Below me k) (Below me (k + 1)) (λ e g f. (let x = g f in omega (arith, x))) es h

pub fresh_next : (me k : ℕ) (es : List Known) → Each (Below me k) es → tally (is_of (record { peer = me; seq = k })) es ≡ 0
fresh_next me k [] h = refl
fresh_next me k (e ∷ es) h = go (is_of (record { peer = me; seq = k }) e) refl (fresh_next me k es h.1)
  where
    go : (b : Bool) → is_of (record { peer = me; seq = k }) e ≡ b → tally (is_of (record { peer = me; seq = k })) es ≡ 0 → tally (is_of (record { peer = me; seq = k })) (e ∷ es) ≡ 0
    go true f rest =
        let same : e.entry.name ≡ record { peer = me; seq = k } = name_eq_true e.entry.name (record { peer = me; seq = k }) f in
        let less = h.0 (ap (λ (n : Name). n.peer) same) in
        let eq : e.entry.name.seq ≡ k = ap (λ (n : Name). n.seq) same in
        absurd (omega (arith, less, eq))
    go false f rest = rw f (omega (arith, rest))

-- what is asked of the lists
record Parts (order : Order) (me k : ℕ) (es : List Known) (ts : List Task) (is : List Item) : Type 0 where
  once : AreOnce es
  own : Each (Below me k) es
  tasks : Each (IsTaskHere es) ts
  forced : Each (IsForcedHere order es) is

-- an item of what is reduced
one_forced : (order : Order) → (me : ℕ) (fs : List Known) (n : Name) (d : Record) → recorded n fs ≡ Some d → (r : Record) (o : Option How) → (o ≡ Some how.Reduces → Reduces order d.clause r.clause) → Each (IsForcedHere order fs) (cons_option (rework_of me n r o) [])
one_forced order me fs n d rec r None g = tt
one_forced order me fs n d rec r (Some how.Subsumes) g = tt
one_forced order me fs n d rec r (Some how.Reduces) g =
    elim (eqb r.owner me) as (λ b. Each (IsForcedHere order fs) (cons_option (cond b (Some (rework_item n r)) None) [])) [ true ↦ (forced_by order fs n d (rework_item n r) rec refl (g refl), tt) | false ↦ tt ]

abbrev ReducesHit : Order → (Known → Option How) → Record → Known → Type 0
ReducesHit order hit d e = hit_on hit e ≡ Some how.Reduces → Reduces order d.clause e.entry.clause

reworks_forced : (order : Order) → (me : ℕ) (hit : Known → Option How) (fs : List Known) (n : Name) (d : Record) → recorded n fs ≡ Some d → (es : List Known) → Each (ReducesHit order hit d) es → Each (IsForcedHere order fs) (reworks me hit n es)
reworks_forced order me hit fs n d rec es h =
    Each_gather (IsForcedHere order fs) (λ e. rework_of me n e.entry (hit_on hit e)) es
    (Each_weaker (ReducesHit order hit d) (λ e. Each (IsForcedHere order fs) (cons_option (rework_of me n e.entry (hit_on hit e)) [])) (λ e g. one_forced order me fs n d rec e.entry (hit_on hit e) g) es h)

hits_reduce : (order : Order) → (r : Record) (es : List Known) (hit : Known → Option How) → AreHits order r es hit → Each (ReducesHit order hit r) es
hits_reduce order r es hit h = Each_weaker (λ e. IsBackHit order r e (hit_on hit e)) (ReducesHit order hit r) (λ e b is. (subst (λ (o : Option How). (IsBackHit order) r e o) is b).2) es h

new_known : (order : Order) → (me : ℕ) (r : Record) (es fs : List Known) → Grows es fs → IsNamed fs r.name → Each (IsTaskHere fs) (gathered_tasks me r es)
new_known order me r es fs grows new =
    Each_append (IsTaskHere fs) (cond (eqb r.owner me) (own_tasks r.name es) []) (filter_map (first_of me r.name) es)
    (elim (eqb r.owner me) as (λ b. Each (IsTaskHere fs) (cond b (own_tasks r.name es) [])) [
      | true ↦ (
        new,
        Each_append (IsTaskHere fs) (filter_map (second_of r.name) es) (Pair r.name r.name ∷ [])
            (Each_gather (IsTaskHere fs) (second_of r.name) es (Each_weaker (λ e. IsNamed es e.entry.name) (λ e. Each (IsTaskHere fs) (cons_option (second_of r.name e) [])) second es (all_recorded es))) ((new, new), tt),
      )
      | false ↦ tt
    ])
    (Each_gather (IsTaskHere fs) (first_of me r.name) es (Each_weaker (λ e. IsNamed es e.entry.name) (λ e. Each (IsTaskHere fs) (cons_option (first_of me r.name e) [])) first es (all_recorded es)))
  where
    second : (e : Known) → IsNamed es e.entry.name → Each (IsTaskHere fs) (cons_option (second_of r.name e) [])
    second e h = elim (is_held e) as (λ b. Each (IsTaskHere fs) (cons_option (cond b (Some (Pair e.entry.name r.name)) None) [])) [ true ↦ ((recorded_grow order es fs grows e.entry.name h, new), tt) | false ↦ tt ]

    first : (e : Known) → IsNamed es e.entry.name → Each (IsTaskHere fs) (cons_option (first_of me r.name e) [])
    first e h = elim (is_held e && eqb e.entry.owner me) as (λ b. Each (IsTaskHere fs) (cons_option (cond b (Some (Pair r.name e.entry.name)) None) [])) [ true ↦ ((new, recorded_grow order es fs grows e.entry.name h), tt) | false ↦ tt ]

parts_arrived : (order : Order) → (s : Local) (k : ℕ) (hit : Known → Option How) (r : Record) → tally (is_of r.name) s.known ≡ 0 → AreHits order r s.known hit → Below s.me k (held r)
    → Parts order s.me k s.known s.owed s.pending → Parts order s.me k (arrived s hit r).known (arrived s hit r).owed (arrived s hit r).pending
parts_arrived order s k hit r fresh hits below h =
    let ks : List Known = struck s.me hit r.name s.known in
    let fs : List Known = ks ++ held r ∷ [] in
    let new : tally (is_of r.name) ks ≡ 0 = struck_tally r.name s.me hit r.name s.known ∙ fresh in
    let grows : Grows s.known fs = λ n x g. grows_push ks (held r) n x (grows_struck s.me hit r.name s.known n x g) in
    record {
      once = once_push ks (held r) new (λ n. rw (struck_tally n s.me hit r.name s.known) (h.once n));
      own = Each_push (Below s.me k) ks (held r) (below_map s.me k (strike_one s.me hit r.name) (strike_entry s.me hit r.name) s.known h.own) below;
      tasks = Each_append (IsTaskHere fs) (uncovered hit s.known s.owed) (tasks_of s.me r ks)
          (Each_filter (IsTaskHere fs) (λ t. not (touches (is_struck hit s.known) t)) s.owed (Each_weaker (IsTaskHere s.known) (IsTaskHere fs) (task_grow order s.known fs grows) s.owed h.tasks))
          (subst (λ (ts : List Task). Each (IsTaskHere fs) ts) (sym (same_tasks s.me r ks)) (new_known order s.me r ks fs (grows_push ks (held r)) (last_recorded ks (held r))));
      forced = Each_append (IsForcedHere order fs) s.pending (reworks s.me hit r.name s.known)
          (Each_weaker (IsForcedHere order s.known) (IsForcedHere order fs) (forced_grow order s.known fs grows) s.pending h.forced)
          (reworks_forced order s.me hit fs r.name r (new_recorded ks (held r) new) s.known (hits_reduce order r s.known hit hits));
    }

parts_lost : (order : Order) → (s : Local) (k : ℕ) (hit : Known → Option How) (n : Name) (d : Record) → recorded n s.known ≡ Some d → Each (ReducesHit order hit d) s.known
    → Parts order s.me k s.known s.owed s.pending → Parts order s.me k (lost s hit n).known (lost s hit n).owed (lost s hit n).pending
parts_lost order s k hit n d rec red h =
    let fs : List Known = struck s.me hit n s.known in
    let grows : Grows s.known fs = grows_struck s.me hit n s.known in
    record {
      once = λ m. rw (struck_tally m s.me hit n s.known) (h.once m);
      own = below_map s.me k (strike_one s.me hit n) (strike_entry s.me hit n) s.known h.own;
      tasks = Each_filter (IsTaskHere fs) (λ t. not (touches (is_struck hit s.known) t)) s.owed (Each_weaker (IsTaskHere s.known) (IsTaskHere fs) (task_grow order s.known fs grows) s.owed h.tasks);
      forced = Each_append (IsForcedHere order fs) s.pending (reworks s.me hit n s.known)
          (Each_weaker (IsForcedHere order s.known) (IsForcedHere order fs) (forced_grow order s.known fs grows) s.pending h.forced)
          (reworks_forced order s.me hit fs n d (grows n d rec) s.known red);
    }

parts_shelved : (order : Order) → (s : Local) (k : ℕ) (r : Record) (n : Name) (w : How) (d : Record) → tally (is_of r.name) s.known ≡ 0 → recorded n s.known ≡ Some d → HowHolds order w d.clause r.clause → Below s.me k (held r)
    → Parts order s.me k s.known s.owed s.pending → Parts order s.me k (shelved s r n w).known (shelved s r n w).owed (shelved s r n w).pending
parts_shelved order s k r n w d fresh rec holds below h =
    let e : Known = record { entry = r; status = loss s.me n w r } in
    let fs : List Known = s.known ++ e ∷ [] in
    let grows : Grows s.known fs = grows_push s.known e in
    record {
      once = once_push s.known e fresh h.once;
      own = Each_push (Below s.me k) s.known e h.own below;
      tasks = Each_weaker (IsTaskHere s.known) (IsTaskHere fs) (task_grow order s.known fs grows) s.owed h.tasks;
      forced = Each_append (IsForcedHere order fs) s.pending (cons_option (rework_of s.me n r (Some w)) [])
          (Each_weaker (IsForcedHere order s.known) (IsForcedHere order fs) (forced_grow order s.known fs grows) s.pending h.forced)
          (one_forced order s.me fs n d (grows n d rec) r (Some w) (λ is. (let v : w ≡ how.Reduces = (let z : Some w ≡ Some how.Reduces = is in cc) in subst (λ (x : How). (HowHolds order) x d.clause r.clause) v holds)));
    }

parts_taken : (order : Order) → (s : Local) (k place : ℕ) (i : Item) (o : Outcome) → Parts order s.me k s.known s.owed s.pending → Parts order s.me k (taken s place i o).known (taken s place i o).owed (taken s place i o).pending
parts_taken order s k place i o h =
    let st : Status = resolution o (equations_of i.steps) in
    let fs : List Known = resolved i.origin st s.known in
    let grows : Grows s.known fs = grows_resolved i.origin st s.known in
    record {
      once = λ n. rw (resolved_of n i.origin st s.known) (h.once n);
      own = resolved_each (Below s.me k) i.origin st (λ n e g. subst (λ (r : Record). r.name.peer ≡ s.me → r.name.seq < k) (sym (resolve_entry n st e)) g) s.known h.own;
      tasks = Each_weaker (IsTaskHere s.known) (IsTaskHere fs) (task_grow order s.known fs grows) s.owed h.tasks;
      forced = Each_weaker (IsForcedHere order s.known) (IsForcedHere order fs) (forced_grow order s.known fs grows) (remove s.pending place) (Each_remove (IsForcedHere order s.known) s.pending place h.forced);
    }

-- the entry that is first is found under its name
pub first_recorded : (P : Known → Type 0) (es : List Known) (e : Known) → AreOnce es → IsFirst P es e → recorded e.entry.name es ≡ Some e.entry
first_recorded P es e h f = subst (λ (xs : List Known). recorded e.entry.name xs ≡ Some e.entry) (sym f.split) (mid f.front (subst (λ (xs : List Known). tally (is_of e.entry.name) xs ≤ 1) f.split (h e.entry.name)))
  where
    some : (front : List Known) → 0 < tally (is_of e.entry.name) (front ++ e ∷ f.back)
    some [] = rw (name_eq_refl e.entry.name) (omega arith)
    some (x ∷ front) = let y = some front in omega (arith, y)

    mid : (front : List Known) → tally (is_of e.entry.name) (front ++ e ∷ f.back) ≤ 1 → recorded e.entry.name (front ++ e ∷ f.back) ≡ Some e.entry
    mid [] g = rw (name_eq_refl e.entry.name) refl
    mid (x ∷ front) g =
        elim (is_of e.entry.name x) as (λ b. cond b 1 0 + tally (is_of e.entry.name) (front ++ e ∷ f.back) ≤ 1 → cond b (Some x.entry) (recorded e.entry.name (front ++ e ∷ f.back)) ≡ Some e.entry)
        [ true ↦ λ u. absurd (let y = some front in omega (arith, y, u)) | false ↦ λ u. mid front (omega (arith, u)) ] g

named_reduces : (order : Order) → (of : Name) (w : How) (d : Record) (c : Known) (es : List Known) → tally (is_of of) es ≤ 1 → look es of ≡ Some c → HowHolds order w d.clause c.entry.clause → Each (ReducesHit order (named_hit of w) d) es
named_reduces order of w d c es once at holds = Each_weaker (λ e. is_of of e ≡ true → e ≡ c) (ReducesHit order (named_hit of w) d) one es (once_each of es c once at)
  where
    one : (e : Known) → (is_of of e ≡ true → e ≡ c) → ReducesHit order (named_hit of w) d e
    one e g =
        elim (is_held e) as (λ b. cond b (cond (is_of of e) (Some w) None) None ≡ Some how.Reduces → Reduces order d.clause e.entry.clause) [
          | true ↦ elim (is_of of e) as (λ b. (b ≡ true → e ≡ c) → cond b (Some w) None ≡ Some how.Reduces → Reduces order d.clause e.entry.clause) [
            | true ↦ λ same is. (let v : w ≡ how.Reduces = (let z : Some w ≡ Some how.Reduces = is in cc) in
                subst (λ (x : Known). (Reduces order) d.clause x.entry.clause) (sym (same refl)) (subst (λ (x : How). (HowHolds order) x d.clause c.entry.clause) v holds))
            | false ↦ λ same is. absurd (let z : None ≡ Some how.Reduces = is in cc)
          ] g
          | false ↦ λ is. absurd (let z : None ≡ Some how.Reduces = is in cc)
        ]

items_free : (order : Order) → (fs : List Known) (t : Task) (k : ℕ) (cs : List Conclusion) (items : List Item) → AreTaskItems t k cs items → Each (IsForcedHere order fs) items
items_free order fs t k [] items are = rw are tt
items_free order fs t k (c ∷ cs) items are = rw are.4 (free_forced order fs are.0 are.2.1, items_free order fs t (k + 1) cs are.1 are.3)

kept_ready : (order : Order) → (s : Local) (k : ℕ) (i : Item) (o : Outcome) (hit : Known → Option How) → KeepHits order s k i o hit → IsReady order s → IsReady order (kept s k i o hit)
kept_ready order s k i (Named n) hit hits h =
    let t : Local = taken s k i (Named n) in
    let a = parts_arrived order t (s.next_seq + 1) hit (new_record s i) (resolved_of (next_name s) i.origin (resolution (Named n) (equations_of i.steps)) s.known ∙ fresh_next s.me s.next_seq s.known h.own) hits (λ e. omega arith)
    (parts_taken order s (s.next_seq + 1) k i (Named n) (record { once = h.once; own = below_more s.me s.next_seq s.known h.own; tasks = h.tasks; forced = h.forced })) in
    record { places = h.places; units = h.units; once = a.once; own = a.own; tasks = a.tasks; forced = a.forced }
kept_ready order s k i Trivial hit hits h =
    let a = parts_taken order s s.next_seq k i Trivial (record { once = h.once; own = h.own; tasks = h.tasks; forced = h.forced }) in
    record { places = h.places; units = h.units; once = a.once; own = a.own; tasks = a.tasks; forced = a.forced }
kept_ready order s k i (Subsumed d) hit hits h =
    let a = parts_taken order s s.next_seq k i (Subsumed d) (record { once = h.once; own = h.own; tasks = h.tasks; forced = h.forced }) in
    record { places = h.places; units = h.units; once = a.once; own = a.own; tasks = a.tasks; forced = a.forced }

body_ready : (order : Order) → (p : Problem) (s : Local) (sender : ℕ) (b : Body) (o : Option Hit) (hit : Known → Option How) → (sender ≡ s.me → ⊥) → BodyFine order p s sender b → BodyHits order s b o hit → IsReady order s → IsReady order (admitted_body s b o hit)
body_ready order p s sender (body.Kept r) None hit other fine hits h =
    let a = parts_arrived order s s.next_seq hit r (none_of_tally (is_of r.name) s.known fine.unknown) hits.1 (λ e. absurd (other (sym fine.issuer ∙ e)))
    (record { once = h.once; own = h.own; tasks = h.tasks; forced = h.forced }) in
    record { places = h.places; units = h.units; once = a.once; own = a.own; tasks = a.tasks; forced = a.forced }
body_ready order p s sender (body.Kept r) (Some x) hit other fine hits h =
    let f = hits.0 in
    let a = parts_shelved order s s.next_seq r x.by x.how f.0.entry (none_of_tally (is_of r.name) s.known fine.unknown)
    (subst (λ (n : Name). recorded n s.known ≡ Some f.0.entry) (sym f.2) (first_recorded (IsBeater order x.how r) s.known f.0 h.once f.1)) f.1.is.2 (λ e. absurd (other (sym fine.issuer ∙ e)))
    (record { once = h.once; own = h.own; tasks = h.tasks; forced = h.forced }) in
    record { places = h.places; units = h.units; once = a.once; own = a.own; tasks = a.tasks; forced = a.forced }
body_ready order p s sender (body.Notice of by w) o hit other fine hits h =
    let a = parts_lost order s s.next_seq (named_hit of w) by fine.1.entry (entry_of by s.known fine.1 fine.3) (named_reduces order of w fine.1.entry fine.0 s.known (h.once of) fine.2 fine.6)
    (record { once = h.once; own = h.own; tasks = h.tasks; forced = h.forced }) in
    record { places = h.places; units = h.units; once = a.once; own = a.own; tasks = a.tasks; forced = a.forced }
body_ready order p s sender (body.Token t) o hit other fine hits h = record { places = h.places; units = h.units; once = h.once; own = h.own; tasks = h.tasks; forced = h.forced }

pub ready_acted : (order : Order) → (p : Problem) (s : Local) (a : Act) (f : Found a) → Fits order p s a f → IsReady order s → IsReady order (acted s a f)
ready_acted order p s (Rewrite k) f fits h = record {
  places = h.places;
  units = (let x = fits.left in omega (arith, x));
  once = h.once;
  own = h.own;
  tasks = h.tasks;
  forced = Each_set (IsForcedHere order s.known) s.pending k (reworked f) h.forced (free_forced order s.known (reworked f) refl);
}
ready_acted order p s (Keep k) f fits h = kept_ready order s k f.item f.outcome f.hit fits.hits h
ready_acted order p s (Receive l) f fits h = record { places = h.places; units = h.units; once = h.once; own = h.own; tasks = h.tasks; forced = h.forced }
ready_acted order p s (Admit k) f fits h =
    body_ready order p (unshelved s k) f.letter.sender f.letter.body f.forward f.hit fits.fine.1 (fine f.letter.body fits.fine.3) (hits f.letter.body fits.hits)
    (record { places = h.places; units = h.units; once = h.once; own = h.own; tasks = h.tasks; forced = h.forced })
  where
    fine : (b : Body) → BodyFine order p s f.letter.sender b → BodyFine order p (unshelved s k) f.letter.sender b
    fine (body.Kept r) x = record { unknown = x.unknown; issuer = x.issuer; owner = x.owner; shape = x.shape; behind_copy = x.behind_copy; cites = x.cites; share = x.share; leads = x.leads; tidy = x.tidy; fit = x.fit; no_tautology = x.no_tautology }
    fine (body.Notice a b w) x = x
    fine (body.Token y) x = x

    hits : (b : Body) → BodyHits order s b f.forward f.hit → BodyHits order (unshelved s k) b f.forward f.hit
    hits (body.Kept r) x = x
    hits (body.Notice a b w) x = x
    hits (body.Token y) x = x
ready_acted order p s (Reject k) f fits h = record { places = h.places; units = h.units; once = h.once; own = h.own; tasks = h.tasks; forced = h.forced }
ready_acted order p s (Work t) f fits h = record {
  places = h.places;
  units = (let x = fits.0 in omega (arith, x));
  once = h.once;
  own = h.own;
  tasks = subst (λ (ts : List Task). Each (IsTaskHere s.known) ts) (sym fits.1.takes.rest) (Each_remove (IsTaskHere s.known) s.owed fits.1.takes.place h.tasks);
  forced = Each_append (IsForcedHere order s.known) s.pending f.items h.forced (items_free order s.known t 0 f.found f.items fits.1.items);
}
ready_acted order p s Pass f fits h =
    elim (eqb s.peers 1) as (λ b. IsReady order (cond b (record s { token = Some (passed s.peers s.count f) }) (record s { token = None }))) [
      | true ↦ record { places = h.places; units = h.units; once = h.once; own = h.own; tasks = h.tasks; forced = h.forced }
      | false ↦ record { places = h.places; units = h.units; once = h.once; own = h.own; tasks = h.tasks; forced = h.forced }
    ]
ready_acted order p s Declare f fits h = record { places = h.places; units = h.units; once = h.once; own = h.own; tasks = h.tasks; forced = h.forced }
ready_acted order p s (End v) f fits h = record { places = h.places; units = h.units; once = h.once; own = h.own; tasks = h.tasks; forced = h.forced }

pub ready_after : (order : Order) → (p : Problem) (s : Local) (e : Event) (f : Found e.act) → Fits order p s e.act f → IsReady order s → IsReady order (after s e f)
ready_after order p s e f fits h = let a = ready_acted order p s e.act f fits h in record { places = a.places; units = a.units; once = a.once; own = a.own; tasks = a.tasks; forced = a.forced }
