-- Each issued name is known, or one letter brings it.
use Rattle.std.proofs.Common.{◌≡◌, ℕ, zero, suc, ◌+◌, ◌<◌, ◌≢◌, Bool, true, false, ◌&&◌, not, cond, eqb, ltb, List, [], ◌∷◌, length, arith, refl, ap, sym, ◌∙◌, inl, inr}
use Rattle.std.specs.Prelude.{slice_get, remove, Option, Some, None}
use Rattle.std.proofs.lemmas.Bool.Decides.{nat_tests}
use Rattle.cd_ledger.specs.declared.letters.Body.TheVariants as body
use Rattle.cd_names.specs.declared.names.Name.{Name}
use Rattle.cd_names.specs.declared.How.{How}
use Rattle.cd_contract.specs.declared.held.Hit.{Hit}
use Rattle.cd_ledger.specs.declared.items.Item.{Item}
use Rattle.cd_ledger.specs.declared.records.Record.{Record}
use Rattle.cd_ledger.specs.declared.records.Known.{Known}
use Rattle.cd_ledger.specs.declared.items.Outcome.{Outcome}
use Rattle.cd_ledger.specs.declared.items.Outcome.TheVariants.{Named, Subsumed, Trivial}
use Rattle.cd_names.specs.declared.waves.Token.{Token}
use Rattle.cd_ledger.specs.declared.letters.Body.{Body}
use Rattle.cd_ledger.specs.declared.letters.Letter.{Letter}
use Rattle.cd_names.specs.declared.ownership.Policy.{Policy}
use Rattle.cd_ledger.specs.declared.events.Act.{Act}
use Rattle.cd_ledger.specs.declared.events.Act.TheVariants.{Admit, Declare, End, Keep, Pass, Receive, Reject, Rewrite, Work}
use Rattle.cd_ledger.specs.declared.events.Event.{Event}
use Rattle.cd_ledger.specs.declared.local.Local.{Local}
use Rattle.cd_list.specs.Lists.{tally}
use Rattle.std.specs.List.{cons_option}
use Rattle.cd_read.specs.declared.problem.Problem.{Problem}
use Rattle.cd_names.specs.Names.{name_eq}
use Rattle.cd_ledger.specs.Records.{equations_of, is_of}
use Rattle.cd_machine.specs.Arrivals.{arrived, held, new_record, next_name}
use Rattle.cd_machine.specs.Contraction.{hit_on, loss, named_hit, notice, notice_of, notices, struck}
use Rattle.cd_machine.specs.Acts.{admitted_body, body_letters, broadcast, keep_letters, kept, kept_letter, resolution, taken, unshelved}
use Rattle.cd_machine.specs.Tokens.{passed, token_letters}
use Rattle.cd_machine.specs.Events.{Found, acted, after, sent, sent_by}
use Rattle.cd_machine.specs.Fits.{Fits}
use Rattle.cd_machine.specs.World.{World, WorldStep, at}
use Rattle.cd_machine.specs.Spread.{body_is_kept, is_kept, is_kept_to, issued, issued_by, known_times, travelling_times, waiting_times}
use Rattle.cd_laws.specs.Sound.{IsPlaced, IsSpread}
use Rattle.cd_laws.proofs.Lists.{tally_append, tally_gather, tally_none, tally_push, tally_remove}
use Rattle.cd_laws.proofs.Steps.{at_each, at_other, at_same, moves_tally, received, same_or_not, step_me}
use Rattle.cd_laws.proofs.Strikes.{resolved_of, struck_tally}
use Rattle.cd_kbo.specs.declared.order.Order.{Order}

abbrev pub is_named : Outcome → Bool
is_named (Named n) = true
is_named Trivial = false
is_named (Subsumed d) = false

-- whether the event names an item
abbrev pub naming : (a : Act) → Found a → Bool
naming (Rewrite k) f = false
naming (Keep k) f = is_named f.outcome
naming (Receive l) f = false
naming (Admit k) f = false
naming (Reject k) f = false
naming (Work t) f = false
naming Pass f = false
naming Declare f = false
naming (End v) f = false

abbrev pub named : Name → Local → (a : Act) → Found a → ℕ
named n s a f = cond (naming a f && name_eq (next_name s) n) 1 0

abbrev pub IsNoReject : Act → Type 0
IsNoReject (Rewrite k) = Unit {0}
IsNoReject (Keep k) = Unit {0}
IsNoReject (Receive l) = Unit {0}
IsNoReject (Admit k) = Unit {0}
IsNoReject (Reject k) = ⊥
IsNoReject (Work t) = Unit {0}
IsNoReject Pass = Unit {0}
IsNoReject Declare = Unit {0}
IsNoReject (End v) = Unit {0}

arrived_known : (n : Name) (s : Local) (hit : Known → Option How) (r : Record) → tally (is_of n) (arrived s hit r).known ≡ tally (is_of n) s.known + cond (name_eq r.name n) 1 0
arrived_known n s hit r =
    tally_push (is_of n) (struck s.me hit r.name s.known) (held r)
    ∙ ap (λ k. k + cond (name_eq r.name n) 1 0) (struck_tally n s.me hit r.name s.known)

keep_own : (n : Name) (s : Local) (k : ℕ) (i : Item) (o : Outcome) (hit : Known → Option How)
    → known_times n (kept s k i o hit) + waiting_times n (kept s k i o hit) ≡ known_times n s + waiting_times n s + cond (is_named o && name_eq (next_name s) n) 1 0
keep_own n s k i (Named m) hit = omega (arith, arrived_known n (taken s k i (Named m)) hit (new_record s i), resolved_of n i.origin (resolution (Named m) (equations_of i.steps)) s.known)
keep_own n s k i Trivial hit = omega (arith, resolved_of n i.origin (resolution Trivial (equations_of i.steps)) s.known)
keep_own n s k i (Subsumed d) hit = omega (arith, resolved_of n i.origin (resolution (Subsumed d) (equations_of i.steps)) s.known)

admit_own : (n : Name) (s : Local) (k : ℕ) (l : Letter) (o : Option Hit) (hit : Known → Option How) → slice_get s.waiting k ≡ Some l
    → known_times n (admitted_body (unshelved s k) l.body o hit) + waiting_times n (admitted_body (unshelved s k) l.body o hit) ≡ known_times n s + waiting_times n s
admit_own n s k l o hit h = go l.body o (tally_remove (is_kept n) s.waiting k l h)
  where
    go : (b : Body) (o : Option Hit) → tally (is_kept n) s.waiting ≡ tally (is_kept n) (remove s.waiting k) + cond (body_is_kept n b) 1 0
        → known_times n (admitted_body (unshelved s k) b o hit) + waiting_times n (admitted_body (unshelved s k) b o hit) ≡ known_times n s + waiting_times n s
    go (body.Kept r) None e = omega (arith, e, arrived_known n (unshelved s k) hit r)
    go (body.Kept r) (Some x) e = omega (arith, e, tally_append (is_of n) s.known (record { entry = r; status = loss s.me x.by x.how r } ∷ []))
    go (body.Notice a b w) o e = omega (arith, e, struck_tally n s.me (named_hit a w) b s.known)
    go (body.Token t) o e = omega (arith, e)

pub own_counts : (order : Order) → (p : Problem) (n : Name) (s : Local) (a : Act) (f : Found a) → Fits order p s a f → IsNoReject a
    → known_times n (acted s a f) + waiting_times n (acted s a f) ≡ known_times n s + waiting_times n s + received (is_kept n) a + named n s a f
own_counts order p n s (Rewrite k) f x h = omega arith
own_counts order p n s (Keep k) f x h = omega (arith, keep_own n s k f.item f.outcome f.hit)
own_counts order p n s (Receive l) f x h = omega (arith, tally_append (is_kept n) s.waiting (l ∷ []))
own_counts order p n s (Admit k) f x h = omega (arith, admit_own n s k f.letter f.forward f.hit x.there)
own_counts order p n s (Reject k) f x h = absurd h
own_counts order p n s (Work t) f x h = omega arith
own_counts order p n s Pass f x h = elim (eqb s.peers 1) as (λ b. known_times n (cond b (record s { token = Some (passed s.peers s.count f) }) (record s { token = None })) + waiting_times n (cond b (record s { token = Some (passed s.peers s.count f) }) (record s { token = None })) ≡ known_times n s + waiting_times n s + 0 + 0)
    [ true ↦ omega arith | false ↦ omega arith ]
own_counts order p n s Declare f x h = omega arith
own_counts order p n s (End v) f x h = omega arith

-- a letter to each other peer, and none to oneself
broadcast_kept : (n : Name) (q me time : ℕ) (r : Record) (m : ℕ)
    → tally (is_kept_to n q) (broadcast me time r m) ≡ cond (ltb q m && (not (eqb q me) && name_eq r.name n)) 1 0
broadcast_kept n q me time r zero = grind (arith, nat_tests)
broadcast_kept n q me time r (suc m) =
    let ih = broadcast_kept n q me time r m in
    let ap = tally_append (is_kept_to n q) (broadcast me time r m) (cond (eqb m me) [] (kept_letter me time r m ∷ [])) in
    grind (arith, nat_tests, ih, ap)

pub notice_none : (t : Letter → Bool) → ((me time : ℕ) (d : Name) (h : How) (r : Record) → t (notice me time d h r) ≡ false) → (me time : ℕ) (d : Name) (r : Record) (o : Option How) → tally t (cons_option (notice_of me time d r o) []) ≡ 0
notice_none t f me time d r None = refl
notice_none t f me time d r (Some h) = elim (eqb r.owner me) as (λ b. tally t (cons_option (cond b None (Some (notice me time d h r))) []) ≡ 0) [ true ↦ refl | false ↦ rw (f me time d h r) refl ]

notices_kept : (n : Name) (q me time : ℕ) (hit : Known → Option How) (d : Name) (es : List Known) → tally (is_kept_to n q) (notices me time hit d es) ≡ 0
notices_kept n q me time hit d es =
    tally_gather (is_kept_to n q) (λ e. notice_of me time d e.entry (hit_on hit e)) (λ e. false) (λ e. notice_none (is_kept_to n q) no me time d e.entry (hit_on hit e)) es
    ∙ tally_none (λ e. false) (λ e. refl) es
  where
    no : (me time : ℕ) (d : Name) (h : How) (r : Record) → is_kept_to n q (notice me time d h r) ≡ false
    no me time d h r = elim (eqb r.owner q) as (λ b. (b && false) ≡ false) [ true ↦ refl | false ↦ refl ]

keep_sent : (n : Name) (q : ℕ) (s : Local) (time k : ℕ) (i : Item) (o : Outcome) (hit : Known → Option How)
    → tally (is_kept_to n q) (keep_letters s time k i o hit) ≡ cond (ltb q s.peers && (not (eqb q s.me) && (is_named o && name_eq (next_name s) n))) 1 0
keep_sent n q s time k i (Named m) hit =
    omega (
      arith,
      tally_append (is_kept_to n q) (broadcast s.me time (new_record s i) s.peers) (notices s.me time hit (next_name s) (taken s k i (Named m)).known),
      broadcast_kept n q s.me time (new_record s i) s.peers,
      notices_kept n q s.me time hit (next_name s) (taken s k i (Named m)).known,
    )
keep_sent n q s time k i Trivial hit = grind arith
keep_sent n q s time k i (Subsumed d) hit = grind arith

body_sent : (n : Name) (q : ℕ) (s : Local) (time : ℕ) (b : Body) (o : Option Hit) (hit : Known → Option How) → tally (is_kept_to n q) (body_letters s time b o hit) ≡ 0
body_sent n q s time (body.Kept r) None hit = notices_kept n q s.me time hit r.name s.known
body_sent n q s time (body.Kept r) (Some x) hit = notice_none (is_kept_to n q) no s.me time x.by r (Some x.how)
  where
    no : (me time : ℕ) (d : Name) (h : How) (r : Record) → is_kept_to n q (notice me time d h r) ≡ false
    no me time d h r = elim (eqb r.owner q) as (λ b. (b && false) ≡ false) [ true ↦ refl | false ↦ refl ]
body_sent n q s time (body.Notice a b w) o hit = notices_kept n q s.me time (named_hit a w) b s.known
body_sent n q s time (body.Token t) o hit = refl

token_sent : (n : Name) (q : ℕ) (s : Local) (time : ℕ) (t : Token) → tally (is_kept_to n q) (token_letters s time t) ≡ 0
token_sent n q s time t = elim (eqb s.peers 1) as (λ b. tally (is_kept_to n q) (cond b [] (record { sender = s.me; to = cond (eqb (s.me + 1) s.peers) 0 (s.me + 1); time = time; body = body.Token (passed s.peers s.count t) } ∷ [])) ≡ 0)
    [ true ↦ refl | false ↦ elim (eqb (cond (eqb (s.me + 1) s.peers) 0 (s.me + 1)) q) as (λ b. ◌≡◌ {A = ℕ} (cond (b && false) 1 0 + 0) 0) [ true ↦ refl | false ↦ refl ] ]

pub sent_counts : (n : Name) (q : ℕ) (s : Local) (time : ℕ) (a : Act) (f : Found a)
    → tally (is_kept_to n q) (sent_by s time a f) ≡ cond (ltb q s.peers && (not (eqb q s.me) && (naming a f && name_eq (next_name s) n))) 1 0
sent_counts n q s time (Rewrite k) f = grind arith
sent_counts n q s time (Keep k) f = keep_sent n q s time k f.item f.outcome f.hit
sent_counts n q s time (Receive l) f = grind arith
sent_counts n q s time (Admit k) f = body_sent n q s time f.letter.body f.forward f.hit ∙ grind arith
sent_counts n q s time (Reject k) f = grind arith
sent_counts n q s time (Work t) f = grind arith
sent_counts n q s time Pass f = token_sent n q s time f ∙ grind arith
sent_counts n q s time Declare f = grind arith
sent_counts n q s time (End v) f = grind arith

-- the next number
next_counts : (x m : ℕ) → cond (ltb x (m + 1)) 1 0 ≡ cond (ltb x m) 1 0 + cond (eqb m x) 1 0
next_counts x m = grind (arith, nat_tests)

pub naming_next : (s : Local) (a : Act) (f : Found a) → (acted s a f).next_seq ≡ s.next_seq + cond (naming a f) 1 0
naming_next s (Rewrite k) f = omega arith
naming_next s (Keep k) f = go f.outcome
  where
    go : (o : Outcome) → (kept s k f.item o f.hit).next_seq ≡ s.next_seq + cond (is_named o) 1 0
    go (Named n) = refl
    go Trivial = omega arith
    go (Subsumed d) = omega arith
naming_next s (Receive l) f = omega arith
naming_next s (Admit k) f = go f.letter.body f.forward
  where
    go : (b : Body) (o : Option Hit) → (admitted_body (unshelved s k) b o f.hit).next_seq ≡ s.next_seq + 0
    go (body.Kept r) None = omega arith
    go (body.Kept r) (Some x) = omega arith
    go (body.Notice a b w) o = omega arith
    go (body.Token t) o = omega arith
naming_next s (Reject k) f = omega arith
naming_next s (Work t) f = omega arith
naming_next s Pass f = elim (eqb s.peers 1) as (λ b. (cond b (record s { token = Some (passed s.peers s.count f) }) (record s { token = None })).next_seq ≡ s.next_seq + 0) [ true ↦ omega arith | false ↦ omega arith ]
naming_next s Declare f = omega arith
naming_next s (End v) f = omega arith

-- what is received here is addressed here
pub received_here : (order : Order) → (t : Letter → Bool) (p : Problem) (s : Local) (a : Act) (f : Found a) → Fits order p s a f → received (λ l. eqb l.to s.me && t l) a ≡ received t a
received_here order t p s (Receive l) f h = rw h (let e : eqb s.me s.me ≡ true = grind (arith, nat_tests) in rw e refl)
received_here order t p s (Rewrite k) f h = refl
received_here order t p s (Keep k) f h = refl
received_here order t p s (Admit k) f h = refl
received_here order t p s (Reject k) f h = refl
received_here order t p s (Work u) f h = refl
received_here order t p s Pass f h = refl
received_here order t p s Declare f h = refl
received_here order t p s (End v) f h = refl

pub received_there : (order : Order) → (t : Letter → Bool) (p : Problem) (s : Local) (a : Act) (f : Found a) (q : ℕ) → Fits order p s a f → q ≢ s.me → received (λ l. eqb l.to q && t l) a ≡ 0
received_there order t p s (Receive l) f q h ne = let g : eqb l.to q ≡ false = grind (arith, nat_tests, h, ne) in rw g refl
received_there order t p s (Rewrite k) f q h ne = refl
received_there order t p s (Keep k) f q h ne = refl
received_there order t p s (Admit k) f q h ne = refl
received_there order t p s (Reject k) f q h ne = refl
received_there order t p s (Work u) f q h ne = refl
received_there order t p s Pass f q h ne = refl
received_there order t p s Declare f q h ne = refl
received_there order t p s (End v) f q h ne = refl

-- issuing
issues : (n : Name) (s : Local) (a : Act) (f : Found a) → s.me ≡ n.peer → issued_by n (acted s a f) ≡ issued_by n s + named n s a f
issues n s a f h =
    let e = naming_next s a f in
    let c = next_counts n.seq s.next_seq in
    let t : eqb s.me n.peer ≡ true = grind (arith, nat_tests) in
    rw e (rw t (elim (naming a f) as (λ b. cond (ltb n.seq (s.next_seq + cond b 1 0)) 1 0 ≡ cond (ltb n.seq s.next_seq) 1 0 + cond (b && (true && eqb s.next_seq n.seq)) 1 0) [ true ↦ c | false ↦ grind arith ]))

names_no_other : (n : Name) (s : Local) (a : Act) (f : Found a) → s.me ≢ n.peer → named n s a f ≡ 0
names_no_other n s a f h = let t : eqb s.me n.peer ≡ false = grind (arith, nat_tests) in rw t (elim (naming a f) as (λ b. ◌≡◌ {A = ℕ} (cond (b && false) 1 0) 0) [ true ↦ refl | false ↦ refl ])

module _ (order : Order) (p : Problem) (policy : Policy) (w : World) (e : Event) (v : World) (h : WorldStep order p w e v)
    (places : (q : ℕ) → q < length w.locals → IsPlaced policy (length w.locals) q (at w q)) where
  issued_step : (n : Name) → issued n v ≡ issued n w + named n (at w e.peer) e.act h.found
  issued_step n =
      let me = step_me order p w e v h in
      elim (same_or_not n.peer e.peer) [
        | inl same ↦ ap (λ s. issued_by n s) (ap (at v) same ∙ at_same order p w e v h) ∙ issues n (at w e.peer) e.act h.found (sym me ∙ sym same) ∙ ap (λ q. issued_by n (at w q) + named n (at w e.peer) e.act h.found) (sym same)
        | inr other ↦ ap (λ s. issued_by n s) (at_other order p w e v h n.peer other) ∙ (let z = names_no_other n (at w e.peer) e.act h.found (λ k. other (sym k ∙ sym me)) in omega (arith, z))
      ]

  pub step_spread : IsNoReject e.act → IsSpread w → IsSpread v
  step_spread fine sp n =
      at_each order p w e v h (λ q s. known_times n s + waiting_times n s + travelling_times n q v ≡ issued n v) here there
    where
      here : known_times n (after (at w e.peer) e h.found) + waiting_times n (after (at w e.peer) e h.found) + travelling_times n e.peer v ≡ issued n v
      here =
          let s = at w e.peer in
          let me = step_me order p w e v h in
          let own = own_counts order p n s e.act h.found h.legal.fits fine in
          let moved = moves_tally (is_kept_to n e.peer) e.act w.travelling (sent s e h.found) v.travelling h.moved in
          let rec' : received (is_kept_to n e.peer) e.act ≡ received (is_kept n) e.act = ap (λ x. received (is_kept_to n x) e.act) me ∙ received_here order (is_kept n) p s e.act h.found h.legal.fits in
          let out = sent_counts n e.peer s e.time e.act h.found in
          let none : not (eqb e.peer s.me) ≡ false = grind (arith, nat_tests, me) in
          let zero' : tally (is_kept_to n e.peer) (sent s e h.found) ≡ 0 = out ∙ rw none (grind (arith, nat_tests)) in
          let old = sp n e.peer h.in_range in
          let iss = issued_step n in
          omega (arith, own, moved, rec', zero', old, iss)

      there : (q : ℕ) → q < length w.locals → q ≢ e.peer → known_times n (at w q) + waiting_times n (at w q) + travelling_times n q v ≡ issued n v
      there q l ne =
          let s = at w e.peer in
          let me = step_me order p w e v h in
          let moved = moves_tally (is_kept_to n q) e.act w.travelling (sent s e h.found) v.travelling h.moved in
          let rec' = received_there order (is_kept n) p s e.act h.found q h.legal.fits (λ k. ne (k ∙ sym me)) in
          let out = sent_counts n q s e.time e.act h.found in
          let some' : not (eqb q s.me) ≡ true = grind (arith, nat_tests, me) in
          let room = (places e.peer h.in_range).1 in
          let in' : ltb q s.peers ≡ true = rw room (grind (arith, nat_tests)) in
          let all : tally (is_kept_to n q) (sent s e h.found) ≡ named n s e.act h.found = out ∙ rw (in', some') refl in
          let old = sp n q l in
          let iss = issued_step n in
          omega (arith, moved, rec', all, old, iss)
