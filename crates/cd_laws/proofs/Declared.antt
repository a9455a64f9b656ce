-- After a Declare the world is closed, and nothing follows.
use Rattle.std.proofs.Common.{◌≡◌, ℕ, zero, suc, ◌+◌, ◌<◌, ◌≤◌, ◌≢◌, Bool, true, false, ◌&&◌, ◌||◌, not, cond, eqb, ltb, List, [], ◌∷◌, ◌++◌, length, get_or, arith, refl, ap, sym, ◌∙◌, subst, inl, inr, ◌⊎◌}
use Rattle.std.specs.Prelude.{slice_get, remove, Option, Some, None}
use Rattle.std.specs.List.{flat_map}
use Rattle.std.proofs.lemmas.List.{get_or_past}
use Rattle.std.proofs.lemmas.Bool.{eqb-true, cases_lt}
use Rattle.std.proofs.lemmas.Bool.Decides.{nat_tests}
use Rattle.cd_ledger.specs.declared.letters.Body.TheVariants as body
use Rattle.cd_clause.specs.declared.Clause.{Clause}
use Rattle.cd_names.specs.declared.names.Name.{Name}
use Rattle.cd_steps.specs.declared.Step.{Step}
use Rattle.cd_names.specs.declared.How.{How}
use Rattle.cd_contract.specs.declared.held.Hit.{Hit}
use Rattle.cd_ledger.specs.declared.records.Record.{Record}
use Rattle.cd_ledger.specs.declared.records.Known.{Known}
use Rattle.cd_ledger.specs.declared.items.Outcome.{Outcome}
use Rattle.cd_ledger.specs.declared.items.Outcome.TheVariants.{Named, Subsumed, Trivial}
use Rattle.cd_names.specs.declared.waves.Count.{Count}
use Rattle.cd_names.specs.declared.waves.Token.{Token}
use Rattle.cd_ledger.specs.declared.letters.Body.{Body}
use Rattle.cd_ledger.specs.declared.letters.Letter.{Letter}
use Rattle.cd_ledger.specs.declared.events.Verdict.TheVariants.{Saturated}
use Rattle.cd_names.specs.declared.ownership.Policy.{Policy}
use Rattle.cd_ledger.specs.declared.events.Act.{Act}
use Rattle.cd_ledger.specs.declared.events.Act.TheVariants.{Admit, Declare, End, Keep, Pass, Receive, Reject, Rewrite, Work}
use Rattle.cd_ledger.specs.declared.events.Event.{Event}
use Rattle.cd_ledger.specs.declared.local.Limits.{Limits}
use Rattle.cd_ledger.specs.declared.local.Local.{Local}
use Rattle.cd_list.specs.Lists.{tally}
use Rattle.std.specs.List.{AllByRecursion as Each, list_all, list_any}
use Rattle.std.specs.List.{cons_option}
use Rattle.std.specs.Prelude.{is_some}
use Rattle.cd_read.specs.declared.problem.Problem.{Problem}
use Rattle.cd_ledger.specs.Records.{Registry, cites_of, equations_of, is_known, is_of, recorded}
use Rattle.cd_names.specs.Names.{add_once, each_once, name_eq}
use Rattle.cd_steps.specs.Premises.{names_in}
use Rattle.cd_machine.specs.Right.{Lead}
use Rattle.cd_machine.specs.Arrivals.{held, new_record, next_name}
use Rattle.cd_machine.specs.Contraction.{hit_on, loss, named_hit, notice, notice_of, notices, strike_one, struck}
use Rattle.cd_machine.specs.Acts.{admitted_body, body_letters, broadcast, keep_letters, kept, kept_letter, resolution, resolved, taken, unshelved}
use Rattle.cd_machine.specs.Tokens.{is_full, passed, received_sum, sent_sum}
use Rattle.cd_machine.specs.Events.{Found, acted, is_token, is_token_body, no_token, sent, sent_by}
use Rattle.cd_machine.specs.Fits.{Fits, IsQuiet, body_ready, is_ready}
use Rattle.cd_machine.specs.World.{IsStart, Moves, Run, World, WorldStep, at, first_token, nobody}
use Rattle.cd_laws.specs.Premises.{Premises}
use Rattle.cd_machine.specs.Spread.{Genuine, body_is_kept, is_kept, is_kept_to, known_times, record_of, travelling_times}
use Rattle.cd_laws.specs.Sound.{IsSound, IsTrue, TrueBody, TrueItem, TrueLetter, TrueToken, tokens_at, tokens_of}
use Rattle.cd_laws.specs.Closing.{BodyFits, HeldFits, IsDead, IsDeclared, IsOrdered, IsStill, IsWaving, TokenFits, has, received_of, sent_of, sums, sums_from}
use Rattle.cd_laws.proofs.Lists.{Each_all, Each_append, Each_at, Each_gather, Each_push, Each_remove, Each_weaker, and_true, some_of_tally, tally_le}
use Rattle.cd_laws.proofs.Steps.{at_each, at_other, at_same, moves_each, moves_letter, name_eq_refl, name_eq_true, same_or_not, step_length, step_me}
use Rattle.cd_laws.proofs.Strikes.{resolved_of, strike_entry, struck_tally}
use Rattle.cd_laws.proofs.Spread.{is_named, naming}
use Rattle.cd_laws.proofs.Truth.{local_registry}
use Rattle.cd_laws.proofs.Tokens.{tokens_some}
use Rattle.cd_laws.proofs.Whole.{new_name, record_grows, recorded_map, recorded_new, recorded_resolved, step_sound}
use Rattle.cd_laws.proofs.Descent.{named_genuine, record_once, recorded_named, tally_at, tally_place}
use Rattle.cd_laws.proofs.Models.{recorded_back}
use Rattle.cd_laws.proofs.Still.{IsDeclareAct, end_not, nothing_at, sums_end}
use Rattle.cd_laws.proofs.Waves.{flows_step, next_of, token_passed, token_step}
use Rattle.cd_kbo.specs.declared.order.Order.{Order}

notices_each : (P : Letter → Type 0) → ((me time : ℕ) (d : Name) (w : How) (r : Record) → P (notice me time d w r)) → (me time : ℕ) (hit : Known → Option How) (d : Name) (es : List Known) → Each P (notices me time hit d es)
notices_each P f me time hit d es = Each_gather P (λ e. notice_of me time d e.entry (hit_on hit e)) es (Each_all (λ e. Each P (cons_option (notice_of me time d e.entry (hit_on hit e)) [])) (λ e. one e.entry (hit_on hit e)) es)
  where
    one : (r : Record) (o : Option How) → Each P (cons_option (notice_of me time d r o) [])
    one r None = tt
    one r (Some w) = elim (eqb r.owner me) as (λ b. Each P (cons_option (cond b None (Some (notice me time d w r))) [])) [ true ↦ tt | false ↦ (f me time d w r, tt) ]

broadcast_each : (P : Letter → Type 0) → ((me time : ℕ) (r : Record) (to : ℕ) → P (kept_letter me time r to)) → (me time : ℕ) (r : Record) (m : ℕ) → Each P (broadcast me time r m)
broadcast_each P f me time r zero = tt
broadcast_each P f me time r (suc m) = Each_append P (broadcast me time r m) (cond (eqb m me) [] (kept_letter me time r m ∷ [])) (broadcast_each P f me time r m)
    (elim (eqb m me) as (λ b. Each P (cond b [] (kept_letter me time r m ∷ []))) [ true ↦ tt | false ↦ (f me time r m, tt) ])

once_from : (P : Name → Type 0) (seen ns : List Name) → Each P seen → Each P ns → Each P (each_once seen ns)
once_from P seen [] h g = h
once_from P seen (n ∷ ns) h g = once_from P (add_once seen n) ns (elim (list_any (λ m. name_eq m n) seen) as (λ b. Each P (cond b seen (seen ++ n ∷ []))) [ true ↦ h | false ↦ Each_push P seen n h g.0 ]) g.1

names_flat : (P : Name → Type 0) (ss : List Step) → Each (λ s. Each P (names_in s)) ss → Each P (flat_map names_in ss)
names_flat P [] h = tt
names_flat P (s ∷ ss) h = Each_append P (names_in s) (flat_map names_in ss) h.0 (names_flat P ss h.1)

cites_from : (P : Name → Type 0) (ss : List Step) → Each (λ s. Each P (names_in s)) ss → Each P (cites_of ss)
unfolding cites_of
cites_from P ss h = once_from P [] (flat_map names_in ss) tt (names_flat P ss h)

lead_names : (order : Order) → (q : Premises order) (p : Problem) (R : Registry) (current : Option Clause) (ss : List Step) (c : Clause) → Lead p R current ss c → Each (λ s. Each (λ n. (r : Record) × (R n ≡ Some r)) (names_in s)) ss
lead_names order q p R current [] c h = tt
lead_names order q p R current (s ∷ ss) c h = (q.replay_names p R current s h.0 h.1, lead_names order q p R (Some h.0) ss c h.2)

has_all : (P : Name → Type 0) (ns : List Name) (n : Name) → has ns n ≡ true → Each P ns → P n
has_all P [] n e g = cc
has_all P (m ∷ ms) n e g = go (name_eq m n) refl e (λ k. has_all P ms n k g.1)
  where
    go : (b : Bool) → name_eq m n ≡ b → (b || has ms n) ≡ true → (has ms n ≡ true → P n) → P n
    go true a e k = subst P (name_eq_true m n a) g.0
    go false a e k = k e

tokens_two : (ls : List Local) (j k : ℕ) → j < length ls → k < length ls → j ≢ k → tokens_at (get_or ls j nobody) + tokens_at (get_or ls k nobody) ≤ tokens_of ls
tokens_two [] j k a b ne = absurd (omega arith)
tokens_two (x ∷ ls) zero zero a b ne = absurd (ne refl)
tokens_two (x ∷ ls) zero (suc k) a b ne = omega (arith, tokens_some ls k (omega (arith, b)))
tokens_two (x ∷ ls) (suc j) zero a b ne = omega (arith, tokens_some ls j (omega (arith, a)))
tokens_two (x ∷ ls) (suc j) (suc k) a b ne = omega (arith, tokens_two ls j k (omega (arith, a)) (omega (arith, b)) (λ z. ne (ap suc z)))

no_letters : (ls : List Letter) → tally is_token ls ≡ 0 → tally no_token ls ≡ 0 → ls ≡ []
no_letters [] a b = refl
no_letters (l ∷ ls) a b = absurd (elim (is_token l) as (λ x. cond x 1 0 + tally is_token ls ≡ 0 → cond (not x) 1 0 + tally no_token ls ≡ 0 → ⊥) [ true ↦ λ x y. omega (arith, x) | false ↦ λ x y. omega (arith, y) ] a b)

module _ (order : Order) (q : Premises order) (p : Problem) (policy : Policy) where
  module _ (w : World) (e : Event) (v : World) (h : WorldStep order p w e v) (i : IsSound order p policy w) (going : IsDeclareAct e.act → ⊥) (x : IsWaving w) where
    body_step : (k : ℕ) (b : Body) → BodyFits w k b → BodyFits v k b
    body_step k (body.Kept r) y = tt
    body_step k (body.Notice a b c) y = tt
    body_step k (body.Token t) y = token_step order q p policy w e v h i going k t y

    held_step : (k : ℕ) (o : Option Token) → HeldFits w k o → HeldFits v k o
    held_step k None y = tt
    held_step k (Some t) y = token_step order q p policy w e v h i going k t y

    peers_is : (at w e.peer).peers ≡ length v.locals
    peers_is = (i.places e.peer h.in_range).1 ∙ sym (step_length order p w e v h)

    passes : (t : Token) → e.act ≡ Pass → IsQuiet (at w e.peer) → (at w e.peer).token ≡ Some t → TokenFits v (next_of (length v.locals) e.peer) (passed (length v.locals) (at w e.peer).count t)
    passes t pass quiet has' = token_passed order q p policy w e v h i going t pass quiet
        (subst (TrueToken (length w.locals)) has' (i.truth.locals e.peer h.in_range).token) x.flows (subst (HeldFits w e.peer) has' (x.held e.peer h.in_range))

    held_here : (a : Act) (f : Found a) → e.act ≡ a → Fits order p (at w e.peer) a f → HeldFits v e.peer (acted (at w e.peer) a f).token
    held_here (Rewrite k) f is fits = held_step e.peer (at w e.peer).token (x.held e.peer h.in_range)
    held_here (Keep k) f is fits = go f.outcome
      where
        go : (o : Outcome) → HeldFits v e.peer (kept (at w e.peer) k f.item o f.hit).token
        go (Named n) = held_step e.peer (at w e.peer).token (x.held e.peer h.in_range)
        go Trivial = held_step e.peer (at w e.peer).token (x.held e.peer h.in_range)
        go (Subsumed d) = held_step e.peer (at w e.peer).token (x.held e.peer h.in_range)
    held_here (Receive l) f is fits = held_step e.peer (at w e.peer).token (x.held e.peer h.in_range)
    held_here (Admit k) f is fits = go f.letter.body f.forward (Each_at (λ l. BodyFits w e.peer l.body) (at w e.peer).waiting k f.letter fits.there (x.waiting e.peer h.in_range))
      where
        go : (b : Body) (o : Option Hit) → BodyFits w e.peer b → HeldFits v e.peer (admitted_body (unshelved (at w e.peer) k) b o f.hit).token
        go (body.Kept r) None y = held_step e.peer (at w e.peer).token (x.held e.peer h.in_range)
        go (body.Kept r) (Some z) y = held_step e.peer (at w e.peer).token (x.held e.peer h.in_range)
        go (body.Notice a b c) o y = held_step e.peer (at w e.peer).token (x.held e.peer h.in_range)
        go (body.Token t) o y = token_step order q p policy w e v h i going e.peer t y
    held_here (Reject k) f is fits = held_step e.peer (at w e.peer).token (x.held e.peer h.in_range)
    held_here (Work t) f is fits = held_step e.peer (at w e.peer).token (x.held e.peer h.in_range)
    held_here Pass f is fits = go (eqb (at w e.peer).peers 1) refl
      where
        go : (b : Bool) → eqb (at w e.peer).peers 1 ≡ b → HeldFits v e.peer (cond b (record (at w e.peer) { token = Some (passed (at w e.peer).peers (at w e.peer).count f) }) (record (at w e.peer) { token = None })).token
        go false y = tt
        go true y =
            let one : (at w e.peer).peers ≡ 1 = eqb-true _ _ y in
            let l = h.in_range in
            let n = step_length order p w e v h in
            let z : e.peer ≡ 0 = (let a = (i.places e.peer h.in_range).1 in omega (arith, l, one, a)) in
            let nx : next_of (length v.locals) e.peer ≡ e.peer = (let o : length v.locals ≡ 1 = sym peers_is ∙ one in stays (length v.locals) e.peer o z) in
            subst (λ (m : ℕ). TokenFits v e.peer (passed m (at w e.peer).count f)) (sym peers_is) (subst (λ (m : ℕ). TokenFits v m (passed (length v.locals) (at w e.peer).count f)) nx (passes f is fits.0 fits.1))
          where
            stays : (n k : ℕ) → n ≡ 1 → k ≡ 0 → next_of n k ≡ k
            stays n k a b = rw (a, b) refl
    held_here Declare f is fits = absurd (going (subst IsDeclareAct (sym is) tt))
    held_here (End u) f is fits = held_step e.peer (at w e.peer).token (x.held e.peer h.in_range)

    waiting_old : Each (λ l. BodyFits v e.peer l.body) (at w e.peer).waiting
    waiting_old = Each_weaker (λ l. BodyFits w e.peer l.body) (λ l. BodyFits v e.peer l.body) (λ l. body_step e.peer l.body) (at w e.peer).waiting (x.waiting e.peer h.in_range)

    waiting_here : (a : Act) (f : Found a) → Fits order p (at w e.peer) a f → Moves a w.travelling (sent_by (at w e.peer) e.time a f) v.travelling → Each (λ l. BodyFits v e.peer l.body) (acted (at w e.peer) a f).waiting
    waiting_here (Rewrite k) f fits m = waiting_old
    waiting_here (Keep k) f fits m = go f.outcome
      where
        go : (o : Outcome) → Each (λ l. BodyFits v e.peer l.body) (kept (at w e.peer) k f.item o f.hit).waiting
        go (Named n) = waiting_old
        go Trivial = waiting_old
        go (Subsumed d) = waiting_old
    waiting_here (Receive l) f fits m = Each_push (λ y. BodyFits v e.peer y.body) (at w e.peer).waiting l waiting_old
        (let z = moves_letter (λ y. BodyFits w y.to y.body) l w.travelling [] v.travelling m x.travelling in
        body_step e.peer l.body (subst (λ (k : ℕ). BodyFits w k l.body) (fits ∙ (i.places e.peer h.in_range).0) z))
    waiting_here (Admit k) f fits m = go f.letter.body f.forward
      where
        rest : Each (λ l. BodyFits v e.peer l.body) (remove (at w e.peer).waiting k)
        rest = Each_remove (λ l. BodyFits v e.peer l.body) (at w e.peer).waiting k waiting_old

        go : (b : Body) (o : Option Hit) → Each (λ l. BodyFits v e.peer l.body) (admitted_body (unshelved (at w e.peer) k) b o f.hit).waiting
        go (body.Kept r) None = rest
        go (body.Kept r) (Some z) = rest
        go (body.Notice a b c) o = rest
        go (body.Token t) o = rest
    waiting_here (Reject k) f fits m = Each_remove (λ l. BodyFits v e.peer l.body) (at w e.peer).waiting k waiting_old
    waiting_here (Work t) f fits m = waiting_old
    waiting_here Pass f fits m = elim (eqb (at w e.peer).peers 1) as (λ b. Each (λ l. BodyFits v e.peer l.body) (cond b (record (at w e.peer) { token = Some (passed (at w e.peer).peers (at w e.peer).count f) }) (record (at w e.peer) { token = None })).waiting) [ true ↦ waiting_old | false ↦ waiting_old ]
    waiting_here Declare f fits m = waiting_old
    waiting_here (End u) f fits m = waiting_old

    sent_here : (a : Act) (f : Found a) → e.act ≡ a → Fits order p (at w e.peer) a f → Each (λ (l : Letter). BodyFits v l.to l.body) (sent_by (at w e.peer) e.time a f)
    sent_here (Rewrite k) f is fits = tt
    sent_here (Keep k) f is fits = go f.outcome
      where
        go : (o : Outcome) → Each (λ (l : Letter). BodyFits v l.to l.body) (keep_letters (at w e.peer) e.time k f.item o f.hit)
        go (Named n) = Each_append (λ (l : Letter). BodyFits v l.to l.body) (broadcast (at w e.peer).me e.time (new_record (at w e.peer) f.item) (at w e.peer).peers) (notices (at w e.peer).me e.time f.hit (next_name (at w e.peer)) (taken (at w e.peer) k f.item (Named n)).known)
            (broadcast_each (λ (l : Letter). BodyFits v l.to l.body) (λ a b c d. tt) (at w e.peer).me e.time (new_record (at w e.peer) f.item) (at w e.peer).peers)
            (notices_each (λ (l : Letter). BodyFits v l.to l.body) (λ a b c d k. tt) (at w e.peer).me e.time f.hit (next_name (at w e.peer)) (taken (at w e.peer) k f.item (Named n)).known)
        go Trivial = tt
        go (Subsumed d) = tt
    sent_here (Receive l) f is fits = tt
    sent_here (Admit k) f is fits = go f.letter.body f.forward
      where
        go : (b : Body) (o : Option Hit) → Each (λ (l : Letter). BodyFits v l.to l.body) (body_letters (at w e.peer) e.time b o f.hit)
        go (body.Kept r) None = notices_each (λ (l : Letter). BodyFits v l.to l.body) (λ a b c d k. tt) (at w e.peer).me e.time f.hit r.name (at w e.peer).known
        go (body.Kept r) (Some z) = elim (eqb r.owner (at w e.peer).me) as (λ b. Each (λ (l : Letter). BodyFits v l.to l.body) (cons_option (cond b None (Some (notice (at w e.peer).me e.time z.by z.how r))) [])) [ true ↦ tt | false ↦ (tt, tt) ]
        go (body.Notice a b c) o = notices_each (λ (l : Letter). BodyFits v l.to l.body) (λ a b c d k. tt) (at w e.peer).me e.time (named_hit a c) b (at w e.peer).known
        go (body.Token t) o = tt
    sent_here (Reject k) f is fits = tt
    sent_here (Work t) f is fits = tt
    sent_here Pass f is fits = go (eqb (at w e.peer).peers 1)
      where
        me : (at w e.peer).me ≡ e.peer
        me = (i.places e.peer h.in_range).0

        nx : next_of (length v.locals) e.peer ≡ cond (eqb ((at w e.peer).me + 1) (at w e.peer).peers) 0 ((at w e.peer).me + 1)
        nx = rw (me, peers_is) refl

        go : (b : Bool) → Each (λ (l : Letter). BodyFits v l.to l.body) (cond b [] (record { sender = (at w e.peer).me; to = cond (eqb ((at w e.peer).me + 1) (at w e.peer).peers) 0 ((at w e.peer).me + 1); time = e.time; body = body.Token (passed (at w e.peer).peers (at w e.peer).count f) } ∷ []))
        go true = tt
        go false = (
          subst (λ (m : ℕ). TokenFits v (cond (eqb ((at w e.peer).me + 1) (at w e.peer).peers) 0 ((at w e.peer).me + 1)) (passed m (at w e.peer).count f)) (sym peers_is)
              (subst (λ (m : ℕ). TokenFits v m (passed (length v.locals) (at w e.peer).count f)) nx (passes f is fits.0 fits.1)),
          tt,
        )
    sent_here Declare f is fits = tt
    sent_here (End u) f is fits = tt

    -- names
    back : (n : Name) (r : Record) → record_of v n ≡ Some r → (record_of w n ≡ Some r) ⊎ ((naming e.act h.found ≡ true) × (n ≡ next_name (at w e.peer)))
    back n r g =
        elim (same_or_not n.peer e.peer) [
          | inr other ↦ inl (subst (λ (s : Local). recorded n s.known ≡ Some r) (at_other order p w e v h n.peer other) g)
          | inl same ↦ go e.act h.found h.legal.fits (subst (λ (s : Local). recorded n s.known ≡ Some r) (ap (at v) same ∙ at_same order p w e v h) g)
        ]
      where
        s : Local
        s = at w e.peer

        t : IsTrue order p policy (length w.locals) (record_of w) s
        t = i.truth.locals e.peer h.in_range

        named_r : r.name ≡ n
        named_r = recorded_named n (at v n.peer).known r g

        old : recorded n s.known ≡ Some r → record_of w n ≡ Some r
        old y = local_registry order q p policy (length w.locals) (record_of w) s.me s.known t.known n r y

        go : (a : Act) (f : Found a) → Fits order p s a f → recorded n (acted s a f).known ≡ Some r → (record_of w n ≡ Some r) ⊎ ((naming a f ≡ true) × (n ≡ next_name s))
        go (Rewrite k) f fits y = inl (old y)
        go (Keep k) f fits y = by f.outcome y
          where
            by : (o : Outcome) → recorded n (kept s k f.item o f.hit).known ≡ Some r → (record_of w n ≡ Some r) ⊎ ((is_named o ≡ true) × (n ≡ next_name s))
            by (Named m) y =
                let st = resolution (Named m) (equations_of f.item.steps) in
                elim (recorded_back n (struck s.me f.hit (next_name s) (resolved f.item.origin st s.known)) (held (new_record s f.item)) r y) [
                  | inl z ↦ inl (old (sym (recorded_map n (strike_one s.me f.hit (next_name s)) (strike_entry s.me f.hit (next_name s)) (resolved f.item.origin st s.known) ∙ recorded_resolved n f.item.origin st s.known) ∙ z))
                  | inr z ↦ inr (refl, sym named_r ∙ ap (λ (c : Record). c.name) (sym z))
                ]
            by Trivial y = inl (old (sym (recorded_resolved n f.item.origin (resolution Trivial (equations_of f.item.steps)) s.known) ∙ y))
            by (Subsumed d) y = inl (old (sym (recorded_resolved n f.item.origin (resolution (Subsumed d) (equations_of f.item.steps)) s.known) ∙ y))
        go (Receive l) f fits y = inl (old y)
        go (Admit k) f fits y = by f.letter.body f.forward (Each_at (TrueLetter order p policy (length w.locals) (record_of w)) s.waiting k f.letter fits.there t.waiting).says y
          where
            genuine : (c : Record) → record_of w c.name ≡ Some c → c ≡ r → record_of w n ≡ Some r
            genuine c a b = ap (record_of w) (sym named_r ∙ ap (λ (z : Record). z.name) (sym b)) ∙ a ∙ ap Some b

            by : (b : Body) (o : Option Hit) → TrueBody order p policy (length w.locals) (record_of w) f.letter.sender f.letter.to b → recorded n (admitted_body (unshelved s k) b o f.hit).known ≡ Some r → (record_of w n ≡ Some r) ⊎ ((false ≡ true) × (n ≡ next_name s))
            by (body.Kept c) None says y =
                elim (recorded_back n (struck s.me f.hit c.name s.known) (held c) r y)
                [ inl z ↦ inl (old (sym (recorded_map n (strike_one s.me f.hit c.name) (strike_entry s.me f.hit c.name) s.known) ∙ z)) | inr z ↦ inl (genuine c says.0 z) ]
            by (body.Kept c) (Some z') says y =
                elim (recorded_back n s.known (record { entry = c; status = loss s.me z'.by z'.how c }) r y) [ inl z ↦ inl (old z) | inr z ↦ inl (genuine c says.0 z) ]
            by (body.Notice a b c) o says y = inl (old (sym (recorded_map n (strike_one s.me (named_hit a c) b) (strike_entry s.me (named_hit a c) b) s.known) ∙ y))
            by (body.Token k') o says y = inl (old y)
        go (Reject k) f fits y = inl (old y)
        go (Work u) f fits y = inl (old y)
        go Pass f fits y = inl ((elim (eqb s.peers 1) as (λ b. recorded n (cond b (record s { token = Some (passed s.peers s.count f) }) (record s { token = None })).known ≡ Some r → record_of w n ≡ Some r) [ true ↦ old | false ↦ old ]) y)
        go Declare f fits y = inl (old y)
        go (End u) f fits y = inl (old y)

    ordered_grows : (ns : List Name) → IsOrdered (record_of w) ns → IsOrdered (record_of v) ns
    ordered_grows [] y = tt
    ordered_grows (n ∷ ns) y = (y.0, record_grows order q p policy w e v h i n y.0 y.1, y.2, ordered_grows ns y.3)

    -- what a naming records, and cites
    named_item : (a : Act) (f : Found a) → Fits order p (at w e.peer) a f → record_of v (next_name (at w e.peer)) ≡ recorded (next_name (at w e.peer)) (acted (at w e.peer) a f).known → naming a f ≡ true
        → (r : Record) × (record_of v (next_name (at w e.peer)) ≡ Some r) × Each (λ m. has x.names m ≡ true) r.cites
    named_item (Rewrite k) f fits y z = absurd cc
    named_item (Keep k) f fits y z = go f.outcome z y
      where
        s : Local
        s = at w e.peer

        it : TrueItem order p (record_of w) s.me f.item
        it = Each_at (TrueItem order p (record_of w) s.me) s.pending k f.item fits.there (i.truth.locals e.peer h.in_range).pending

        go : (o : Outcome) → is_named o ≡ true → record_of v (next_name s) ≡ recorded (next_name s) (kept s k f.item o f.hit).known → (r : Record) × (record_of v (next_name s) ≡ Some r) × Each (λ m. has x.names m ≡ true) r.cites
        go (Named n) z y = (
          new_record s f.item,
          y ∙ recorded_new (next_name s) (struck s.me f.hit (next_name s) (taken s k f.item (Named n)).known) (held (new_record s f.item) ∷ [])
              (struck_tally (next_name s) s.me f.hit (next_name s) (taken s k f.item (Named n)).known ∙ resolved_of (next_name s) f.item.origin (resolution (Named n) (equations_of f.item.steps)) s.known ∙ new_name order q p policy w e v h i)
              ∙ rw (name_eq_refl (next_name s)) refl,
          cites_from (λ m. has x.names m ≡ true) f.item.steps
              (Each_weaker (λ st. Each (λ n. (r : Record) × (record_of w n ≡ Some r)) (names_in st)) (λ st. Each (λ m. has x.names m ≡ true) (names_in st))
              (λ st g. Each_weaker (λ n. (r : Record) × (record_of w n ≡ Some r)) (λ m. has x.names m ≡ true) (λ m g. x.all m g.0 g.1) (names_in st) g) f.item.steps
              (lead_names order q p (record_of w) None f.item.steps f.item.clause it.leads)),
        )
        go Trivial z y = absurd cc
        go (Subsumed d) z y = absurd cc
    named_item (Receive l) f fits y z = absurd cc
    named_item (Admit k) f fits y z = absurd cc
    named_item (Reject k) f fits y z = absurd cc
    named_item (Work u) f fits y z = absurd cc
    named_item Pass f fits y z = absurd cc
    named_item Declare f fits y z = absurd cc
    named_item (End u) f fits y z = absurd cc

    names_step : (ns : List Name) × IsOrdered (record_of v) ns × ((n : Name) (r : Record) → record_of v n ≡ Some r → has ns n ≡ true)
    names_step = go (naming e.act h.found) refl
      where
        here : record_of v (next_name (at w e.peer)) ≡ recorded (next_name (at w e.peer)) (acted (at w e.peer) e.act h.found).known
        here = ap (λ k. recorded (next_name (at w e.peer)) (at v k).known) (sym (step_me order p w e v h)) ∙ ap (λ s. recorded (next_name (at w e.peer)) s.known) (at_same order p w e v h)

        go : (b : Bool) → naming e.act h.found ≡ b → (ns : List Name) × IsOrdered (record_of v) ns × ((n : Name) (r : Record) → record_of v n ≡ Some r → has ns n ≡ true)
        go true y =
            let z = named_item e.act h.found h.legal.fits here y in (
              next_name (at w e.peer) ∷ x.names,
              (z.0, z.1, z.2, ordered_grows x.names x.ordered),
              (λ n r g. elim (back n r g) [
                | inl a ↦ (let k = x.all n r a in elim (name_eq (next_name (at w e.peer)) n) as (λ b. (b || has x.names n) ≡ true) [ true ↦ refl | false ↦ k ])
                | inr a ↦ (let k : name_eq (next_name (at w e.peer)) n ≡ true = ap (name_eq (next_name (at w e.peer))) a.1 ∙ name_eq_refl (next_name (at w e.peer)) in rw k refl)
              ]),
            )
        go false y = (x.names, ordered_grows x.names x.ordered, (λ n r g. elim (back n r g) [ inl a ↦ x.all n r a | inr a ↦ absurd (let k : false ≡ true = sym y ∙ a.0 in cc) ]))

    pub waving_step : IsWaving v
    waving_step = record {
      flows = flows_step order q p policy w e v h i going x.flows;
      held = at_each order p w e v h (λ k s. HeldFits v k s.token) (held_here e.act h.found refl h.legal.fits) (λ k l ne. held_step k (at w k).token (x.held k l));
      waiting = at_each order p w e v h (λ k s. Each (λ l. BodyFits v k l.body) s.waiting) (waiting_here e.act h.found h.legal.fits h.moved)
          (λ k l ne. Each_weaker (λ y. BodyFits w k y.body) (λ y. BodyFits v k y.body) (λ y. body_step k y.body) (at w k).waiting (x.waiting k l));
      travelling = moves_each (λ (l : Letter). BodyFits v l.to l.body) e.act w.travelling (sent (at w e.peer) e h.found) v.travelling h.moved
          (Each_weaker (λ y. BodyFits w y.to y.body) (λ y. BodyFits v y.to y.body) (λ y. body_step y.to y.body) w.travelling x.travelling) (sent_here e.act h.found refl h.legal.fits);
      names = names_step.0;
      ordered = names_step.1;
      all = names_step.2;
    }

  -- ---- a dead world
  module _ (w : World) (i : IsSound order p policy w) (x : IsWaving w) (dead : IsDead w) where
    -- a record whose cited names are known everywhere is known everywhere
    known_there : (r : Record) → Genuine (record_of w) r → (k : ℕ) → k < length w.locals → Each (λ m. is_known (at w k).known m ≡ true) r.cites → is_known (at w k).known r.name ≡ true
    known_there r g k l cited = by (cases_lt 0 (known_times r.name (at w k)))
      where
        some_known : (es : List Known) → 0 < tally (is_of r.name) es → is_known es r.name ≡ true
        some_known [] y = absurd (omega arith)
        some_known (e ∷ es) y = elim (is_of r.name e) as (λ b. 0 < cond b 1 0 + tally (is_of r.name) es → (b || is_known es r.name) ≡ true) [ true ↦ λ z. refl | false ↦ λ z. some_known es (omega (arith, z)) ] y

        none_travels : travelling_times r.name k w ≡ 0
        none_travels = let a = tally_le (is_kept_to r.name k) no_token (λ y z. kept_no_token y (and_true (eqb y.to k) (is_kept r.name y) z).1) w.travelling in let d = dead.travelling in omega (arith, a, d)
          where
            kept_no_token : (y : Letter) → is_kept r.name y ≡ true → no_token y ≡ true
            kept_no_token y z = go y.body z
              where
                go : (b : Body) → body_is_kept r.name b ≡ true → not (is_token_body b) ≡ true
                go (body.Kept c) z = refl
                go (body.Notice a b c) z = absurd cc
                go (body.Token t) z = absurd cc

        all_known : (ms : List Name) → Each (λ m. is_known (at w k).known m ≡ true) ms → list_all (is_known (at w k).known) ms ≡ true
        all_known [] y = refl
        all_known (m ∷ ms) y = rw y.0 (all_known ms y.1)

        by : (0 < known_times r.name (at w k)) ⊎ (known_times r.name (at w k) ≤ 0) → is_known (at w k).known r.name ≡ true
        by (inl a) = some_known (at w k).known a
        by (inr a) =
            let o = record_once order q p policy w i r g k l in
            let n = none_travels in
            let f = tally_place (is_kept r.name) (at w k).waiting (omega (arith, o, n, a)) in
            absurd (go f.0 f.0.body refl f.3 (Each_at (TrueLetter order p policy (length w.locals) (record_of w)) (at w k).waiting f.1 f.0 f.2 (i.truth.locals k l).waiting).says
            (Each_at (λ y. (no_token y && is_ready (at w k).known y) ≡ false) (at w k).waiting f.1 f.0 f.2 (dead.still k l).waiting))
          where
            go : (y : Letter) (b : Body) → y.body ≡ b → body_is_kept r.name y.body ≡ true → TrueBody order p policy (length w.locals) (record_of w) y.sender y.to y.body → (not (is_token_body y.body) && body_ready (at w k).known y.body) ≡ false → ⊥
            go y (body.Kept c) e z says ready =
                let z' : name_eq c.name r.name ≡ true = sym (ap (body_is_kept r.name) e) ∙ z in
                let says' = subst (TrueBody order p policy (length w.locals) (record_of w) y.sender y.to) e says in
                let s : Some c ≡ Some r = sym says'.0 ∙ ap (record_of w) (name_eq_true c.name r.name z') ∙ g in
                let s' : c ≡ r = cc in
                let yes : list_all (is_known (at w k).known) c.cites ≡ true = ap (λ (u : Record). list_all (is_known (at w k).known) u.cites) s' ∙ all_known r.cites cited in
                let no' : list_all (is_known (at w k).known) c.cites ≡ false = sym (ap (λ (u : Body). not (is_token_body u) && body_ready (at w k).known u) e) ∙ ready in
                let bad : true ≡ false = sym yes ∙ no' in cc
            go y (body.Notice a b c) e z says ready = let bad : false ≡ true = sym (ap (body_is_kept r.name) e) ∙ z in cc
            go y (body.Token t) e z says ready = let bad : false ≡ true = sym (ap (body_is_kept r.name) e) ∙ z in cc

    all_known : (ns : List Name) → IsOrdered (record_of w) ns → Each (λ n. (k : ℕ) → k < length w.locals → is_known (at w k).known n ≡ true) ns
    all_known [] y = tt
    all_known (n ∷ older) y =
        let rest = all_known older y.3 in
        let same : y.0.name ≡ n = recorded_named n (at w n.peer).known y.0 y.1 in (
          (λ k l. subst (λ (m : Name). is_known (at w k).known m ≡ true) same
              (known_there y.0 (named_genuine order q w n y.0 y.1) k l
              (Each_weaker (λ m. has older m ≡ true) (λ m. is_known (at w k).known m ≡ true) (λ m z. has_all (λ m. (k : ℕ) → k < length w.locals → is_known (at w k).known m ≡ true) older m z rest k l) y.0.cites y.2))),
          rest,
        )

    known_all : (n : Name) (r : Record) → record_of w n ≡ Some r → (k : ℕ) → k < length w.locals → is_known (at w k).known n ≡ true
    known_all n r g = has_all (λ m. (k : ℕ) → k < length w.locals → is_known (at w k).known m ≡ true) x.names n (x.all n r g) (all_known x.names x.ordered)

    -- a letter that waits is the token
    waits_token : (k : ℕ) → k < length w.locals → (place : ℕ) (y : Letter) → slice_get (at w k).waiting place ≡ Some y → is_token y ≡ true
    waits_token k l place y there = go y.body refl (Each_at (TrueLetter order p policy (length w.locals) (record_of w)) (at w k).waiting place y there (i.truth.locals k l).waiting).says
        (Each_at (λ y. (no_token y && is_ready (at w k).known y) ≡ false) (at w k).waiting place y there (dead.still k l).waiting)
      where
        go : (b : Body) → y.body ≡ b → TrueBody order p policy (length w.locals) (record_of w) y.sender y.to y.body → (not (is_token_body y.body) && body_ready (at w k).known y.body) ≡ false → is_token_body y.body ≡ true
        go (body.Kept c) e says ready =
            let says' = subst (TrueBody order p policy (length w.locals) (record_of w) y.sender y.to) e says in
            let a = some_of_tally (is_of c.name) (at w k).known (known_all c.name c says'.0 k l) in
            let b = tally_at (is_kept c.name) (at w k).waiting place y there (ap (body_is_kept c.name) e ∙ name_eq_refl c.name) in
            let o = record_once order q p policy w i c says'.0 k l in
            absurd (omega (arith, a, b, o))
        go (body.Notice of by c) e says ready =
            let says' = subst (TrueBody order p policy (length w.locals) (record_of w) y.sender y.to) e says in
            let a = known_all of says'.loser says'.recorded k l in
            let b = known_all by says'.lost.winner says'.lost.recorded k l in
            let no' : (is_known (at w k).known of && is_known (at w k).known by) ≡ false = sym (ap (λ (u : Body). not (is_token_body u) && body_ready (at w k).known u) e) ∙ ready in
            absurd (let bad : true ≡ false = sym (rw (a, b) refl) ∙ no' in cc)
        go (body.Token t) e says ready = ap is_token_body e

    tokens_only : (k : ℕ) → k < length w.locals → tally no_token (at w k).waiting ≡ 0
    tokens_only k l = none (at w k).waiting (λ j y g. waits_token k l j y g)
      where
        none : (ls : List Letter) → ((j : ℕ) (y : Letter) → slice_get ls j ≡ Some y → is_token y ≡ true) → tally no_token ls ≡ 0
        none [] f = refl
        none (y ∷ ls) f = let a : no_token y ≡ false = ap not (f 0 y refl) in let b = none ls (λ j z g. f (suc j) z g) in rw a (omega (arith, b))

  -- ---- the Declare
  module _ (w : World) (e : Event) (v : World) (h : WorldStep order p w e v) (i : IsSound order p policy w) (x : IsWaving w) where
    declares : (a : Act) (f : Found a) → IsDeclareAct a → Fits order p (at w e.peer) a f → Moves a w.travelling (sent_by (at w e.peer) e.time a f) v.travelling → at v e.peer ≡ record (acted (at w e.peer) a f) { clock = (at v e.peer).clock; journal = (at v e.peer).journal; count = (at v e.peer).count } → IsDeclared order p v
    declares (Rewrite k) f d fits m same = absurd d
    declares (Keep k) f d fits m same = absurd d
    declares (Receive l) f d fits m same = absurd d
    declares (Admit k) f d fits m same = absurd d
    declares (Reject k) f d fits m same = absurd d
    declares (Work t) f d fits m same = absurd d
    declares Pass f d fits m same = absurd d
    declares (End u) f d fits m same = absurd d
    declares Declare t d fits m same = record {
      closed = record { travelling = empty_travelling; waiting = λ k l. (waits k l).0; pending = λ k l. (waits k l).1; owed = λ k l. (waits k l).2 };
      first = subst (λ (k : ℕ). (at v k).verdict ≡ Some Saturated) zero_is (ap (λ (s : Local). s.verdict) same);
      others = λ k l ne. others k l ne;
      ends = ends;
    }
      where
        n_is : length v.locals ≡ length w.locals
        n_is = step_length order p w e v h

        zero_is : e.peer ≡ 0
        zero_is = sym (i.places e.peer h.in_range).0 ∙ fits.2.0

        fit : TokenFits w e.peer t
        fit = subst (HeldFits w e.peer) fits.1 (x.held e.peer h.in_range)

        full : (is_full (at w e.peer).peers t ≡ true) × (eqb (received_sum t.one) (sent_sum t.two) ≡ true)
        full = and_true (is_full (at w e.peer).peers t) (eqb (received_sum t.one) (sent_sum t.two)) fits.2.1

        one : length t.one ≡ length w.locals
        one = eqb-true _ _ (and_true (eqb (length t.one) (at w e.peer).peers) (eqb (length t.two) (at w e.peer).peers) full.0).0 ∙ (i.places e.peer h.in_range).1

        two : length t.two ≡ length w.locals
        two = eqb-true _ _ (and_true (eqb (length t.one) (at w e.peer).peers) (eqb (length t.two) (at w e.peer).peers) full.0).1 ∙ (i.places e.peer h.in_range).1

        dead : IsDead w
        dead =
            let s = fit.second one in
            let sums' : received_sum t.one ≡ sent_sum t.two = eqb-true _ _ full.1 in
            let none : sums_from sent_of (length t.two) w.locals ≡ 0 = rw two (sums_end sent_of w.locals) in
            let a = s.0 in let b = s.1 in
            s.2 (omega (arith, a, b, sums', none))

        held_one : ◌≡◌ {A = ℕ} (cond (is_some (at w e.peer).token) 1 0) 1
        held_one = rw fits.1 refl

        empty_travelling : v.travelling ≡ []
        empty_travelling =
            let a = tokens_some w.locals e.peer h.in_range in
            let b = i.tokens in
            let z = no_letters w.travelling (omega (arith, a, b, held_one)) dead.travelling in
            m ∙ rw z refl

        no_waiting : (k : ℕ) → k < length w.locals → (at w k).waiting ≡ []
        no_waiting k l = no_letters (at w k).waiting (none (same_or_not k e.peer)) (tokens_only w i x dead k l)
          where
            none : (k ≡ e.peer) ⊎ (k ≢ e.peer) → tally is_token (at w k).waiting ≡ 0
            none (inl s) = subst (λ (j : ℕ). tally is_token (at w j).waiting ≡ 0) (sym s) (let a = tokens_some w.locals e.peer h.in_range in let b = i.tokens in omega (arith, a, b, held_one))
            none (inr o) = let a = tokens_two w.locals k e.peer l h.in_range o in let b = i.tokens in omega (arith, a, b, held_one)

        no_token_at : (k : ℕ) → k < length w.locals → k ≢ e.peer → (at w k).token ≡ None
        no_token_at k l o = go (at w k).token (let a = tokens_two w.locals k e.peer l h.in_range o in let b = i.tokens in omega (arith, a, b, held_one))
          where
            go : (u : Option Token) → ◌≡◌ {A = ℕ} (cond (is_some u) 1 0) 0 → u ≡ None
            go None y = refl
            go (Some y) z = absurd (omega (arith, z))

        waits : (k : ℕ) → k < length v.locals → ((at v k).waiting ≡ []) × ((at v k).pending ≡ []) × ((at v k).owed ≡ [])
        waits k l = go (same_or_not k e.peer)
          where
            l' : k < length w.locals
            l' = omega (arith, l, n_is)

            go : (k ≡ e.peer) ⊎ (k ≢ e.peer) → ((at v k).waiting ≡ []) × ((at v k).pending ≡ []) × ((at v k).owed ≡ [])
            go (inl s) = subst (λ (j : ℕ). ((at v j).waiting ≡ []) × ((at v j).pending ≡ []) × ((at v j).owed ≡ [])) (sym s)
                (ap (λ (z : Local). z.waiting) same ∙ no_waiting e.peer h.in_range, ap (λ (z : Local). z.pending) same ∙ (dead.still e.peer h.in_range).pending, ap (λ (z : Local). z.owed) same ∙ (dead.still e.peer h.in_range).owed)
            go (inr o) = let z = at_other order p w e v h k o in (ap (λ (z : Local). z.waiting) z ∙ no_waiting k l', ap (λ (z : Local). z.pending) z ∙ (dead.still k l').pending, ap (λ (z : Local). z.owed) z ∙ (dead.still k l').owed)

        others : (k : ℕ) → k < length v.locals → k ≢ 0 → (at v k).verdict ≡ None
        others k l ne = ap (λ (z : Local). z.verdict) (at_other order p w e v h k (λ s. ne (s ∙ zero_is))) ∙ (dead.still k (omega (arith, l, n_is))).running

        ends : (e' : Event) (u : World) → WorldStep order p v e' u → ⊥
        ends e' u g = go (same_or_not e'.peer e.peer)
          where
            go : (e'.peer ≡ e.peer) ⊎ (e'.peer ≢ e.peer) → ⊥
            go (inl s) = let a : (at v e.peer).verdict ≡ Some Saturated = ap (λ (z : Local). z.verdict) same in
                let b : (at v e.peer).verdict ≡ None = subst (λ (j : ℕ). (at v j).verdict ≡ None) s g.legal.running in
                let c : Some Saturated ≡ None = sym a ∙ b in cc
            go (inr o) = by e'.act g.found g.legal.fits g.moved
              where
                l' : e'.peer < length w.locals
                l' = let z = g.in_range in omega (arith, z, n_is)

                z : at v e'.peer ≡ at w e'.peer
                z = at_other order p w e v h e'.peer o

                still : IsStill (at v e'.peer)
                still = subst IsStill (sym z) (dead.still e'.peer l')

                nothing_waits : (at v e'.peer).waiting ≡ []
                nothing_waits = (waits e'.peer g.in_range).0

                no_tok : (at v e'.peer).token ≡ None
                no_tok = ap (λ (y : Local). y.token) z ∙ no_token_at e'.peer l' o

                clash : (y : Token) → (at v e'.peer).token ≡ Some y → ⊥
                clash y k = let c : None ≡ Some y = sym no_tok ∙ k in cc

                by : (a : Act) (f : Found a) → Fits order p (at v e'.peer) a f → Moves a v.travelling (sent_by (at v e'.peer) e'.time a f) u.travelling → ⊥
                by (Rewrite k) f fits' m' = nothing_at (at v e'.peer).pending k f.item still.pending fits'.there
                by (Keep k) f fits' m' = nothing_at (at v e'.peer).pending k f.item still.pending fits'.there
                by (Receive y) f fits' m' = nothing_at v.travelling m'.0 y empty_travelling m'.1
                by (Admit k) f fits' m' = nothing_at (at v e'.peer).waiting k f.letter nothing_waits fits'.there
                by (Reject k) f fits' m' = nothing_at (at v e'.peer).waiting k f nothing_waits fits'.there
                by (Work y) f fits' m' = nothing_at (at v e'.peer).owed fits'.1.takes.place y still.owed fits'.1.takes.there
                by Pass f fits' m' = clash f fits'.1
                by Declare f fits' m' = clash f fits'.1
                by (End y) f fits' m' = end_not order (at v e'.peer) still y fits'

    pub declared : IsDeclareAct e.act → IsDeclared order p v
    declared d = declares e.act h.found d h.legal.fits h.moved (let s = at_same order p w e v h in s ∙ sym (ap (λ (z : Local). record (acted (at w e.peer) e.act h.found) { clock = z.clock; journal = z.journal; count = z.count }) s))

  -- ---- every run
  decide_declare : (a : Act) → IsDeclareAct a ⊎ (IsDeclareAct a → ⊥)
  decide_declare (Rewrite k) = inr (λ y. y)
  decide_declare (Keep k) = inr (λ y. y)
  decide_declare (Receive l) = inr (λ y. y)
  decide_declare (Admit k) = inr (λ y. y)
  decide_declare (Reject k) = inr (λ y. y)
  decide_declare (Work t) = inr (λ y. y)
  decide_declare Pass = inr (λ y. y)
  decide_declare Declare = inl tt
  decide_declare (End v) = inr (λ y. y)

  -- at each moment the token is right, or the run has ended by a Declare
  pub run_waves : (es : List Event) (w v : World) → Run order p w es v → IsSound order p policy w → IsWaving w → IsWaving v ⊎ IsDeclared order p v
  run_waves [] w v r i x = inl (subst IsWaving (sym r) x)
  run_waves (e ∷ es) w v r i x =
      elim (decide_declare e.act) [
        | inr going ↦ run_waves es r.0 v r.2 (step_sound order q p policy w e r.0 r.1 i) (waving_step w e r.0 r.1 i going x)
        | inl d ↦ inr (last es r.0 v (declared w e r.0 r.1 i x d) r.2)
      ]
    where
      last : (es : List Event) (u v : World) → IsDeclared order p u → Run order p u es v → IsDeclared order p v
      last [] u v d r = subst (IsDeclared order p) (sym r) d
      last (f ∷ fs) u v d r = absurd (d.ends f r.0 r.1)

  pub start_waves : (limits : Limits) (w : World) → IsStart p policy limits w → IsWaving w
  start_waves limits w s = record {
    flows = (let a = zeros sent_of w.locals (λ k l. (let f = s.fresh k l in ap sent_of f.2)) in let b = zeros received_of w.locals (λ k l. (let f = s.fresh k l in ap received_of f.2)) in let c : tally no_token w.travelling ≡ 0 = rw s.travelling refl in omega (arith, a, b, c));
    held = λ k l. (let f = s.fresh k l in rw f.2 (first k l));
    waiting = λ k l. (let f = s.fresh k l in rw f.2 tt);
    travelling = rw s.travelling tt;
    names = [];
    ordered = tt;
    all = λ n r g. absurd (none n r g);
  }
    where
      zeros : (f : Local → ℕ) (ls : List Local) → ((k : ℕ) → k < length ls → f (get_or ls k nobody) ≡ 0) → sums f ls ≡ 0
      zeros f [] h = refl
      zeros f (x ∷ ls) h = let a = h 0 (omega arith) in let b = zeros f ls (λ k l. h (suc k) (omega (arith, l))) in omega (arith, a, b)

      none : (n : Name) (r : Record) → record_of w n ≡ Some r → ⊥
      none n r x = by (cases_lt n.peer (length w.locals))
        where
          no_record : None ≡ Some r → ⊥
          no_record f = cc

          by : (n.peer < length w.locals) ⊎ (length w.locals ≤ n.peer) → ⊥
          by (inl l) = let f = s.fresh n.peer l in no_record (subst (λ (z : Local). recorded n z.known ≡ Some r) f.2 x)
          by (inr o) = no_record (subst (λ (z : Local). recorded n z.known ≡ Some r) (get_or_past w.locals n.peer nobody o) x)

      first : (k : ℕ) → k < length w.locals → HeldFits w k (first_token k)
      first k l = go (eqb k 0) refl
        where
          blank : Token
          blank = record { one = []; two = [] }

          go : (b : Bool) → eqb k 0 ≡ b → HeldFits w k (cond b (Some blank) None)
          go false e = tt
          go true e = record {
            place = (let z : k ≡ 0 = eqb-true k 0 e in let a : ltb (length {A = Count} []) (length w.locals) ≡ true = grind (arith, nat_tests, s.some_peer) in z ∙ sym (rw a refl));
            one = tt;
            two = tt;
            first = λ y. refl;
            bound = 0;
            second = λ y. absurd (let z = s.some_peer in omega (arith, y, z));
          }
