-- Every event but those of the token lowers the measure, unless it sets a verdict.
use Rattle.std.proofs.Common.{◌≡◌, ℕ, zero, suc, ◌+◌, ◌-◌, ◌*◌, ◌<◌, ◌≤◌, ◌≢◌, Bool, true, false, not, cond, eqb, List, [], ◌∷◌, length, get_or, arith, refl, ap, sym, ◌∙◌, subst, inl, inr, ◌⊎◌}
use Rattle.std.specs.Prelude.{slice_get, slice_set, remove, Option, Some, None}
use Rattle.std.proofs.lemmas.List.{length-append, get_or_past}
use Rattle.std.proofs.lemmas.Bool.{cases_lt}
use Rattle.std.proofs.lemmas.Bool.Decides.{nat_tests}
use Rattle.cd_names.specs.declared.How.TheVariants as how
use Rattle.cd_ledger.specs.declared.letters.Body.TheVariants as body
use Rattle.cd_ledger.specs.declared.events.Verdict.TheVariants as verdict
use Rattle.cd_clause.specs.declared.Clause.{Clause}
use Rattle.cd_names.specs.declared.names.Name.{Name}
use Rattle.cd_names.specs.declared.How.{How}
use Rattle.cd_contract.specs.declared.held.Hit.{Hit}
use Rattle.cd_ledger.specs.declared.items.Origin.{Origin}
use Rattle.cd_ledger.specs.declared.items.Item.{Item}
use Rattle.cd_ledger.specs.declared.records.Status.{Status}
use Rattle.cd_ledger.specs.declared.records.Known.{Known}
use Rattle.cd_ledger.specs.declared.items.Outcome.{Outcome}
use Rattle.cd_ledger.specs.declared.items.Outcome.TheVariants.{Named, Subsumed, Trivial}
use Rattle.cd_ledger.specs.declared.letters.Body.{Body}
use Rattle.cd_ledger.specs.declared.events.Verdict.{Verdict}
use Rattle.cd_ledger.specs.declared.events.Verdict.TheVariants.{Saturated}
use Rattle.cd_names.specs.declared.ownership.Policy.{Policy}
use Rattle.cd_ledger.specs.declared.events.Act.{Act}
use Rattle.cd_ledger.specs.declared.events.Act.TheVariants.{Admit, Declare, End, Keep, Pass, Receive, Reject, Rewrite, Work}
use Rattle.cd_ledger.specs.declared.events.Event.{Event}
use Rattle.cd_ledger.specs.declared.local.Limits.{Limits}
use Rattle.cd_ledger.specs.declared.local.Local.{Local}
use Rattle.cd_list.specs.Lists.{tally}
use Rattle.std.specs.List.{AllByRecursion as Each}
use Rattle.std.specs.List.{cons_option}
use Rattle.cd_read.specs.declared.problem.Problem.{Problem}
use Rattle.cd_machine.specs.Rules.{is_empty}
use Rattle.cd_names.specs.Names.{name_eq}
use Rattle.cd_ledger.specs.Records.{equations_of, is_of}
use Rattle.cd_ledger.specs.Statuses.{is_held, status_holds}
use Rattle.cd_machine.specs.Contraction.{hit_on, loss, lost, named_hit, notice, notice_of, notices, rework_item, rework_of, reworks, struck, struck_by}
use Rattle.cd_machine.specs.Arrivals.{held, refuted_by}
use Rattle.cd_machine.specs.Acts.{admitted_body, body_letters, resolution, resolved, unshelved}
use Rattle.cd_machine.specs.Events.{Found, acted, after, is_token, is_token_body, no_token, receives, sent, sent_by}
use Rattle.cd_machine.specs.Fits.{Fits, OutcomeFits}
use Rattle.cd_machine.specs.World.{World, WorldStep, at, nobody}
use Rattle.cd_laws.specs.Premises.{Premises}
use Rattle.cd_machine.specs.Spread.{issued}
use Rattle.cd_laws.specs.Sound.{IsSound}
use Rattle.cd_laws.specs.Closing.{sums}
use Rattle.cd_laws.specs.Measure.{IsTokenAct, Lower, RunsFall, issued_all, issued_here, names_left, open_names, shelf, unheld_all, units_left}
use Rattle.cd_laws.proofs.Lists.{tally_append, tally_push, tally_put, tally_remove}
use Rattle.cd_laws.proofs.Steps.{at_same, moves_tally, name_eq_refl, step_length}
use Rattle.cd_laws.proofs.Strikes.{hit_held, loss_held, resolution_held, resolve_held, resolved_tally}
use Rattle.cd_laws.proofs.Closure.{Keeps, after_keeps}
use Rattle.cd_laws.proofs.Spread.{IsNoReject}
use Rattle.cd_laws.proofs.Truth.{eqb_false}
use Rattle.cd_laws.proofs.Whole.{new_name, no_reject, run_sound, step_sound}
use Rattle.cd_laws.proofs.Start.{start_sound}
use Rattle.cd_laws.proofs.Still.{sums_set}
use Rattle.cd_laws.proofs.Waves.{received_receives}
use Rattle.cd_kbo.specs.declared.order.Order.{Order}

-- ---- no peer knows more names than were issued
abbrev one_name : ℕ → ℕ → Name
one_name p k = record { peer = p; seq = k }

abbrev inner : ℕ → ℕ → List Known → ℕ
inner p zero es = 0
inner p (suc k) es = tally (is_of (one_name p k)) es + inner p k es

abbrev outer : ℕ → List Local → List Known → ℕ
outer p [] es = 0
outer p (s ∷ ss) es = inner p s.next_seq es + outer (p + 1) ss es

inner_cons : (p m : ℕ) (x : Known) (es : List Known) → inner p m es ≤ inner p m (x ∷ es)
inner_cons p zero x es = omega arith
inner_cons p (suc m) x es = omega (arith, inner_cons p m x es)

inner_hit : (p m : ℕ) (x : Known) (es : List Known) → x.entry.name.peer ≡ p → x.entry.name.seq < m → inner p m es + 1 ≤ inner p m (x ∷ es)
inner_hit p zero x es h l = absurd (omega (arith, l))
inner_hit p (suc m) x es h l = go (eqb x.entry.name.seq m) refl (inner_hit p m x es h)
  where
    go : (b : Bool) → eqb x.entry.name.seq m ≡ b → (x.entry.name.seq < m → inner p m es + 1 ≤ inner p m (x ∷ es)) → (tally (is_of (one_name p m)) es + inner p m es) + 1 ≤ (cond (is_of (one_name p m) x) 1 0 + tally (is_of (one_name p m)) es) + inner p m (x ∷ es)
    go true e ih =
        let a : eqb x.entry.name.peer p ≡ true = grind (arith, nat_tests, h) in
        let z : is_of (one_name p m) x ≡ true = rw (a, e) refl in
        let c : ◌≡◌ {A = ℕ} (cond (is_of (one_name p m) x) 1 0) 1 = ap {B = ℕ} (λ (b : Bool). cond b 1 0) z in
        let i = inner_cons p m x es in omega (arith, c, i)
    go false e ih =
        let l' : x.entry.name.seq < m = (let ne = eqb_false x.entry.name.seq m e in omega (arith, l, ne)) in
        let i = ih l' in omega (arith, i)

outer_cons : (p : ℕ) (ls : List Local) (x : Known) (es : List Known) → outer p ls es ≤ outer p ls (x ∷ es)
outer_cons p [] x es = omega arith
outer_cons p (s ∷ ls) x es = omega (arith, inner_cons p s.next_seq x es, outer_cons (p + 1) ls x es)

outer_hit : (p : ℕ) (ls : List Local) (j : ℕ) (x : Known) (es : List Known) → x.entry.name.peer ≡ p + j → j < length ls → x.entry.name.seq < (get_or ls j nobody).next_seq → outer p ls es + 1 ≤ outer p ls (x ∷ es)
outer_hit p [] j x es h l g = absurd (omega (arith, l))
outer_hit p (s ∷ ls) zero x es h l g = omega (arith, inner_hit p s.next_seq x es (omega (arith, h)) g, outer_cons (p + 1) ls x es)
outer_hit p (s ∷ ls) (suc j) x es h l g = omega (arith, inner_cons p s.next_seq x es, outer_hit (p + 1) ls j x es (omega (arith, h)) (omega (arith, l)) g)

inner_le : (p m : ℕ) (es : List Known) → ((n : Name) → tally (is_of n) es ≤ 1) → inner p m es ≤ m
inner_le p zero es h = omega arith
inner_le p (suc m) es h = let a = h (one_name p m) in let b = inner_le p m es h in omega (arith, a, b)

outer_le : (p : ℕ) (ls : List Local) (es : List Known) → ((n : Name) → tally (is_of n) es ≤ 1) → outer p ls es ≤ sums issued_here ls
outer_le p [] es h = omega arith
outer_le p (s ∷ ls) es h = let a = inner_le p s.next_seq es h in let b = outer_le (p + 1) ls es h in omega (arith, a, b)

known_le : (ls : List Local) (es : List Known) → Each (λ x. (x.entry.name.peer < length ls) × (x.entry.name.seq < (get_or ls x.entry.name.peer nobody).next_seq)) es → length es ≤ outer 0 ls es
known_le ls [] h = omega arith
known_le ls (x ∷ es) h =
    let a = outer_hit 0 ls x.entry.name.peer x es (omega arith) h.0.0 h.0.1 in
    let b = known_le ls es h.1 in
    let len : length (x ∷ es) ≡ 1 + length es = omega arith in
    omega (arith, a, b, len)

tally_length : {A : Type 0} (t : A → Bool) (xs : List A) → tally t xs ≤ length xs
tally_length t [] = omega arith
tally_length t (x ∷ xs) = let a = tally_length t xs in let len : length (x ∷ xs) ≡ 1 + length xs = omega arith in elim (t x) as (λ b. cond b 1 0 + tally t xs ≤ length (x ∷ xs)) [ true ↦ omega (arith, a, len) | false ↦ omega (arith, a, len) ]

pub unheld_few : (order : Order) → (p : Problem) (policy : Policy) (w : World) → IsSound order p policy w → (k : ℕ) → k < length w.locals → unheld_all (at w k) ≤ issued_all w
unheld_few order p policy w i k l =
    let a = tally_length (λ e. not (is_held e)) (at w k).known in
    let b = known_le w.locals (at w k).known (each_issued (at w k).known (λ n. (let s = i.spread n k l in omega (arith, s)))) in
    let c = outer_le 0 w.locals (at w k).known (i.counted k l).once in
    omega (arith, a, b, c)
  where
    each_issued : (es : List Known) → ((n : Name) → tally (is_of n) es ≤ issued n w) → Each (λ x. (x.entry.name.peer < length w.locals) × (x.entry.name.seq < (at w x.entry.name.peer).next_seq)) es
    each_issued [] f = tt
    each_issued (x ∷ es) f = (go (f x.entry.name) (cases_lt x.entry.name.peer (length w.locals)), each_issued es (λ n. (let a = f n in omega (arith, a))))
      where
        go : cond (name_eq x.entry.name x.entry.name) 1 0 + tally (is_of x.entry.name) es ≤ issued x.entry.name w → (x.entry.name.peer < length w.locals) ⊎ (length w.locals ≤ x.entry.name.peer)
            → (x.entry.name.peer < length w.locals) × (x.entry.name.seq < (at w x.entry.name.peer).next_seq)
        go y c =
            let one : ◌≡◌ {A = ℕ} (cond (name_eq x.entry.name x.entry.name) 1 0) 1 = ap {B = ℕ} (λ (b : Bool). cond b 1 0) (name_eq_refl x.entry.name) in
            let pos : 0 < issued x.entry.name w = omega (arith, y, one) in
            let seq : x.entry.name.seq < (at w x.entry.name.peer).next_seq = grind (arith, nat_tests, pos) in
            (in_range c seq, seq)
          where
            in_range : (x.entry.name.peer < length w.locals) ⊎ (length w.locals ≤ x.entry.name.peer) → x.entry.name.seq < (at w x.entry.name.peer).next_seq → x.entry.name.peer < length w.locals
            in_range (inl a) s = a
            in_range (inr a) s = absurd (let z : (at w x.entry.name.peer).next_seq ≡ 0 = ap (λ (u : Local). u.next_seq) (get_or_past w.locals x.entry.name.peer nobody a) in omega (arith, s, z))

-- ---- what an event does to its peer's numbers
-- strikes pay for their notices and items
strikes_pay : (me time : ℕ) (hit : Known → Option How) (d : Name) (es : List Known)
    → 2 * tally no_token (notices me time hit d es) + length (reworks me hit d es) + 3 * tally (λ e. not (is_held e)) es ≤ 3 * tally (λ e. not (is_held e)) (struck me hit d es)
strikes_pay me time hit d [] = omega arith
strikes_pay me time hit d (e ∷ es) = go (hit_on hit e) refl (strikes_pay me time hit d es) (tally_put no_token (notice_of me time d e.entry (hit_on hit e)) (notices me time hit d es))
  where
    len_put : (o : Option Item) → length (cons_option o (reworks me hit d es)) ≡ length (cons_option o []) + length (reworks me hit d es)
    len_put None = omega arith
    len_put (Some i) = omega arith

    pay : (h : How) → 2 * tally no_token (cons_option (notice_of me time d e.entry (Some h)) []) + length (cons_option (rework_of me d e.entry (Some h)) []) ≤ 3
    pay how.Subsumes = elim (eqb e.entry.owner me) as (λ b. 2 * tally no_token (cons_option (cond b None (Some (notice me time d how.Subsumes e.entry))) []) + length {A = Item} [] ≤ 3) [ true ↦ omega arith | false ↦ omega arith ]
    pay how.Reduces = elim (eqb e.entry.owner me) as (λ b. 2 * tally no_token (cons_option (cond b None (Some (notice me time d how.Reduces e.entry))) []) + length (cons_option (cond b (Some (rework_item d e.entry)) None) []) ≤ 3) [ true ↦ omega arith | false ↦ omega arith ]

    go : (o : Option How) → hit_on hit e ≡ o
        → 2 * tally no_token (notices me time hit d es) + length (reworks me hit d es) + 3 * tally (λ e. not (is_held e)) es ≤ 3 * tally (λ e. not (is_held e)) (struck me hit d es)
        → tally no_token (cons_option (notice_of me time d e.entry o) (notices me time hit d es)) ≡ tally no_token (cons_option (notice_of me time d e.entry o) []) + tally no_token (notices me time hit d es)
        → 2 * tally no_token (cons_option (notice_of me time d e.entry o) (notices me time hit d es)) + length (cons_option (rework_of me d e.entry o) (reworks me hit d es)) + 3 * (cond (not (is_held e)) 1 0 + tally (λ e. not (is_held e)) es)
        ≤ 3 * (cond (not (is_held (struck_by me d e o))) 1 0 + tally (λ e. not (is_held e)) (struck me hit d es))
    go None x ih pt = omega (arith, ih)
    go (Some h) x ih pt =
        let was : not (is_held e) ≡ false = ap not (hit_held hit e h x) in
        let now : not (is_held (struck_by me d e (Some h))) ≡ true = ap not (loss_held me d h e.entry) in
        let l = len_put (rework_of me d e.entry (Some h)) in
        let c = pay h in
        rw (was, now) (omega (arith, ih, pt, l, c))

unheld_resolved : (o : Origin) (st : Status) → status_holds st ≡ false → (es : List Known) → tally (λ e. not (is_held e)) (resolved o st es) ≡ tally (λ e. not (is_held e)) es
unheld_resolved o st n es = resolved_tally (λ e. not (is_held e)) o st (λ m e. ap not (resolve_held m st e n)) es

length_remove : {A : Type 0} (xs : List A) (k : ℕ) (x : A) → slice_get xs k ≡ Some x → length xs ≡ length (remove xs k) + 1
length_remove [] k x h = absurd cc
length_remove (y ∷ xs) zero x h = omega arith
length_remove (y ∷ xs) (suc k) x h = let a = length_remove xs k x h in let b : length (y ∷ xs) ≡ 1 + length xs = omega arith in let c : length (y ∷ remove xs k) ≡ 1 + length (remove xs k) = omega arith in omega (arith, a, b, c)

-- an event that isn't the token's, names nothing, works nothing and ends nothing
abbrev Pays : Local → ℕ → (a : Act) → Found a → Type 0
Pays s time a f = 2 * tally no_token (sent_by s time a f) + shelf (acted s a f) + 3 * unheld_all s + 1 ≤ 3 * unheld_all (acted s a f) + shelf s + 2 * receives a

-- how an event lowers the measure, at its peer
pub data Falls' (s : Local) (time : ℕ) (a : Act) (f : Found a) : Type 0 where
  token : IsTokenAct a f → Falls' s time a f
  ends : ((acted s a f).verdict ≢ None) → Falls' s time a f
  works : (s.units < s.limits.steps) → (acted s a f).units ≡ s.units + 1 → (acted s a f).limits ≡ s.limits → Falls' s time a f
  names : (s.next_seq < 65536) → (acted s a f).next_seq ≡ s.next_seq + 1 → (acted s a f).units ≡ s.units → (acted s a f).limits ≡ s.limits → Falls' s time a f
  pays : Pays s time a f → (acted s a f).next_seq ≡ s.next_seq → (acted s a f).units ≡ s.units → (acted s a f).limits ≡ s.limits → Falls' s time a f

refuted_ends : (c : Clause) → is_empty c ≡ true → (v : Option Verdict) → refuted_by c v ≢ None
refuted_ends c h v x = let e : refuted_by c v ≡ Some verdict.Refuted = rw h refl in let z : Some verdict.Refuted ≡ None = sym e ∙ x in cc

lost_pays : (s : Local) (time : ℕ) (hit : Known → Option How) (d : Name) → 2 * tally no_token (notices s.me time hit d s.known) + length (lost s hit d).pending + 3 * unheld_all s ≤ 3 * unheld_all (lost s hit d) + length s.pending
lost_pays s time hit d = let a = strikes_pay s.me time hit d s.known in let b = length-append s.pending (reworks s.me hit d s.known) in omega (arith, a, b)

abbrev Paid : Local → ℕ → ℕ → (Known → Option How) → Body → Option Hit → Type 0
Paid s time k hit b o =
    (2 * tally no_token (body_letters s time b o hit) + shelf (admitted_body (unshelved s k) b o hit) + 3 * unheld_all s + 1 ≤ 3 * unheld_all (admitted_body (unshelved s k) b o hit) + shelf s + 2 * 0)
    × ((admitted_body (unshelved s k) b o hit).next_seq ≡ s.next_seq) × ((admitted_body (unshelved s k) b o hit).units ≡ s.units) × ((admitted_body (unshelved s k) b o hit).limits ≡ s.limits)

admit_pays : (s : Local) (time k : ℕ) (hit : Known → Option How) (b : Body) (o : Option Hit) → tally no_token s.waiting ≡ tally no_token (remove s.waiting k) + cond (not (is_token_body b)) 1 0
    → (is_token_body b ≡ true) ⊎ Paid s time k hit b o
admit_pays s time k hit (body.Kept r) None t =
    let a = lost_pays (unshelved s k) time hit r.name in
    let u = tally_push (λ e. not (is_held e)) (struck s.me hit r.name s.known) (held r) in
    inr (omega (arith, t, a, u), refl, refl, refl)
admit_pays s time k hit (body.Kept r) (Some x) t =
    let e : Known = record { entry = r; status = loss s.me x.by x.how r } in
    let u = tally_push (λ e. not (is_held e)) s.known e in
    let one : ◌≡◌ {A = ℕ} (cond (not (is_held e)) 1 0) 1 = ap {B = ℕ} (λ (b : Bool). cond (not b) 1 0) (loss_held s.me x.by x.how r) in
    let l = length-append s.pending (cons_option (rework_of s.me x.by r (Some x.how)) []) in
    let c = pay x.how in
    inr (omega (arith, t, u, one, l, c), refl, refl, refl)
  where
    pay : (h : How) → 2 * tally no_token (cons_option (notice_of s.me time x.by r (Some h)) []) + length (cons_option (rework_of s.me x.by r (Some h)) []) ≤ 3
    pay how.Subsumes = elim (eqb r.owner s.me) as (λ b. 2 * tally no_token (cons_option (cond b None (Some (notice s.me time x.by how.Subsumes r))) []) + length {A = Item} [] ≤ 3) [ true ↦ omega arith | false ↦ omega arith ]
    pay how.Reduces = elim (eqb r.owner s.me) as (λ b. 2 * tally no_token (cons_option (cond b None (Some (notice s.me time x.by how.Reduces r))) []) + length (cons_option (cond b (Some (rework_item x.by r)) None) []) ≤ 3) [ true ↦ omega arith | false ↦ omega arith ]
admit_pays s time k hit (body.Notice of by w) o t =
    let a = lost_pays (unshelved s k) time (named_hit of w) by in
    inr (omega (arith, t, a), refl, refl, refl)
admit_pays s time k hit (body.Token y) o t = inl refl

pub falls_acted : (order : Order) → (p : Problem) (s : Local) (time : ℕ) (a : Act) (f : Found a) → Fits order p s a f → IsNoReject a → Falls' s time a f
falls_acted order p s time (Rewrite k) f fits fine = works fits.left refl refl
falls_acted order p s time (Keep k) f fits fine = go f.outcome fits.outcome
  where
    len : length s.pending ≡ length (remove s.pending k) + 1
    len = length_remove s.pending k f.item fits.there

    go : (o : Outcome) → OutcomeFits s f.item o → Falls' s time (Keep k) (record { item = f.item; outcome = o; hit = f.hit })
    go (Named n) x = elim x.3 [ inl room ↦ names room refl refl refl | inr empty ↦ ends (refuted_ends f.item.clause empty s.verdict) ]
    go Trivial x = pays (let u = unheld_resolved f.item.origin (resolution Trivial (equations_of f.item.steps)) (resolution_held Trivial (equations_of f.item.steps)) s.known in omega (arith, u, len)) refl refl refl
    go (Subsumed d) x = pays (let u = unheld_resolved f.item.origin (resolution (Subsumed d) (equations_of f.item.steps)) (resolution_held (Subsumed d) (equations_of f.item.steps)) s.known in omega (arith, u, len)) refl refl refl
falls_acted order p s time (Receive l) f fits fine = go (is_token l) refl
  where
    go : (b : Bool) → is_token l ≡ b → Falls' s time (Receive l) f
    go true e = token e
    go false e = pays (let t = tally_push no_token s.waiting l in
        let one : ◌≡◌ {A = ℕ} (cond (no_token l) 1 0) 1 = ap {B = ℕ} (λ (b : Bool). cond (not b) 1 0) e in
        let r : receives (Receive l) ≡ 1 = ap {B = ℕ} (λ (b : Bool). cond b 0 1) e in omega (arith, t, one, r)) refl refl refl
falls_acted order p s time (Admit k) f fits fine = by (admit_pays s time k f.hit f.letter.body f.forward (tally_remove no_token s.waiting k f.letter fits.there))
  where
    by : (is_token_body f.letter.body ≡ true) ⊎ Paid s time k f.hit f.letter.body f.forward → Falls' s time (Admit k) f
    by (inl x) = token x
    by (inr x) = pays x.0 x.1 x.2 x.3
falls_acted order p s time (Reject k) f fits fine = absurd fine
falls_acted order p s time (Work t) f fits fine = works fits.0 refl refl
falls_acted order p s time Pass f fits fine = token tt
falls_acted order p s time Declare f fits fine = ends (λ x. (let z : Some verdict.Saturated ≡ None = x in cc))
falls_acted order p s time (End v) f fits fine = ends (λ x. (let z : Some v ≡ None = x in cc))

-- ---- the measure of a world
pub sums_same : (f : Local → ℕ) (ls : List Local) (k : ℕ) (x : Local) → k < length ls → f x ≡ f (get_or ls k nobody) → sums f (slice_set ls k x) ≡ sums f ls
sums_same f ls k x l h = let a = sums_set f ls k x l in omega (arith, a, h)

sums_open : (m : ℕ) (ls : List Local) (k : ℕ) (x : Local) → k < length ls → unheld_all x ≤ m → unheld_all (get_or ls k nobody) ≤ unheld_all x
    → sums (open_names m) (slice_set ls k x) + (unheld_all x - unheld_all (get_or ls k nobody)) ≡ sums (open_names m) ls
sums_open m ls k x l h g = let a = sums_set (open_names m) ls k x l in omega (arith, a, h, g)

module _ (order : Order) (q : Premises order) (p : Problem) (policy : Policy) (w : World) (e : Event) (v : World) (h : WorldStep order p w e v) (i : IsSound order p policy w) where
  pub lowers : IsTokenAct e.act h.found ⊎ (((at v e.peer).verdict ≢ None) ⊎ Lower v w)
  lowers = go (falls_acted order p (at w e.peer) e.time e.act h.found h.legal.fits (no_reject order q p policy w e v h i))
    where
      s : Local
      s = at w e.peer

      t : Local
      t = after s e h.found

      sums_v : (f : Local → ℕ) → sums f v.locals ≡ sums f (slice_set w.locals e.peer t)
      sums_v f = ap (sums f) h.stepped

      go : Falls' s e.time e.act h.found → IsTokenAct e.act h.found ⊎ (((at v e.peer).verdict ≢ None) ⊎ Lower v w)
      go (token x) = inl x
      go (ends x) = inr (inl (subst (λ (u : Local). u.verdict ≢ None) (sym (at_same order p w e v h)) x))
      go (works room units limits) =
          inr (inr (inl (let a = sums_set units_left w.locals e.peer t h.in_range in let b = sums_v units_left in
          let c : units_left t + 1 ≡ units_left s = (let l = ap (λ (z : Limits). z.steps) limits in omega (arith, room, units, l)) in omega (arith, a, b, c))))
      go (names room next units limits) =
          inr (inr (inr (
            sums_v units_left ∙ sums_same units_left w.locals e.peer t h.in_range (let l = ap (λ (z : Limits). z.steps) limits in omega (arith, units, l)),
            inl (let a = sums_set names_left w.locals e.peer t h.in_range in let b = sums_v names_left in
                let c : names_left t + 1 ≡ names_left s = omega (arith, room, next) in omega (arith, a, b, c)),
          )))
      go (pays pay next units limits) =
          inr (inr (inr (
            sums_v units_left ∙ sums_same units_left w.locals e.peer t h.in_range (let l = ap (λ (z : Limits). z.steps) limits in omega (arith, units, l)),
            inr (
              sums_v names_left ∙ sums_same names_left w.locals e.peer t h.in_range (omega (arith, next)),
              (let issued_same : issued_all v ≡ issued_all w = sums_v issued_here ∙ sums_same issued_here w.locals e.peer t h.in_range next in
                  let few : unheld_all t ≤ issued_all w = (let z = unheld_few order p policy v (step_sound order q p policy w e v h i) e.peer (let l = h.in_range in let n = step_length order p w e v h in omega (arith, l, n)) in
                  let z' : unheld_all t ≤ issued_all v = subst (λ (u : Local). unheld_all u ≤ issued_all v) (at_same order p w e v h) z in omega (arith, z', issued_same)) in
                  let grows : unheld_all s ≤ unheld_all t = after_keeps order q (λ u. unheld_all s ≤ unheld_all u) (unheld_grows (unheld_all s)) p s e h.found h.legal.fits (new_name order q p policy w e v h i) (omega arith) in
                  let open' = sums_open (issued_all w) w.locals e.peer t h.in_range few grows in
                  let openv : sums (open_names (issued_all v)) v.locals ≡ sums (open_names (issued_all w)) (slice_set w.locals e.peer t) = ap (λ m. sums (open_names m) v.locals) issued_same ∙ sums_v (open_names (issued_all w)) in
                  let sh = sums_set shelf w.locals e.peer t h.in_range in
                  let shv = sums_v shelf in
                  let moved' = moves_tally no_token e.act w.travelling (sent s e h.found) v.travelling h.moved in
                  let rr = received_receives e.act in
                  omega (arith, pay, grows, open', openv, sh, shv, moved', rr)),
            ),
          )))
        where
          unheld_grows : (u : ℕ) → Keeps order (λ z. u ≤ unheld_all z)
          unheld_grows u = record {
            frame = λ s w t x k m l v j h. h;
            taken = λ s place i o there h. (let e = unheld_resolved i.origin (resolution o (equations_of i.steps)) (resolution_held o (equations_of i.steps)) s.known in omega (arith, e, h));
            lost = λ s hit d h. (let a = strikes_pay s.me 0 hit d s.known in omega (arith, h, a));
            joined = λ s r fresh calm h. (let a = tally_append (λ e. not (is_held e)) s.known (held r ∷ []) in omega (arith, h, a));
            shelved = λ s r d w fresh h. (let a = tally_append (λ e. not (is_held e)) s.known (record { entry = r; status = loss s.me d w r } ∷ []) in omega (arith, h, a));
            replaced = λ s place i j there same h. h;
            worked = λ s task y is h. h;
          }

pub runs_fall : (order : Order) → RunsFall order
runs_fall order q p policy limits start w v front e s r h = lowers order q p policy w e v h (run_sound order q p policy front start w r (start_sound order q p policy limits s.fit start s))
