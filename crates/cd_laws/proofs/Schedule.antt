-- The schedule: its token choices, and that it ends.
use Rattle.std.proofs.Common.{◌≡◌, ℕ, zero, suc, ◌+◌, ◌-◌, ◌*◌, ◌<◌, ◌≤◌, ◌≢◌, Bool, true, false, ◌&&◌, ◌||◌, not, cond, eqb, ltb, List, [], ◌∷◌, ◌++◌, map, length, get_or, arith, refl, ap, sym, ◌∙◌, subst, inl, inr, ◌⊎◌}
use Rattle.std.specs.Prelude.{find, slice_get, slice_set, remove, Option, Some, None}
use Rattle.std.proofs.lemmas.List.{length-append}
use Rattle.std.proofs.lemmas.Bool.{cases_lt, eqb-true}
use Rattle.std.proofs.lemmas.Bool.Decides.{nat_tests}
use Rattle.cd_ledger.specs.declared.letters.Body.TheVariants as body
use Rattle.cd_ledger.specs.declared.events.Verdict.TheVariants as verdict
use Rattle.cd_ledger.specs.declared.records.Known.{Known}
use Rattle.cd_contract.specs.declared.held.Hit.{Hit}
use Rattle.cd_names.specs.declared.waves.Count.{Count}
use Rattle.cd_names.specs.declared.waves.Token.{Token}
use Rattle.cd_ledger.specs.declared.letters.Body.{Body}
use Rattle.cd_ledger.specs.declared.letters.Letter.{Letter}
use Rattle.cd_ledger.specs.declared.events.Bound.TheVariants.{Bounds, Names}
use Rattle.cd_ledger.specs.declared.events.Verdict.{Verdict}
use Rattle.cd_names.specs.declared.ownership.Policy.{Policy}
use Rattle.cd_ledger.specs.declared.events.Act.{Act}
use Rattle.cd_ledger.specs.declared.events.Act.TheVariants.{Admit, Declare, End, Keep, Pass, Receive, Reject, Rewrite, Work}
use Rattle.cd_ledger.specs.declared.events.Event.{Event}
use Rattle.cd_ledger.specs.declared.local.Limits.{Limits}
use Rattle.cd_ledger.specs.declared.local.Local.{Local}
use Rattle.cd_list.specs.Lists.{tally}
use Rattle.std.specs.List.{AllByRecursion as Each}
use Rattle.std.specs.Prelude.{is_some}
use Rattle.cd_read.specs.declared.problem.Problem.{Problem}
use Rattle.cd_ledger.specs.Statuses.{is_held}
use Rattle.cd_machine.specs.Events.{Found, acted, after, is_token, is_token_body, no_token, receives, sent, sent_by}
use Rattle.cd_machine.specs.Fits.{BodyFine, Fits, body_ready, is_ready}
use Rattle.cd_machine.specs.Tokens.{passed, received_sum, sent_sum, wave_closed}
use Rattle.cd_machine.specs.Acts.{admitted_body, body_letters, unshelved}
use Rattle.cd_machine.specs.Turns.{EndsFirst, IsFirstReady, NoneReady}
use Rattle.cd_machine.specs.World.{IsStart, Moves, Run, World, WorldStep, at, nobody}
use Rattle.cd_laws.specs.Premises.{Premises}
use Rattle.cd_laws.specs.Sound.{IsSound, TrueToken, tokens_at, tokens_of}
use Rattle.cd_laws.specs.Closing.{HeldFits, IsDead, IsDeclared, IsStill, IsWaving, TokenFits, place_of, received_of, sent_of, sums}
use Rattle.cd_laws.specs.Measure.{IsTokenAct, Lower, issued_all, issued_here, names_left, open_names, shelf, third, units_left}
use Rattle.cd_machine.specs.Schedule.{IsChosen, IsOther, IsPick, IsRunning, IsTokenThere, Row, first_letter, has_work, held_declares, held_passes, is_cons, is_more, is_token_only, may_declare, more_by, only_by, token_choice}
use Rattle.cd_laws.specs.Schedule.{IsSchedule, RunsSchedule, Same, SchedulesEnd, Sinks, count_eq, counts_of, far, far_at, far_body, far_held, far_letters, fresh, hops, room}
use Rattle.cd_laws.proofs.Lists.{Each_at, Each_weaker, and_true, tally_push, tally_remove}
use Rattle.cd_laws.proofs.Steps.{moves_tally, step_length}
use Rattle.cd_laws.proofs.Spread.{IsNoReject}
use Rattle.cd_laws.proofs.Whole.{no_reject, run_sound, step_sound}
use Rattle.cd_laws.proofs.Start.{start_sound}
use Rattle.cd_laws.proofs.Still.{IsDeclareAct, end_not, nothing_at, sums_set}
use Rattle.cd_laws.proofs.Waves.{dead_step, passed_full, passed_one, passed_two, received_receives}
use Rattle.cd_laws.proofs.Declared.{declared, run_waves, start_waves, waving_step}
use Rattle.cd_laws.proofs.Measure.{lowers, sums_same}
use Rattle.cd_kbo.specs.declared.order.Order.{Order}

-- ---- first letters
first_split : (t : Letter → Bool) (front : List Letter) (l : Letter) (back : List Letter) → Each (λ x. t x ≡ false) front → t l ≡ true → find t (front ++ l ∷ back) ≡ Some l
first_split t [] l back h g = rw g refl
first_split t (x ∷ xs) l back h g = rw h.0 (first_split t xs l back h.1 g)

first_none : (t : Letter → Bool) (ls : List Letter) → Each (λ x. t x ≡ false) ls → find t ls ≡ None
first_none t [] h = refl
first_none t (x ∷ xs) h = rw h.0 (first_none t xs h.1)

none_first : (t : Letter → Bool) (ls : List Letter) → find t ls ≡ None → Each (λ x. t x ≡ false) ls
none_first t [] h = tt
none_first t (x ∷ xs) h = go (t x) refl h (none_first t xs)
  where
    go : (b : Bool) → t x ≡ b → cond b (Some x) (find t xs) ≡ None → (find t xs ≡ None → Each (λ x. t x ≡ false) xs) → (t x ≡ false) × Each (λ x. t x ≡ false) xs
    go true e y ih = absurd (let z : Some x ≡ None = y in cc)
    go false e y ih = (e, ih y)

some_same : (x y : Letter) → Some x ≡ Some y → x ≡ y
some_same x y h = cc

first_passes : (t : Letter → Bool) (ls : List Letter) (l : Letter) → find t ls ≡ Some l → t l ≡ true
first_passes t [] l h = absurd (let z : None ≡ Some l = h in cc)
first_passes t (x ∷ xs) l h = go (t x) refl h (first_passes t xs l)
  where
    go : (b : Bool) → t x ≡ b → cond b (Some x) (find t xs) ≡ Some l → (find t xs ≡ Some l → t l ≡ true) → t l ≡ true
    go true e y ih = (let z : x ≡ l = some_same x l y in subst (λ (m : Letter). t m ≡ true) z e)
    go false e y ih = ih y

place_split : (front : List Letter) (l : Letter) (back : List Letter) → slice_get (front ++ l ∷ back) (length front) ≡ Some l
place_split [] l back = refl
place_split (x ∷ xs) l back = place_split xs l back

pub ready_letter : (s : Local) (k : ℕ) (l : Letter) → IsFirstReady s k → slice_get s.waiting k ≡ Some l → first_letter s ≡ Some l
ready_letter s k l f h =
    let a : first_letter s ≡ Some f.letter = ap (find (is_ready s.known)) f.split ∙ first_split (is_ready s.known) f.front f.letter f.back f.first f.ready in
    let b : slice_get s.waiting k ≡ Some f.letter = ap (λ ls. slice_get ls k) f.split ∙ (ap (slice_get (f.front ++ f.letter ∷ f.back)) f.at ∙ place_split f.front f.letter f.back) in
    a ∙ (sym b ∙ h)

pub none_ready : (s : Local) → NoneReady s → first_letter s ≡ None
none_ready s h = first_none (is_ready s.known) s.waiting h

-- ---- what a turn is tells what its event is
cons_at : {A : Type 0} (xs : List A) (k : ℕ) (x : A) → slice_get xs k ≡ Some x → is_cons xs ≡ true
cons_at [] zero x h = cc
cons_at [] (suc k) x h = cc
cons_at (y ∷ ys) k x h = refl

busy : (s : Local) → NoneReady s → has_work s ≡ true → is_token_only s ≡ false
busy s h w = ap (only_by s) (none_ready s h) ∙ rw w refl

or_right : (a : Bool) → (a || true) ≡ true
or_right true = refl
or_right false = refl

works_pending : (s : Local) → is_cons s.pending ≡ true → has_work s ≡ true
works_pending s h = rw h refl

works_owed : (s : Local) → is_cons s.owed ≡ true → has_work s ≡ true
works_owed s h = rw h (or_right (is_cons s.pending))

may_is : (s : Local) (t : Token) → (s.me ≡ 0) → wave_closed s.peers t ≡ true → may_declare s t ≡ true
may_is s t h g = let a : eqb s.me 0 ≡ true = grind (arith, nat_tests, h) in rw (a, g) refl

may_not : (s : Local) (t : Token) → ((s.me ≡ 0) × (wave_closed s.peers t ≡ true) → ⊥) → may_declare s t ≡ false
may_not s t h = go (eqb s.me 0) (wave_closed s.peers t) refl refl
  where
    go : (a b : Bool) → eqb s.me 0 ≡ a → wave_closed s.peers t ≡ b → (a && b) ≡ false
    go true true x y = absurd (h (eqb-true s.me 0 x, y))
    go true false x y = refl
    go false b x y = refl

-- a token choice is an event of the token
pub tells : (order : Order) → (p : Problem) (s : Local) (a : Act) (f : Found a) → Fits order p s a f → IsNoReject a → IsChosen order s a → (token_choice s a ≡ true → IsTokenAct a f) × (token_choice s a ≡ false → IsTokenAct a f → ⊥)
tells order p s (Rewrite k) f fits fine c = (λ t. absurd (let z = busy s c.0 (works_pending s (cons_at s.pending k f.item fits.there)) in let y : true ≡ false = sym t ∙ z in cc), λ t x. x)
tells order p s (Keep k) f fits fine c = (λ t. absurd (let z = busy s c.0 (works_pending s (cons_at s.pending k f.item fits.there)) in let y : true ≡ false = sym t ∙ z in cc), λ t x. x)
tells order p s (Receive l) f fits fine c = (λ t. t, λ t x. (let y : true ≡ false = sym x ∙ t in cc))
tells order p s (Admit k) f fits fine c =
    let z : is_token_only s ≡ is_token f.letter = ap (only_by s) (ready_letter s k f.letter c fits.there) in
    (λ t. sym z ∙ t, λ t x. (let y : true ≡ false = sym x ∙ (sym z ∙ t) in cc))
tells order p s (Reject k) f fits fine c = absurd fine
tells order p s (Work t) f fits fine c = (λ t. absurd (let z = busy s c.0 (works_owed s (ap is_cons c.1.1.2)) in let y : true ≡ false = sym t ∙ z in cc), λ t x. x)
tells order p s Pass f fits fine c =
    let z : is_token_only s ≡ true = ap (only_by s) (none_ready s c) ∙ (let m = may_not s f fits.2 in rw (fits.0.pending, fits.0.owed, fits.1, m) refl) in
    (λ t. tt, λ t x. (let y : true ≡ false = sym z ∙ t in cc))
tells order p s Declare f fits fine c =
    let z : is_token_only s ≡ false = ap (only_by s) (none_ready s c) ∙ (let m = may_is s f fits.2.0 fits.2.1 in rw (fits.0.pending, fits.0.owed, fits.1, m) refl) in
    (λ t. absurd (let y : true ≡ false = sym t ∙ z in cc), λ t x. x)
tells order p s (End v) f fits fine c = (λ t. absurd (let z = busy s c.0 (ends v c.1) in let y : true ≡ false = sym t ∙ z in cc), λ t x. x)
  where
    ends : (v : Verdict) → EndsFirst order s v → has_work s ≡ true
    ends verdict.Refuted x = absurd x
    ends verdict.Saturated x = absurd x
    ends verdict.Spent (inl x) = works_pending s (ap is_cons x.2)
    ends verdict.Spent (inr x) = works_owed s (ap is_cons x.1.2)
    ends (verdict.Limit Bounds) (inl x) = works_pending s (ap is_cons x.2)
    ends (verdict.Limit Bounds) (inr x) = works_owed s (ap is_cons x.1.2)
    ends (verdict.Limit Names) x = works_pending s (ap is_cons x.2)

-- ---- the way of the token
fresh_push : (cs ts : List Count) (c : Count) → slice_get cs (length ts) ≡ Some c → fresh cs (ts ++ c ∷ []) ≡ fresh cs ts
fresh_push [] [] c h = cc
fresh_push [] (t ∷ ts) c h = refl
fresh_push (d ∷ cs) [] c h = let e : d ≡ c = cc in (let z : count_eq c c ≡ true = grind (arith, nat_tests) in rw (e, z) refl)
fresh_push (d ∷ cs) (t ∷ ts) c h = ap (λ b. count_eq d t && b) (fresh_push cs ts c h)

fresh_received : (cs ts : List Count) → fresh cs ts ≡ true → length ts ≡ length cs → (received_sum ts ≡ received_sum cs) × (sent_sum ts ≡ sent_sum cs)
fresh_received [] [] h e = (refl, refl)
fresh_received (c ∷ cs) [] h e = absurd (omega (arith, e))
fresh_received [] (t ∷ ts) h e = absurd (omega (arith, e))
fresh_received (c ∷ cs) (t ∷ ts) h e =
    let g = and_true (count_eq c t) (fresh cs ts) h in
    let k = and_true (eqb c.sent t.sent) (eqb c.received t.received) g.0 in
    let a = eqb-true c.sent t.sent k.0 in
    let b = eqb-true c.received t.received k.1 in
    let r = fresh_received cs ts g.1 (omega (arith, e)) in
    (let x = r.0 in omega (arith, x, b), let x = r.1 in omega (arith, x, a))

sums_received : (ls : List Local) → (received_sum (map (λ s. s.count) ls) ≡ sums received_of ls) × (sent_sum (map (λ s. s.count) ls) ≡ sums sent_of ls) × (length (map (λ s. s.count) ls) ≡ length ls)
sums_received [] = (refl, refl, refl)
sums_received (s ∷ ls) = let r = sums_received ls in (let x = r.0 in omega (arith, x), let x = r.1 in omega (arith, x), let x = r.2 in omega (arith, x))

counts_at : (ls : List Local) (k : ℕ) → k < length ls → slice_get (map (λ s. s.count) ls) k ≡ Some (get_or ls k nobody).count
counts_at [] k h = absurd (omega arith)
counts_at (s ∷ ls) zero h = refl
counts_at (s ∷ ls) (suc k) h = counts_at ls k (omega (arith, h))

-- a Pass comes nearer, unless both lists are full of the present counts
pub hop : (order : Order) → (n : ℕ) (cs : List Count) (t : Token) (q : ℕ) (c : Count) → 0 < n → length t.one ≤ n → length t.two ≤ n → (length t.one < n → t.two ≡ []) → q ≡ place_of n t → slice_get cs q ≡ Some c
    → (length t.one ≡ n → length t.two ≡ n → fresh cs t.one ≡ true → fresh cs t.two ≡ true → ⊥) → hops n cs (passed n c t) + 1 ≤ hops n cs t
hop order n cs t q c pos la lb first place there stale = by (cases_lt (length t.one) n) (cases_lt (length t.two) n)
  where
    in_one : length t.one < n → hops n cs (passed n c t) + 1 ≤ hops n cs t
    in_one l =
        let a : ltb (length t.one) n ≡ true = grind (arith, nat_tests, l) in
        let here : q ≡ length t.one = place ∙ rw a refl in
        let f : fresh cs (t.one ++ c ∷ []) ≡ fresh cs t.one = fresh_push cs t.one c (subst (λ (m : ℕ). slice_get cs m ≡ Some c) here there) in
        let len = length-append t.one (c ∷ []) in
        let two = first l in
        let z : length t.two ≡ 0 = rw two refl in
        rw (passed_one n c t l) (rw (a, f, two) (go (cases_lt (length (t.one ++ c ∷ [])) n) len z))
      where
        go : (length (t.one ++ c ∷ []) < n) ⊎ (n ≤ length (t.one ++ c ∷ [])) → length (t.one ++ c ∷ []) ≡ length t.one + length (c ∷ []) → length t.two ≡ 0
            → cond (ltb (length (t.one ++ c ∷ [])) n) (((n - length (t.one ++ c ∷ [])) + n) + cond (fresh cs t.one) 0 n) ((n - length {A = Count} []) + cond true (cond (fresh cs t.one) 0 n) (n + n)) + 1
            ≤ ((n - length t.one) + n) + cond (fresh cs t.one) 0 n
        go (inl m) len z = let b : ltb (length (t.one ++ c ∷ [])) n ≡ true = grind (arith, nat_tests, m) in rw b (omega (arith, len, m))
        go (inr m) len z = let b : ltb (length (t.one ++ c ∷ [])) n ≡ false = grind (arith, nat_tests, m) in rw b (omega (arith, len, l))

    in_two : length t.one ≡ n → length t.two < n → hops n cs (passed n c t) + 1 ≤ hops n cs t
    in_two e l =
        let a : ltb (length t.one) n ≡ false = grind (arith, nat_tests, e) in
        let b : ltb (length t.two) n ≡ true = grind (arith, nat_tests, l) in
        let here : q ≡ length t.two = place ∙ rw (a, b) refl in
        let f : fresh cs (t.two ++ c ∷ []) ≡ fresh cs t.two = fresh_push cs t.two c (subst (λ (m : ℕ). slice_get cs m ≡ Some c) here there) in
        let len = length-append t.two (c ∷ []) in
        rw (passed_two n c t e l) (rw (a, f) (omega (arith, len, l)))

    in_full : length t.one ≡ n → length t.two ≡ n → hops n cs (passed n c t) + 1 ≤ hops n cs t
    in_full e l =
        let a : ltb (length t.one) n ≡ false = grind (arith, nat_tests, e) in
        let b : ltb (length t.two) n ≡ false = grind (arith, nat_tests, l) in
        let here : q ≡ 0 = place ∙ rw (a, b) refl in
        let f : fresh cs (c ∷ []) ≡ true = fresh_push cs [] c (subst (λ (m : ℕ). slice_get cs m ≡ Some c) here there) in
        let one : length (c ∷ []) ≡ 1 = omega arith in
        rw (passed_full n c t e l) (rw (a, b, f) (go (fresh cs t.two) (fresh cs t.one) (stale e l) one))
      where
        go : (x y : Bool) → (y ≡ true → x ≡ true → ⊥) → length (c ∷ []) ≡ 1 → ((n - length (c ∷ [])) + cond true (cond x 0 n) (n + n)) + 1 ≤ (n - length t.two) + cond x (cond y 0 n) (n + n)
        go true true o one = absurd (o refl refl)
        go true false o one = omega (arith, one, pos)
        go false y o one = omega (arith, one, pos)

    by : (length t.one < n) ⊎ (n ≤ length t.one) → (length t.two < n) ⊎ (n ≤ length t.two) → hops n cs (passed n c t) + 1 ≤ hops n cs t
    by (inl a) b = in_one a
    by (inr a) (inl b) = in_two (omega (arith, a, la)) b
    by (inr a) (inr b) = in_full (omega (arith, a, la)) (omega (arith, b, lb))

-- ---- what an event of the token leaves
record Quietly (s : Local) (time : ℕ) (a : Act) (f : Found a) : Type 0 where
  known : (acted s a f).known ≡ s.known
  pending : (acted s a f).pending ≡ s.pending
  limits : (acted s a f).limits ≡ s.limits
  units : (acted s a f).units ≡ s.units
  next : (acted s a f).next_seq ≡ s.next_seq
  shelf : tally no_token (acted s a f).waiting ≡ tally no_token s.waiting
  sends : tally no_token (sent_by s time a f) ≡ 0
  takes : receives a ≡ 0

token_or : (b : Body) → is_token_body b ≡ true → (t : Token) × (b ≡ body.Token t)
token_or (body.Kept r) h = cc
token_or (body.Notice of by w) h = cc
token_or (body.Token t) h = (t, refl)

quietly : (order : Order) → (s : Local) (time : ℕ) (a : Act) (f : Found a) → (p : Problem) → Fits order p s a f → IsTokenAct a f → Quietly s time a f
quietly order s time (Rewrite k) f p fits x = absurd x
quietly order s time (Keep k) f p fits x = absurd x
quietly order s time (Receive l) f p fits x = record {
  known = refl;
  pending = refl;
  limits = refl;
  units = refl;
  next = refl;
  sends = refl;
  shelf = (let t = tally_push no_token s.waiting l in let z : ◌≡◌ {A = ℕ} (cond (no_token l) 1 0) 0 = ap {B = ℕ} (λ (b : Bool). cond (not b) 1 0) x in omega (arith, t, z));
  takes = ap {B = ℕ} (λ (b : Bool). cond b 0 1) x;
}
quietly order s time (Admit k) f p fits x = go f.letter.body f.forward x (tally_remove no_token s.waiting k f.letter fits.there)
  where
    go : (b : Body) (o : Option Hit) → is_token_body b ≡ true → tally no_token s.waiting ≡ tally no_token (remove s.waiting k) + cond (not (is_token_body b)) 1 0 → Quietly s time (Admit k) (record { letter = record f.letter { body = b }; forward = o; hit = f.hit })
    go (body.Kept r) o x y = cc
    go (body.Notice of by w) o x y = cc
    go (body.Token t) o x y = record { known = refl; pending = refl; limits = refl; units = refl; next = refl; sends = refl; takes = refl; shelf = omega (arith, y) }
quietly order s time (Reject k) f p fits x = absurd x
quietly order s time (Work t) f p fits x = absurd x
quietly order s time Pass f p fits x = record {
  known = elim (eqb s.peers 1) as (λ b. (cond b (record s { token = Some (passed s.peers s.count f) }) (record s { token = None })).known ≡ s.known) [ true ↦ refl | false ↦ refl ];
  pending = elim (eqb s.peers 1) as (λ b. (cond b (record s { token = Some (passed s.peers s.count f) }) (record s { token = None })).pending ≡ s.pending) [ true ↦ refl | false ↦ refl ];
  limits = elim (eqb s.peers 1) as (λ b. (cond b (record s { token = Some (passed s.peers s.count f) }) (record s { token = None })).limits ≡ s.limits) [ true ↦ refl | false ↦ refl ];
  units = elim (eqb s.peers 1) as (λ b. (cond b (record s { token = Some (passed s.peers s.count f) }) (record s { token = None })).units ≡ s.units) [ true ↦ refl | false ↦ refl ];
  next = elim (eqb s.peers 1) as (λ b. (cond b (record s { token = Some (passed s.peers s.count f) }) (record s { token = None })).next_seq ≡ s.next_seq) [ true ↦ refl | false ↦ refl ];
  shelf = elim (eqb s.peers 1) as (λ b. tally no_token (cond b (record s { token = Some (passed s.peers s.count f) }) (record s { token = None })).waiting ≡ tally no_token s.waiting) [ true ↦ refl | false ↦ refl ];
  sends = elim (eqb s.peers 1) as (λ b. tally no_token (cond b [] (record { sender = s.me; to = cond (eqb (s.me + 1) s.peers) 0 (s.me + 1); time = time; body = body.Token (passed s.peers s.count f) } ∷ [])) ≡ 0) [ true ↦ refl | false ↦ refl ];
  takes = refl;
}
quietly order s time Declare f p fits x = absurd x
quietly order s time (End v) f p fits x = absurd x

-- ---- how near the token comes
far_append : (n : ℕ) (cs : List Count) (k : ℕ) (xs ys : List Letter) → far_letters n cs k (xs ++ ys) ≡ far_letters n cs k xs + far_letters n cs k ys
far_append n cs k [] ys = omega arith
far_append n cs k (x ∷ xs) ys = let r = far_append n cs k xs ys in ap (λ m. far_body n cs k x.body + m) r ∙ regroup (far_body n cs k x.body) (far_letters n cs k xs) (far_letters n cs k ys)
  where
    regroup : (a b c : ℕ) → a + (b + c) ≡ (a + b) + c
    regroup a b c = omega arith

far_push : (n : ℕ) (cs : List Count) (k : ℕ) (xs : List Letter) (y : Letter) → far_letters n cs k (xs ++ y ∷ []) ≡ far_letters n cs k xs + far_body n cs k y.body
far_push n cs k xs y = far_append n cs k xs (y ∷ []) ∙ ap (λ m. far_letters n cs k xs + m) (zero_right (far_body n cs k y.body))
  where
    zero_right : (a : ℕ) → a + 0 ≡ a
    zero_right a = omega arith

far_remove : (n : ℕ) (cs : List Count) (k : ℕ) (xs : List Letter) (j : ℕ) (x : Letter) → slice_get xs j ≡ Some x → far_letters n cs k xs ≡ far_letters n cs k (remove xs j) + far_body n cs k x.body
far_remove n cs k [] j x h = absurd cc
far_remove n cs k (y ∷ xs) zero x h = let e : y ≡ x = cc in rw e (swap (far_body n cs k x.body) (far_letters n cs k xs))
  where
    swap : (a b : ℕ) → a + b ≡ b + a
    swap a b = omega arith
far_remove n cs k (y ∷ xs) (suc j) x h = let r = far_remove n cs k xs j x h in ap (λ m. far_body n cs k y.body + m) r ∙ regroup (far_body n cs k y.body) (far_letters n cs k (remove xs j)) (far_body n cs k x.body)
  where
    regroup : (a b c : ℕ) → a + (b + c) ≡ (a + b) + c
    regroup a b c = omega arith

abbrev taken_far : ℕ → List Count → Act → ℕ
taken_far n cs (Rewrite k) = 0
taken_far n cs (Keep k) = 0
taken_far n cs (Receive l) = far_body n cs 2 l.body
taken_far n cs (Admit k) = 0
taken_far n cs (Reject k) = 0
taken_far n cs (Work t) = 0
taken_far n cs Pass = 0
taken_far n cs Declare = 0
taken_far n cs (End v) = 0

module _ (order : Order) (n : ℕ) (cs : List Count) where
  joins : (before new after : List Letter) → after ≡ before ++ new → far_letters n cs 2 after + 0 ≡ far_letters n cs 2 before + far_letters n cs 2 new
  joins b m x h = rw h (zero_right (far_letters n cs 2 (b ++ m)) ∙ far_append n cs 2 b m)
    where
      zero_right : (a : ℕ) → a + 0 ≡ a
      zero_right a = omega arith

  moves_far : (a : Act) (before new after : List Letter) → Moves a before new after → far_letters n cs 2 after + taken_far n cs a ≡ far_letters n cs 2 before + far_letters n cs 2 new
  moves_far (Rewrite k) b m x h = joins b m x h
  moves_far (Keep k) b m x h = joins b m x h
  moves_far (Receive l) b m x h = rw h.2 (sum3 (far_letters n cs 2 (remove b h.0 ++ m)) (far_letters n cs 2 (remove b h.0)) (far_letters n cs 2 m) (far_letters n cs 2 b) (far_body n cs 2 l.body) (far_append n cs 2 (remove b h.0) m) (far_remove n cs 2 b h.0 l h.1))
    where
      sum3 : (x r m b t : ℕ) → x ≡ r + m → b ≡ r + t → x + t ≡ b + m
      sum3 x r m b t e f = omega (arith, e, f)
  moves_far (Admit k) b m x h = joins b m x h
  moves_far (Reject k) b m x h = joins b m x h
  moves_far (Work t) b m x h = joins b m x h
  moves_far Pass b m x h = joins b m x h
  moves_far Declare b m x h = joins b m x h
  moves_far (End v) b m x h = joins b m x h

  -- one event of the token at its peer
  nearer : (p : Problem) (s : Local) (time : ℕ) (a : Act) (f : Found a) → Fits order p s a f → IsTokenAct a f
      → ((t : Token) → s.token ≡ Some t → ((s.me ≡ 0) × (wave_closed s.peers t ≡ true) → ⊥) → hops n cs (passed s.peers s.count t) + 1 ≤ hops n cs t)
      → far_at n cs (acted s a f) + far_letters n cs 2 (sent_by s time a f) + 1 ≤ far_at n cs s + taken_far n cs a
  nearer p s time (Rewrite k) f fits x near = absurd x
  nearer p s time (Keep k) f fits x near = absurd x
  nearer p s time (Receive l) f fits x near = by (token_or l.body x)
    where
      by : (t : Token) × (l.body ≡ body.Token t) → (far_held n cs s.token + far_letters n cs 1 (s.waiting ++ l ∷ [])) + 0 + 1 ≤ (far_held n cs s.token + far_letters n cs 1 s.waiting) + far_body n cs 2 l.body
      by y = sums' (far_held n cs s.token) (far_letters n cs 1 (s.waiting ++ l ∷ [])) (far_letters n cs 1 s.waiting) (far_body n cs 1 l.body) (far_body n cs 2 l.body) (hops n cs y.0) (far_push n cs 1 s.waiting l) (ap (far_body n cs 1) y.1) (ap (far_body n cs 2) y.1)
        where
          sums' : (a b c d e h : ℕ) → b ≡ c + d → d ≡ 3 * h + 1 → e ≡ 3 * h + 2 → (a + b) + 0 + 1 ≤ (a + c) + e
          sums' a b c d e h x y z = omega (arith, x, y, z)
  nearer p s time (Admit k) f fits x near = go f.letter.body f.forward x fits.fine.3 (far_remove n cs 1 s.waiting k f.letter fits.there)
    where
      go : (b : Body) (o : Option Hit) → is_token_body b ≡ true → BodyFine order p s f.letter.sender b → far_letters n cs 1 s.waiting ≡ far_letters n cs 1 (remove s.waiting k) + far_body n cs 1 b
          → far_at n cs (admitted_body (unshelved s k) b o f.hit) + far_letters n cs 2 (body_letters s time b o f.hit) + 1 ≤ far_at n cs s + 0
      go (body.Kept r) o x y z = cc
      go (body.Notice of by w) o x y z = cc
      go (body.Token t) o x y z = rw y.0 (sums' (hops n cs t) (far_letters n cs 1 (remove s.waiting k)) (far_letters n cs 1 s.waiting) z)
        where
          sums' : (h b c : ℕ) → c ≡ b + (3 * h + 1) → (3 * h + b) + 0 + 1 ≤ (0 + c) + 0
          sums' h b c x = omega (arith, x)
  nearer p s time (Reject k) f fits x near = absurd x
  nearer p s time (Work t) f fits x near = absurd x
  nearer p s time Pass f fits x near = rw fits.1 (go (eqb s.peers 1) (hops n cs (passed s.peers s.count f)) refl (near f fits.1 fits.2))
    where
      go : (b : Bool) (m : ℕ) → m ≡ hops n cs (passed s.peers s.count f) → m + 1 ≤ hops n cs f
          → far_at n cs (cond b (record s { token = Some (passed s.peers s.count f) }) (record s { token = None }))
          + far_letters n cs 2 (cond b [] (record { sender = s.me; to = cond (eqb (s.me + 1) s.peers) 0 (s.me + 1); time = time; body = body.Token (passed s.peers s.count f) } ∷ [])) + 1
          ≤ (3 * hops n cs f + far_letters n cs 1 s.waiting) + 0
      go true m e l = rw (← e) (sums' m (hops n cs f) (far_letters n cs 1 s.waiting) l)
        where
          sums' : (m h c : ℕ) → m + 1 ≤ h → (3 * m + c) + 0 + 1 ≤ (3 * h + c) + 0
          sums' m h c x = omega (arith, x)
      go false m e l = rw (← e) (sums' m (hops n cs f) (far_letters n cs 1 s.waiting) l)
        where
          sums' : (m h c : ℕ) → m + 1 ≤ h → (0 + c) + ((3 * m + 2) + 0) + 1 ≤ (3 * h + c) + 0
          sums' m h c x = omega (arith, x)
  nearer p s time Declare f fits x near = absurd x
  nearer p s time (End v) f fits x near = absurd x

-- ---- the world
map_set : (ls : List Local) (k : ℕ) (x : Local) → k < length ls → x.count ≡ (get_or ls k nobody).count → map (λ s. s.count) (slice_set ls k x) ≡ map (λ s. s.count) ls
map_set [] k x l h = absurd (omega (arith, l))
map_set (s ∷ ls) zero x l h = ap (λ c. c ∷ map (λ s. s.count) ls) h
map_set (s ∷ ls) (suc k) x l h = ap (λ cs. s.count ∷ cs) (map_set ls k x (omega (arith, l)) h)

count_is : (c : Count) (a b : ℕ) → a ≡ 0 → b ≡ 0 → record { sent = c.sent + a; received = c.received + b } ≡ c
count_is c a b h g = rw (h, g) (ap (λ m. count_of m (c.received + 0)) (zero_right c.sent) ∙ ap (count_of c.sent) (zero_right c.received))
  where
    count_of : ℕ → ℕ → Count
    count_of x y = record { sent = x; received = y }

    zero_right : (a : ℕ) → a + 0 ≡ a
    zero_right a = omega arith

abbrev far_as : ℕ → List Count → World → ℕ
far_as n cs w = sums (far_at n cs) w.locals + far_letters n cs 2 w.travelling

module _ (order : Order) (q : Premises order) (p : Problem) (policy : Policy) (w : World) (e : Event) (v : World) (h : WorldStep order p w e v) (i : IsSound order p policy w) (tok : IsTokenAct e.act h.found) where
  quiet : Quietly (at w e.peer) e.time e.act h.found
  quiet = quietly order (at w e.peer) e.time e.act h.found p h.legal.fits tok

  sums_kept : (f : Local → ℕ) → f (after (at w e.peer) e h.found) ≡ f (at w e.peer) → sums f v.locals ≡ sums f w.locals
  sums_kept f x = ap (sums f) h.stepped ∙ sums_same f w.locals e.peer (after (at w e.peer) e h.found) h.in_range x

  travel : tally no_token v.travelling ≡ tally no_token w.travelling
  travel = let m = moves_tally no_token e.act w.travelling (sent (at w e.peer) e h.found) v.travelling h.moved in let r = received_receives e.act in let s = quiet.sends in let t = quiet.takes in omega (arith, m, r, s, t)

  pub token_same : Same v w
  token_same = (
    sums_kept units_left (let l = ap (λ (z : Limits). z.steps) quiet.limits in let u = quiet.units in omega (arith, l, u)),
    sums_kept names_left (let u = quiet.next in omega (arith, u)),
    (let issued : issued_all v ≡ issued_all w = sums_kept issued_here quiet.next in
        let opened : sums (open_names (issued_all v)) v.locals ≡ sums (open_names (issued_all w)) w.locals =
        ap (λ m. sums (open_names m) v.locals) issued ∙ sums_kept (open_names (issued_all w)) (ap (λ es. issued_all w - tally (λ x. not (is_held x)) es) quiet.known) in
        let shelved : sums shelf v.locals ≡ sums shelf w.locals = sums_kept shelf (let a = quiet.shelf in let b : length (acted (at w e.peer) e.act h.found).pending ≡ length (at w e.peer).pending = ap length quiet.pending in omega (arith, a, b)) in
        let t = travel in
        omega (arith, opened, shelved, t)),
  )

  counts_kept : counts_of v ≡ counts_of w
  counts_kept = ap (map (λ s. s.count)) h.stepped ∙ map_set w.locals e.peer (after (at w e.peer) e h.found) h.in_range
      (count_is (at w e.peer).count (tally no_token (sent_by (at w e.peer) e.time e.act h.found)) (receives e.act) quiet.sends quiet.takes)

  pub token_nears : IsWaving w → tally no_token w.travelling ≡ 0 → far v + 1 ≤ far w
  token_nears x none =
      let there = nearer order n cs p s e.time e.act h.found h.legal.fits tok near in
      let same : far v ≡ far_as n cs v = ap (λ m. far_as m (counts_of v) v) (step_length order p w e v h) ∙ ap (λ c. far_as n c v) counts_kept in
      let set : sums (far_at n cs) v.locals + far_at n cs s ≡ sums (far_at n cs) w.locals + far_at n cs (acted s e.act h.found) =
      ap (λ ls. sums (far_at n cs) ls + far_at n cs s) h.stepped ∙ sums_set (far_at n cs) w.locals e.peer (after s e h.found) h.in_range in
      let moved = moves_far order n cs e.act w.travelling (sent s e h.found) v.travelling h.moved in
      rw same (total (sums (far_at n cs) v.locals) (far_letters n cs 2 v.travelling) (sums (far_at n cs) w.locals) (far_letters n cs 2 w.travelling) (far_at n cs s) (far_at n cs (acted s e.act h.found)) (far_letters n cs 2 (sent s e h.found)) (taken_far n cs e.act) there set moved)
    where
      n : ℕ
      n = length w.locals

      cs : List Count
      cs = counts_of w

      s : Local
      s = at w e.peer

      total : (sv tv sw tw a b new t : ℕ) → b + new + 1 ≤ a + t → sv + a ≡ sw + b → tv + t ≡ tw + new → (sv + tv) + 1 ≤ sw + tw
      total sv tv sw tw a b new t x y z = omega (arith, x, y, z)

      me : s.me ≡ e.peer
      me = (i.places e.peer h.in_range).0

      peers : s.peers ≡ n
      peers = (i.places e.peer h.in_range).1

      near : (t : Token) → s.token ≡ Some t → ((s.me ≡ 0) × (wave_closed s.peers t ≡ true) → ⊥) → hops n cs (passed s.peers s.count t) + 1 ≤ hops n cs t
      near t has open' =
          subst (λ (m : ℕ). hops n cs (passed m s.count t) + 1 ≤ hops n cs t) (sym peers)
          (hop order n cs t e.peer s.count (let l = h.in_range in omega (arith, l)) short.0 short.1 fit.first fit.place (counts_at w.locals e.peer h.in_range) stale)
        where
          fit : TokenFits w e.peer t
          fit = subst (HeldFits w e.peer) has (x.held e.peer h.in_range)

          short : TrueToken n (Some t)
          short = subst (TrueToken n) has (i.truth.locals e.peer h.in_range).token

          stale : length t.one ≡ n → length t.two ≡ n → fresh cs t.one ≡ true → fresh cs t.two ≡ true → ⊥
          stale one two f g =
              let k = sums_received w.locals in
              let a = (fresh_received cs t.one f (one ∙ sym k.2)).0 in
              let b = (fresh_received cs t.two g (two ∙ sym k.2)).1 in
              let flows = x.flows in
              let ka = k.0 in let kb = k.1 in
              let sum : received_sum t.one ≡ sent_sum t.two = omega (arith, a, b, flows, ka, kb, none) in
              let first : eqb (length t.one) s.peers ≡ true = (let e = one ∙ sym peers in grind (arith, nat_tests, e)) in
              let second : eqb (length t.two) s.peers ≡ true = (let e = two ∙ sym peers in grind (arith, nat_tests, e)) in
              let third' : eqb (received_sum t.one) (sent_sum t.two) ≡ true = grind (arith, nat_tests, sum) in
              let la : ltb (length t.one) n ≡ false = grind (arith, nat_tests, one) in
              let lb : ltb (length t.two) n ≡ false = grind (arith, nat_tests, two) in
              open' (me ∙ (fit.place ∙ rw (la, lb) refl), rw (first, second, third') refl)

-- ---- one token is not further than nine passings and two
abbrev Few : ℕ → ℕ → ℕ → Type 0
Few top m x = (m ≡ 0 → x ≡ 0) × (m ≤ 1 → x ≤ top)

few_add : (top a b x y : ℕ) → Few top a x → Few top b y → Few top (a + b) (x + y)
few_add top a b x y f g = ((λ z. (let i = f.0 (omega (arith, z)) in let j = g.0 (omega (arith, z)) in omega (arith, i, j))), (λ z. go z (cases_lt 0 a)))
  where
    go : a + b ≤ 1 → (0 < a) ⊎ (a ≤ 0) → x + y ≤ top
    go z (inl k) = let i = f.1 (omega (arith, z)) in let j = g.0 (omega (arith, z, k)) in omega (arith, i, j)
    go z (inr k) = let i = f.0 (omega (arith, k)) in let j = g.1 (omega (arith, z)) in omega (arith, i, j)

hops_few : (n : ℕ) (cs : List Count) (t : Token) → hops n cs t ≤ 3 * n
hops_few n cs t = go (ltb (length t.one) n) (fresh cs t.one) (fresh cs t.two)
  where
    go : (a b c : Bool) → cond a (((n - length t.one) + n) + cond b 0 n) ((n - length t.two) + cond c (cond b 0 n) (n + n)) ≤ 3 * n
    go true true c = omega arith
    go true false c = omega arith
    go false true true = omega arith
    go false false true = omega arith
    go false b false = omega arith

module _ (n : ℕ) (cs : List Count) where
  body_few : (k : ℕ) (b : Body) → k ≤ 2 → Few (9 * n + 2) (cond (is_token_body b) 1 0) (far_body n cs k b)
  body_few k (body.Kept r) l = (λ z. refl, λ z. omega arith)
  body_few k (body.Notice of by w) l = (λ z. refl, λ z. omega arith)
  body_few k (body.Token t) l = (λ z. absurd (omega (arith, z)), λ z. bound (hops n cs t) (hops_few n cs t))
    where
      bound : (h : ℕ) → h ≤ 3 * n → 3 * h + k ≤ 9 * n + 2
      bound h x = omega (arith, x, l)

  letters_few : (k : ℕ) (ls : List Letter) → k ≤ 2 → Few (9 * n + 2) (tally is_token ls) (far_letters n cs k ls)
  letters_few k [] l = (λ z. refl, λ z. omega arith)
  letters_few k (x ∷ xs) l = few_add (9 * n + 2) (cond (is_token x) 1 0) (tally is_token xs) (far_body n cs k x.body) (far_letters n cs k xs) (body_few k x.body l) (letters_few k xs l)

  held_few : (t : Option Token) → Few (9 * n + 2) (cond (is_some t) 1 0) (far_held n cs t)
  held_few None = (λ z. refl, λ z. omega arith)
  held_few (Some t) = (λ z. absurd (omega (arith, z)), λ z. bound (hops n cs t) (hops_few n cs t))
    where
      bound : (h : ℕ) → h ≤ 3 * n → 3 * h ≤ 9 * n + 2
      bound h x = omega (arith, x)

  locals_few : (ls : List Local) → Few (9 * n + 2) (tokens_of ls) (sums (far_at n cs) ls)
  locals_few [] = (λ z. refl, λ z. omega arith)
  locals_few (s ∷ ls) = few_add (9 * n + 2) (tokens_at s) (tokens_of ls) (far_at n cs s) (sums (far_at n cs) ls)
      (few_add (9 * n + 2) (cond (is_some s.token) 1 0) (tally is_token s.waiting) (far_held n cs s.token) (far_letters n cs 1 s.waiting) (held_few s.token) (letters_few 1 s.waiting (omega arith)))
      (locals_few ls)

pub far_few : (order : Order) → (p : Problem) (policy : Policy) (w : World) → IsSound order p policy w → far w ≤ 9 * length w.locals + 2
far_few order p policy w i =
    let n = length w.locals in
    (few_add (9 * length w.locals + 2) (tokens_of w.locals) (tally is_token w.travelling) (sums (far_at (length w.locals) (counts_of w)) w.locals) (far_letters (length w.locals) (counts_of w) 2 w.travelling)
    (locals_few (length w.locals) (counts_of w) w.locals) (letters_few (length w.locals) (counts_of w) 2 w.travelling (omega arith))).1
    (let t = i.tokens in omega (arith, t))

-- ---- a peer without another choice
holder : (ls : List Local) → 0 < tokens_of ls → (k : ℕ) × (k < length ls) × (0 < tokens_at (get_or ls k nobody))
holder [] h = absurd (omega (arith, h))
holder (s ∷ ls) h = by (cases_lt 0 (tokens_at s)) (holder ls)
  where
    by : (0 < tokens_at s) ⊎ (tokens_at s ≤ 0) → (0 < tokens_of ls → (k : ℕ) × (k < length ls) × (0 < tokens_at (get_or ls k nobody))) → (k : ℕ) × (k < length (s ∷ ls)) × (0 < tokens_at (get_or (s ∷ ls) k nobody))
    by (inl l) ih = (0, omega arith, l)
    by (inr l) ih = let r = ih (omega (arith, h, l)) in (suc r.0, (let z = r.1 in omega (arith, z)), r.2)

token_ready : (es : List Known) (l : Letter) → is_token l ≡ true → is_ready es l ≡ true
token_ready es l h = go l.body h
  where
    go : (b : Body) → is_token_body b ≡ true → body_ready es b ≡ true
    go (body.Kept r) y = cc
    go (body.Notice of by w) y = cc
    go (body.Token t) y = refl

no_ready_token : (es : List Known) (ls : List Letter) → Each (λ l. is_ready es l ≡ false) ls → tally is_token ls ≡ 0
no_ready_token es [] h = refl
no_ready_token es (l ∷ ls) h = go (is_token l) refl (no_ready_token es ls h.1)
  where
    go : (b : Bool) → is_token l ≡ b → tally is_token ls ≡ 0 → cond (is_token l) 1 0 + tally is_token ls ≡ 0
    go true e ih = absurd (let a = token_ready es l e in let z : true ≡ false = sym a ∙ h.0 in cc)
    go false e ih = rw e (omega (arith, ih))

or_false : (a b : Bool) → (a || b) ≡ false → (a ≡ false) × (b ≡ false)
or_false true b h = cc
or_false false b h = (refl, h)

-- the parts of a peer with no ready letter that isn't More
no_more : (s : Local) → first_letter s ≡ None → is_more s ≡ false → (has_work s ≡ false) × (held_declares s s.token ≡ false)
no_more s e m = or_false (has_work s) (held_declares s s.token) (sym (ap (more_by s) e) ∙ m)

not_false : (b : Bool) → not b ≡ false → b ≡ true
not_false true h = refl
not_false false h = cc

only_there : (s : Local) → is_more s ≡ false → 0 < tokens_at s → is_token_only s ≡ true
only_there s m t = go (first_letter s) refl
  where
    held : (o : Option Token) → s.token ≡ o → has_work s ≡ false → held_declares s o ≡ false → 0 < cond (is_some o) 1 0 + tally is_token s.waiting → tally is_token s.waiting ≡ 0 → (not (has_work s) && held_passes s o) ≡ true
    held None e w d l z = absurd (omega (arith, l, z))
    held (Some y) e w d l z = rw (w, d) refl

    go : (o : Option Letter) → first_letter s ≡ o → is_token_only s ≡ true
    go (Some l) e = ap (only_by s) e ∙ not_false (is_token l) (sym (ap (more_by s) e) ∙ m)
    go None e =
        let n = no_more s e m in
        let z = no_ready_token s.known s.waiting (none_first (is_ready s.known) s.waiting e) in
        ap (only_by s) e ∙ held s.token refl n.0 n.1 t z

nil_of : {A : Type 0} (xs : List A) → is_cons xs ≡ false → xs ≡ []
nil_of [] h = refl
nil_of (x ∷ xs) h = cc

first_counts : (t u : Letter → Bool) (ls : List Letter) (l : Letter) → find t ls ≡ Some l → u l ≡ true → 0 < tally u ls
first_counts t u [] l h g = absurd (let z : None ≡ Some l = h in cc)
first_counts t u (x ∷ xs) l h g = go (t x) h (first_counts t u xs l)
  where
    go : (b : Bool) → cond b (Some x) (find t xs) ≡ Some l → (find t xs ≡ Some l → u l ≡ true → 0 < tally u xs) → 0 < cond (u x) 1 0 + tally u xs
    go true y ih = let z : x ≡ l = some_same x l y in let a : u x ≡ true = ap u z ∙ g in let b : ◌≡◌ {A = ℕ} (cond (u x) 1 0) 1 = ap {B = ℕ} (λ (b : Bool). cond b 1 0) a in omega (arith, b)
    go false y ih = let a = ih y g in omega (arith, a)

still_there : (s : Local) → s.verdict ≡ None → is_more s ≡ false → tally is_token s.waiting ≡ 0 → IsStill s
still_there s run m z = go (first_letter s) refl
  where
    go : (o : Option Letter) → first_letter s ≡ o → IsStill s
    go (Some l) e = absurd (let a = first_counts (is_ready s.known) is_token s.waiting l e (not_false (is_token l) (sym (ap (more_by s) e) ∙ m)) in omega (arith, a, z))
    go None e =
        let n = or_false (is_cons s.pending) (is_cons s.owed) (no_more s e m).0 in
        record {
          pending = nil_of s.pending n.0;
          owed = nil_of s.owed n.1;
          running = run;
          waiting = Each_weaker (λ l. is_ready s.known l ≡ false) (λ l. (no_token l && is_ready s.known l) ≡ false) (λ l x. rw x (elim (no_token l) as (λ b. (b && false) ≡ false) [ true ↦ refl | false ↦ refl ])) s.waiting (none_first (is_ready s.known) s.waiting e);
        }

-- ---- rows
not_declare : (a : Act) (f : Found a) → IsTokenAct a f → IsDeclareAct a → ⊥
not_declare (Rewrite k) f x y = y
not_declare (Keep k) f x y = y
not_declare (Receive l) f x y = y
not_declare (Admit k) f x y = y
not_declare (Reject k) f x y = y
not_declare (Work t) f x y = y
not_declare Pass f x y = y
not_declare Declare f x y = x
not_declare (End v) f x y = y

true_false : (b : Bool) → b ≡ true → b ≡ false → ⊥
true_false b h g = let z : true ≡ false = sym h ∙ g in cc

module _ (order : Order) (q : Premises order) (p : Problem) (policy : Policy) where
  -- a token choice is an event of the token
  pub is_token_act : (c d : ℕ) (w : World) (e : Event) (v : World) → IsSound order p policy w → (k : IsPick order p c w e d v) → token_choice (at w e.peer) e.act ≡ true → IsTokenAct e.act k.step.found
  is_token_act c d w e v i k t = (tells order p (at w e.peer) e.act k.step.found k.step.legal.fits (no_reject order q p policy w e v k.step i) k.chosen).0 t

  is_no_token_act : (c d : ℕ) (w : World) (e : Event) (v : World) → IsSound order p policy w → (k : IsPick order p c w e d v) → token_choice (at w e.peer) e.act ≡ false → IsTokenAct e.act k.step.found → ⊥
  is_no_token_act c d w e v i k t = (tells order p (at w e.peer) e.act k.step.found k.step.legal.fits (no_reject order q p policy w e v k.step i) k.chosen).1 t

  record Rowed (k c d : ℕ) (w v : World) : Type 0 where
    sound : IsSound order p policy v
    waving : IsWaving v
    length_is : length v.locals ≡ length w.locals
    counter : d ≡ c + k
    nears : tally no_token w.travelling ≡ 0 → far v + k ≤ far w
    dead : IsDead w → IsDead v

  rowed : (k c d : ℕ) (w v : World) → IsSound order p policy w → IsWaving w → Row order p k c w d v → Rowed k c d w v
  rowed zero c d w v i x r = subst (λ (u : World). Rowed zero c d w u) (sym r.1) (record { sound = i; waving = x; length_is = refl; counter = (let z = r.0 in omega (arith, z)); nears = λ z. omega arith; dead = λ z. z })
  rowed (suc k) c d w v i x r =
      let e = r.0 in let b = r.1 in let u = r.2 in let pick = r.3 in
      let tok = is_token_act c b w e u i pick r.4 in
      let iu = step_sound order q p policy w e u pick.step i in
      let xu = waving_step order q p policy w e u pick.step i (not_declare e.act pick.step.found tok) x in
      let rest = rowed k b d u v iu xu r.5 in
      let len = step_length order p w e u pick.step in
      let one : b ≡ c + 1 = pick.counter ∙ (let t = r.4 in rw t refl) in
      record {
        sound = rest.sound;
        waving = rest.waving;
        length_is = rest.length_is ∙ len;
        counter = (let z = rest.counter in omega (arith, z, one));
        nears = λ z. (let n = token_nears order q p policy w e u pick.step i tok x z in
            let z' = travel order q p policy w e u pick.step i tok in
            let m = rest.nears (z' ∙ z) in sums' (far v) (far u) (far w) n m);
        dead = λ z. rest.dead (dead_step order q p policy w e u pick.step i (not_declare e.act pick.step.found tok) z);
      }
    where
      sums' : (a b c : ℕ) → b + 1 ≤ c → a + k ≤ b → a + suc k ≤ c
      sums' a b c x y = omega (arith, x, y)

  module _ (w : World) (i : IsSound order p policy w) (x : IsWaving w) where
    leaves : (c d : ℕ) (e : Event) (v : World) → IsPick order p c w e d v → token_choice (at w e.peer) e.act ≡ true → Same v w
    leaves c d e v k t = token_same order q p policy w e v k.step i (is_token_act c d w e v i k t)

    drops : (c d : ℕ) (e : Event) (v : World) → IsPick order p c w e d v → token_choice (at w e.peer) e.act ≡ false → ((at v e.peer).verdict ≡ None → ⊥) ⊎ Lower v w
    drops c d e v k t = by (lowers order q p policy w e v k.step i)
      where
        by : IsTokenAct e.act k.step.found ⊎ (((at v e.peer).verdict ≢ None) ⊎ Lower v w) → ((at v e.peer).verdict ≡ None → ⊥) ⊎ Lower v w
        by (inl a) = absurd (is_no_token_act c d w e v i k t a)
        by (inr a) = a

    few : (k c d b : ℕ) (v u : World) (e : Event) → Row order p k c w d v → IsPick order p d v e b u → token_choice (at v e.peer) e.act ≡ true → IsOther v → k < 4 * length w.locals
    few k c d b v u e r pick t o = by (rowed k c d w v i x r) (cases_lt d (4 * length v.locals))
      where
        by : Rowed k c d w v → (d < 4 * length v.locals) ⊎ (4 * length v.locals ≤ d) → k < 4 * length w.locals
        by f (inl l) = let a = f.counter in let n = f.length_is in omega (arith, a, n, l)
        by f (inr g) = absurd (pick.left_out t g o)

    dozen : (k c d : ℕ) (v : World) → Row order p k c w d v → tally no_token w.travelling ≡ 0 → k ≤ 12 * length w.locals
    dozen zero c d v r z = omega arith
    dozen (suc k) c d v r z =
        let a = (rowed (suc k) c d w v i x r).nears z in
        let b = far_few order p policy w i in
        let l = r.3.step.in_range in
        sums' (far v) (far w) (length w.locals) a b (omega (arith, l))
      where
        sums' : (a b n : ℕ) → a + suc k ≤ b → b ≤ 9 * n + 2 → 0 < n → suc k ≤ 12 * n
        sums' a b n x y z = omega (arith, x, y, z)

    no_other_travels : (IsOther w → ⊥) → tally no_token w.travelling ≡ 0
    no_other_travels none = by (cases_lt 0 (tally no_token w.travelling))
      where
        by : (0 < tally no_token w.travelling) ⊎ (tally no_token w.travelling ≤ 0) → tally no_token w.travelling ≡ 0
        by (inl l) = absurd (none (inr l))
        by (inr l) = omega (arith, l)

    sinks : (c d : ℕ) (e : Event) (v : World) → IsPick order p c w e d v → ((at v e.peer).verdict ≡ None → ⊥) ⊎ Sinks d v c w
    sinks c d e v k = go (token_choice (at w e.peer) e.act) refl
      where
        go : (b : Bool) → token_choice (at w e.peer) e.act ≡ b → ((at v e.peer).verdict ≡ None → ⊥) ⊎ Sinks d v c w
        go false t = elim (drops c d e v k t) [ inl a ↦ inl a | inr a ↦ inr (inl a) ]
        go true t = inr (inr (leaves c d e v k t, room' (cases_lt c (4 * length w.locals))))
          where
            n_is : length v.locals ≡ length w.locals
            n_is = step_length order p w e v k.step

            d_is : d ≡ c + 1
            d_is = k.counter ∙ rw t refl

            room' : (c < 4 * length w.locals) ⊎ (4 * length w.locals ≤ c) → (room d v < room c w) ⊎ ((room d v ≡ room c w) × (far v < far w))
            room' (inl l) = inl (omega (arith, l, n_is, d_is))
            room' (inr g) = inr (omega (arith, g, n_is, d_is), less (far v) (far w) (token_nears order q p policy w e v k.step i (is_token_act c d w e v i k t) x (no_other_travels (λ o. k.left_out t g o))))
              where
                less : (a b : ℕ) → a + 1 ≤ b → a < b
                less a b x = omega (arith, x)

    more_false : (IsOther w → ⊥) → (k : ℕ) → k < length w.locals → is_more (at w k) ≡ false
    more_false none k l = go (is_more (at w k)) refl
      where
        go : (b : Bool) → is_more (at w k) ≡ b → b ≡ false
        go true e = absurd (none (inl (k, l, e)))
        go false e = refl

    there : (IsOther w → ⊥) → IsTokenThere w
    there none = by (cases_lt 0 (tally is_token w.travelling))
      where
        by : (0 < tally is_token w.travelling) ⊎ (tally is_token w.travelling ≤ 0) → IsTokenThere w
        by (inl l) = inr l
        by (inr l) =
            let h = holder w.locals (let t = i.tokens in omega (arith, t, l)) in
            inl (h.0, h.1, only_there (at w h.0) (more_false none h.0 h.1) h.2)

    still : IsRunning w → (IsOther w → ⊥) → ((k : ℕ) → k < length w.locals → tally is_token (at w k).waiting ≡ 0) → IsDead w
    still run none empty = record {
      still = λ k l. still_there (at w k) (run k l) (more_false none k l) (empty k l);
      travelling = no_other_travels none;
    }

    declares : (c d : ℕ) (e : Event) (v : World) → IsDead w → IsPick order p c w e d v → token_choice (at w e.peer) e.act ≡ false → e.act ≡ Declare
    declares c d e v dead k t = by e.act k.step.found k.step.legal.fits k.step.moved (no_reject order q p policy w e v k.step i) (is_no_token_act c d w e v i k t)
      where
        s : Local
        s = at w e.peer

        h : IsStill s
        h = dead.still e.peer k.step.in_range

        by : (a : Act) (f : Found a) → Fits order p s a f → Moves a w.travelling (sent_by s e.time a f) v.travelling → IsNoReject a → (IsTokenAct a f → ⊥) → a ≡ Declare
        by (Rewrite j) f fits m fine n = absurd (nothing_at s.pending j f.item h.pending fits.there)
        by (Keep j) f fits m fine n = absurd (nothing_at s.pending j f.item h.pending fits.there)
        by (Receive l) f fits m fine n = absurd (go (is_token l) refl)
          where
            go : (b : Bool) → is_token l ≡ b → ⊥
            go true y = n y
            go false y =
                let t = tally_remove no_token w.travelling m.0 l m.1 in
                let z : ◌≡◌ {A = ℕ} (cond (no_token l) 1 0) 1 = ap {B = ℕ} (λ (b : Bool). cond (not b) 1 0) y in
                let d' = dead.travelling in omega (arith, t, z, d')
        by (Admit j) f fits m fine n = absurd (go (is_token f.letter) refl (Each_at (λ x. (no_token x && is_ready s.known x) ≡ false) s.waiting j f.letter fits.there h.waiting) fits.ready)
          where
            go : (b : Bool) → is_token f.letter ≡ b → (not (is_token f.letter) && is_ready s.known f.letter) ≡ false → is_ready s.known f.letter ≡ true → ⊥
            go true y z r = n y
            go false y z r = let c' : true ≡ false = sym r ∙ (sym (rw y refl) ∙ z) in cc
        by (Reject j) f fits m fine n = absurd fine
        by (Work u) f fits m fine n = absurd (nothing_at s.owed fits.1.takes.place u h.owed fits.1.takes.there)
        by Pass f fits m fine n = absurd (n tt)
        by Declare f fits m fine n = refl
        by (End u) f fits m fine n = absurd (end_not order s h u fits)

    pub scheduled : IsSchedule order p w
    scheduled = record { leaves = leaves; lowers = drops; few = few; dozen = dozen; there = there; still = still; dead = λ k c d v r. (rowed k c d w v i x r).dead; declares = declares; sinks = sinks }

  run_length : (es : List Event) (w v : World) → Run order p w es v → length v.locals ≡ length w.locals
  run_length [] w v r = ap (λ (u : World). length u.locals) r
  run_length (e ∷ es) w v r = run_length es r.0 v r.2 ∙ step_length order p w e r.0 r.1

  -- a world that is reached and has no verdict is sound, and its token is right
  reached : (limits : Limits) (start w : World) (events : List Event) → IsStart p policy limits start → Run order p start events w → IsRunning w → IsSound order p policy w × IsWaving w
  reached limits start w events s r run =
      let i = start_sound order q p policy limits s.fit start s in
      (run_sound order q p policy events start w r i, by (run_waves order q p policy events start w r i (start_waves order q p policy limits start s)))
    where
      by : IsWaving w ⊎ IsDeclared order p w → IsWaving w
      by (inl x) = x
      by (inr d) = absurd (let a : (at w 0).verdict ≡ None = run 0 (let l = s.some_peer in let n = run_length events start w r in omega (arith, l, n)) in
          let b : Some verdict.Saturated ≡ None = sym d.first ∙ a in cc)

pub runs_schedule : (order : Order) → RunsSchedule order
runs_schedule order q p policy limits start w events s r run = let g = reached order q p policy limits start w events s r run in scheduled order q p policy w g.0 g.1

-- ---- the end: five numbers that sink in turn do so no more than finitely often
rank : (M : ℕ → ℕ) (P : ℕ → Type 0) → ((k : ℕ) → ((j : ℕ) → M j < M k → P j) → P k) → (k : ℕ) → P k
rank M P f k = below (suc (M k)) k (omega arith)
  where
    below : (m : ℕ) (j : ℕ) → M j < m → P j
    below zero j l = absurd (omega (arith, l))
    below (suc m) j l = f j (λ i g. below m i (omega (arith, l, g)))

module _ (A B C D E : ℕ → ℕ)
    (falls : (k : ℕ) → (A (suc k) < A k) ⊎ ((A (suc k) ≡ A k) × ((B (suc k) < B k) ⊎ ((B (suc k) ≡ B k) × ((C (suc k) < C k) ⊎ ((C (suc k) ≡ C k) × ((D (suc k) < D k) ⊎ ((D (suc k) ≡ D k) × (E (suc k) < E k)))))))))
  where
    -- from a place on the first four stay where they are, and the fifth falls
    fifth : (k : ℕ) → ((j : ℕ) → A j ≡ A k → B j ≡ B k → C j ≡ C k → D j < D k → ⊥) → ((j : ℕ) → A j ≡ A k → B j ≡ B k → C j < C k → ⊥) → ((j : ℕ) → A j ≡ A k → B j < B k → ⊥) → ((j : ℕ) → A j < A k → ⊥) → ⊥
    fifth k d c b a = rank E (λ j. A j ≡ A k → B j ≡ B k → C j ≡ C k → D j ≡ D k → ⊥) (λ j ih x y z u. go j ih x y z u (falls j)) k refl refl refl refl
      where
        go : (j : ℕ) → ((i : ℕ) → E i < E j → A i ≡ A k → B i ≡ B k → C i ≡ C k → D i ≡ D k → ⊥) → A j ≡ A k → B j ≡ B k → C j ≡ C k → D j ≡ D k
            → (A (suc j) < A j) ⊎ ((A (suc j) ≡ A j) × ((B (suc j) < B j) ⊎ ((B (suc j) ≡ B j) × ((C (suc j) < C j) ⊎ ((C (suc j) ≡ C j) × ((D (suc j) < D j) ⊎ ((D (suc j) ≡ D j) × (E (suc j) < E j)))))))) → ⊥
        go j ih x y z u (inl l) = a (suc j) (omega (arith, l, x))
        go j ih x y z u (inr (e, inl l)) = b (suc j) (e ∙ x) (omega (arith, l, y))
        go j ih x y z u (inr (e, inr (f, inl l))) = c (suc j) (e ∙ x) (f ∙ y) (omega (arith, l, z))
        go j ih x y z u (inr (e, inr (f, inr (g, inl l)))) = d (suc j) (e ∙ x) (f ∙ y) (g ∙ z) (omega (arith, l, u))
        go j ih x y z u (inr (e, inr (f, inr (g, inr (h, l))))) = ih (suc j) l (e ∙ x) (f ∙ y) (g ∙ z) (h ∙ u)

    fourth : (k : ℕ) → ((j : ℕ) → A j ≡ A k → B j ≡ B k → C j < C k → ⊥) → ((j : ℕ) → A j ≡ A k → B j < B k → ⊥) → ((j : ℕ) → A j < A k → ⊥) → ⊥
    fourth k c b a = rank D (λ j. A j ≡ A k → B j ≡ B k → C j ≡ C k → ⊥) (λ j ih x y z.
        fifth j (λ i x' y' z' l. ih i l (x' ∙ x) (y' ∙ y) (z' ∙ z)) (λ i x' y' l. c i (x' ∙ x) (y' ∙ y) (omega (arith, l, z))) (λ i x' l. b i (x' ∙ x) (omega (arith, l, y))) (λ i l. a i (omega (arith, l, x)))) k refl refl refl

    third' : (k : ℕ) → ((j : ℕ) → A j ≡ A k → B j < B k → ⊥) → ((j : ℕ) → A j < A k → ⊥) → ⊥
    third' k b a = rank C (λ j. A j ≡ A k → B j ≡ B k → ⊥) (λ j ih x y.
        fourth j (λ i x' y' l. ih i l (x' ∙ x) (y' ∙ y)) (λ i x' l. b i (x' ∙ x) (omega (arith, l, y))) (λ i l. a i (omega (arith, l, x)))) k refl refl

    second : (k : ℕ) → ((j : ℕ) → A j < A k → ⊥) → ⊥
    second k a = rank B (λ j. A j ≡ A k → ⊥) (λ j ih x. third' j (λ i x' l. ih i l (x' ∙ x)) (λ i l. a i (omega (arith, l, x)))) k refl

    pub no_fall : ⊥
    no_fall = rank A (λ j. ⊥) (λ j ih. second j (λ i l. ih i l)) 0

-- the five numbers of a schedule
abbrev Sunk : ℕ → World → ℕ → World → Type 0
Sunk d v c w = (sums units_left v.locals < sums units_left w.locals) ⊎ ((sums units_left v.locals ≡ sums units_left w.locals)
    × ((sums names_left v.locals < sums names_left w.locals) ⊎ ((sums names_left v.locals ≡ sums names_left w.locals)
    × ((third v < third w) ⊎ ((third v ≡ third w) × ((room d v < room c w) ⊎ ((room d v ≡ room c w) × (far v < far w))))))))

sunk : (d c : ℕ) (v w : World) → Sinks d v c w → Sunk d v c w
sunk d c v w (inl (inl l)) = inl l
sunk d c v w (inl (inr (e, inl l))) = inr (e, inl l)
sunk d c v w (inl (inr (e, inr (f, l)))) = inr (e, inr (f, inl l))
sunk d c v w (inr (same, x)) = inr (same.0, inr (same.1, inr (same.2, x)))

pub schedules_end : (order : Order) → SchedulesEnd order
schedules_end order q p policy limits start events counters worlds picks s r pick =
    no_fall (λ k. sums units_left (worlds k).locals) (λ k. sums names_left (worlds k).locals) (λ k. third (worlds k)) (λ k. room (counters k) (worlds k)) (λ k. far (worlds k)) falls
  where
    v_none : (k : ℕ) → (at (worlds (suc k)) (picks k).peer).verdict ≡ None
    v_none k = (pick (suc k)).running (picks k).peer (let l = (pick k).step.in_range in let n = step_length order p (worlds k) (picks k) (worlds (suc k)) (pick k).step in omega (arith, l, n))

    next : (k : ℕ) → IsSound order p policy (worlds k) × IsWaving (worlds k) → IsSound order p policy (worlds (suc k)) × IsWaving (worlds (suc k))
    next k g = (step_sound order q p policy (worlds k) (picks k) (worlds (suc k)) (pick k).step g.0, waving_step order q p policy (worlds k) (picks k) (worlds (suc k)) (pick k).step g.0 going g.1)
      where
        going : IsDeclareAct (picks k).act → ⊥
        going y =
            let d = declared order q p policy (worlds k) (picks k) (worlds (suc k)) (pick k).step g.0 g.1 y in
            d.ends (picks (suc k)) (worlds (suc (suc k))) (pick (suc k)).step

    all : (k : ℕ) → IsSound order p policy (worlds k) × IsWaving (worlds k)
    all zero = reached order q p policy limits start (worlds 0) events s r (pick 0).running
    all (suc k) = next k (all k)

    falls : (k : ℕ) → Sunk (counters (suc k)) (worlds (suc k)) (counters k) (worlds k)
    falls k = by ((scheduled order q p policy (worlds k) (all k).0 (all k).1).sinks (counters k) (counters (suc k)) (picks k) (worlds (suc k)) (pick k))
      where
        by : ((at (worlds (suc k)) (picks k).peer).verdict ≡ None → ⊥) ⊎ Sinks (counters (suc k)) (worlds (suc k)) (counters k) (worlds k) → Sunk (counters (suc k)) (worlds (suc k)) (counters k) (worlds k)
        by (inl n) = absurd (n (v_none k))
        by (inr x) = sunk (counters (suc k)) (counters k) (worlds (suc k)) (worlds k) x
