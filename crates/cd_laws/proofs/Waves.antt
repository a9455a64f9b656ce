-- What the token knows stays true.
use Rattle.std.proofs.Common.{◌≡◌, ℕ, zero, suc, ◌+◌, ◌<◌, ◌≤◌, Bool, true, false, ◌&&◌, not, cond, eqb, ltb, List, [], ◌∷◌, ◌++◌, length, get_or, arith, refl, ap, sym, ◌∙◌, subst, inl, inr, ◌⊎◌}
use Rattle.std.specs.Prelude.{slice_get, slice_set, Some}
use Rattle.std.proofs.lemmas.List.{length-append}
use Rattle.std.proofs.lemmas.Bool.{cases_lt}
use Rattle.std.proofs.lemmas.Bool.Decides.{nat_tests}
use Rattle.cd_names.specs.declared.waves.Count.{Count}
use Rattle.cd_names.specs.declared.waves.Token.{Token}
use Rattle.cd_names.specs.declared.ownership.Policy.{Policy}
use Rattle.cd_ledger.specs.declared.events.Act.{Act}
use Rattle.cd_ledger.specs.declared.events.Act.TheVariants.{Admit, Declare, End, Keep, Pass, Receive, Reject, Rewrite, Work}
use Rattle.cd_ledger.specs.declared.events.Event.{Event}
use Rattle.cd_ledger.specs.declared.local.Local.{Local}
use Rattle.cd_list.specs.Lists.{tally}
use Rattle.cd_read.specs.declared.problem.Problem.{Problem}
use Rattle.cd_machine.specs.Tokens.{counted, passed, received_sum, sent_sum, turned}
use Rattle.cd_machine.specs.Events.{Found, acted, after, is_token, no_token, receives, sent, sent_by}
use Rattle.cd_machine.specs.Fits.{IsQuiet}
use Rattle.cd_machine.specs.World.{World, WorldStep, at, nobody}
use Rattle.cd_laws.specs.Premises.{Premises}
use Rattle.cd_laws.specs.Sound.{IsSound, TrueToken}
use Rattle.cd_laws.specs.Closing.{AreEntries, Flows, IsDead, IsEntry, IsStill, TokenFits, place_of, received_of, sent_of, sums, sums_from}
use Rattle.cd_laws.proofs.Steps.{at_each, at_other, at_same, moves_tally, received, same_or_not, step_length}
use Rattle.cd_laws.proofs.Spread.{IsNoReject}
use Rattle.cd_laws.proofs.Whole.{no_reject}
use Rattle.cd_laws.proofs.Still.{IsDeclareAct, quiet_still, still_acted, sums_grow, sums_next, sums_set}
use Rattle.cd_kbo.specs.declared.order.Order.{Order}

pub received_receives : (a : Act) → received no_token a ≡ receives a
received_receives (Rewrite k) = refl
received_receives (Keep k) = refl
received_receives (Receive l) = elim (is_token l) as (λ b. ◌≡◌ {A = ℕ} (cond (not b) 1 0) (cond b 0 1)) [ true ↦ refl | false ↦ refl ]
received_receives (Admit k) = refl
received_receives (Reject k) = refl
received_receives (Work t) = refl
received_receives Pass = refl
received_receives Declare = refl
received_receives (End v) = refl

receives_quietly : (s : Local) (time : ℕ) (a : Act) (f : Found a) → receives a ≡ 1 → tally no_token (sent_by s time a f) ≡ 0
receives_quietly s time (Rewrite k) f h = refl
receives_quietly s time (Keep k) f h = absurd (omega (arith, h))
receives_quietly s time (Receive l) f h = refl
receives_quietly s time (Admit k) f h = absurd (omega (arith, h))
receives_quietly s time (Reject k) f h = refl
receives_quietly s time (Work t) f h = refl
receives_quietly s time Pass f h = absurd (omega (arith, h))
receives_quietly s time Declare f h = refl
receives_quietly s time (End v) f h = refl

-- passing the token
turned_open : (n : ℕ) (t : Token) → eqb (length t.one) n ≡ false → turned n t ≡ t
turned_open n t h = rw h refl

turned_half : (n : ℕ) (t : Token) → eqb (length t.two) n ≡ false → turned n t ≡ t
turned_half n t h = elim (eqb (length t.one) n) as (λ b. cond (b && eqb (length t.two) n) (record { one = t.two; two = [] }) t ≡ t) [ true ↦ rw h refl | false ↦ refl ]

pub passed_one : (n : ℕ) (c : Count) (t : Token) → length t.one < n → passed n c t ≡ record t { one = t.one ++ c ∷ [] }
passed_one n c t h =
    let a : eqb (length t.one) n ≡ false = grind (arith, nat_tests, h) in
    let b : ltb (length t.one) n ≡ true = grind (arith, nat_tests, h) in
    ap (counted n c) (turned_open n t a) ∙ rw b refl

pub passed_two : (n : ℕ) (c : Count) (t : Token) → length t.one ≡ n → length t.two < n → passed n c t ≡ record t { two = t.two ++ c ∷ [] }
passed_two n c t e h =
    let a : eqb (length t.two) n ≡ false = grind (arith, nat_tests, h) in
    let b : ltb (length t.one) n ≡ false = grind (arith, nat_tests, e) in
    ap (counted n c) (turned_half n t a) ∙ rw b refl

pub passed_full : (n : ℕ) (c : Count) (t : Token) → length t.one ≡ n → length t.two ≡ n → passed n c t ≡ record { one = t.two; two = c ∷ [] }
passed_full n c t e h =
    let a : eqb (length t.one) n ≡ true = grind (arith, nat_tests, e) in
    let b : eqb (length t.two) n ≡ true = grind (arith, nat_tests, h) in
    let d : ltb (length t.two) n ≡ false = grind (arith, nat_tests, h) in
    let turn : turned n t ≡ record { one = t.two; two = [] } = rw (a, b) refl in
    ap (counted n c) turn ∙ rw d refl

-- whose turn it is then
abbrev pub next_of : ℕ → ℕ → ℕ
next_of n q = cond (eqb (q + 1) n) 0 (q + 1)

place_one : (order : Order) → (n : ℕ) (c : Count) (t : Token) → 0 < n → length t.one < n → t.two ≡ [] → next_of n (place_of n t) ≡ place_of n (record t { one = t.one ++ c ∷ [] })
place_one order n c t pos h two =
    let l = length-append t.one (c ∷ []) in
    let b : ltb (length t.one) n ≡ true = grind (arith, nat_tests, h) in
    let z : ltb (length t.two) n ≡ true = rw two (grind (arith, nat_tests, pos)) in
    let z' : length t.two ≡ 0 = rw two refl in
    let l' : length (t.one ++ c ∷ []) ≡ length t.one + 1 = omega (arith, l) in
    rw (b, z, z', l') (go (eqb (length t.one + 1) n) refl)
  where
    go : (x : Bool) → eqb (length t.one + 1) n ≡ x → ◌≡◌ {A = ℕ} (cond x 0 (length t.one + 1)) (cond (ltb (length t.one + 1) n) (length t.one + 1) (cond true 0 0))
    go true e = let d : ltb (length t.one + 1) n ≡ false = grind (arith, nat_tests, e) in rw d refl
    go false e = let d : ltb (length t.one + 1) n ≡ true = grind (arith, nat_tests, e, h) in rw d refl

place_two : (n : ℕ) (c : Count) (t : Token) → length t.one ≡ n → length t.two < n → next_of n (place_of n t) ≡ place_of n (record t { two = t.two ++ c ∷ [] })
place_two n c t one h =
    let l = length-append t.two (c ∷ []) in
    let a : ltb (length t.one) n ≡ false = grind (arith, nat_tests, one) in
    let b : ltb (length t.two) n ≡ true = grind (arith, nat_tests, h) in
    let l' : length (t.two ++ c ∷ []) ≡ length t.two + 1 = omega (arith, l) in
    rw (a, b, l') (go (eqb (length t.two + 1) n) refl)
  where
    go : (x : Bool) → eqb (length t.two + 1) n ≡ x → ◌≡◌ {A = ℕ} (cond x 0 (length t.two + 1)) (cond (ltb (length t.two + 1) n) (length t.two + 1) 0)
    go true e = let d : ltb (length t.two + 1) n ≡ false = grind (arith, nat_tests, e) in rw d refl
    go false e = let d : ltb (length t.two + 1) n ≡ true = grind (arith, nat_tests, e, h) in rw d refl

place_full : (order : Order) → (n : ℕ) (c : Count) (t : Token) → 0 < n → length t.one ≡ n → length t.two ≡ n → next_of n (place_of n t) ≡ place_of n (record { one = t.two; two = c ∷ [] })
place_full order n c t pos one h =
    let a : ltb (length t.one) n ≡ false = grind (arith, nat_tests, one) in
    let b : ltb (length t.two) n ≡ false = grind (arith, nat_tests, h) in
    let l' : length (c ∷ []) ≡ 1 = omega arith in
    rw (a, b, l') (go (eqb (0 + 1) n) refl)
  where
    go : (x : Bool) → eqb (0 + 1) n ≡ x → ◌≡◌ {A = ℕ} (cond x 0 (0 + 1)) (cond (ltb 1 n) 1 0)
    go true e = let d : ltb 1 n ≡ false = grind (arith, nat_tests, e) in rw d refl
    go false e = let d : ltb 1 n ≡ true = grind (arith, nat_tests, e, pos) in rw d refl

-- entries and sums
entries_append : (w : World) (k : ℕ) (cs : List Count) (c : Count) → AreEntries w k cs → IsEntry (at w (k + length cs)) c → AreEntries w k (cs ++ c ∷ [])
entries_append w k [] c h g = (let e : k + length {A = Count} [] ≡ k = omega arith in subst (λ (z : ℕ). IsEntry (at w z) c) e g, tt)
entries_append w k (d ∷ cs) c h g = (h.0, entries_append w (k + 1) cs c h.1 (let e : k + length (d ∷ cs) ≡ k + 1 + length cs = omega arith in subst (λ (z : ℕ). IsEntry (at w z) c) e g))

entry_at : (w : World) (k : ℕ) (cs : List Count) → AreEntries w k cs → (j : ℕ) (c : Count) → slice_get cs j ≡ Some c → IsEntry (at w (k + j)) c
entry_at w k [] h j c g = cc
entry_at w k (d ∷ cs) h zero c g = let e : d ≡ c = cc in let z : k ≡ k + 0 = omega arith in subst (λ (m : ℕ). IsEntry (at w m) c) z (subst (IsEntry (at w k)) e h.0)
entry_at w k (d ∷ cs) h (suc j) c g = let z : k + 1 + j ≡ k + suc j = omega arith in subst (λ (m : ℕ). IsEntry (at w m) c) z (entry_at w (k + 1) cs h.1 j c g)

count_there : (cs : List Count) (j : ℕ) → j < length cs → (c : Count) × (slice_get cs j ≡ Some c)
count_there [] j h = absurd (omega arith)
count_there (c ∷ cs) zero h = (c, refl)
count_there (c ∷ cs) (suc j) h = count_there cs j (omega (arith, h))

sum_le : (ls : List Local) (cs : List Count) → length cs ≡ length ls → ((j : ℕ) (c : Count) → slice_get cs j ≡ Some c → c.received ≤ received_of (get_or ls j nobody)) → received_sum cs ≤ sums received_of ls
sum_le [] [] e f = omega arith
sum_le [] (c ∷ cs) e f = absurd (omega (arith, e))
sum_le (s ∷ ls) [] e f = omega arith
sum_le (s ∷ ls) (c ∷ cs) e f = let a = f 0 c refl in let b = sum_le ls cs (omega (arith, e)) (λ j d g. f (suc j) d g) in omega (arith, a, b)

sum_eq : (ls : List Local) (cs : List Count) → length cs ≡ length ls → ((j : ℕ) (c : Count) → slice_get cs j ≡ Some c → c.received ≤ received_of (get_or ls j nobody)) → received_sum cs ≡ sums received_of ls
    → (j : ℕ) (c : Count) → slice_get cs j ≡ Some c → c.received ≡ received_of (get_or ls j nobody)
sum_eq [] [] e f h j c g = absurd cc
sum_eq [] (d ∷ cs) e f h j c g = absurd (omega (arith, e))
sum_eq (s ∷ ls) [] e f h j c g = absurd cc
sum_eq (s ∷ ls) (d ∷ cs) e f h zero c g =
    let x : d ≡ c = cc in
    let a = f 0 d refl in let b = sum_le ls cs (omega (arith, e)) (λ k y z. f (suc k) y z) in
    let same : d.received ≡ received_of s = omega (arith, a, b, h) in
    ap (λ (y : Count). y.received) (sym x) ∙ same
sum_eq (s ∷ ls) (d ∷ cs) e f h (suc j) c g =
    let a = f 0 d refl in let b = sum_le ls cs (omega (arith, e)) (λ k y z. f (suc k) y z) in
    sum_eq ls cs (omega (arith, e)) (λ k y z. f (suc k) y z) (omega (arith, a, b, h)) j c g

-- a full list of entries
full_entries : (w : World) (cs : List Count) → Flows w → AreEntries w 0 cs → length cs ≡ length w.locals → (received_sum cs ≤ sums sent_of w.locals) × (received_sum cs ≡ sums sent_of w.locals → IsDead w)
full_entries w cs flows es len =
    let f : (j : ℕ) (c : Count) → slice_get cs j ≡ Some c → IsEntry (at w j) c = λ j c g. (let z : 0 + j ≡ j = omega arith in subst (λ (m : ℕ). IsEntry (at w m) c) z (entry_at w 0 cs es j c g)) in
    let le = sum_le w.locals cs len (λ j c g. (f j c g).received) in (
      omega (arith, le, flows),
      (λ eq. record {
        still = λ k l. (let c = count_there cs k (omega (arith, l, len)) in
            ((f k c.0 c.1).still (sum_eq w.locals cs len (λ j d g. (f j d g).received) (omega (arith, le, flows, eq)) k c.0 c.1)).0);
        travelling = omega (arith, le, flows, eq);
      }),
    )

module _ (order : Order) (q : Premises order) (p : Problem) (policy : Policy) (w : World) (e : Event) (v : World) (h : WorldStep order p w e v) (i : IsSound order p policy w) (going : IsDeclareAct e.act → ⊥) where
  s0 : Local
  s0 = at w e.peer

  fine : IsNoReject e.act
  fine = no_reject order q p policy w e v h i

  pub entry_after : (c : Count) → IsEntry (at w e.peer) c → IsEntry (after (at w e.peer) e h.found) c
  entry_after c x = record {
    received = (let a = x.received in omega (arith, a));
    sent = (let a = x.sent in omega (arith, a));
    still = λ y. (let a = x.received in let z = x.still (omega (arith, a, y)) in go z (still_acted order p (at w e.peer) e.time e.act h.found h.legal.fits fine z.0) (omega (arith, a, y)));
  }
    where
      go : IsStill (at w e.peer) × (c.sent ≡ (at w e.peer).count.sent)
          → (receives e.act ≡ 1) ⊎ (((IsDeclareAct e.act → ⊥) → IsStill (acted (at w e.peer) e.act h.found)) × (tally no_token (sent_by (at w e.peer) e.time e.act h.found) ≡ 0) × (receives e.act ≡ 0))
          → receives e.act ≡ 0 → IsStill (after (at w e.peer) e h.found) × (c.sent ≡ (after (at w e.peer) e h.found).count.sent)
      go z (inl a) b = absurd (omega (arith, a, b))
      go z (inr a) b = (let t = a.0 going in record { pending = t.pending; owed = t.owed; waiting = t.waiting; running = t.running }, (let n = a.1 in let k = z.1 in omega (arith, n, k)))

  entry_step : (k : ℕ) (c : Count) → IsEntry (at w k) c → IsEntry (at v k) c
  entry_step k c x =
      elim (same_or_not k e.peer) [
        | inl same ↦ subst (λ (m : ℕ). IsEntry (at v m) c) (sym same) (subst (λ (s : Local). IsEntry s c) (sym (at_same order p w e v h)) (entry_after c (subst (λ (m : ℕ). IsEntry (at w m) c) same x)))
        | inr other ↦ subst (λ (s : Local). IsEntry s c) (sym (at_other order p w e v h k other)) x
      ]

  entries_step : (k : ℕ) (cs : List Count) → AreEntries w k cs → AreEntries v k cs
  entries_step k [] x = tt
  entries_step k (c ∷ cs) x = (entry_step k c x.0, entries_step (k + 1) cs x.1)

  sent_grows : (k : ℕ) → sent_of (at w k) ≤ sent_of (at v k)
  sent_grows k =
      elim (same_or_not k e.peer) [
        | inl same ↦ subst (λ (m : ℕ). sent_of (at w m) ≤ sent_of (at v m)) (sym same) (subst (λ (s : Local). sent_of (at w e.peer) ≤ sent_of s) (sym (at_same order p w e v h)) (omega arith))
        | inr other ↦ subst (λ (s : Local). sent_of (at w k) ≤ sent_of s) (sym (at_other order p w e v h k other)) (omega arith)
      ]

  sums_step : (j : ℕ) → sums_from sent_of j w.locals ≤ sums_from sent_of j v.locals
  sums_step j = sums_grow sent_of j w.locals v.locals (step_length order p w e v h) (λ k l. sent_grows k)

  moved : tally no_token v.travelling + receives e.act ≡ tally no_token w.travelling + tally no_token (sent_by (at w e.peer) e.time e.act h.found)
  moved = ap (λ m. tally no_token v.travelling + m) (sym (received_receives e.act)) ∙ moves_tally no_token e.act w.travelling (sent (at w e.peer) e h.found) v.travelling h.moved

  pub flows_step : Flows w → Flows v
  flows_step x =
      let a = sums_set sent_of w.locals e.peer (after (at w e.peer) e h.found) h.in_range in
      let b = sums_set received_of w.locals e.peer (after (at w e.peer) e h.found) h.in_range in
      let a' : sums sent_of v.locals ≡ sums sent_of (slice_set w.locals e.peer (after (at w e.peer) e h.found)) = ap (sums sent_of) h.stepped in
      let b' : sums received_of v.locals ≡ sums received_of (slice_set w.locals e.peer (after (at w e.peer) e h.found)) = ap (sums received_of) h.stepped in
      let m = moved in
      omega (arith, x, a, b, a', b', m)

  pub dead_step : IsDead w → IsDead v
  dead_step d = go (still_acted order p (at w e.peer) e.time e.act h.found h.legal.fits fine (d.still e.peer h.in_range))
    where
      go : (receives e.act ≡ 1) ⊎ (((IsDeclareAct e.act → ⊥) → IsStill (acted (at w e.peer) e.act h.found)) × (tally no_token (sent_by (at w e.peer) e.time e.act h.found) ≡ 0) × (receives e.act ≡ 0)) → IsDead v
      go (inl a) = absurd (let m = moved in let t = d.travelling in let z = receives_quietly (at w e.peer) e.time e.act h.found a in omega (arith, a, m, t, z))
      go (inr a) = record {
        still = at_each order p w e v h (λ k s. IsStill s) (let t = a.0 going in record { pending = t.pending; owed = t.owed; waiting = t.waiting; running = t.running }) (λ k l ne. d.still k l);
        travelling = (let m = moved in let t = d.travelling in let n = a.1 in omega (arith, m, t, n));
      }

  pub token_step : (k : ℕ) (t : Token) → TokenFits w k t → TokenFits v k t
  token_step k t x =
      let n = step_length order p w e v h in
      record {
        place = x.place ∙ ap (λ m. place_of m t) (sym n);
        one = entries_step 0 t.one x.one;
        two = entries_step 0 t.two x.two;
        first = λ l. x.first (omega (arith, l, n));
        bound = x.bound;
        second = λ l. (let y = x.second (l ∙ n) in let g = sums_step (length t.two) in (y.0, (let z = y.1 in omega (arith, z, g)), (λ eq. dead_step (y.2 eq))));
      }

  -- the token that is passed on
  module _ (t : Token) (pass : e.act ≡ Pass) (quiet : IsQuiet (at w e.peer)) (short : TrueToken (length w.locals) (Some t)) (flows : Flows w) (x : TokenFits w e.peer t) where
    me : (at w e.peer).me ≡ e.peer
    me = (i.places e.peer h.in_range).0

    n_is : length v.locals ≡ length w.locals
    n_is = step_length order p w e v h

    pos : 0 < length v.locals
    pos = let l = h.in_range in let n = n_is in omega (arith, l, n)

    still_here : IsStill (at w e.peer)
    still_here = quiet_still (at w e.peer) quiet h.legal.running

    entry_now : IsEntry (at v e.peer) (at w e.peer).count
    entry_now = subst (λ (s : Local). IsEntry s (at w e.peer).count) (sym (at_same order p w e v h))
        (entry_after (at w e.peer).count (record { received = omega arith; sent = omega arith; still = λ y. (still_here, refl) }))

    quiet_sent : tally no_token (sent_by (at w e.peer) e.time e.act h.found) ≡ 0
    quiet_sent = go (still_acted order p (at w e.peer) e.time e.act h.found h.legal.fits fine still_here)
      where
        none : (a : Act) → a ≡ Pass → receives a ≡ 0
        none a y = ap receives y

        go : (receives e.act ≡ 1) ⊎ (((IsDeclareAct e.act → ⊥) → IsStill (acted (at w e.peer) e.act h.found)) × (tally no_token (sent_by (at w e.peer) e.time e.act h.found) ≡ 0) × (receives e.act ≡ 0)) → tally no_token (sent_by (at w e.peer) e.time e.act h.found) ≡ 0
        go (inl a) = absurd (let z = none e.act pass in omega (arith, a, z))
        go (inr a) = a.1

    sent_now : sent_of (at v e.peer) ≡ (at w e.peer).count.sent
    sent_now = ap sent_of (at_same order p w e v h) ∙ (let z = quiet_sent in omega (arith, z))

    place_here : next_of (length v.locals) e.peer ≡ next_of (length v.locals) (place_of (length v.locals) t)
    place_here = ap (next_of (length v.locals)) (x.place ∙ ap (λ m. place_of m t) (sym n_is))

    full : (cs : List Count) → AreEntries v 0 cs → length cs ≡ length v.locals → (received_sum cs ≤ sums sent_of v.locals) × (received_sum cs ≡ sums sent_of v.locals → IsDead v)
    full cs es len = full_entries v cs (flows_step flows) es len

    sent_append : (cs : List Count) (c : Count) → sent_sum (cs ++ c ∷ []) ≡ sent_sum cs + c.sent
    sent_append [] c = omega arith
    sent_append (d ∷ cs) c = omega (arith, sent_append cs c)

    in_one : length t.one < length v.locals → TokenFits v (next_of (length v.locals) e.peer) (record t { one = t.one ++ (at w e.peer).count ∷ [] })
    in_one l =
        let two : t.two ≡ [] = x.first (omega (arith, l, n_is)) in
        let la = length-append t.one ((at w e.peer).count ∷ []) in
        let here : e.peer ≡ length t.one = x.place ∙ (let b : ltb (length t.one) (length w.locals) ≡ true = grind (arith, nat_tests, l, n_is) in rw b refl) in
        let one' : AreEntries v 0 (t.one ++ (at w e.peer).count ∷ []) = entries_append v 0 t.one (at w e.peer).count (entries_step 0 t.one x.one)
        (let z : e.peer ≡ 0 + length t.one = omega (arith, here) in subst (λ (m : ℕ). IsEntry (at v m) (at w e.peer).count) z entry_now) in
        record {
          place = place_here ∙ place_one order (length v.locals) (at w e.peer).count t pos l two;
          one = one';
          two = entries_step 0 t.two x.two;
          first = λ y. two;
          bound = sums sent_of v.locals;
          second = λ y. (let z = full (t.one ++ (at w e.peer).count ∷ []) one' y in (z.0, rw two (omega arith), z.1));
        }

    in_two : length t.one ≡ length v.locals → length t.two < length v.locals → TokenFits v (next_of (length v.locals) e.peer) (record t { two = t.two ++ (at w e.peer).count ∷ [] })
    in_two one l =
        let y = x.second (one ∙ n_is) in
        let here : e.peer ≡ length t.two = x.place ∙ (let a : ltb (length t.one) (length w.locals) ≡ false = grind (arith, nat_tests, one, n_is) in let b : ltb (length t.two) (length w.locals) ≡ true = grind (arith, nat_tests, l, n_is) in rw (a, b) refl) in
        let la = length-append t.two ((at w e.peer).count ∷ []) in
        record {
          place = place_here ∙ place_two (length v.locals) (at w e.peer).count t one l;
          one = entries_step 0 t.one x.one;
          two = entries_append v 0 t.two (at w e.peer).count (entries_step 0 t.two x.two)
              (let z : e.peer ≡ 0 + length t.two = omega (arith, here) in subst (λ (m : ℕ). IsEntry (at v m) (at w e.peer).count) z entry_now);
          first = λ z. absurd (omega (arith, z, one));
          bound = x.bound;
          second = λ z. (
            y.0,
            (let g = sums_step (length t.two) in
                let nx = sums_next sent_of (length t.two) v.locals l in
                let sn : sent_of (get_or v.locals (length t.two) nobody) ≡ (at w e.peer).count.sent = subst (λ (m : ℕ). sent_of (at v m) ≡ (at w e.peer).count.sent) here sent_now in
                let ap' = sent_append t.two (at w e.peer).count in
                let len : length (t.two ++ (at w e.peer).count ∷ []) ≡ suc (length t.two) = omega (arith, la) in
                let old = y.1 in
                rw len (omega (arith, g, nx, sn, ap', old))),
            (λ eq. dead_step (y.2 eq)),
          );
        }

    in_full : length t.one ≡ length v.locals → length t.two ≡ length v.locals → TokenFits v (next_of (length v.locals) e.peer) (record { one = t.two; two = (at w e.peer).count ∷ [] })
    in_full one l =
        let here : e.peer ≡ 0 = x.place ∙ (let a : ltb (length t.one) (length w.locals) ≡ false = grind (arith, nat_tests, one, n_is) in let b : ltb (length t.two) (length w.locals) ≡ false = grind (arith, nat_tests, l, n_is) in rw (a, b) refl) in
        let two' : AreEntries v 0 t.two = entries_step 0 t.two x.two in
        record {
          place = place_here ∙ place_full order (length v.locals) (at w e.peer).count t pos one l;
          one = two';
          two = (subst (λ (m : ℕ). IsEntry (at v m) (at w e.peer).count) here entry_now, tt);
          first = λ z. absurd (omega (arith, z, l));
          bound = sums sent_of v.locals;
          second = λ z. (let f = full t.two two' l in (
            f.0,
            (let nx = sums_next sent_of 0 v.locals pos in
                let sn : sent_of (get_or v.locals 0 nobody) ≡ (at w e.peer).count.sent = subst (λ (m : ℕ). sent_of (at v m) ≡ (at w e.peer).count.sent) here sent_now in
                omega (arith, nx, sn)),
            f.1,
          ));
        }

    pub token_passed : TokenFits v (next_of (length v.locals) e.peer) (passed (length v.locals) (at w e.peer).count t)
    token_passed = by (cases_lt (length t.one) (length v.locals)) (cases_lt (length t.two) (length v.locals))
      where
        by : (length t.one < length v.locals) ⊎ (length v.locals ≤ length t.one) → (length t.two < length v.locals) ⊎ (length v.locals ≤ length t.two) → TokenFits v (next_of (length v.locals) e.peer) (passed (length v.locals) (at w e.peer).count t)
        by (inl a) b = subst (TokenFits v (next_of (length v.locals) e.peer)) (sym (passed_one (length v.locals) (at w e.peer).count t a)) (in_one a)
        by (inr a) (inl b) =
            let one : length t.one ≡ length v.locals = (let z = short.0 in omega (arith, a, z, n_is)) in
            subst (TokenFits v (next_of (length v.locals) e.peer)) (sym (passed_two (length v.locals) (at w e.peer).count t one b)) (in_two one b)
        by (inr a) (inr b) =
            let one : length t.one ≡ length v.locals = (let z = short.0 in omega (arith, a, z, n_is)) in
            let two : length t.two ≡ length v.locals = (let z = short.1 in omega (arith, b, z, n_is)) in
            subst (TokenFits v (next_of (length v.locals) e.peer)) (sym (passed_full (length v.locals) (at w e.peer).count t one two)) (in_full one two)
