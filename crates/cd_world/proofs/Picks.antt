-- A choice that is offered may be made, one is offered, and what it makes is a draw.
use Rattle.std.proofs.Common.{◌≡◌, ℕ, zero, suc, ◌+◌, ◌-◌, ◌*◌, ◌<◌, ◌≤◌, ◌^◌, Bool, true, false, ◌&&◌, ◌||◌, not, cond, leb, List, [], ◌∷◌, ◌++◌, map, length, get_or, arith, refl, ap, sym, ◌∙◌, subst, inl, inr, ◌⊎◌, append_assoc, append-nil, length-append}
use Rattle.std.specs.List.{AllByRecursion as Each}
use Rattle.std.specs.Prelude.{slice_get, Some, None}
use Rattle.std.proofs.lemmas.Bool.Decides.{nat_tests}
use Rattle.std.proofs.lemmas.List.{map-append}
use Rattle.cd_laws.proofs.Lists.{Each_append, Each_at}
use Rattle.cd_laws.proofs.Schedule.{none_ready}
use Rattle.cd_ledger.specs.declared.events.Act.TheVariants.{Receive}
use Rattle.cd_ledger.specs.declared.events.Event.{Event}
use Rattle.cd_ledger.specs.declared.letters.Letter.{Letter}
use Rattle.cd_ledger.specs.declared.local.Local.{Local}
use Rattle.cd_list.specs.Lists.{tally}
use Rattle.cd_machine.specs.Events.{is_token, no_token}
use Rattle.cd_machine.specs.Schedule.{IsOther, IsRunning, IsTokenThere, is_cons, is_more, is_token_only}
use Rattle.cd_machine.specs.Turns.{IsFirstAct, IsIdle}
use Rattle.cd_machine.specs.World.{World, WorldStep, at, nobody}
use Rattle.cd_peer.specs.Peers.{PeerView}
use Rattle.cd_peer.specs.Plain.{plain}
use Rattle.cd_peer.specs.Readiness.{ready_as, ready_by, ready_of}
use Rattle.cd_peer.specs.declared.peer.Turned.{Turned}
use Rattle.cd_peer.specs.declared.peer.Turned.TheVariants.{Did, Idle}
use Rattle.cd_peer.specs.declared.readiness.Ready.{Ready}
use Rattle.cd_peer.specs.declared.readiness.Ready.TheVariants.{Nothing, TokenOnly, More}
use Rattle.cd_read.specs.declared.problem.Problem.{Problem}
use Rattle.cd_recorded.specs.Recorded.{peer_of}
use Rattle.cd_world.specs.declared.choosing.Offer.{Offer}
use Rattle.cd_world.specs.declared.moving.Choice.{Choice}
use Rattle.cd_world.specs.declared.moving.Choice.TheVariants.{Turn, Deliver}
use Rattle.cd_world.specs.Worlds.{HasFallen, IsWorld, MayStep, Parts, StepsTo, WorldView, locals_of, peer_at, with_parts, world_of}
use Rattle.cd_world.specs.Schedule.{Draws, Going, InRange, IsDraw, IsDrawn, IsDrawnFrom, IsOffer, Moment, Picks, RunsScheduled, VerdictTest, busy_by, choices, counted_by, deliver_if, deliveries_from, is_token_choice, leaves_out, moment_of, next_state, offered, turn_if, turns_from}
use Rattle.cd_world.proofs.Runs.{any_peer, locals_at, locals_length}
use Rattle.cd_world.proofs.Worlds.{delivery_step, law, me_is, now_is, stands, to_range, turn_step}

-- ---- what is offered is there

abbrev pub IsThere : World → Choice → Type 0
IsThere w (Turn q) = (q < length w.locals) × (busy_by true (ready_of (at w q)) ≡ true)
IsThere w (Deliver k) = k < length w.travelling

busy_more : (t : Bool) (r : Ready) → busy_by t r ≡ true → busy_by true r ≡ true
busy_more t Nothing h = h
busy_more t TokenOnly h = refl
busy_more t More h = refl

one_turn : (w : World) (t : Bool) (k : ℕ) (s : Local) → k < length w.locals → s ≡ at w k → Each (IsThere w) (turn_if t k s)
one_turn w t k s l h = go (busy_by t (ready_of s)) refl
  where
    go : (b : Bool) → busy_by t (ready_of s) ≡ b → Each (IsThere w) (cond b (Turn k ∷ []) [])
    go true e = ((l, subst (λ (x : Local). busy_by true (ready_of x) ≡ true) h (busy_more t (ready_of s) e)), tt)
    go false e = tt

turns_there : (w : World) (t : Bool) (ls : List Local) (k : ℕ) → ((j : ℕ) → j < length ls → (k + j < length w.locals) × (get_or ls j nobody ≡ at w (k + j))) → Each (IsThere w) (turns_from t k ls)
turns_there w t [] k f = tt
turns_there w t (s ∷ ss) k f =
    let z = f 0 (omega arith) in
    let e : k + 0 ≡ k = omega arith in
    Each_append (IsThere w) (turn_if t k s) (turns_from t (k + 1) ss)
    (one_turn w t k s (let y = z.0 in omega (arith, y)) (z.1 ∙ ap (at w) e))
    (turns_there w t ss (k + 1) (λ j l. (let y = f (suc j) (omega (arith, l)) in let g : k + suc j ≡ k + 1 + j = omega arith in (let x = y.0 in omega (arith, x), y.1 ∙ ap (at w) g))))

deliveries_there : (w : World) (t : Bool) (ls : List Letter) (k : ℕ) → k + length ls ≤ length w.travelling → Each (IsThere w) (deliveries_from t k ls)
deliveries_there w t [] k h = tt
deliveries_there w t (l ∷ ls) k h =
    Each_append (IsThere w) (deliver_if t k l) (deliveries_from t (k + 1) ls) (go (t || not (is_token l))) (deliveries_there w t ls (k + 1) (omega (arith, h)))
  where
    go : (b : Bool) → Each (IsThere w) (cond b (Deliver k ∷ []) [])
    go true = (omega (arith, h), tt)
    go false = tt

choices_there : (w : World) (t : Bool) → Each (IsThere w) (choices t w)
choices_there w t = Each_append (IsThere w) (turns_from t 0 w.locals) (deliveries_from t 0 w.travelling)
    (turns_there w t w.locals 0 (λ j l. (let e : j ≡ 0 + j = omega arith in (omega (arith, l), ap (at w) e))))
    (deliveries_there w t w.travelling 0 (omega arith))

offered_there : (w : World) (c : ℕ) → Each (IsThere w) (offered c w)
offered_there w c = go (leaves_out c w)
  where
    go : (b : Bool) → Each (IsThere w) (cond b (choices false w) (choices true w))
    go true = choices_there w false
    go false = choices_there w true

pub drawn_there : (w : World) (c x : ℕ) (choice : Choice) → IsDrawnFrom c w x choice → IsThere w choice
drawn_there w c x choice d = Each_at (IsThere w) (offered c w) _ choice d (offered_there w c)

-- ---- some choice is offered

nothing_left : {A : Type 0} (xs ys : List A) → xs ++ ys ≡ [] → (xs ≡ []) × (ys ≡ [])
nothing_left [] ys h = (refl, h)
nothing_left (x ∷ xs) ys h = cc

not_busy : (more only : Bool) (q : ℕ) → cond (busy_by true (ready_as more only)) (Turn q ∷ []) [] ≡ [] → (more ≡ false) × (only ≡ false)
not_busy true only q h = cc
not_busy false true q h = cc
not_busy false false q h = (refl, refl)

no_turn : (ls : List Local) (k : ℕ) → turns_from true k ls ≡ [] → (j : ℕ) → j < length ls → (is_more (get_or ls j nobody) ≡ false) × (is_token_only (get_or ls j nobody) ≡ false)
no_turn [] k h j l = absurd (omega (arith, l))
no_turn (s ∷ ss) k h zero l = not_busy (is_more s) (is_token_only s) k (nothing_left (turn_if true k s) (turns_from true (k + 1) ss) h).0
no_turn (s ∷ ss) k h (suc j) l = no_turn ss (k + 1) (nothing_left (turn_if true k s) (turns_from true (k + 1) ss) h).1 j (omega (arith, l))

no_delivery : (ls : List Letter) (k : ℕ) → deliveries_from true k ls ≡ [] → ls ≡ []
no_delivery [] k h = refl
no_delivery (l ∷ ls) k h = cc

some_choice : (w : World) → ((IsOther w → ⊥) → IsTokenThere w) → choices true w ≡ [] → ⊥
some_choice w there h = token (there other)
  where
    parts : (turns_from true 0 w.locals ≡ []) × (deliveries_from true 0 w.travelling ≡ [])
    parts = nothing_left (turns_from true 0 w.locals) (deliveries_from true 0 w.travelling) h

    none : w.travelling ≡ []
    none = no_delivery w.travelling 0 (parts).1

    zero_of : (p : Letter → Bool) → 0 < tally p w.travelling → ⊥
    zero_of p l = (let e : tally p w.travelling ≡ 0 = ap (tally p) none in omega (arith, l, e))

    other : IsOther w → ⊥
    other (inl (q, l, m)) = (let f = (no_turn w.locals 0 (parts).0 q l).0 in let y : true ≡ false = sym m ∙ f in cc)
    other (inr l) = zero_of no_token l

    token : IsTokenThere w → ⊥
    token (inl (q, l, m)) = (let f = (no_turn w.locals 0 (parts).0 q l).1 in let y : true ≡ false = sym m ∙ f in cc)
    token (inr l) = zero_of is_token l

some_offered : (w : World) (c : ℕ) → ((IsOther w → ⊥) → IsTokenThere w) → 0 < length (offered c w)
some_offered w c there = go (leb (4 * length w.locals) c) (is_cons (choices false w)) refl
  where
    cons_some : (xs : List Choice) → is_cons xs ≡ true → 0 < length xs
    cons_some [] h = cc
    cons_some (x ∷ xs) h = omega arith

    not_nil : (xs : List Choice) → (xs ≡ [] → ⊥) → 0 < length xs
    not_nil [] h = absurd (h refl)
    not_nil (x ∷ xs) h = omega arith

    go : (a b : Bool) → is_cons (choices false w) ≡ b → 0 < length (cond (a && b) (choices false w) (choices true w))
    go true true e = cons_some (choices false w) e
    go true false e = not_nil (choices true w) (some_choice w there)
    go false b e = not_nil (choices true w) (some_choice w there)

-- an idle peer is ready for nothing
idle_nothing : (s : Local) → IsIdle s → ready_of s ≡ Nothing
idle_nothing s i = ap (ready_by s) (none_ready s i.0) ∙ rw (i.1, i.2, i.3) refl

-- ---- what the code reads

pub local_read : (vs : List PeerView) (q : ℕ) (v : PeerView) → q < length vs → v ≡ get_or vs q v → get_or (locals_of vs) q nobody ≡ v.local
local_read vs q v l h = locals_at vs q ∙ ap (λ x. x.local) (sym (any_peer vs q v l h))

pub letter_read : (ls : List Letter) (k : ℕ) (l : Letter) → k < length ls → l ≡ get_or ls k l → slice_get ls k ≡ Some l
letter_read [] k l i h = absurd (omega (arith, i))
letter_read (x ∷ ls) zero l i h = ap Some (sym h)
letter_read (x ∷ ls) (suc k) l i h = letter_read ls k l (omega (arith, i)) h

pub in_range : (vs : List PeerView) (ls : List Letter) (choice : Choice) → IsThere (record { locals = locals_of vs; travelling = ls }) choice → InRange vs ls choice
in_range vs ls (Turn q) h = (let n = locals_length vs in let l = h.0 in omega (arith, l, n))
in_range vs ls (Deliver k) h = h

-- a place within a list has an item
pub some_at : {A : Type 0} (xs : List A) (k : ℕ) → None ≡ slice_get xs k → k < length xs → ⊥
some_at [] k h l = omega (arith, l)
some_at (x ∷ xs) zero h l = cc
some_at (x ∷ xs) (suc k) h l = some_at xs k h (omega (arith, l))

-- with those of the token each letter's delivery is a choice, at the letter's place
pub all_length : (ls : List Letter) (n : ℕ) → length (deliveries_from true n ls) ≡ length ls
all_length [] n = refl
all_length (l ∷ ls) n = ap suc (all_length ls (n + 1))

pub all_at : (ls : List Letter) (n k : ℕ) → k < length (deliveries_from true n ls) → slice_get (deliveries_from true n ls) k ≡ Some (Deliver (n + k))
all_at [] n k h = absurd (omega (arith, h))
all_at (l ∷ ls) n zero h = let e : n ≡ n + 0 = omega arith in ap (λ (j : ℕ). Some (Deliver j)) e
all_at (l ∷ ls) n (suc k) h = all_at ls (n + 1) k (omega (arith, h)) ∙ (let e : n + 1 + k ≡ n + suc k = omega arith in ap (λ (j : ℕ). Some (Deliver j)) e)

pub place_at : (ls : List Letter) (k : ℕ) → k < length (deliveries_from true 0 ls) → slice_get (deliveries_from true 0 ls) k ≡ Some (Deliver k)
place_at ls k h = all_at ls 0 k h ∙ (let e : 0 + k ≡ k = omega arith in ap (λ (j : ℕ). Some (Deliver j)) e)

-- ---- the offer

cons_by_length : (xs ys : List Choice) → (0 < length xs) ⊎ (0 < length ys) → is_cons (xs ++ ys) ≡ true
cons_by_length (x ∷ xs) ys h = refl
cons_by_length [] (y ∷ ys) h = refl
cons_by_length [] [] (inl h) = absurd (omega (arith, h))
cons_by_length [] [] (inr h) = absurd (omega (arith, h))

many_are : (vs : List PeerView) (c : ℕ) → 4 * length vs ≤ c → leb (4 * length (locals_of vs)) c ≡ true
many_are vs c h = grind (arith, nat_tests, h, locals_length vs)

-- the counter is full and another choice is there: those of the token are left out
pub others_offered : (c : ℕ) (vs : List PeerView) (ls : List Letter) (o : Offer) → 4 * length vs ≤ c → o.tokens ≡ false → o.turns ≡ length (turns_from false 0 (locals_of vs)) → o.deliveries ≡ length (deliveries_from false 0 ls)
    → o.turns ≤ length vs → o.deliveries ≤ length ls → (0 < o.turns) ⊎ ((o.turns ≤ 0) × (0 < o.deliveries)) → IsOffer c vs ls o
others_offered c vs ls o many tokens turns deliveries few_turns few_deliveries some = record {
  choices_are = subst (λ (b : Bool). offered c (record { locals = locals_of vs; travelling = ls }) ≡ turns_from b 0 (locals_of vs) ++ deliveries_from b 0 ls) (sym tokens)
      (let full = many_are vs c many in let other = cons_by_length (turns_from false 0 (locals_of vs)) (deliveries_from false 0 ls) (there some) in rw (full, other) refl);
  turns = subst (λ (b : Bool). o.turns ≡ length (turns_from b 0 (locals_of vs))) (sym tokens) turns;
  deliveries = subst (λ (b : Bool). o.deliveries ≡ length (deliveries_from b 0 ls)) (sym tokens) deliveries;
  few_turns = few_turns;
  few_deliveries = few_deliveries;
}
  where
    there : (0 < o.turns) ⊎ ((o.turns ≤ 0) × (0 < o.deliveries)) → (0 < length (turns_from false 0 (locals_of vs))) ⊎ (0 < length (deliveries_from false 0 ls))
    there (inl h) = inl (omega (arith, h, turns))
    there (inr h) = let x = h.1 in inr (omega (arith, x, deliveries))

-- ---- a draw

module _ (v : WorldView) (i : IsWorld v) (standing : v.fallen ≡ false) (running : IsRunning (world_of v.parts)) where
  pub some_here : (c : ℕ) → 0 < length (offered c (world_of v.parts))
  some_here c = some_offered (world_of v.parts) c (law v i standing running).there

  runs_at : (k : ℕ) → k < length v.parts.peers → (peer_at v.parts.peers k).local.verdict ≡ None
  runs_at k l = ap (λ s. s.verdict) (sym (locals_at v.parts.peers k)) ∙ running k (rw (locals_length v.parts.peers) l)

  pub may_step : (choice : Choice) → IsThere (world_of v.parts) choice → MayStep v.parts choice
  may_step (Turn k) h = let l = in_range v.parts.peers v.parts.travelling (Turn k) h in (l, runs_at k l)
  may_step (Deliver k) h = (h, λ l there. runs_at l.to (to_range v i standing l k there))

  pub picks : (x y c d : ℕ) (choice : Choice) (w : Parts) (t : Turned) → y ≡ next_state x → IsDrawn (moment_of x c v) y choice → d ≡ counted_by (moment_of x c v) choice → StepsTo v.parts choice w t
      → Picks v (with_parts v w false) x y c d
  picks x y c d (Turn k) w Did n drawn_is counts (letters, m, joined) = record {
    event = e.0;
    draw = record {
      running = running;
      state = n;
      choice = Turn k;
      drawn_is = drawn_is;
      step = subst (λ (ls : List Letter). WorldStep plain v.problem (world_of v.parts) e.0 (record { locals = locals_of w.peers; travelling = ls })) (sym joined) e.1;
      makes = subst (λ (s : Local). (e.0.peer ≡ k) × IsFirstAct plain s e.0.act) (sym (locals_at v.parts.peers k)) (e.2, e.3);
      counter = counts;
    };
    few = m.few;
    order = m.order ∙ ap (λ j. v.parts.order ++ j ∷ []) (sym e.2);
    rest = refl;
  }
    where
      l : k < length v.parts.peers
      l = in_range v.parts.peers v.parts.travelling (Turn k) (drawn_there (world_of v.parts) c y (Turn k) drawn_is)

      e : (e : Event) × WorldStep plain v.problem (world_of v.parts) e (record { locals = locals_of w.peers; travelling = v.parts.travelling ++ letters }) × (e.peer ≡ k) × IsFirstAct plain (peer_at v.parts.peers k).local e.act
      e = turn_step v.problem v.policy v.limits v.parts.order v.parts.peers w.peers i.end i.past m.few v.parts.travelling (now_is v i standing) k letters m.made l (me_is v i standing k l) (stands v i standing k l).problem
  picks x y c d (Turn k) w Idle n drawn_is counts (idle, same) = absurd (let y' : false ≡ true = sym none ∙ h.1 in cc)
    where
      h : (k < length (locals_of v.parts.peers)) × (busy_by true (ready_of (at (world_of v.parts) k)) ≡ true)
      h = drawn_there (world_of v.parts) c y (Turn k) drawn_is

      none : busy_by true (ready_of (at (world_of v.parts) k)) ≡ false
      none = ap (λ s. busy_by true (ready_of s)) (locals_at v.parts.peers k) ∙ ap (busy_by true) (idle_nothing (peer_at v.parts.peers k).local idle)
  picks x y c d (Deliver k) w Did n drawn_is counts s = record {
    event = e.0;
    draw = record {
      running = running;
      state = n;
      choice = Deliver k;
      drawn_is = drawn_is;
      step = e.1;
      makes = (s.letter, s.there, e.2, e.3, s.travelling);
      counter = counts;
    };
    few = s.made.few;
    order = s.made.order ∙ ap (λ j. v.parts.order ++ j ∷ []) (sym e.2);
    rest = refl;
  }
    where
      r : s.letter.to < length v.parts.peers
      r = to_range v i standing s.letter k s.there

      e : (e : Event) × WorldStep plain v.problem (world_of v.parts) e (record { locals = locals_of w.peers; travelling = w.travelling }) × (e.peer ≡ s.letter.to) × (e.act ≡ Receive s.letter)
      e = delivery_step v.problem v.policy v.limits v.parts.order v.parts.peers w.peers i.end i.past s.made.few v.parts.travelling (now_is v i standing) s.letter k w.travelling s.there s.travelling s.made.made r (me_is v i standing s.letter.to r)
          (stands v i standing s.letter.to r).problem
  picks x y c d (Deliver k) w Idle n drawn_is counts s = absurd s

draws_snoc : (p : Problem) (es : List Event) (a m n : Moment) (e : Event) → Draws plain p a es m → IsDraw plain p m e n → Draws plain p a (es ++ e ∷ []) n
draws_snoc p [] a m n e r h = (n, subst (λ (x : Moment). IsDraw plain p x e n) r h, refl)
draws_snoc p (d ∷ es) a m n e r h = (r.0, r.1, draws_snoc p es r.0 m n e r.2 h)

-- ---- the loop

pub going_start : (v : WorldView) (seed : ℕ) → v.fallen ≡ false → Going v v seed seed 0
going_start v seed h = record {
  events = [];
  draws = refl;
  order = sym (append-nil v.parts.order);
  counted = omega arith;
  rest = ap (with_parts v v.parts) h;
}

order_more : (v w : WorldView) (x y c d : ℕ) → Picks v w x y c d → length w.parts.order ≡ length v.parts.order + 1
order_more v w x y c d h = ap length h.order ∙ (let m = length-append v.parts.order (h.event.peer ∷ []) in omega (arith, m))

pub going_on : (v w u : WorldView) (seed x y c d : ℕ) → Going v w seed x c → Picks w u x y c d → Going v u seed y d
going_on v w u seed x y c d g h = record {
  events = g.events ++ h.event ∷ [];
  draws = draws_snoc v.problem g.events (moment_of seed 0 v) (moment_of x c w) (moment_of y d u) h.event g.draws (subst (λ (p : Problem). IsDraw plain p (moment_of x c w) h.event (moment_of y d u)) same h.draw);
  order = h.order ∙ (ap (λ ns. ns ++ h.event.peer ∷ []) g.order ∙ (append_assoc v.parts.order (map peer_of g.events) (h.event.peer ∷ [])
      ∙ ap (λ ns. v.parts.order ++ ns) (sym (map-append peer_of g.events (h.event ∷ [])))));
  counted = (let n = order_more w u x y c d h in let m = below (is_token_choice (world_of w.parts) h.draw.choice) h.draw.counter in let o = g.counted in omega (arith, n, m, o));
  rest = h.rest ∙ ap (λ (z : WorldView). with_parts z u.parts false) g.rest;
}
  where
    same : w.problem ≡ v.problem
    same = ap (λ (z : WorldView). z.problem) g.rest

    below : (b : Bool) → d ≡ cond b (c + 1) 0 → d ≤ c + 1
    below true e = omega (arith, e)
    below false e = omega (arith, e)

pub going_end : (v w : WorldView) (seed x c : ℕ) → Going v w seed x c → VerdictTest true w.parts.peers → RunsScheduled v w seed
going_end v w seed x c g t = record {
  events = g.events;
  scheduled = record { last = moment_of x c w; draws = g.draws; ends = refl; verdict = (t.0, t.1, t.2) };
  order = g.order;
  rest = g.rest;
}

pub going_stands : (v w : WorldView) (seed x c : ℕ) → Going v w seed x c → w.fallen ≡ false
going_stands v w seed x c g = ap (λ (z : WorldView). z.fallen) g.rest

pub going_falls : (v w u : WorldView) (seed x c : ℕ) → Going v w seed x c → HasFallen w u → HasFallen v u
going_falls v w u seed x c g h = h ∙ ap (λ (z : WorldView). with_parts z u.parts true) g.rest

pub none_runs : (w : WorldView) → VerdictTest false w.parts.peers → IsRunning (world_of w.parts)
none_runs w t q l = ap (λ s. s.verdict) (locals_at w.parts.peers q) ∙ t q (let n = locals_length w.parts.peers in omega (arith, l, n))

pub falls_more : (v w : WorldView) (x y c d : ℕ) → Picks v w x y c d → 2 ^ 62 - length w.parts.order < 2 ^ 62 - length v.parts.order
falls_more v w x y c d h = let n = order_more v w x y c d h in let f = h.few in omega (arith, n, f)
