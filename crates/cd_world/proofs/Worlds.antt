-- A world stays the end of a run.
use Rattle.std.proofs.Common.{◌≡◌, ◌≢◌, ℕ, zero, suc, ◌+◌, ◌<◌, ◌≤◌, ◌^◌, Bool, true, false, List, [], ◌∷◌, ◌++◌, length, set, arith, refl, ap, sym, ◌∙◌, subst, inl, inr, ◌⊎◌, length-append, length-set, append-nil}
use Rattle.std.specs.List.{AllByRecursion as Each}
use Rattle.std.specs.Prelude.{remove, slice_get, slice_set, Some}
use Rattle.std.proofs.lemmas.List.{length-map}
use Rattle.cd_laws.proofs.Lists.{Each_at, Each_set}
use Rattle.cd_laws.proofs.Start.{start_sound}
use Rattle.cd_laws.proofs.Steps.{same_or_not}
use Rattle.cd_laws.proofs.Whole.{run_sound}
use Rattle.cd_laws.specs.Schedule.{IsSchedule}
use Rattle.cd_laws.specs.Sound.{IsSound, TrueLetter}
use Rattle.cd_ledger.specs.declared.events.Act.TheVariants.{Receive}
use Rattle.cd_ledger.specs.declared.events.Event.{Event}
use Rattle.cd_ledger.specs.declared.letters.Letter.{Letter}
use Rattle.cd_ledger.specs.declared.local.Limits.{Limits}
use Rattle.cd_ledger.specs.declared.local.Local.{Local}
use Rattle.cd_machine.specs.Events.{Found, after, sent}
use Rattle.cd_machine.specs.Fits.{IsLegal, LocalStep}
use Rattle.cd_machine.specs.Rules.{IsFit, clauses_of}
use Rattle.cd_machine.specs.Schedule.{IsRunning}
use Rattle.cd_machine.specs.Spread.{record_of}
use Rattle.cd_machine.specs.Turns.{IsFirstAct}
use Rattle.cd_machine.specs.World.{AreShare, IsStart, Moves, World, WorldStep, at, starting}
use Rattle.cd_names.specs.declared.ownership.Policy.{Policy}
use Rattle.cd_peer.specs.Peers.{PeerView, StartsAs}
use Rattle.cd_peer.specs.Plain.{plain}
use Rattle.cd_peer.specs.Turns.{receipt}
use Rattle.cd_peer.specs.declared.peer.Turned.{Turned}
use Rattle.cd_peer.specs.declared.peer.Turned.TheVariants.{Did, Idle}
use Rattle.cd_premises.proofs.Runs.{runs_are_right}
use Rattle.cd_premises.proofs.Whole.{premises_meet}
use Rattle.cd_read.specs.declared.problem.Problem.{Problem}
use Rattle.cd_recorded.specs.Recorded.{peer_of}
use Rattle.cd_world.specs.declared.moving.Choice.{Choice}
use Rattle.cd_world.specs.declared.moving.Choice.TheVariants.{Turn, Deliver}
use Rattle.cd_world.specs.Worlds.{AreStanding, ArePeers, Before, Breaks, FallsPeer, IsPast, IsWorld, MayDo, MayStep, Parts, ReceivesPeer, Stands, StepsTo, TurnMade, TurnsPeer, Within, WorldView, locals_of, peer_at, with_local, with_parts, world_of}
use Rattle.cd_world.proofs.Times.{Timed, clock_le, timed_run, timed_start}
use Rattle.cd_recorded.proofs.Runs.{run_length, run_more}
use Rattle.cd_world.proofs.Runs.{IsOwn, each_peer, first_own, locals_at, locals_length, moves_own, own_below, peer_step, sequence_falls, sequence_snoc}

module _ (p : Problem) (policy : Policy) (limits : Limits) (turns : List ℕ) (vs ws : List PeerView) (end : World) (h : IsPast plain p policy limits turns vs end) where
  past_more : (ts us : List Letter) (e : Event) (f : Found e.act) → end ≡ record { locals = locals_of vs; travelling = ts } → e.peer < length vs → IsLegal plain p (peer_at vs e.peer).local e f → e.time < 2 ^ 63
      → Moves e.act ts (sent (peer_at vs e.peer).local e f) us → ws ≡ set vs e.peer (with_local (peer_at vs e.peer) (after (peer_at vs e.peer).local e f))
      → IsPast plain p policy limits (turns ++ e.peer ∷ []) ws (record { locals = locals_of ws; travelling = us })
  past_more ts us e f now i legal time moves w = record {
    start = h.start;
    few = h.few;
    events = h.events ++ e ∷ [];
    starts = h.starts;
    run = run_more plain p h.events h.start end (record { locals = locals_of ws; travelling = us }) e h.run
        (subst (λ (x : World). WorldStep plain p x e (record { locals = locals_of ws; travelling = us })) (sym now)
        (subst (λ (x : List PeerView). WorldStep plain p (record { locals = locals_of vs; travelling = ts }) e (record { locals = locals_of x; travelling = us })) (sym w) (peer_step plain p vs ts us e f i legal time moves)));
    many = locals_length ws;
    sequence = sequence_snoc turns vs ws h.events e (with_local (peer_at vs e.peer) (after (peer_at vs e.peer).local e f)) h.sequence i w refl;
  }

  past_events : length h.events ≡ length turns
  past_events = sym (length-map h.events peer_of) ∙ ap length h.sequence.peers_of

  past_timed : Timed (length turns) end
  past_timed = let t = timed_run plain p h.events 0 h.start end (timed_start p policy limits h.start h.starts) h.run in
      let n : 0 + length h.events ≡ length turns = (let g = past_events in omega (arith, g)) in subst (λ (m : ℕ). Timed m end) n t

  module _ (few : length turns < 2 ^ 62) (ts : List Letter) (now : end ≡ record { locals = locals_of vs; travelling = ts }) where
    clock_few : (q : ℕ) → q < length vs → (peer_at vs q).local.clock ≤ length turns
    clock_few q i = let t = (past_timed).clocks q (let n = h.many in omega (arith, i, n)) in
        subst (λ (s : Local). s.clock ≤ length turns) (ap (λ (w : World). at w q) now ∙ locals_at vs q) t

    -- an event that is the first of a turn
    module _ (q : ℕ) (letters : List Letter) (m : TurnsPeer q vs ws letters) (i : q < length vs) (me : (peer_at vs q).local.me ≡ q) (same : (peer_at vs q).problem ≡ p) where
      own : m.turn.event.peer ≡ q
      own = m.turn.step.legal.own ∙ me

      legal : IsLegal plain p (peer_at vs q).local m.turn.event m.turn.step.found
      legal = subst (λ (x : Problem). IsLegal plain x (peer_at vs q).local m.turn.event m.turn.step.found) same m.turn.step.legal

      its : IsOwn m.turn.event.act
      its = first_own plain (peer_at vs q).local m.turn.event.act m.turn.first

      time : m.turn.event.time < 2 ^ 63
      time = let c = clock_le (peer_at vs q).local.clock (length turns) m.turn.event.act (clock_few q i) (own_below (length turns) m.turn.event.act its) in
          let g = (legal).time in omega (arith, c, g, few)

      legal_there : IsLegal plain p (peer_at vs m.turn.event.peer).local m.turn.event m.turn.step.found
      legal_there = subst (λ (k : ℕ). IsLegal plain p (peer_at vs k).local m.turn.event m.turn.step.found) (sym own) legal

      moves_there : Moves m.turn.event.act ts (sent (peer_at vs m.turn.event.peer).local m.turn.event m.turn.step.found) (ts ++ letters)
      moves_there = moves_own m.turn.event.act ts (sent (peer_at vs m.turn.event.peer).local m.turn.event m.turn.step.found) (ts ++ letters) its
          (ap (λ ls. ts ++ ls) (m.turn.step.sends ∙ ap (λ k. sent (peer_at vs k).local m.turn.event m.turn.step.found) (sym own)))

      changes : ws ≡ set vs m.turn.event.peer (with_local (peer_at vs m.turn.event.peer) (after (peer_at vs m.turn.event.peer).local m.turn.event m.turn.step.found))
      changes = m.peers ∙ (ap (λ s. set vs q (with_local (peer_at vs q) s)) m.turn.step.effect
          ∙ ap (λ k. set vs k (with_local (peer_at vs k) (after (peer_at vs k).local m.turn.event m.turn.step.found))) (sym own))

      pub turn_past : IsPast plain p policy limits (turns ++ q ∷ []) ws (record { locals = locals_of ws; travelling = ts ++ letters })
      turn_past =
          subst (λ (k : ℕ). IsPast plain p policy limits (turns ++ k ∷ []) ws (record { locals = locals_of ws; travelling = ts ++ letters })) own
          (past_more ts (ts ++ letters) m.turn.event m.turn.step.found now (rw own i) legal_there time moves_there changes)

      -- the event of a turn as a step of the world
      pub turn_step : (e : Event) × WorldStep plain p (record { locals = locals_of vs; travelling = ts }) e (record { locals = locals_of ws; travelling = ts ++ letters }) × (e.peer ≡ q) × IsFirstAct plain (peer_at vs q).local e.act
      turn_step = (
        m.turn.event,
        subst (λ (x : List PeerView). WorldStep plain p (record { locals = locals_of vs; travelling = ts }) m.turn.event (record { locals = locals_of x; travelling = ts ++ letters })) (sym changes)
            (peer_step plain p vs ts (ts ++ letters) m.turn.event m.turn.step.found (rw own i) legal_there time moves_there),
        own,
        m.turn.first,
      )

    -- the receipt of a letter that travels
    module _ (l : Letter) (k : ℕ) (us : List Letter) (there : slice_get ts k ≡ Some l) (rest : us ≡ remove ts k) (m : ReceivesPeer l vs ws) (i : l.to < length vs) (me : (peer_at vs l.to).local.me ≡ l.to)
        (same : (peer_at vs l.to).problem ≡ p) where
      abbrev come : Event
      come = receipt (peer_at vs l.to).local l

      taken : LocalStep plain p (peer_at vs l.to).local (receipt (peer_at vs l.to).local l) m.next []
      taken = subst (λ (x : Problem). LocalStep plain x (peer_at vs l.to).local (receipt (peer_at vs l.to).local l) m.next []) same m.receives

      in_time : (receipt (peer_at vs l.to).local l).time < 2 ^ 63
      in_time = let c = clock_le (peer_at vs l.to).local.clock (length turns) (Receive l) (clock_few l.to i)
          (Each_at (λ x. x.time ≤ length turns) ts k l there (subst (λ (w : World). Each (λ x. x.time ≤ length turns) w.travelling) now (past_timed).letters)) in
          let g = (taken).legal.time in omega (arith, c, g, few)

      legal_here : IsLegal plain p (peer_at vs (peer_at vs l.to).local.me).local (receipt (peer_at vs l.to).local l) (taken).found
      legal_here = subst (λ (x : ℕ). IsLegal plain p (peer_at vs x).local (receipt (peer_at vs l.to).local l) (taken).found) (sym me) (taken).legal

      changes_here : ws ≡ set vs (peer_at vs l.to).local.me (with_local (peer_at vs (peer_at vs l.to).local.me) (after (peer_at vs (peer_at vs l.to).local.me).local (receipt (peer_at vs l.to).local l) (taken).found))
      changes_here = m.peers ∙ (ap (λ s. set vs l.to (with_local (peer_at vs l.to) s)) (taken).effect
          ∙ ap (λ x. set vs x (with_local (peer_at vs x) (after (peer_at vs x).local (receipt (peer_at vs l.to).local l) (taken).found))) (sym me))

      pub delivery_past : IsPast plain p policy limits (turns ++ l.to ∷ []) ws (record { locals = locals_of ws; travelling = us })
      delivery_past =
          subst (λ (x : ℕ). IsPast plain p policy limits (turns ++ x ∷ []) ws (record { locals = locals_of ws; travelling = us })) me
          (past_more ts us come (taken).found now (rw me i) legal_here in_time (k, there, rest ∙ sym (append-nil (remove ts k))) changes_here)

      pub delivery_step : (e : Event) × WorldStep plain p (record { locals = locals_of vs; travelling = ts }) e (record { locals = locals_of ws; travelling = us }) × (e.peer ≡ l.to) × (e.act ≡ Receive l)
      delivery_step = (
        come,
        subst (λ (x : List PeerView). WorldStep plain p (record { locals = locals_of vs; travelling = ts }) come (record { locals = locals_of x; travelling = us })) (sym changes_here)
            (peer_step plain p vs ts us come (taken).found (rw me i) legal_here in_time (k, there, rest ∙ sym (append-nil (remove ts k)))),
        me,
        refl,
      )

past_falls : (p : Problem) (policy : Policy) (limits : Limits) (turns : List ℕ) (vs ws : List PeerView) (end : World) (q : ℕ) → IsPast plain p policy limits turns vs end → FallsPeer q vs ws → q < length vs → IsPast plain p policy limits turns ws end
past_falls p policy limits turns vs ws end q h f i = record {
  start = h.start;
  few = h.few;
  events = h.events;
  starts = h.starts;
  run = h.run;
  many = h.many ∙ (sym (length-set vs q f.fallen) ∙ ap length (sym f.peers));
  sequence = sequence_falls turns vs ws h.events q f.fallen h.sequence i f.peers f.falls.journal;
}

module _ (v : WorldView) (i : IsWorld v) (standing : v.fallen ≡ false) where
  pub now_is : i.end ≡ world_of v.parts
  now_is = sym (i.now_ standing).0

  sound : IsSound plain v.problem v.policy (world_of v.parts)
  sound = subst (λ (w : World). IsSound plain v.problem v.policy w) now_is
      (run_sound plain (premises_meet plain) v.problem v.policy i.past.events i.past.start i.end i.past.run (start_sound plain (premises_meet plain) v.problem v.policy v.limits i.past.starts.fit i.past.start i.past.starts))

  pub stands : (k : ℕ) → k < length v.parts.peers → Stands v.problem (peer_at v.parts.peers k)
  stands k l = each_peer (Stands v.problem) v.parts.peers k l (i.now_ standing).1

  pub all_stand : AreStanding v.parts.peers
  all_stand k l = (stands k l).standing

  pub me_is : (k : ℕ) → k < length v.parts.peers → (peer_at v.parts.peers k).local.me ≡ k
  me_is k l = ap (λ s. s.me) (sym (locals_at v.parts.peers k)) ∙ ((sound).places k (rw (locals_length v.parts.peers) l)).0

  pub to_range : (l : Letter) (k : ℕ) → slice_get v.parts.travelling k ≡ Some l → l.to < length v.parts.peers
  to_range l k there = let t = Each_at (TrueLetter plain v.problem v.policy (length (locals_of v.parts.peers)) (record_of (world_of v.parts))) v.parts.travelling k l there (sound).truth.travelling in
      let r = t.to_range in let n = locals_length v.parts.peers in omega (arith, r, n)

  -- the law of the schedule, here
  pub law : IsRunning (world_of v.parts) → IsSchedule plain v.problem (world_of v.parts)
  law running = subst (λ (w : World). IsRunning w → IsSchedule plain v.problem w) now_is
      (runs_are_right plain v.problem v.policy v.limits i.past.start i.end i.past.events i.past.starts i.past.run).schedule running

  pub few_peers : length v.parts.peers < 2 ^ 16
  few_peers = let a = i.past.few in let b = i.past.many in let c = run_length plain v.problem i.past.events i.past.start i.end i.past.run in omega (arith, a, b, c)

  pub may_do : (choice : Choice) → MayStep v.parts choice → MayDo v.parts choice
  may_do (Turn k) m = let s = stands k m.0 in record { place = m.0; standing = s.standing; taken = s.taken; running = m.1 }
  may_do (Deliver k) m = (m.0, λ l there. (let r = to_range l k there in record { place = r; standing = (stands l.to r).standing; running = m.1 l there; mine = sym (me_is l.to r) }))

  stands_with : (k : ℕ) (s : Local) (ws : List PeerView) → k < length v.parts.peers → ws ≡ slice_set v.parts.peers k (with_local (peer_at v.parts.peers k) s) → Each (Stands v.problem) ws
  stands_with k s ws l w = subst (λ (x : List PeerView). Each (Stands v.problem) x) (sym w)
      (Each_set (Stands v.problem) v.parts.peers k (with_local (peer_at v.parts.peers k) s) (i.now_ standing).1
      (let t = stands k l in record { standing = t.standing; taken = t.taken; problem = t.problem }))

  turn_made : (k : ℕ) (w : Parts) (letters : List Letter) → k < length v.parts.peers → TurnMade k v.parts w letters
      → IsPast plain v.problem v.policy v.limits w.order w.peers (record { locals = locals_of w.peers; travelling = v.parts.travelling ++ letters })
  turn_made k w letters l m = subst (λ (o : List ℕ). IsPast plain v.problem v.policy v.limits o w.peers (record { locals = locals_of w.peers; travelling = v.parts.travelling ++ letters })) (sym m.order)
      (turn_past v.problem v.policy v.limits v.parts.order v.parts.peers w.peers i.end i.past m.few v.parts.travelling now_is k letters m.made l (me_is k l) (stands k l).problem)

  pub stepped : (choice : Choice) (w : Parts) (t : Turned) → MayStep v.parts choice → StepsTo v.parts choice w t → IsWorld (with_parts v w false)
  stepped (Turn k) w Did m (letters, made, joined) = record {
    end = record { locals = locals_of w.peers; travelling = v.parts.travelling ++ letters };
    past = turn_made k w letters m.0 made;
    now_ = λ _. (ap (λ ls. world_of (record { peers = w.peers; travelling = ls; order = w.order })) joined, stands_with k made.made.next w.peers m.0 made.made.peers);
  }
  stepped (Turn k) w Idle m (idle, same) = subst (λ (x : Parts). IsWorld (with_parts v x false)) (sym same)
      (subst (λ (b : Bool). IsWorld (with_parts v v.parts b)) standing i)
  stepped (Deliver k) w Did m d =
      let r = to_range d.letter k d.there in record {
        end = record { locals = locals_of w.peers; travelling = w.travelling };
        past = subst (λ (o : List ℕ). IsPast plain v.problem v.policy v.limits o w.peers (record { locals = locals_of w.peers; travelling = w.travelling })) (sym d.made.order)
            (delivery_past v.problem v.policy v.limits v.parts.order v.parts.peers w.peers i.end i.past d.made.few v.parts.travelling now_is d.letter k w.travelling d.there d.travelling d.made.made r (me_is d.letter.to r) (stands d.letter.to r).problem);
        now_ = λ _. (refl, stands_with d.letter.to d.made.made.next w.peers r d.made.made.peers);
      }
  stepped (Deliver k) w Idle m d = absurd d

  unmade : (w : Parts) → Before v.parts w → IsWorld (with_parts v w true)
  unmade w b = record {
    end = i.end;
    past = subst (λ (x : List PeerView). IsPast plain v.problem v.policy v.limits w.order x i.end) (sym b.peers)
        (subst (λ (o : List ℕ). IsPast plain v.problem v.policy v.limits o v.parts.peers i.end) (sym b.order) i.past);
    now_ = λ (h : true ≡ false). cc;
  }

  within : (k : ℕ) (w : Parts) → k < length v.parts.peers → Within k v.parts w → IsWorld (with_parts v w true)
  within k w l b = record {
    end = i.end;
    past = subst (λ (o : List ℕ). IsPast plain v.problem v.policy v.limits o w.peers i.end) (sym b.order)
        (past_falls v.problem v.policy v.limits v.parts.order v.parts.peers w.peers i.end k i.past b.falls l);
    now_ = λ (h : true ≡ false). cc;
  }

  pub broken : (choice : Choice) (w : Parts) → MayStep v.parts choice → Breaks v.parts choice w → IsWorld (with_parts v w true)
  broken (Turn k) w m (inl b) = unmade w b
  broken (Turn k) w m (inr (inl b)) = within k w m.0 b
  broken (Turn k) w m (inr (inr (letters, made))) = record {
    end = record { locals = locals_of w.peers; travelling = v.parts.travelling ++ letters };
    past = turn_made k w letters m.0 made;
    now_ = λ (h : true ≡ false). cc;
  }
  broken (Deliver k) w m (inl b) = unmade w b
  broken (Deliver k) w m (inr (l, there, b)) = within l.to w (to_range l k there) b

-- ---- the start

pub peer_push : (vs : List PeerView) (v : PeerView) → peer_at (vs ++ v ∷ []) (length vs) ≡ v
peer_push [] v = refl
peer_push (x ∷ vs) v = peer_push vs v

pub peer_front : (vs : List PeerView) (v : PeerView) (q : ℕ) → q < length vs → peer_at (vs ++ v ∷ []) q ≡ peer_at vs q
peer_front [] v q l = absurd (omega (arith, l))
peer_front (x ∷ vs) v zero l = refl
peer_front (x ∷ vs) v (suc q) l = peer_front vs v q (omega (arith, l))

pub start_more : (p : Problem) (n : ℕ) (policy : Policy) (limits : Limits) (vs : List PeerView) (k : ℕ) (v : PeerView) → length vs ≡ k → ArePeers p n policy limits vs → StartsAs p k n policy limits v → ArePeers p n policy limits (vs ++ v ∷ [])
start_more p n policy limits vs k v many each new q l = by (same_or_not q k)
  where
    by : (q ≡ k) ⊎ (q ≢ k) → StartsAs p q n policy limits (peer_at (vs ++ v ∷ []) q)
    by (inl h) = let e = h ∙ sym many in
        subst (λ (j : ℕ). StartsAs p j n policy limits (peer_at (vs ++ v ∷ []) j)) (sym e)
        (subst (λ (x : PeerView). StartsAs p (length vs) n policy limits x) (sym (peer_push vs v)) (subst (λ (j : ℕ). StartsAs p j n policy limits v) (sym many) new))
    by (inr h) = let m = length-append vs (v ∷ []) in let i : q < length vs = omega (arith, l, m, many, h) in
        subst (λ (x : PeerView). StartsAs p q n policy limits x) (sym (peer_front vs v q i)) (each q i)

pub start_is : (p : Problem) (n : ℕ) (policy : Policy) (limits : Limits) (vs : List PeerView) → 0 < n → Each (IsFit p) (clauses_of p) → length vs ≡ n → ArePeers p n policy limits vs → IsStart p policy limits (record { locals = locals_of vs; travelling = [] })
start_is p n policy limits vs some fit many each = record {
  some_peer = (let l = locals_length vs in omega (arith, l, many, some));
  fit = fit;
  fresh = λ q l. (let s = (each q (let m = locals_length vs in omega (arith, l, m))).local in
      let e : n ≡ length (locals_of vs) = sym many ∙ sym (locals_length vs) in
      (s.items, subst (λ (m : ℕ). AreShare q m 0 (clauses_of p) s.items) e s.share, locals_at vs q ∙ (s.is ∙ ap (λ m. starting q m policy limits s.items) e)));
  travelling = refl;
}

pub start_world : (p : Problem) (n : ℕ) (policy : Policy) (limits : Limits) (vs : List PeerView) → 0 < n → n < 2 ^ 16 → Each (IsFit p) (clauses_of p) → length vs ≡ n → ArePeers p n policy limits vs
    → IsWorld (record { problem = p; policy = policy; limits = limits; parts = record { peers = vs; travelling = []; order = [] }; fallen = false })
start_world p n policy limits vs some small fit many each = record {
  end = record { locals = locals_of vs; travelling = [] };
  past = record {
    start = record { locals = locals_of vs; travelling = [] };
    events = [];
    starts = start_is p n policy limits vs some fit many each;
    run = refl;
    few = (let l = locals_length vs in omega (arith, l, many, small));
    many = locals_length vs;
    sequence = record { peers_of = refl; journals = λ q l. (let s = each q l in ap (λ x. x.journal) (sym s.local.is)); inside = tt };
  };
  now_ = λ _. (refl, all vs (λ q l. (let s = each q l in record { standing = s.fallen; taken = s.outgoing; problem = s.problem })));
}
  where
    all : (xs : List PeerView) → ((q : ℕ) → q < length xs → Stands p (peer_at xs q)) → Each (Stands p) xs
    all [] f = tt
    all (x ∷ xs) f = (f 0 (omega arith), all xs (λ q l. f (suc q) (omega (arith, l))))
