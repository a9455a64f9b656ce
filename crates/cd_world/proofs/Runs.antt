-- What an event of the code is in a run.
use Rattle.std.proofs.Common.{◌≡◌, ◌≢◌, ℕ, zero, suc, ◌<◌, ◌^◌, Bool, true, false, cond, eqb, List, [], ◌∷◌, ◌++◌, length, set, get_or, arith, refl, ap, sym, ◌∙◌, subst, inl, inr, ◌⊎◌, length-set, append-nil}
use Rattle.std.specs.List.{AllByRecursion as Each}
use Rattle.std.specs.Prelude.{filter, slice_set}
use Rattle.std.proofs.lemmas.Bool.{eq-eqb}
use Rattle.std.proofs.lemmas.Bool.Decides.{nat_tests}
use Rattle.std.proofs.lemmas.List.{get_or-set_same, get_or-set_other, map-append}
use Rattle.std.proofs.lemmas.List.Elements.{filter-append}
use Rattle.cd_kbo.specs.declared.order.Order.{Order}
use Rattle.cd_laws.proofs.Lists.{Each_append}
use Rattle.cd_laws.proofs.Steps.{same_or_not}
use Rattle.cd_ledger.specs.declared.events.Act.{Act}
use Rattle.cd_ledger.specs.declared.events.Act.TheVariants.{Admit, Declare, End, Keep, Pass, Receive, Reject, Rewrite, Work}
use Rattle.cd_ledger.specs.declared.events.Event.{Event}
use Rattle.cd_ledger.specs.declared.letters.Letter.{Letter}
use Rattle.cd_ledger.specs.declared.local.Local.{Local}
use Rattle.cd_machine.specs.Events.{Found, after, sent}
use Rattle.cd_machine.specs.Fits.{IsLegal}
use Rattle.cd_machine.specs.Turns.{IsFirstAct}
use Rattle.cd_machine.specs.World.{Moves, WorldStep, nobody}
use Rattle.cd_peer.specs.Peers.{PeerView, ReceivesTo}
use Rattle.cd_peer.specs.Plain.{plain}
use Rattle.cd_peer.specs.Turns.{HasReceived}
use Rattle.cd_read.specs.declared.problem.Problem.{Problem}
use Rattle.cd_recorded.specs.Recorded.{peer_of}
use Rattle.cd_world.specs.Worlds.{IsSequence, ReceivesPeer, is_at, locals_of, no_peer, peer_at, with_local}
use Rattle.cd_world.proofs.Times.{LetterBelow}

pub any_peer : (vs : List PeerView) (k : ℕ) (v : PeerView) → k < length vs → v ≡ get_or vs k v → v ≡ peer_at vs k
any_peer [] k v l h = absurd (omega (arith, l))
any_peer (x ∷ vs) zero v l h = h
any_peer (x ∷ vs) (suc k) v l h = any_peer vs k v (omega (arith, l)) h

abbrev made : Problem → Local → List Letter → Bool → PeerView
made p s o b = record { problem = p; local = s; outgoing = o; fallen = b }

pub receives_peer : (vs : List PeerView) (l : Letter) (v u : PeerView) → l.to < length vs → v ≡ get_or vs l.to v → v.fallen ≡ false → ReceivesTo v u l → ReceivesPeer l vs (slice_set vs l.to u)
receives_peer vs l v u i h f r =
    let e = any_peer vs l.to v i h in
    record {
      next = u.local;
      receives = subst (λ (x : PeerView). HasReceived plain x.problem x.local u.local l) e r.receives;
      peers = ap (λ x. slice_set vs l.to x) (subst (λ (x : PeerView). u ≡ with_local x u.local) e same);
    }
  where
    same : u ≡ with_local v u.local
    same = ap (λ p. made p u.local u.outgoing u.fallen) r.problem ∙ (ap (λ o. made v.problem u.local o u.fallen) r.outgoing ∙ ap (λ b. made v.problem u.local v.outgoing b) (r.fallen ∙ sym f))

-- ---- locals

pub locals_set : (vs : List PeerView) (q : ℕ) (v : PeerView) → locals_of (set vs q v) ≡ set (locals_of vs) q v.local
locals_set [] zero v = refl
locals_set [] (suc q) v = refl
locals_set (x ∷ vs) zero v = refl
locals_set (x ∷ vs) (suc q) v = ap (λ ls. x.local ∷ ls) (locals_set vs q v)

pub locals_at : (vs : List PeerView) (q : ℕ) → get_or (locals_of vs) q nobody ≡ (peer_at vs q).local
locals_at [] zero = refl
locals_at [] (suc q) = refl
locals_at (x ∷ vs) zero = refl
locals_at (x ∷ vs) (suc q) = locals_at vs q

pub locals_length : (vs : List PeerView) → length (locals_of vs) ≡ length vs
locals_length [] = refl
locals_length (x ∷ vs) = ap suc (locals_length vs)

pub each_peer : (P : PeerView → Type 0) (vs : List PeerView) (q : ℕ) → q < length vs → Each P vs → P (peer_at vs q)
each_peer P [] q l h = absurd (omega (arith, l))
each_peer P (x ∷ vs) zero l h = h.0
each_peer P (x ∷ vs) (suc q) l h = each_peer P vs q (omega (arith, l)) h.1

-- ---- one event more

-- an act that takes no letter
abbrev pub IsOwn : Act → Type 0
IsOwn (Rewrite k) = Unit {0}
IsOwn (Keep k) = Unit {0}
IsOwn (Receive l) = ⊥
IsOwn (Admit k) = Unit {0}
IsOwn (Reject k) = Unit {0}
IsOwn (Work t) = Unit {0}
IsOwn Pass = Unit {0}
IsOwn Declare = Unit {0}
IsOwn (End v) = Unit {0}

pub first_own : (order : Order) (s : Local) (a : Act) → IsFirstAct order s a → IsOwn a
first_own order s (Rewrite k) f = tt
first_own order s (Keep k) f = tt
first_own order s (Receive l) f = f
first_own order s (Admit k) f = tt
first_own order s (Reject k) f = tt
first_own order s (Work t) f = tt
first_own order s Pass f = tt
first_own order s Declare f = tt
first_own order s (End v) f = tt

pub moves_own : (a : Act) (b n x : List Letter) → IsOwn a → x ≡ b ++ n → Moves a b n x
moves_own (Rewrite k) b n x o h = h
moves_own (Keep k) b n x o h = h
moves_own (Receive l) b n x o h = absurd o
moves_own (Admit k) b n x o h = h
moves_own (Reject k) b n x o h = h
moves_own (Work t) b n x o h = h
moves_own Pass b n x o h = h
moves_own Declare b n x o h = h
moves_own (End v) b n x o h = h

pub own_below : (n : ℕ) (a : Act) → IsOwn a → LetterBelow n a
own_below n (Rewrite k) o = tt
own_below n (Keep k) o = tt
own_below n (Receive l) o = absurd o
own_below n (Admit k) o = tt
own_below n (Reject k) o = tt
own_below n (Work t) o = tt
own_below n Pass o = tt
own_below n Declare o = tt
own_below n (End v) o = tt

-- a legal event of a peer is a step of the world
pub peer_step : (order : Order) (p : Problem) (vs : List PeerView) (ts us : List Letter) (e : Event) (f : Found e.act) → e.peer < length vs → IsLegal order p (peer_at vs e.peer).local e f → e.time < 2 ^ 63
    → Moves e.act ts (sent (peer_at vs e.peer).local e f) us
    → WorldStep order p (record { locals = locals_of vs; travelling = ts }) e (record { locals = locals_of (set vs e.peer (with_local (peer_at vs e.peer) (after (peer_at vs e.peer).local e f))); travelling = us })
peer_step order p vs ts us e f i legal time moves = record {
  in_range = rw (locals_length vs) i;
  time = time;
  found = f;
  legal = subst (λ (s : Local). IsLegal order p s e f) (sym here) legal;
  stepped = subst (λ (s : Local). locals_of (set vs e.peer (with_local (peer_at vs e.peer) (after (peer_at vs e.peer).local e f))) ≡ set (locals_of vs) e.peer (after s e f)) (sym here)
      (locals_set vs e.peer (with_local (peer_at vs e.peer) (after (peer_at vs e.peer).local e f)));
  moved = subst (λ (s : Local). Moves e.act ts (sent s e f) us) (sym here) moves;
}
  where
    here : get_or (locals_of vs) e.peer nobody ≡ (peer_at vs e.peer).local
    here = locals_at vs e.peer

-- ---- the sequence

pub peer_set_same : (vs : List PeerView) (q : ℕ) (v : PeerView) → q < length vs → peer_at (set vs q v) q ≡ v
peer_set_same vs q v l = get_or-set_same vs q v no_peer l

pub peer_set_other : (vs : List PeerView) (q k : ℕ) (v : PeerView) → k ≢ q → peer_at (set vs q v) k ≡ peer_at vs k
peer_set_other vs q k v ne = get_or-set_other vs q k v no_peer ne

pub sequence_snoc : (turns : List ℕ) (vs ws : List PeerView) (es : List Event) (e : Event) (v : PeerView) → IsSequence turns vs es → e.peer < length vs
    → ws ≡ set vs e.peer v → v.local.journal ≡ (peer_at vs e.peer).local.journal ++ e ∷ [] → IsSequence (turns ++ e.peer ∷ []) ws (es ++ e ∷ [])
sequence_snoc turns vs ws es e v s i w j = subst (λ (x : List PeerView). IsSequence (turns ++ e.peer ∷ []) x (es ++ e ∷ [])) (sym w) (record {
  peers_of = map-append peer_of es (e ∷ []) ∙ ap (λ ns. ns ++ e.peer ∷ []) s.peers_of;
  journals = λ q l. (filter-append (is_at q) es (e ∷ []) ∙ at_q q (let n = length-set vs e.peer v in omega (arith, l, n)) (same_or_not q e.peer));
  inside = Each_append (λ x. x.peer < length (set vs e.peer v)) es (e ∷ []) (rw (length-set vs e.peer v) s.inside) (rw (length-set vs e.peer v) i, tt);
})
  where
    one : (q : ℕ) (b : Bool) → eqb e.peer q ≡ b → filter (is_at q) (e ∷ []) ≡ cond b (e ∷ []) []
    one q b h = rw h (elim b as (λ c. cond c (e ∷ []) [] ≡ cond c (e ∷ []) []) [ true ↦ refl | false ↦ refl ])

    at_q : (q : ℕ) → q < length vs → (q ≡ e.peer) ⊎ (q ≢ e.peer) → filter (is_at q) es ++ filter (is_at q) (e ∷ []) ≡ (peer_at (set vs e.peer v) q).local.journal
    at_q q l (inl h) =
        let t : eqb e.peer q ≡ true = eq-eqb e.peer q (sym h) in
        ap (λ xs. filter (is_at q) es ++ xs) (one q true t) ∙ (ap (λ xs. xs ++ e ∷ []) (s.journals q l)
        ∙ (ap (λ k. (peer_at vs k).local.journal ++ e ∷ []) h ∙ (sym j ∙ (ap (λ x. x.local.journal) (sym (peer_set_same vs e.peer v i)) ∙ ap (λ k. (peer_at (set vs e.peer v) k).local.journal) (sym h)))))
    at_q q l (inr h) =
        let t : eqb e.peer q ≡ false = grind (arith, nat_tests, h) in
        ap (λ xs. filter (is_at q) es ++ xs) (one q false t) ∙ (append-nil (filter (is_at q) es) ∙ (s.journals q l ∙ ap (λ x. x.local.journal) (sym (peer_set_other vs e.peer q v h))))

-- a peer that falls keeps its journal
pub sequence_falls : (turns : List ℕ) (vs ws : List PeerView) (es : List Event) (q : ℕ) (v : PeerView) → IsSequence turns vs es → q < length vs → ws ≡ set vs q v
    → v.local.journal ≡ (peer_at vs q).local.journal → IsSequence turns ws es
sequence_falls turns vs ws es k v s i w j = subst (λ (x : List PeerView). IsSequence turns x es) (sym w) (record {
  peers_of = s.peers_of;
  journals = λ q l. at_q q (let n = length-set vs k v in omega (arith, l, n)) (same_or_not q k);
  inside = rw (length-set vs k v) s.inside;
})
  where
    at_q : (q : ℕ) → q < length vs → (q ≡ k) ⊎ (q ≢ k) → filter (is_at q) es ≡ (peer_at (set vs k v) q).local.journal
    at_q q l (inl h) = s.journals q l ∙ (ap (λ m. (peer_at vs m).local.journal) h ∙ (sym j ∙ (ap (λ x. x.local.journal) (sym (peer_set_same vs k v i)) ∙ ap (λ m. (peer_at (set vs k v) m).local.journal) (sym h))))
    at_q q l (inr h) = s.journals q l ∙ ap (λ x. x.local.journal) (sym (peer_set_other vs k q v h))
