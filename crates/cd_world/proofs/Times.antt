-- No time is above the number of events.
use Rattle.std.proofs.Common.{◌≡◌, ℕ, zero, suc, ◌+◌, ◌-◌, ◌<◌, ◌≤◌, ◌^◌, true, false, cond, eqb, ltb, List, [], ◌∷◌, length, arith, refl, sym, subst}
use Rattle.std.specs.List.{AllByRecursion as Each, cons_option}
use Rattle.std.specs.Prelude.{Option, Some, None, max, min}
use Rattle.std.proofs.Math.Nat.{min-le_left}
use Rattle.std.proofs.lemmas.Bool.Decides.{nat_tests}
use Rattle.cd_contract.specs.declared.held.Hit.{Hit}
use Rattle.cd_kbo.specs.declared.order.Order.{Order}
use Rattle.cd_ledger.specs.declared.events.Act.{Act}
use Rattle.cd_ledger.specs.declared.events.Act.TheVariants.{Admit, Declare, End, Keep, Pass, Receive, Reject, Rewrite, Work}
use Rattle.cd_ledger.specs.declared.events.Event.{Event}
use Rattle.cd_ledger.specs.declared.items.Outcome.{Outcome}
use Rattle.cd_ledger.specs.declared.items.Outcome.TheVariants.{Named, Subsumed, Trivial}
use Rattle.cd_ledger.specs.declared.letters.Body.{Body}
use Rattle.cd_ledger.specs.declared.letters.Body.TheVariants as body
use Rattle.cd_ledger.specs.declared.letters.Letter.{Letter}
use Rattle.cd_ledger.specs.declared.local.Limits.{Limits}
use Rattle.cd_ledger.specs.declared.local.Local.{Local}
use Rattle.cd_ledger.specs.declared.records.Known.{Known}
use Rattle.cd_ledger.specs.declared.records.Record.{Record}
use Rattle.cd_laws.proofs.Lists.{Each_append, Each_gather, Each_weaker}
use Rattle.cd_laws.proofs.Steps.{at_each, moves_each, moves_letter}
use Rattle.cd_machine.specs.Acts.{body_letters, keep_letters, kept_letter, broadcast, taken}
use Rattle.cd_machine.specs.Arrivals.{new_record, next_name}
use Rattle.cd_machine.specs.Contraction.{hit_on, named_hit, notice, notice_of, notices}
use Rattle.cd_machine.specs.Events.{Found, after, clock_after, sent, sent_by, tick}
use Rattle.cd_machine.specs.Tokens.{next_peer, passed}
use Rattle.cd_machine.specs.World.{IsStart, Moves, Run, World, WorldStep, at}
use Rattle.cd_names.specs.declared.How.{How}
use Rattle.cd_names.specs.declared.names.Name.{Name}
use Rattle.cd_names.specs.declared.ownership.Policy.{Policy}
use Rattle.cd_read.specs.declared.problem.Problem.{Problem}
use Rattle.cd_world.specs.Draws.{TimesAreFew}

abbrev pub IsOf : ℕ → Letter → Type 0
IsOf t l = l.time ≡ t

notice_time : (me t : ℕ) (d : Name) (r : Record) (o : Option How) → Each (IsOf t) (cons_option (notice_of me t d r o) [])
notice_time me t d r None = tt
notice_time me t d r (Some h) = elim (eqb r.owner me) as (λ b. Each (IsOf t) (cons_option (cond b None (Some (notice me t d h r))) [])) [ true ↦ tt | false ↦ (refl, tt) ]

notices_time : (me t : ℕ) (hit : Known → Option How) (d : Name) (es : List Known) → Each (IsOf t) (notices me t hit d es)
notices_time me t hit d es = Each_gather (IsOf t) (λ e. notice_of me t d e.entry (hit_on hit e)) es (all es)
  where
    all : (xs : List Known) → Each (λ e. Each (IsOf t) (cons_option (notice_of me t d e.entry (hit_on hit e)) [])) xs
    all [] = tt
    all (x ∷ xs) = (notice_time me t d x.entry (hit_on hit x), all xs)

broadcast_time : (me t : ℕ) (r : Record) (n : ℕ) → Each (IsOf t) (broadcast me t r n)
broadcast_time me t r zero = tt
broadcast_time me t r (suc n) = Each_append (IsOf t) (broadcast me t r n) _ (broadcast_time me t r n)
    (elim (eqb n me) as (λ b. Each (IsOf t) (cond b [] (kept_letter me t r n ∷ []))) [ true ↦ tt | false ↦ (refl, tt) ])

-- letters carry their event's time
pub sent_time : (s : Local) (t : ℕ) (a : Act) (f : Found a) → Each (IsOf t) (sent_by s t a f)
sent_time s t (Rewrite k) f = tt
sent_time s t (Keep k) f = go f.outcome
  where
    go : (o : Outcome) → Each (IsOf t) (keep_letters s t k f.item o f.hit)
    go (Named n) = Each_append (IsOf t) (broadcast s.me t (new_record s f.item) s.peers) _ (broadcast_time s.me t (new_record s f.item) s.peers)
        (notices_time s.me t f.hit (next_name s) (taken s k f.item (Named n)).known)
    go Trivial = tt
    go (Subsumed d) = tt
sent_time s t (Receive l) f = tt
sent_time s t (Admit k) f = go f.letter.body f.forward
  where
    go : (b : Body) (o : Option Hit) → Each (IsOf t) (body_letters s t b o f.hit)
    go (body.Kept r) None = notices_time s.me t f.hit r.name s.known
    go (body.Kept r) (Some h) = notice_time s.me t h.by r (Some h.how)
    go (body.Notice n m h) o = notices_time s.me t (named_hit n h) m s.known
    go (body.Token k) o = tt
sent_time s t (Reject k) f = tt
sent_time s t (Work k) f = tt
sent_time s t Pass f = elim (eqb s.peers 1) as (λ b. Each (IsOf t) (cond b [] (record { sender = s.me; to = next_peer s; time = t; body = body.Token (passed s.peers s.count f) } ∷ []))) [ true ↦ tt | false ↦ (refl, tt) ]
sent_time s t Declare f = tt
sent_time s t (End v) f = tt

-- clocks and letters on their way are at most at a time
pub record Timed (n : ℕ) (w : World) : Type 0 where
  pub clocks : (q : ℕ) → q < length w.locals → (at w q).clock ≤ n
  pub letters : Each (λ l. l.time ≤ n) w.travelling

pub tick_le : (c n : ℕ) → c ≤ n → tick c ≤ n + 1
tick_le c n l = let m = min-le_left (c + 1) (2 ^ 64 - 1) in go (min (c + 1) (2 ^ 64 - 1)) m
  where
    go : (x : ℕ) → x ≤ c + 1 → x ≤ n + 1
    go x m = omega (arith, m, l)

abbrev pub LetterBelow : ℕ → Act → Type 0
LetterBelow n (Rewrite k) = Unit {0}
LetterBelow n (Keep k) = Unit {0}
LetterBelow n (Receive l) = l.time ≤ n
LetterBelow n (Admit k) = Unit {0}
LetterBelow n (Reject k) = Unit {0}
LetterBelow n (Work t) = Unit {0}
LetterBelow n Pass = Unit {0}
LetterBelow n Declare = Unit {0}
LetterBelow n (End v) = Unit {0}

pub clock_le : (c n : ℕ) (a : Act) → c ≤ n → LetterBelow n a → clock_after c a ≤ n + 1
clock_le c n (Rewrite k) l g = tick_le c n l
clock_le c n (Keep k) l g = tick_le c n l
clock_le c n (Receive x) l g = elim (ltb x.time (2 ^ 63)) as (λ b. cond b (tick (max c x.time)) (tick c) ≤ n + 1) [ true ↦ tick_le (max c x.time) n (max_le c x.time n l g) | false ↦ tick_le c n l ]
  where
    max_le : (a b m : ℕ) → a ≤ m → b ≤ m → max a b ≤ m
    max_le a b m h k = grind (arith, nat_tests, h, k)
clock_le c n (Admit k) l g = tick_le c n l
clock_le c n (Reject k) l g = tick_le c n l
clock_le c n (Work t) l g = tick_le c n l
clock_le c n Pass l g = tick_le c n l
clock_le c n Declare l g = tick_le c n l
clock_le c n (End v) l g = tick_le c n l

module _ (order : Order) (p : Problem) where
  letter_below : (n : ℕ) (w : World) (a : Act) (new after : List Letter) → Timed n w → Moves a w.travelling new after → LetterBelow n a
  letter_below n w (Rewrite k) new after t m = tt
  letter_below n w (Keep k) new after t m = tt
  letter_below n w (Receive l) new after t m = moves_letter (λ x. x.time ≤ n) l w.travelling new after m t.letters
  letter_below n w (Admit k) new after t m = tt
  letter_below n w (Reject k) new after t m = tt
  letter_below n w (Work k) new after t m = tt
  letter_below n w Pass new after t m = tt
  letter_below n w Declare new after t m = tt
  letter_below n w (End v) new after t m = tt

  event_time : (n : ℕ) (w : World) (e : Event) (v : World) → Timed n w → WorldStep order p w e v → e.time ≤ n + 1
  event_time n w e v t h = rw h.legal.time (clock_le (at w e.peer).clock n e.act (t.clocks e.peer h.in_range) (letter_below n w e.act (sent (at w e.peer) e h.found) v.travelling t h.moved))

  pub timed_step : (n : ℕ) (w : World) (e : Event) (v : World) → Timed n w → WorldStep order p w e v → Timed (n + 1) v
  timed_step n w e v t h = record {
    clocks = at_each order p w e v h (λ q s. s.clock ≤ n + 1) below (λ q l ne. (let c = t.clocks q l in omega (arith, c)));
    letters = moves_each (λ l. l.time ≤ n + 1) e.act w.travelling (sent (at w e.peer) e h.found) v.travelling h.moved
        (Each_weaker (λ l. l.time ≤ n) (λ l. l.time ≤ n + 1) (λ l x. omega (arith, x)) w.travelling t.letters)
        (Each_weaker (IsOf e.time) (λ l. l.time ≤ n + 1) (λ l x. (let b = below in omega (arith, x, b))) (sent (at w e.peer) e h.found) (sent_time (at w e.peer) e.time e.act h.found));
  }
    where
      below : e.time ≤ n + 1
      below = event_time n w e v t h

  pub timed_run : (es : List Event) (n : ℕ) (w v : World) → Timed n w → Run order p w es v → Timed (n + length es) v
  timed_run [] n w v t r = subst (λ (u : World). Timed (n + 0) u) (sym r) (let e : n ≡ n + 0 = omega arith in subst (λ (m : ℕ). Timed m w) e t)
  timed_run (e ∷ es) n w v t r = let x = timed_run es (n + 1) r.0 v (timed_step n w e r.0 t r.1) r.2 in
      (let g : n + 1 + length es ≡ n + length (e ∷ es) = omega arith in subst (λ (m : ℕ). Timed m v) g x)

  times_below : (es : List Event) (n : ℕ) (w v : World) → Timed n w → Run order p w es v → Each (λ e. e.time ≤ n + length es) es
  times_below [] n w v t r = tt
  times_below (e ∷ es) n w v t r =
      let now = event_time n w e r.0 t r.1 in
      let later = times_below es (n + 1) r.0 v (timed_step n w e r.0 t r.1) r.2 in
      (omega (arith, now), Each_weaker (λ f. f.time ≤ n + 1 + length es) (λ f. f.time ≤ n + length (e ∷ es)) (λ f x. omega (arith, x)) es later)

pub timed_start : (p : Problem) (policy : Policy) (limits : Limits) (w : World) → IsStart p policy limits w → Timed 0 w
timed_start p policy limits w s = record {
  clocks = λ q l. (let f = s.fresh q l in rw f.2 (let z : 0 ≤ 0 = omega arith in z));
  letters = rw s.travelling tt;
}

pub times_are_few : TimesAreFew
times_are_few order p policy limits start events end starts run =
    Each_weaker (λ e. e.time ≤ 0 + length events) (λ e. e.time ≤ length events) (λ e x. omega (arith, x)) events
    (times_below order p events 0 start end (timed_start p policy limits start starts) run)
