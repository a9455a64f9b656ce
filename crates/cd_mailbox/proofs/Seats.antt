-- A pass with a seat at each mailbox, of which one changes.
use Rattle.std.proofs.Common.{◌≡◌, ◌≢◌, ℕ, zero, suc, ◌<◌, ◌||◌, true, false, cond, List, [], ◌∷◌, ◌++◌, map, length, set, get_or, refl, sym, ap, ◌∙◌, subst, eq-eqb, append-nil, arith, length-set, Result, Ok, Err, MatchResult, Option, Some, None, MatchOption}
use Rattle.std.proofs.lemmas.List.{length-map, map-set, set-get_or, get_or-set_same, get_or-set_other, get_or-map}
use Rattle.std.proofs.lemmas.List.Elements.{All-set}
use Rattle.std.specs.declared.alloc.Global.{Global}
use mathlib.Core.Logic.{dite}
use native.Mathlib.Decide.{ℕ_discrete}
use Rattle.crossbeam_queue.specs.SegTies.{SegId, IsSegPassOf}
use Rattle.cd_mailbox.specs.declared.rule.View.{View}
use Rattle.cd_mailbox.specs.Views.{letters_of, part, has_in, posted_in, put_in, single, nothing, after_post, after_take}
use Rattle.cd_mailbox.specs.Rule.{IsFor, Stood}
use Rattle.cd_mailbox.specs.Known.{MailSeat, Known, posting, taking, WasEmpty, seen, id_of, seen_at, IsIdle, IsSingle, IsWhole, posted_by, known_of}
use Rattle.cd_mailbox.proofs.Parts.{put_same}
use Rattle.cd_mailbox.proofs.Steps.{balances, has_own}

module _ {L : Type 0} where
  -- ---- views of one number

  pub holds_single : (peers owner p : ℕ) (v : View L) → IsSingle peers owner p v → has_in p v.parts ≡ true
  holds_single peers owner p v s = ap (λ (y : View L). has_in p y.parts) s.is ∙ ap (λ b. b || false) (eq-eqb p p refl)

  posted_single : (peers owner p : ℕ) (v : View L) (s : IsSingle peers owner p v) → posted_in p v.parts ≡ s.posted
  posted_single peers owner p v s = ap (λ (y : View L). posted_in p y.parts) s.is ∙ ap (λ b. cond b s.posted []) (eq-eqb p p refl)

  -- the view of one number is given by what was posted and taken
  single_is : (peers owner p : ℕ) (v : View L) → IsSingle peers owner p v → v ≡ single peers owner p (posted_in p v.parts) v.taken
  single_is peers owner p v s = s.is ∙ (λ i. single peers owner p (sym (posted_single peers owner p v s) i) (ap (λ (y : View L). y.taken) (sym s.is) i))

  put_single : (sender : L → ℕ) (p : ℕ) (posted : List L) (x : L) → sender x ≡ p → put_in (sender x) x (part p posted ∷ []) ≡ part p (posted ++ x ∷ []) ∷ []
  put_single sender p posted x e = ap (λ b. cond b (part p (posted ++ x ∷ []) ∷ []) (part p posted ∷ [])) (eq-eqb p (sender x) (sym e))

  pub single_post : (sender : L → ℕ) (peers owner p : ℕ) (v : View L) (x : L) → sender x ≡ p → IsSingle peers owner p v → IsSingle peers owner p (after_post sender v x)
  single_post sender peers owner p v x e s = record {
    posted = s.posted ++ x ∷ [];
    taken = s.taken;
    is = ap (λ (y : View L). after_post sender y x) s.is ∙ ap (λ ps. record { opening = false; peers = peers; owner = owner; parts = ps; taken = s.taken }) (put_single sender p s.posted x e);
  }

  pub single_take : (peers owner p : ℕ) (v : View L) (x : L) → IsSingle peers owner p v → IsSingle peers owner p (after_take v x)
  single_take peers owner p v x s = record { posted = s.posted; taken = s.taken ++ x ∷ []; is = ap (λ (y : View L). after_take y x) s.is }

  -- ---- one seat changes

  pub seat_there : (q : ℕ) (seats : List (MailSeat L)) (s : MailSeat L) → q < length seats → s ≡ get_or seats q s → seen s ≡ seen_at seats q
  seat_there q seats s lt at = ap seen at ∙ sym (get_or-map seen seats q s nothing lt)

  -- what is said of the views afterwards
  pub seen_set : (P : View L → Type 0) (seats : List (MailSeat L)) (q k : ℕ) (s : MailSeat L) → q < length seats → (k ≡ q → P (seen s)) → (k ≢ q → P (seen_at seats k)) → P (seen_at (set seats q s) k)
  seen_set P seats q k s lt here other =
      let lt' : q < length (map seen seats) = rw length-map lt in
      subst (λ (l : List (View L)). P (get_or l k nothing)) (sym (map-set seen seats q s))
      (dite (ℕ_discrete k q)
      (λ e. subst (λ j. P (get_or (set (map seen seats) q (seen s)) j nothing)) (sym e) (subst P (sym (get_or-set_same (map seen seats) q (seen s) nothing lt')) (here e)))
      (λ ne. subst P (sym (get_or-set_other (map seen seats) q k (seen s) nothing ne)) (other ne)))

  pub whole_set : (p q : ℕ) (seats : List (MailSeat L)) (s : MailSeat L) → IsWhole p seats → q < length seats → IsIdle s → IsSingle (length seats) q p (seen s) → IsWhole p (set seats q s)
  whole_set p q seats s w lt idle is = record {
    below = rw length-set w.below;
    idle = All-set IsIdle seats q s idle w.idle;
    each = λ k below.
        let below' : k < length seats = rw length-set at below in
        seen_set (IsSingle (length (set seats q s)) k p) seats q k s lt
        (λ e. subst (λ j. IsSingle (length (set seats q s)) j p (seen s)) (sym e) (subst (λ n. IsSingle n q p (seen s)) (sym (length-set seats q s)) is))
        (λ ne. subst (λ n. IsSingle n k p (seen_at seats k)) (sym (length-set seats q s)) (w.each k below'));
  }

  -- the new seat is of the same mailbox
  pub ids_set : (q : ℕ) (seats : List (MailSeat L)) (s : MailSeat L) (ids : List (SegId Global)) (b : SegId Global) → map id_of seats ≡ ids → b ≡ get_or ids q b → IsSegPassOf b s → map id_of (set seats q s) ≡ map id_of seats
  ids_set q seats s ids b e at is =
      let same : id_of s ≡ b = λ i. record { web = is.0.0 i; heap = is.0.1 i } in
      map-set id_of seats q s ∙ ap (set (map id_of seats) q) (same ∙ at ∙ ap (λ l. get_or l q b) (sym e)) ∙ set-get_or (map id_of seats) q b

  pub below_ids : (seats : List (MailSeat L)) (ids : List (SegId Global)) (q : ℕ) → map id_of seats ≡ ids → q < length ids → q < length seats
  below_ids seats ids q e lt = let f : length (map id_of seats) ≡ length ids = ap length e in let g : length seats ≡ length ids = simp length-map at f in omega arith

  pub posted_there : (p q : ℕ) (seats : List (MailSeat L)) → q < length seats → posted_in p (seen_at seats q).parts ≡ get_or (map (posted_by p) seats) q []
  posted_there p q seats lt = sym (by seats q lt)
    where
      by : (xs : List (MailSeat L)) (k : ℕ) → k < length xs → get_or (map (posted_by p) xs) k [] ≡ posted_in p (seen_at xs k).parts
      by [] k lt = absurd (omega arith)
      by (x ∷ xs) zero lt = refl
      by (x ∷ xs) (suc k) lt = by xs k (omega arith)

  -- ---- what callers see

  known_set : (p q : ℕ) (seats : List (MailSeat L)) (s : MailSeat L) (ids : List (SegId Global)) (b : SegId Global) (k : Known L) → map id_of seats ≡ ids → b ≡ get_or ids q b → IsSegPassOf b s
      → k.boxes ≡ map id_of seats → k.peer ≡ p → set (map (posted_by p) seats) q (posted_by p s) ≡ k.posted → (seen_at (set seats q s) p).taken ≡ k.taken → known_of p (set seats q s) ≡ k
  known_set p q seats s ids b k e at is boxes peer posted taken =
      let same = ids_set q seats s ids b e at is ∙ sym boxes in
      let sent = map-set (posted_by p) seats q s ∙ posted in
      λ i. record { boxes = same i; peer = sym peer i; posted = sent i; taken = taken i }

  pub known_same : (p q : ℕ) (seats : List (MailSeat L)) (s old : MailSeat L) (ids : List (SegId Global)) (b : SegId Global) → q < length seats → old ≡ get_or seats q old → map id_of seats ≡ ids → b ≡ get_or ids q b → IsSegPassOf b s
      → seen s ≡ seen old → known_of p (set seats q s) ≡ known_of p seats
  known_same p q seats s old ids b lt there e at is same =
      let was : seen s ≡ seen_at seats q = same ∙ seat_there q seats old lt there in
      known_set p q seats s ids b (known_of p seats) e at is refl refl
      (ap (set (map (posted_by p) seats) q) (ap (λ (v : View L). posted_in p v.parts) was ∙ posted_there p q seats lt) ∙ set-get_or (map (posted_by p) seats) q [])
      (seen_set (λ v. v.taken ≡ (seen_at seats p).taken) seats q p s lt (λ here. ap (λ (v : View L). v.taken) was ∙ ap (λ j. (seen_at seats j).taken) (sym here)) (λ ne. refl))

  pub known_posting : (sender : L → ℕ) (p q : ℕ) (seats : List (MailSeat L)) (s old : MailSeat L) (ids : List (SegId Global)) (b : SegId Global) (x : L) → IsWhole p seats → q < length seats → old ≡ get_or seats q old → map id_of seats ≡ ids
      → b ≡ get_or ids q b → IsSegPassOf b s → sender x ≡ p → seen s ≡ after_post sender (seen old) x → known_of p (set seats q s) ≡ posting (known_of p seats) q x
  known_posting sender p q seats s old ids b x w lt there e at is from new =
      let was : seen s ≡ after_post sender (seen_at seats q) x = new ∙ ap (λ v. after_post sender v x) (seat_there q seats old lt there) in
      let single = w.each q lt in
      let more : posted_by p s ≡ posted_in p (seen_at seats q).parts ++ x ∷ [] =
      ap (λ (v : View L). posted_in p v.parts) was ∙ subst (λ n. posted_in p (put_in n x (seen_at seats q).parts) ≡ posted_in p (seen_at seats q).parts ++ x ∷ []) (sym from)
      (put_same p x (seen_at seats q).parts (holds_single (length seats) q p (seen_at seats q) single)) in
      known_set p q seats s ids b (posting (known_of p seats) q x) e at is refl refl
      (ap (set (map (posted_by p) seats) q) (more ∙ ap (λ r. r ++ x ∷ []) (posted_there p q seats lt)))
      (seen_set (λ v. v.taken ≡ (seen_at seats p).taken) seats q p s lt (λ here. ap (λ (v : View L). v.taken) was ∙ ap (λ j. (seen_at seats j).taken) (sym here)) (λ ne. refl))

  pub known_taking : (p : ℕ) (seats : List (MailSeat L)) (s old : MailSeat L) (ids : List (SegId Global)) (b : SegId Global) (x : L) → p < length seats → old ≡ get_or seats p old → map id_of seats ≡ ids → b ≡ get_or ids p b → IsSegPassOf b s
      → seen s ≡ after_take (seen old) x → known_of p (set seats p s) ≡ taking (known_of p seats) x
  known_taking p seats s old ids b x lt there e at is new =
      let was : seen s ≡ after_take (seen_at seats p) x = new ∙ ap (λ v. after_take v x) (seat_there p seats old lt there) in
      known_set p p seats s ids b (taking (known_of p seats) x) e at is refl refl
      (ap (set (map (posted_by p) seats) p) (ap (λ (v : View L). posted_in p v.parts) was ∙ posted_there p p seats lt) ∙ set-get_or (map (posted_by p) seats) p [])
      (seen_set (λ v. v.taken ≡ (seen_at seats p).taken ++ x ∷ []) seats p p s lt (λ here. ap (λ (v : View L). v.taken) was) (λ ne. absurd (ne refl)))

  -- the own mailbox was found empty
  pub was_empty : (sender receiver : L → ℕ) (p : ℕ) (seats : List (MailSeat L)) (old : MailSeat L) → IsWhole p seats → old ≡ get_or seats p old → Stood sender receiver (seen old) [] → WasEmpty sender receiver (known_of p seats)
  was_empty sender receiver p seats old w there stood =
      let is : seen old ≡ seen_at seats p = seat_there p seats old w.below there in
      let own = w.each p w.below in
      let sent = posted_there p p seats w.below in
      let alone : seen old ≡ single (length seats) p p (get_or (map (posted_by p) seats) p []) (seen_at seats p).taken =
      is ∙ single_is (length seats) p p (seen_at seats p) own ∙ ap (λ r. single (length seats) p p r (seen_at seats p).taken) sent in
      let n : length (map id_of seats) ≡ length seats = simp length-map in
      let holds : has_in p (seen old).parts ≡ true = ap (λ (v : View L). has_in p v.parts) is ∙ holds_single (length seats) p p (seen_at seats p) own in
      let owner : (seen old).owner ≡ p = ap (λ (v : View L). v.owner) alone in record {
        own = ap (λ (v : View L). letters_of sender p v.taken) (sym is) ∙ sym (append-nil (letters_of sender p (seen old).taken))
            ∙ balances sender receiver (seen old) [] p stood (has_own (seen old).owner (seen old) (subst (λ j. has_in j (seen old).parts ≡ true) (sym owner) holds)) (has_own p (seen old) holds)
            ∙ ap (λ (v : View L). posted_in p v.parts) is ∙ sent;
        moment = subst (λ v. Stood sender receiver v []) (alone ∙ ap (λ j. single j p p (get_or (map (posted_by p) seats) p []) (seen_at seats p).taken) (sym n)) stood;
      }

  -- ---- the calls

  whole_same : (p q : ℕ) (seats : List (MailSeat L)) (s old : MailSeat L) → IsWhole p seats → q < length seats → old ≡ get_or seats q old → IsIdle s → seen s ≡ seen old → IsWhole p (set seats q s)
  whole_same p q seats s old w lt there idle same = whole_set p q seats s w lt idle (subst (IsSingle (length seats) q p) (sym (same ∙ seat_there q seats old lt there)) (w.each q lt))

  pub single_there : (p q : ℕ) (seats : List (MailSeat L)) (s : MailSeat L) → IsWhole p seats → q < length seats → s ≡ get_or seats q s → IsSingle (length seats) q p (seen s)
  single_there p q seats s w lt there = subst (IsSingle (length seats) q p) (sym (seat_there q seats s lt there)) (w.each q lt)

  -- a letter x is posted by the pass k at its seat in the place q, the number r of its receiver
  module _ (sender : L → ℕ) (p q r : ℕ) (seats : List (MailSeat L)) (old : MailSeat L) (boxes : List (SegId Global)) (k : Known L) (x : L) (w : IsWhole p seats) (view : known_of p seats ≡ k) (ours : k.boxes ≡ boxes) (to : q ≡ r) (below : r < length boxes)
      (there : old ≡ get_or seats q old) (from : sender x ≡ k.peer) where
    place : q < length seats
    place = below_ids seats boxes q (ap (λ (y : Known L). y.boxes) view ∙ ours) (subst (λ j. j < length boxes) (sym to) below)

    own : sender x ≡ p
    own = from ∙ sym (ap (λ (y : Known L). y.peer) view)

    pub post_holds : has_in (sender x) (seen old).parts ≡ true
    post_holds = ap (λ n. has_in n (seen old).parts) own ∙ holds_single (length seats) q p (seen old) (single_there p q seats old w place there)

    pub post_owner : r ≡ (seen old).owner
    post_owner = sym to ∙ sym (ap (λ (y : View L). y.owner) (single_there p q seats old w place there).is)

    pub post_whole : (s : MailSeat L) (result : Result (Unit {0}) L) → IsIdle s → MatchResult result (λ _. seen s ≡ after_post sender (seen old) x) (λ y. (y ≡ x) × (seen s ≡ seen old)) → IsWhole p (set seats q s)
    post_whole s (Ok _) idle is = whole_set p q seats s w place idle (subst (IsSingle (length seats) q p) (sym is) (single_post sender (length seats) q p (seen old) x own (single_there p q seats old w place there)))
    post_whole s (Err y) idle is = whole_same p q seats s old w place there idle is.1

    pub post_known : (s : MailSeat L) (result : Result (Unit {0}) L) (queues : List (SegId Global)) (b : SegId Global) → queues ≡ boxes → b ≡ get_or queues q b → IsSegPassOf b s → MatchResult result (λ _. seen s ≡ after_post sender (seen old) x) (λ y. (y ≡ x) × (seen s ≡ seen old))
        → MatchResult result (λ _. known_of p (set seats q s) ≡ posting k r x) (λ y. (y ≡ x) × (known_of p (set seats q s) ≡ k))
    post_known s (Ok _) queues b e at of_it is =
        known_posting sender p q seats s old queues b x w place there (ap (λ (y : Known L). y.boxes) view ∙ ours ∙ sym e) at of_it own is ∙ (λ i. posting (view i) (to i) x)
    post_known s (Err y) queues b e at of_it is = (is.0, known_same p q seats s old queues b place there (ap (λ (y : Known L). y.boxes) view ∙ ours ∙ sym e) at of_it is.1 ∙ view)

  pub take_whole : (r : Option L) (p : ℕ) (seats : List (MailSeat L)) (s old : MailSeat L) (P : Type 0) (Q : L → Type 0) → IsWhole p seats → old ≡ get_or seats p old → IsIdle s
      → MatchOption r ((seen s ≡ seen old) × P) (λ x. (seen s ≡ after_take (seen old) x) × Q x) → IsWhole p (set seats p s)
  take_whole None p seats s old P Q w there idle is = whole_same p p seats s old w w.below there idle is.0
  take_whole (Some x) p seats s old P Q w there idle is = whole_set p p seats s w w.below idle (subst (IsSingle (length seats) p p) (sym is.0) (single_take (length seats) p p (seen old) x (single_there p p seats old w w.below there)))

  pub take_known : (sender receiver : L → ℕ) (r : Option L) (p : ℕ) (seats : List (MailSeat L)) (s old : MailSeat L) (ids : List (SegId Global)) (b : SegId Global) (k : Known L) → IsWhole p seats → old ≡ get_or seats p old → map id_of seats ≡ ids
      → b ≡ get_or ids p b → IsSegPassOf b s → known_of p seats ≡ k
      → MatchOption r ((seen s ≡ seen old) × Stood sender receiver (seen old) []) (λ x. (seen s ≡ after_take (seen old) x) × IsFor sender receiver (seen old).peers (seen old).owner x)
      → MatchOption r ((known_of p (set seats p s) ≡ k) × WasEmpty sender receiver k) (λ x. (known_of p (set seats p s) ≡ taking k x) × IsFor sender receiver (length ids) k.peer x)
  take_known sender receiver None p seats s old ids b k w there e at ours view is =
      (known_same p p seats s old ids b w.below there e at ours is.0 ∙ view, subst (WasEmpty sender receiver) view (was_empty sender receiver p seats old w there is.1))
  take_known sender receiver (Some x) p seats s old ids b k w there e at ours view is =
      let v = (single_there p p seats old w w.below there).is in
      let peers : (seen old).peers ≡ length ids = ap (λ (y : View L). y.peers) v ∙ (let n : length (map id_of seats) ≡ length seats = simp length-map in sym n ∙ ap length e) in
      let owner : (seen old).owner ≡ k.peer = ap (λ (y : View L). y.owner) v ∙ ap (λ (y : Known L). y.peer) view in
      (known_taking p seats s old ids b x w.below there e at ours is.0 ∙ ap (λ y. taking y x) view, subst (λ (y : ℕ × ℕ). IsFor sender receiver y.0 y.1 x) (λ i. (peers i, owner i)) is.1)

-- a number below the count of a vector of mailboxes
pub below_count : (queues boxes : List (SegId Global)) (n count q : ℕ) → queues ≡ boxes → n ≡ length queues → count ≡ n → q < count → q < length boxes
below_count queues boxes n count q e f g lt = let h : length queues ≡ length boxes = ap length e in omega arith
