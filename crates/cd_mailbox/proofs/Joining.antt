-- The passes at the end.
use Rattle.std.proofs.Common.{◌≡◌, ℕ, ◌+◌, ◌<◌, ◌≤◌, ◌==◌, ◌||◌, ⊎_elim, true, false, cond, List, [], ◌∷◌, ◌++◌, All, map, length, set, get_or, refl, sym, ap, ◌∙◌, subst, eq-eqb, ne_eqb, arith, append_assoc, append-nil, length-append, Some, None, slice_get}
use Rattle.std.proofs.lemmas.List.{length-map, get_or-map}
use Rattle.std.proofs.lemmas.List.Elements.{All-nil, All-set, All-get_or}
use Rattle.std.proofs.lemmas.Option.{slice_get_within, slice_get_cases}
use Rattle.std.proofs.Math.Seq.{get_or-append_seam}
use Rattle.std.specs.declared.alloc.Global.{Global}
use mathlib.Core.Logic.{dite}
use native.Mathlib.Decide.{ℕ_discrete}
use Rattle.crossbeam_queue.specs.SegTies.{SegId, IsSegPassOf}
use Rattle.cd_list.proofs.Lists.{get_at, push_get}
use Rattle.cd_mailbox.specs.declared.rule.View.{View}
use Rattle.cd_mailbox.specs.Views.{letters_of, has_in, has, posted_in, joined}
use Rattle.cd_mailbox.specs.Rule.{IsFor}
use Rattle.cd_mailbox.specs.Known.{MailSeat, Known, posted_to, seen, id_of, seen_at, IsIdle, IsWhole, known_of}
use Rattle.cd_mailbox.specs.Life.{AreAll, ClosesAt, Closes, AreJoinable, Drains}
use Rattle.cd_mailbox.specs.Closing.{IsRow, KnowsFrom, AreJoined, AreEmptied}
use Rattle.cd_mailbox.proofs.Parts.{has_append, posted_append}
use Rattle.cd_mailbox.proofs.Seats.{seat_there, seen_set, ids_set, posted_there, below_ids}

-- ---- what the view of one pass knows

-- the view of the mailbox q has what the pass of p has
record KnowsOne {L : Type 0} (p q : ℕ) (passes : List (Known L)) (pass : Known L) (v : View L) : Type 0 where
  closed : v.opening ≡ false
  peers : v.peers ≡ length passes
  owner : v.owner ≡ q
  holds : (n : ℕ) → has_in n v.parts ≡ (p == n)
  posted : posted_in p v.parts ≡ posted_to pass q
  taken : p ≡ q → v.taken ≡ pass.taken

module _ {L : Type 0} where
  knows_first : (p q : ℕ) (passes : List (Known L)) (pass : Known L) (v : View L) → slice_get passes p ≡ Some pass → length passes ≡ p + 1 → KnowsOne p q passes pass v → KnowsFrom p q passes v
  knows_first p q passes pass v there last k =
      let only : (n : ℕ) (other : Known L) → p ≤ n → slice_get passes n ≡ Some other → p ≡ n = λ n other le at. let lt = slice_get_within passes n other at in omega arith in
      let is : (n : ℕ) (other : Known L) → p ≡ n → slice_get passes n ≡ Some other → pass ≡ other = λ n other e at. let s : Some pass ≡ Some other = sym there ∙ ap (slice_get passes) e ∙ at in cc in record {
        closed = k.closed;
        peers = k.peers;
        owner = k.owner;
        below = λ n lt. k.holds n ∙ ne_eqb p n (λ e. omega arith);
        holds = λ n other le at. k.holds n ∙ eq-eqb p n (only n other le at);
        posted = λ n other le at. let e = only n other le at in ap (λ j. posted_in j v.parts) (sym e) ∙ k.posted ∙ ap (λ y. posted_to y q) (is n other e at);
        taken = λ other le at. let e = only q other le at in k.taken e ∙ ap (λ (y : Known L). y.taken) (is q other e at);
      }

  knows_next : (p q : ℕ) (passes : List (Known L)) (pass : Known L) (v w : View L) → slice_get passes p ≡ Some pass → KnowsOne p q passes pass v → KnowsFrom (p + 1) q passes w → KnowsFrom p q passes (joined w v)
  knows_next p q passes pass v w there k h =
      let not_yet : has_in p w.parts ≡ false = h.below p (omega arith) in
      let is : (n : ℕ) (other : Known L) → n ≡ p → slice_get passes n ≡ Some other → pass ≡ other = λ n other e at. let s : Some pass ≡ Some other = sym there ∙ ap (slice_get passes) (sym e) ∙ at in cc in record {
        closed = refl;
        peers = h.peers;
        owner = h.owner;
        below = λ n lt. has_append n w.parts v.parts ∙ (λ i. h.below n (omega arith) i || k.holds n i) ∙ ne_eqb p n (λ e. omega arith);
        holds = λ n other le at. has_append n w.parts v.parts ∙ dite (ℕ_discrete n p)
            (λ e. ap (λ b. b || has_in n v.parts) (ap (λ j. has_in j w.parts) e ∙ not_yet) ∙ k.holds n ∙ eq-eqb p n (sym e))
            (λ ne. ap (λ b. b || has_in n v.parts) (h.holds n other (omega arith) at));
        posted = λ n other le at. posted_append n w.parts v.parts ∙ dite (ℕ_discrete n p)
            (λ e. ap (λ b. cond b (posted_in n w.parts) (posted_in n v.parts)) (ap (λ j. has_in j w.parts) e ∙ not_yet) ∙ ap (λ j. posted_in j v.parts) e ∙ k.posted ∙ ap (λ y. posted_to y q) (is n other e at))
            (λ ne. ap (λ b. cond b (posted_in n w.parts) (posted_in n v.parts)) (h.holds n other (omega arith) at) ∙ h.posted n other (omega arith) at);
        taken = λ other le at.
            let own : has w.owner w ≡ has_in q w.parts = (λ i. has (h.owner i) w) ∙ ap (λ b. b || has_in q w.parts) h.closed in dite (ℕ_discrete q p)
            (λ e. ap (λ b. cond b w.taken v.taken) (own ∙ ap (λ j. has_in j w.parts) e ∙ not_yet) ∙ k.taken (sym e) ∙ ap (λ (y : Known L). y.taken) (is q other e at))
            (λ ne. ap (λ b. cond b w.taken v.taken) (own ∙ h.holds q other (omega arith) at) ∙ h.taken other (omega arith) at);
      }

  -- the views of a pass
  knows_one : (p n q : ℕ) (passes : List (Known L)) (seats : List (MailSeat L)) (pass : Known L) → IsWhole n seats → known_of n seats ≡ pass → pass.peer ≡ p → length seats ≡ length passes → q < length seats → KnowsOne p q passes pass (seen_at seats q)
  knows_one p n q passes seats pass whole is peer count lt =
      let s = whole.each q lt in
      let e : n ≡ p = ap (λ (y : Known L). y.peer) is ∙ peer in record {
        closed = ap (λ (y : View L). y.opening) s.is;
        peers = ap (λ (y : View L). y.peers) s.is ∙ count;
        owner = ap (λ (y : View L). y.owner) s.is;
        holds = λ m. ap (λ (y : View L). has_in m y.parts) s.is ∙ elim (n == m) as (λ b. (n == m) ≡ b → (b || false) ≡ (p == m)) [
          | true ↦ λ t. sym t ∙ ap (λ j. j == m) e
          | false ↦ λ t. sym t ∙ ap (λ j. j == m) e
        ] refl;
        posted = ap (λ j. posted_in j (seen_at seats q).parts) (sym e) ∙ posted_there n q seats lt ∙ ap (λ (y : Known L). posted_to y q) is;
        taken = λ own. ap (λ j. (seen_at seats j).taken) (sym own ∙ sym e) ∙ ap (λ (y : Known L). y.taken) is;
      }

  lengths : (boxes : List (SegId Global)) (seats : List (MailSeat L)) → map id_of seats ≡ boxes → length seats ≡ length boxes
  lengths boxes seats e = let f : length (map id_of seats) ≡ length boxes = ap length e in simp length-map at f

  -- the seat in a place of a row is of that mailbox, and carries nothing
  pub seat_of : (boxes : List (SegId Global)) (seats : List (MailSeat L)) (q : ℕ) (s : MailSeat L) (b : SegId Global) → IsRow boxes seats → q < length seats → s ≡ get_or seats q s → b ≡ get_or boxes q b → IsSegPassOf b s
  seat_of boxes seats q s b row lt there at =
      let id : id_of s ≡ b = ap id_of there ∙ sym (get_or-map id_of seats q s b lt) ∙ ap (λ l. get_or l q b) row.ids ∙ sym at in
      let idle = subst IsIdle (sym there) (All-get_or IsIdle seats q s lt row.idle) in
      ((ap (λ (y : SegId Global). y.web) id, ap (λ (y : SegId Global). y.heap) id), idle.0, idle.1)

-- ---- a pass is joined, from its last seat to its first

-- The last seats are joined, and these are left.
pub record Merging {L : Type 0} (boxes : List (SegId Global)) (all₀ seats₀ all seats : List (MailSeat L)) : Type 0 where
  pub row : IsRow boxes all
  pub done : List (MailSeat L)
  pub split : seats ++ done ≡ seats₀
  pub low : (q : ℕ) → q < length seats → seen_at all q ≡ seen_at all₀ q
  pub high : (q : ℕ) → length seats ≤ q → q < length boxes → seen_at all q ≡ joined (seen_at all₀ q) (seen_at seats₀ q)

module _ {L : Type 0} where
  pub merges_first : (boxes : List (SegId Global)) (all seats : List (MailSeat L)) → IsRow boxes all → IsRow boxes seats → Merging boxes all seats all seats
  merges_first boxes all seats mine theirs = record {
    row = mine;
    done = [];
    split = append-nil seats;
    low = λ q lt. refl;
    high = λ q le lt. absurd (let n = lengths boxes seats theirs.ids in omega arith);
  }

  -- the seat that is joined next
  seam : (seats ys done : List (MailSeat L)) (s : MailSeat L) → (ys ++ s ∷ []) ++ done ≡ seats → s ≡ get_or seats (length ys) s
  seam seats ys done s e = sym (ap (λ l. get_or l (length ys) s) (sym e ∙ append_assoc ys (s ∷ []) done) ∙ get_or-append_seam ys s done s)

  -- its place
  pub within : (boxes : List (SegId Global)) (all₀ seats₀ all seats ys : List (MailSeat L)) (s : MailSeat L) → IsRow boxes seats₀ → Merging boxes all₀ seats₀ all seats → seats ≡ ys ++ s ∷ [] → (length ys < length boxes) × (length ys < length seats₀) × (length ys < length all)
  within boxes all₀ seats₀ all seats ys s theirs h e =
      let a = lengths boxes seats₀ theirs.ids in
      let b = lengths boxes all h.row.ids in
      let c : length seats + length h.done ≡ length seats₀ = sym (length-append seats h.done) ∙ ap length h.split in
      let d : length seats ≡ length ys + 1 = ap length e ∙ length-append ys (s ∷ []) in (omega arith, omega arith, omega arith)

  pub seat_is : (boxes : List (SegId Global)) (all₀ seats₀ all seats ys : List (MailSeat L)) (s : MailSeat L) → Merging boxes all₀ seats₀ all seats → seats ≡ ys ++ s ∷ [] → s ≡ get_or seats₀ (length ys) s
  seat_is boxes all₀ seats₀ all seats ys s h e = seam seats₀ ys h.done s (ap (λ l. l ++ h.done) (sym e) ∙ h.split)

  pub may_merge : (boxes : List (SegId Global)) (all₀ seats₀ all seats ys : List (MailSeat L)) (q : ℕ) (s one : MailSeat L) → IsRow boxes seats₀ → ((k : ℕ) → k < length boxes → AreJoinable (seen_at all₀ k) (seen_at seats₀ k)) → Merging boxes all₀ seats₀ all seats → seats ≡ ys ++ s ∷ []
      → q ≡ length ys → one ≡ get_or all q one → AreJoinable (seen one) (seen s)
  may_merge boxes all₀ seats₀ all seats ys q s one theirs joinable h e at there =
      let w = within boxes all₀ seats₀ all seats ys s theirs h e in
      let d : length seats ≡ length ys + 1 = ap length e ∙ length-append ys (s ∷ []) in
      let mine : seen one ≡ seen_at all₀ (length ys) = seat_there (length ys) all one w.2 (there ∙ ap (λ j. get_or all j one) at) ∙ h.low (length ys) (omega arith) in
      let his : seen s ≡ seen_at seats₀ (length ys) = seat_there (length ys) seats₀ s w.1 (seat_is boxes all₀ seats₀ all seats ys s h e) in
      subst (λ (y : View L × View L). AreJoinable y.0 y.1) (λ i. (sym mine i, sym his i)) (joinable (length ys) w.0)

  pub may_join : (boxes : List (SegId Global)) (all₀ seats₀ all seats ys : List (MailSeat L)) (q : ℕ) (s one : MailSeat L) (b : SegId Global) → IsRow boxes seats₀ → Merging boxes all₀ seats₀ all seats → seats ≡ ys ++ s ∷ [] → q ≡ length ys → one ≡ get_or all q one → b ≡ get_or boxes q b → IsSegPassOf b one × IsSegPassOf b s
  may_join boxes all₀ seats₀ all seats ys q s one b theirs h e at there is =
      let w = within boxes all₀ seats₀ all seats ys s theirs h e in (
        seat_of boxes all q one b h.row (omega arith) there is,
        seat_of boxes seats₀ q s b theirs (omega arith) (seat_is boxes all₀ seats₀ all seats ys s h e ∙ ap (λ j. get_or seats₀ j s) (sym at)) is,
      )

  merges_on : (boxes : List (SegId Global)) (all₀ seats₀ all seats ys : List (MailSeat L)) (s one new : MailSeat L) (b : SegId Global) → IsRow boxes seats₀ → Merging boxes all₀ seats₀ all seats → seats ≡ ys ++ s ∷ [] → one ≡ get_or all (length ys) one → b ≡ get_or boxes (length ys) b
      → IsSegPassOf b new → seen new ≡ joined (seen one) (seen s) → Merging boxes all₀ seats₀ (set all (length ys) new) ys
  merges_on boxes all₀ seats₀ all seats ys s one new b theirs h e there at ours is =
      let w = within boxes all₀ seats₀ all seats ys s theirs h e in
      let d : length seats ≡ length ys + 1 = ap length e ∙ length-append ys (s ∷ []) in
      let mine : seen one ≡ seen_at all₀ (length ys) = seat_there (length ys) all one w.2 there ∙ h.low (length ys) (omega arith) in
      let his : seen s ≡ seen_at seats₀ (length ys) = seat_there (length ys) seats₀ s w.1 (seat_is boxes all₀ seats₀ all seats ys s h e) in record {
        row = record { ids = ids_set (length ys) all new boxes b h.row.ids at ours ∙ h.row.ids; idle = All-set IsIdle all (length ys) new (ours.1, ours.2) h.row.idle };
        done = s ∷ h.done;
        split = sym (append_assoc ys (s ∷ []) h.done) ∙ ap (λ l. l ++ h.done) (sym e) ∙ h.split;
        low = λ q lt. seen_set (λ v. v ≡ seen_at all₀ q) all (length ys) q new w.2 (λ f. absurd (omega arith)) (λ ne. h.low q (omega arith));
        high = λ q le lt. seen_set (λ v. v ≡ joined (seen_at all₀ q) (seen_at seats₀ q)) all (length ys) q new w.2
            (λ f. is ∙ (λ i. joined (mine i) (his i)) ∙ ap (λ j. joined (seen_at all₀ j) (seen_at seats₀ j)) (sym f))
            (λ ne. h.high q (omega arith) lt);
      }

  pub merges_next : (boxes : List (SegId Global)) (all₀ seats₀ all seats ys : List (MailSeat L)) (q : ℕ) (s one new : MailSeat L) (b : SegId Global) → IsRow boxes seats₀ → Merging boxes all₀ seats₀ all seats → seats ≡ ys ++ s ∷ [] → q ≡ length ys → one ≡ get_or all q one → b ≡ get_or boxes q b
      → IsSegPassOf b new → seen new ≡ joined (seen one) (seen s) → Merging boxes all₀ seats₀ (set all q new) ys
  merges_next boxes all₀ seats₀ all seats ys q s one new b theirs h e f there at ours is =
      subst (λ j. Merging boxes all₀ seats₀ (set all j new) ys) (sym f)
      (merges_on boxes all₀ seats₀ all seats ys s one new b theirs h e (there ∙ ap (λ j. get_or all j one) f) (at ∙ ap (λ j. get_or boxes j b) f) ours is)

-- ---- all passes are joined, from the last to the first

-- The last passes are joined, and these are left.
pub record Joining {L : Type 0} (boxes : List (SegId Global)) (passes rest : List (Known L)) (all : List (MailSeat L)) : Type 0 where
  pub row : IsRow boxes all
  pub done : List (Known L)
  pub split : rest ++ done ≡ passes
  pub each : (q : ℕ) → q < length boxes → KnowsFrom (length rest) q passes (seen_at all q)

module _ {L : Type 0} where
  pub row_of : (boxes : List (SegId Global)) (n : ℕ) (seats : List (MailSeat L)) (pass : Known L) → IsWhole n seats → known_of n seats ≡ pass → pass.boxes ≡ boxes → IsRow boxes seats
  row_of boxes n seats pass whole is ours = record { ids = ap (λ (y : Known L). y.boxes) is ∙ ours; idle = whole.idle }

  pass_at : (passes rest done : List (Known L)) (pass : Known L) → (rest ++ pass ∷ []) ++ done ≡ passes → slice_get passes (length rest) ≡ Some pass
  pass_at passes rest done pass e = ap (λ l. slice_get l (length rest)) (sym e ∙ append_assoc rest (pass ∷ []) done) ∙ get_at rest done pass

  module _ (boxes : List (SegId Global)) (passes : List (Known L)) (all_are : AreAll boxes passes) where
    one_of : (n : ℕ) (rest done : List (Known L)) (pass : Known L) (seats : List (MailSeat L)) → (rest ++ pass ∷ []) ++ done ≡ passes → IsWhole n seats → known_of n seats ≡ pass → (q : ℕ) → q < length boxes → KnowsOne (length rest) q passes pass (seen_at seats q)
    one_of n rest done pass seats e whole is q lt =
        let a = all_are.each (length rest) pass (pass_at passes rest done pass e) in
        let size = lengths boxes seats (ap (λ (y : Known L). y.boxes) is ∙ a.0) in
        knows_one (length rest) n q passes seats pass whole is a.1 (size ∙ sym all_are.count) (omega arith)

    pub joins_first : (n : ℕ) (rest : List (Known L)) (pass : Known L) (seats : List (MailSeat L)) → passes ≡ rest ++ pass ∷ [] → IsWhole n seats → known_of n seats ≡ pass → Joining boxes passes rest seats
    joins_first n rest pass seats e whole is =
        let split : (rest ++ pass ∷ []) ++ [] ≡ passes = append-nil (rest ++ pass ∷ []) ∙ sym e in
        let a = all_are.each (length rest) pass (pass_at passes rest [] pass split) in record {
          row = row_of boxes n seats pass whole is a.0;
          done = pass ∷ [];
          split = sym e;
          each = λ q lt. knows_first (length rest) q passes pass (seen_at seats q) (pass_at passes rest [] pass split) (ap length e ∙ length-append rest (pass ∷ [])) (one_of n rest [] pass seats split whole is q lt);
        }

    pub next_row : (n : ℕ) (more rest : List (Known L)) (pass : Known L) (seats all : List (MailSeat L)) → Joining boxes passes more all → more ≡ rest ++ pass ∷ [] → IsWhole n seats → known_of n seats ≡ pass → IsRow boxes seats
    next_row n more rest pass seats all h e whole is =
        row_of boxes n seats pass whole is (all_are.each (length rest) pass (pass_at passes rest h.done pass (ap (λ l. l ++ h.done) (sym e) ∙ h.split))).0

    pub next_joinable : (n : ℕ) (more rest : List (Known L)) (pass : Known L) (seats all : List (MailSeat L)) → Joining boxes passes more all → more ≡ rest ++ pass ∷ [] → IsWhole n seats → known_of n seats ≡ pass → (q : ℕ) → q < length boxes → AreJoinable (seen_at all q) (seen_at seats q)
    next_joinable n more rest pass seats all h e whole is q lt =
        let k = one_of n rest h.done pass seats (ap (λ l. l ++ h.done) (sym e) ∙ h.split) whole is q lt in
        let w = h.each q lt in record { first = w.closed; second = k.closed; peers = w.peers ∙ sym k.peers; owner = w.owner ∙ sym k.owner }

    pub joins_next : (n : ℕ) (more rest : List (Known L)) (pass : Known L) (seats all new : List (MailSeat L)) → Joining boxes passes more all → more ≡ rest ++ pass ∷ [] → IsWhole n seats → known_of n seats ≡ pass → IsRow boxes new
        → ((q : ℕ) → q < length boxes → seen_at new q ≡ joined (seen_at all q) (seen_at seats q)) → Joining boxes passes rest new
    joins_next n more rest pass seats all new h e whole is row views =
        let split : (rest ++ pass ∷ []) ++ h.done ≡ passes = ap (λ l. l ++ h.done) (sym e) ∙ h.split in
        let size : length more ≡ length rest + 1 = ap length e ∙ length-append rest (pass ∷ []) in record {
          row = row;
          done = pass ∷ h.done;
          split = sym (append_assoc rest (pass ∷ []) h.done) ∙ split;
          each = λ q lt. subst (KnowsFrom (length rest) q passes) (sym (views q lt))
              (knows_next (length rest) q passes pass (seen_at seats q) (seen_at all q) (pass_at passes rest h.done pass split) (one_of n rest h.done pass seats split whole is q lt) (subst (λ j. KnowsFrom j q passes (seen_at all q)) size (h.each q lt)));
        }

    pub joins_last : (all : List (MailSeat L)) → Joining boxes passes [] all → AreJoined boxes passes all
    joins_last all h = record { row = h.row; each = h.each }

    -- no pass, no mailbox
    pub joins_none : passes ≡ [] → AreJoined boxes passes []
    joins_none e =
        let n : length boxes ≡ 0 = sym all_are.count ∙ ap length e in record {
          row = record { ids = sym (none boxes n); idle = All-nil IsIdle };
          each = λ q lt. absurd (omega arith);
        }
      where
        none : (bs : List (SegId Global)) → length bs ≡ 0 → bs ≡ []
        none [] e = refl
        none (b ∷ bs) e = absurd (omega arith)

-- ---- one mailbox after another is emptied

-- The first q mailboxes are empty, and these letters were left in them.
pub record Emptying {L : Type 0} (sender receiver : L → ℕ) (boxes : List (SegId Global)) (seats₀ : List (MailSeat L)) (q : ℕ) (seats : List (MailSeat L)) (left : List (List L)) : Type 0 where
  pub row : IsRow boxes seats
  pub rest : (k : ℕ) → q ≤ k → k < length boxes → seen_at seats k ≡ seen_at seats₀ k
  pub count : length left ≡ q
  pub each : (k : ℕ) (letters : List L) → slice_get left k ≡ Some letters → Drains sender receiver (seen_at seats₀ k) letters

module _ {L : Type 0} (sender receiver : L → ℕ) (boxes : List (SegId Global)) (seats₀ : List (MailSeat L)) where
  pub may_empty : (q : ℕ) (seats : List (MailSeat L)) (left : List (List L)) (seat : MailSeat L) → ((k : ℕ) → k < length boxes → has_in (seen_at seats₀ k).owner (seen_at seats₀ k).parts ≡ true) → Emptying sender receiver boxes seats₀ q seats left
      → q < length boxes → seat ≡ get_or seats q seat → has_in (seen seat).owner (seen seat).parts ≡ true
  may_empty q seats left seat own h lt there =
      ap (λ (y : View L). has_in y.owner y.parts) (seat_there q seats seat (below_ids seats boxes q h.row.ids lt) there ∙ h.rest q (omega arith) lt) ∙ own q lt

  pub empties_next : (q : ℕ) (seats : List (MailSeat L)) (left more : List (List L)) (seat new : MailSeat L) (b : SegId Global) (letters : List L) → Emptying sender receiver boxes seats₀ q seats left → q < length boxes → seat ≡ get_or seats q seat
      → b ≡ get_or boxes q b → IsSegPassOf b new → Drains sender receiver (seen seat) letters → more ≡ left ++ letters ∷ [] → Emptying sender receiver boxes seats₀ (q + 1) (set seats q new) more
  empties_next q seats left more seat new b letters h lt there at ours drained is =
      let lt' = below_ids seats boxes q h.row.ids lt in
      let emptied = subst (λ v. Drains sender receiver v letters) (seat_there q seats seat lt' there ∙ h.rest q (omega arith) lt) drained in record {
        row = record { ids = ids_set q seats new boxes b h.row.ids at ours ∙ h.row.ids; idle = All-set IsIdle seats q new (ours.1, ours.2) h.row.idle };
        rest = λ k le under. seen_set (λ v. v ≡ seen_at seats₀ k) seats q k new lt' (λ e. absurd (omega arith)) (λ ne. h.rest k (omega arith) under);
        count = ap length is ∙ length-append left (letters ∷ []) ∙ ap (λ n. n + 1) h.count;
        each = λ k xs got. ⊎_elim (λ (old : slice_get left k ≡ Some xs). h.each k xs old)
            (λ (last : (k ≡ length left) × (letters ≡ xs)). subst (λ (y : ℕ × List L). Drains sender receiver (seen_at seats₀ y.0) y.1) (λ i. (sym (last.0 ∙ h.count) i, last.1 i)) emptied)
            (push_get left letters k xs (ap (λ l. slice_get l k) (sym is) ∙ got));
      }

-- ---- what the joined seats found left

module _ {L : Type 0} (sender receiver : L → ℕ) (boxes : List (SegId Global)) (passes : List (Known L)) (seats : List (MailSeat L)) (all_are : AreAll boxes passes) (h : AreJoined boxes passes seats) where
  pub owners : (q : ℕ) → q < length boxes → has_in (seen_at seats q).owner (seen_at seats q).parts ≡ true
  owners q lt =
      let c = all_are.count in
      ap (λ j. has_in j (seen_at seats q).parts) (h.each q lt).owner
      ∙ ⊎_elim (λ (y : (x : Known L) × (q < length passes) × (slice_get passes q ≡ Some x) × (get_or passes q x ≡ x)). (h.each q lt).holds q y.0 (omega arith) y.2)
      (λ (y : (length passes ≤ q) × (slice_get passes q ≡ None)). absurd (let n = y.0 in omega arith)) (slice_get_cases passes q).1

  closes_at : (q : ℕ) (letters : List L) → q < length boxes → Drains sender receiver (seen_at seats q) letters → ClosesAt sender receiver passes q letters
  closes_at q letters lt d = let k = h.each q lt in record {
    balance = λ p from to at own. ap (λ r. letters_of sender p r ++ letters_of sender p letters) (sym (k.taken to (omega arith) own)) ∙ d.balance p (k.holds p from (omega arith) at) ∙ k.posted p from (omega arith) at;
    addressed = subst (λ (y : ℕ × ℕ). All (IsFor sender receiver y.0 y.1) letters) (λ i. (k.peers i, k.owner i)) d.addressed;
  }

  pub closes : (left : List (List L)) → AreEmptied sender receiver boxes seats left → Closes sender receiver passes left
  closes left e = record {
    count = e.count ∙ sym all_are.count;
    each = λ q letters at. closes_at q letters (let lt = slice_get_within left q letters at in let n = e.count in omega arith) (e.each q letters at);
  }
