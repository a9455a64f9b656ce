-- The passes at the start.
use Rattle.std.proofs.Common.{◌≡◌, ℕ, suc, ◌+◌, ◌-◌, ◌<◌, ◌≤◌, ◌++◌, false, List, All, [], ◌∷◌, map, length, take, set, get_or, refl, sym, ap, ◌∙◌, subst, arith, length-set, length-append, Some, slice_get}
use Rattle.std.proofs.lemmas.List.{length-map, map-append, get_or_append_left, length-take-le, take_more, take_all}
use Rattle.std.proofs.Math.Seq.{get_or-append_seam}
use Rattle.std.proofs.lemmas.List.Elements.{All-set, All-append, All-cons, All-nil}
use Rattle.std.specs.declared.alloc.Global.{Global}
use mathlib.Core.Logic.{dite}
use native.Mathlib.Decide.{ℕ_discrete}
use Rattle.crossbeam_queue.specs.SegTies.{SegId, IsSegPassOf}
use Rattle.cd_mailbox.specs.declared.rule.View.{View}
use Rattle.cd_mailbox.specs.Views.{view, dealt, single, nothing, posted_in, others, first_alone}
use Rattle.cd_mailbox.specs.Known.{MailSeat, Known, fresh, seen, id_of, seen_at, IsIdle, IsWhole, posted_by, known_of}
use Rattle.cd_mailbox.specs.Life.{IsDealt}
use Rattle.cd_mailbox.specs.Opening.{RestsAre}
use Rattle.cd_list.proofs.Lists.{get_left, get_at}
use Rattle.cd_mailbox.proofs.Parts.{posted_single_part, others_from, first_from}
use Rattle.cd_mailbox.proofs.Seats.{seat_there, seen_set, ids_set, below_ids}

-- The first q rests have given the number n, and these seats have it.
pub record Dealing {L : Type 0} (boxes : List (SegId Global)) (peers n : ℕ) (rests : List (MailSeat L)) (q : ℕ) (seats : List (MailSeat L)) : Type 0 where
  pub ids : map id_of rests ≡ boxes
  pub idle : All IsIdle rests
  pub given : (k : ℕ) → k < q → seen_at rests k ≡ dealt peers k (n + 1) (peers - (n + 1))
  pub left : (k : ℕ) → q ≤ k → k < length rests → seen_at rests k ≡ dealt peers k n (peers - n)
  pub new_ids : map id_of seats ≡ take q boxes
  pub new_idle : All IsIdle seats
  pub views : (k : ℕ) → k < q → seen_at seats k ≡ single peers k n [] []

module _ {L : Type 0} where
  -- ---- one seat more at the end

  seen_more : (P : View L → Type 0) (seats : List (MailSeat L)) (s : MailSeat L) (q k : ℕ) → length seats ≡ q → k < q + 1 → (k < q → P (seen_at seats k)) → (k ≡ q → P (seen s)) → P (seen_at (seats ++ s ∷ []) k)
  seen_more P seats s q k count lt low high =
      let n : length (map seen seats) ≡ q = simp length-map count in
      subst (λ (l : List (View L)). P (get_or l k nothing)) (sym (map-append seen seats (s ∷ [])))
      (dite (ℕ_discrete k q)
      (λ e. subst P (sym (ap (λ j. get_or (map seen seats ++ seen s ∷ []) j nothing) (e ∙ sym n) ∙ get_or-append_seam (map seen seats) (seen s) [] nothing)) (high e))
      (λ ne. subst P (sym (get_or_append_left (map seen seats) (seen s ∷ []) nothing k (omega arith))) (low (omega arith))))

  count_of : (boxes : List (SegId Global)) (q : ℕ) (seats : List (MailSeat L)) → map id_of seats ≡ take q boxes → q ≤ length boxes → length seats ≡ q
  count_of boxes q seats e le = let f : length (map id_of seats) ≡ length (take q boxes) = ap length e in let g : length seats ≡ length (take q boxes) = simp length-map at f in g ∙ length-take-le q boxes le

  lengths : (boxes : List (SegId Global)) (seats : List (MailSeat L)) → map id_of seats ≡ boxes → length seats ≡ length boxes
  lengths boxes seats e = let f : length (map id_of seats) ≡ length boxes = ap length e in simp length-map at f

  -- ---- the number n is given at one mailbox after another

  pub deals_first : (boxes : List (SegId Global)) (peers n : ℕ) (rests : List (MailSeat L)) → RestsAre boxes peers n rests → Dealing boxes peers n rests 0 []
  deals_first boxes peers n rests r = record {
    ids = r.ids;
    idle = r.idle;
    given = λ k lt. absurd (omega arith);
    left = λ k _ lt. r.views k lt;
    new_ids = refl;
    new_idle = All-nil IsIdle;
    views = λ k lt. absurd (omega arith);
  }

  pub may_give : (boxes : List (SegId Global)) (peers n q : ℕ) (rests seats : List (MailSeat L)) (rest : MailSeat L) → Dealing boxes peers n rests q seats → n < peers → q < length boxes → rest ≡ get_or rests q rest → IsDealt (seen rest)
  may_give boxes peers n q rests seats rest h below lt there = record {
    peers = peers;
    owner = q;
    from = n;
    more = peers - (n + 1);
    is = let lt' = below_ids rests boxes q h.ids lt in let e : peers - n ≡ suc (peers - (n + 1)) = omega arith in
        seat_there q rests rest lt' there ∙ h.left q (omega arith) lt' ∙ ap (dealt peers q n) e;
  }

  deals_one : (boxes : List (SegId Global)) (peers n q : ℕ) (rests seats : List (MailSeat L)) (rest new got : MailSeat L) (b : SegId Global) → Dealing boxes peers n rests q seats → n < peers → q < length boxes → rest ≡ get_or rests q rest
      → b ≡ get_or boxes q b → IsSegPassOf b new → IsSegPassOf b got → seen new ≡ others (seen rest) → seen got ≡ first_alone (seen rest) → Dealing boxes peers n (set rests q new) (q + 1) (seats ++ got ∷ [])
  deals_one boxes peers n q rests seats rest new got b h below lt there at ours theirs left one =
      let lt' = below_ids rests boxes q h.ids lt in
      let is : seen rest ≡ dealt peers q n (peers - n) = seat_there q rests rest lt' there ∙ h.left q (omega arith) lt' in
      let left' : seen new ≡ dealt peers q (n + 1) (peers - (n + 1)) = left ∙ ap others is ∙ ap (λ ps. view false peers q ps []) (others_from n (peers - n)) ∙ (let e : (peers - n) - 1 ≡ peers - (n + 1) = omega arith in ap (dealt peers q (n + 1)) e) in
      let one' : seen got ≡ single peers q n [] [] = one ∙ ap first_alone is ∙ ap (λ ps. view false peers q ps []) (first_from n (peers - n) (omega arith)) in
      let count = count_of boxes q seats h.new_ids (omega arith) in
      let id : id_of got ≡ get_or boxes q b = (λ i. record { web = theirs.0.0 i; heap = theirs.0.1 i }) ∙ at in record {
        ids = ids_set q rests new boxes b h.ids at ours ∙ h.ids;
        idle = All-set IsIdle rests q new (ours.1, ours.2) h.idle;
        given = λ k under. seen_set (λ v. v ≡ dealt peers k (n + 1) (peers - (n + 1))) rests q k new lt'
            (λ e. left' ∙ ap (λ j. dealt peers j (n + 1) (peers - (n + 1))) (sym e)) (λ ne. h.given k (omega arith));
        left = λ k le under. let under' : k < length rests = rw length-set at under in
            seen_set (λ v. v ≡ dealt peers k n (peers - n)) rests q k new lt' (λ e. absurd (omega arith)) (λ ne. h.left k (omega arith) under');
        new_ids = map-append id_of seats (got ∷ []) ∙ ap (λ l. l ++ id_of got ∷ []) h.new_ids ∙ ap (λ x. take q boxes ++ x ∷ []) id ∙ sym (take_more boxes q b lt);
        new_idle = All-append IsIdle seats (got ∷ []) h.new_idle (All-cons IsIdle got [] (theirs.1, theirs.2) (All-nil IsIdle));
        views = λ k under. seen_more (λ v. v ≡ single peers k n [] []) seats got q k count under (λ low. h.views k low) (λ e. one' ∙ ap (λ j. single peers j n [] []) (sym e));
      }

  pub deals_on : (boxes : List (SegId Global)) (peers n q : ℕ) (rests seats more : List (MailSeat L)) (rest new got : MailSeat L) (b : SegId Global) → Dealing boxes peers n rests q seats → n < peers → q < length boxes → rest ≡ get_or rests q rest
      → b ≡ get_or boxes q b → IsSegPassOf b new → IsSegPassOf b got → seen new ≡ others (seen rest) → seen got ≡ first_alone (seen rest) → more ≡ seats ++ got ∷ [] → Dealing boxes peers n (set rests q new) (q + 1) more
  deals_on boxes peers n q rests seats more rest new got b h below lt there at ours theirs left one is =
      subst (Dealing boxes peers n (set rests q new) (q + 1)) (sym is) (deals_one boxes peers n q rests seats rest new got b h below lt there at ours theirs left one)

  -- ---- the number n is given everywhere

  pub deals_last : (boxes : List (SegId Global)) (peers n : ℕ) (rests seats : List (MailSeat L)) → Dealing boxes peers n rests (length boxes) seats → RestsAre boxes peers (n + 1) rests
  deals_last boxes peers n rests seats h = record { ids = h.ids; idle = h.idle; views = λ k lt. h.given k (let l = lengths boxes rests h.ids in omega arith) }

  all_ids : (boxes : List (SegId Global)) (seats : List (MailSeat L)) → map id_of seats ≡ take (length boxes) boxes → map id_of seats ≡ boxes
  all_ids boxes seats e = e ∙ take_all (length boxes) boxes (omega arith)

  -- the last number was reached
  at_last : (queues boxes : List (SegId Global)) (m count q n : ℕ) (rests seats : List (MailSeat L)) → queues ≡ boxes → m ≡ length queues → count ≡ m → count ≤ q → q ≤ count → Dealing boxes (length boxes) n rests q seats → Dealing boxes (length boxes) n rests (length boxes) seats
  at_last queues boxes m count q n rests seats e f g le ge h =
      let s : length queues ≡ length boxes = ap length e in
      let all : q ≡ length boxes = omega arith in subst (λ k. Dealing boxes (length boxes) n rests k seats) all h

  pub dealt_whole : (queues boxes : List (SegId Global)) (m count q n : ℕ) (rests seats : List (MailSeat L)) → queues ≡ boxes → m ≡ length queues → count ≡ m → count ≤ q → q ≤ count → Dealing boxes (length boxes) n rests q seats → n < length boxes → IsWhole n seats
  dealt_whole queues boxes m c q n rests seats e f g le ge d lt =
      let h = at_last queues boxes m c q n rests seats e f g le ge d in
      let count = count_of boxes (length boxes) seats h.new_ids (omega arith) in record {
        below = omega arith;
        idle = h.new_idle;
        each = λ q under. record { posted = []; taken = []; is = h.views q (omega arith) ∙ ap (λ m. single m q n [] []) (sym count) };
      }

  posted_none : (n : ℕ) (seats : List (MailSeat L)) (boxes : List (SegId Global)) → length seats ≡ length boxes → ((k : ℕ) → k < length seats → posted_in n (seen_at seats k).parts ≡ []) → map (posted_by n) seats ≡ map (λ _. []) boxes
  posted_none n [] [] e none = refl
  posted_none n [] (b ∷ bs) e none = absurd (omega arith)
  posted_none n (s ∷ ss) [] e none = absurd (omega arith)
  posted_none n (s ∷ ss) (b ∷ bs) e none =
      let first = none 0 (omega arith) in
      let rest = posted_none n ss bs (omega arith) (λ k lt. none (suc k) (omega arith)) in
      λ i. first i ∷ rest i

  pub dealt_fresh : (queues boxes : List (SegId Global)) (m count q n : ℕ) (rests seats : List (MailSeat L)) → queues ≡ boxes → m ≡ length queues → count ≡ m → count ≤ q → q ≤ count → Dealing boxes (length boxes) n rests q seats → n < length boxes → known_of n seats ≡ fresh boxes n
  dealt_fresh queues boxes m c q n rests seats e f g le ge d lt =
      let h = at_last queues boxes m c q n rests seats e f g le ge d in
      let count = count_of boxes (length boxes) seats h.new_ids (omega arith) in
      let ids = all_ids boxes seats h.new_ids in
      let posted = posted_none n seats boxes count (λ k under. ap (λ (v : View L). posted_in n v.parts) (h.views k (omega arith)) ∙ posted_single_part n n) in
      let taken = ap (λ (v : View L). v.taken) (h.views n lt) in
      λ i. record { boxes = ids i; peer = n; posted = posted i; taken = taken i }

  -- one fresh pass more
  pub fresh_more : (n : ℕ) (boxes : List (SegId Global)) (passes more : List (Known L)) (pass : Known L) → length passes ≡ n → ((p : ℕ) → p < n → slice_get passes p ≡ Some (fresh boxes p)) → more ≡ passes ++ pass ∷ [] → pass ≡ fresh boxes n
      → (length more ≡ n + 1) × ((p : ℕ) → p < n + 1 → slice_get more p ≡ Some (fresh boxes p))
  fresh_more n boxes passes more pass count each is new =
      let all : (p : ℕ) → p < n + 1 → slice_get (passes ++ pass ∷ []) p ≡ Some (fresh boxes p) = λ p under.
      dite (ℕ_discrete p n)
      (λ e. ap (slice_get (passes ++ pass ∷ [])) (e ∙ sym count) ∙ get_at passes [] pass ∙ ap (λ x. Some x) (new ∙ ap (fresh boxes) (sym e)))
      (λ ne. get_left passes (pass ∷ []) p (fresh boxes p) (each p (omega arith))) in (
        ap length is ∙ length-append passes (pass ∷ []) ∙ ap (λ m. m + 1) count,
        λ p under. ap (λ l. slice_get l p) is ∙ all p under,
      )

  -- one mailbox more
  pub rests_more : (n peers : ℕ) (boxes more : List (SegId Global)) (b : SegId Global) (rests seats : List (MailSeat L)) (rest : MailSeat L) → RestsAre boxes peers 0 rests → length boxes ≡ n → more ≡ boxes ++ b ∷ [] → seats ≡ rests ++ rest ∷ []
      → IsSegPassOf b rest → seen rest ≡ dealt peers n 0 peers → RestsAre more peers 0 seats × (length more ≡ n + 1)
  rests_more n peers boxes more b rests seats rest r count is are ours new =
      let size = lengths boxes rests r.ids in
      let id : id_of rest ≡ b = λ i. record { web = ours.0.0 i; heap = ours.0.1 i } in
      let whole : RestsAre (boxes ++ b ∷ []) peers 0 (rests ++ rest ∷ []) = record {
        ids = map-append id_of rests (rest ∷ []) ∙ (λ i. r.ids i ++ id i ∷ []);
        idle = All-append IsIdle rests (rest ∷ []) r.idle (All-cons IsIdle rest [] (ours.1, ours.2) (All-nil IsIdle));
        views = λ q under. seen_more (λ v. v ≡ dealt peers q 0 (peers - 0)) rests rest n q (size ∙ count) (let l = length-append rests (rest ∷ []) in omega arith) (λ low. r.views q (omega arith))
            (λ e. new ∙ (let z : peers ≡ peers - 0 = omega arith in ap (dealt peers n 0) z) ∙ ap (λ j. dealt peers j 0 (peers - 0)) (sym e));
      } in (
        subst (λ (y : List (SegId Global) × List (MailSeat L)). RestsAre y.0 peers 0 y.1) (λ i. (sym is i, sym are i)) whole,
        ap length is ∙ length-append boxes (b ∷ []) ∙ ap (λ m. m + 1) count,
      )
