-- What callers see of a seat, and what the joined seat knows.
use Rattle.std.proofs.Common.{◌≡◌, ◌≢◌, ℕ, ◌+◌, ◌<◌, ◌≤◌, ⊎_elim, inl, inr, true, List, [], ◌∷◌, ◌++◌, length, get_or, All, Some, None, slice_get, sym, ap, ◌∙◌, subst, arith, append_assoc, append-nil, length-append}
use Rattle.std.proofs.lemmas.Bool.{or_left, or_right, cases_eq}
use Rattle.std.proofs.lemmas.List.Elements.{All-cons, All-nil, All-head, All-tail}
use Rattle.std.proofs.lemmas.Option.{slice_get_cases}
use Rattle.cd_list.proofs.Lists.{get_at}
use Rattle.cd_verdict.specs.Known.{BellId, Known, known}
use Rattle.cd_verdict.specs.Views.{has, is_marked, AgreesWith, joined}
use Rattle.cd_verdict.specs.Settled.{AreAll, Settles}
use Rattle.cd_verdict.proofs.Steps.{has_append, marked_parts}

-- The last seats are joined, and these are left.
pub record Joining (bell : BellId) (seats rest : List Known) (all : Known) : Type 0 where
  pub ours : all.bell ≡ bell.table
  pub peers : all.view.peers ≡ bell.peers
  pub done : List Known
  pub split : rest ++ done ≡ seats
  pub holds : (p : ℕ) → length rest ≤ p → p < length seats → has p all.view.marks ≡ true
  pub marks : (p : ℕ) → is_marked p all.view.marks ≡ true → All (λ (seat : Known). is_marked p seat.view.marks ≡ true) done
  pub notes : (word : ℕ) → AgreesWith word all.view.noted → All (λ (seat : Known). AgreesWith word seat.view.noted) done

agrees_parts : (word : ℕ) (xs ys : List ℕ) → AgreesWith word (xs ++ ys) → AgreesWith word xs × AgreesWith word ys
agrees_parts word [] ys a = (All-nil (λ m. (m ≡ word) × (m ≢ 0)), a)
agrees_parts word (x ∷ xs) ys a =
    let rest = agrees_parts word xs ys (All-tail (λ m. (m ≡ word) × (m ≢ 0)) x (xs ++ ys) a) in
    (All-cons (λ m. (m ≡ word) × (m ≢ 0)) x xs (All-head (λ m. (m ≡ word) × (m ≢ 0)) x (xs ++ ys) a) rest.0, rest.1)

seat_at : (seats rest done : List Known) (seat : Known) → (rest ++ seat ∷ []) ++ done ≡ seats → slice_get seats (length rest) ≡ Some seat
seat_at seats rest done seat e = ap (λ l. slice_get l (length rest)) (sym e ∙ append_assoc rest (seat ∷ []) done) ∙ get_at rest done seat

module _ (bell : BellId) (seats : List Known) (all_are : AreAll bell seats) where
  pub joins_first : (rest : List Known) (seat : Known) → seats ≡ rest ++ seat ∷ [] → Joining bell seats rest seat
  joins_first rest seat e =
      let a = all_are.each (length rest) seat (seat_at seats rest [] seat (append-nil (rest ++ seat ∷ []) ∙ sym e)) in
      let size : length seats ≡ length rest + 1 = ap length e ∙ length-append rest (seat ∷ []) in record {
        ours = a.0;
        peers = a.1;
        done = seat ∷ [];
        split = sym e;
        holds = λ p le lt. let is : length rest ≡ p = omega arith in subst (λ n. has n seat.view.marks ≡ true) is a.2;
        marks = λ p m. All-cons (λ (k : Known). is_marked p k.view.marks ≡ true) seat [] m (All-nil (λ (k : Known). is_marked p k.view.marks ≡ true));
        notes = λ w m. All-cons (λ (k : Known). AgreesWith w k.view.noted) seat [] m (All-nil (λ (k : Known). AgreesWith w k.view.noted));
      }

  pub next_is : (more rest : List Known) (seat all : Known) → Joining bell seats more all → more ≡ rest ++ seat ∷ [] → (seat.bell ≡ bell.table) × (seat.view.peers ≡ bell.peers) × (has (length rest) seat.view.marks ≡ true)
  next_is more rest seat all h e = all_are.each (length rest) seat (seat_at seats rest h.done seat (ap (λ l. l ++ h.done) (sym e) ∙ h.split))

  pub joins_next : (more rest : List Known) (seat all new : Known) → Joining bell seats more all → more ≡ rest ++ seat ∷ [] → new ≡ known all.bell all.number (joined all.view seat.view) → Joining bell seats rest new
  joins_next more rest seat all new h e is =
      let a = next_is more rest seat all h e in
      let size : length more ≡ length rest + 1 = ap length e ∙ length-append rest (seat ∷ []) in
      subst (λ y. Joining bell seats rest y) (sym is) (record {
        ours = h.ours;
        peers = h.peers;
        done = seat ∷ h.done;
        split = sym (append_assoc rest (seat ∷ []) h.done) ∙ ap (λ l. l ++ h.done) (sym e) ∙ h.split;
        holds = λ p le lt. has_append p all.view.marks seat.view.marks ∙ ⊎_elim
            (λ (later : length more ≤ p). or_left (has p all.view.marks) (has p seat.view.marks) (h.holds p later lt))
            (λ (here : length rest ≡ p). or_right (has p all.view.marks) (has p seat.view.marks) (subst (λ n. has n seat.view.marks ≡ true) here a.2))
            (⊎_elim (λ (x : length rest ≡ p). inr x) (λ (x : length rest ≡ p → ⊥). let le' : length more ≤ p = omega arith in inl le') (cases_eq (length rest) p));
        marks = λ p m. let b = marked_parts p all.view.marks seat.view.marks m in All-cons (λ (k : Known). is_marked p k.view.marks ≡ true) seat h.done b.1 (h.marks p b.0);
        notes = λ w m. let b = agrees_parts w all.view.noted seat.view.noted m in All-cons (λ (k : Known). AgreesWith w k.view.noted) seat h.done b.1 (h.notes w b.0);
      })

  pub settles : (word : ℕ) (rest : List Known) (all : Known) → Joining bell seats rest all → rest ≡ [] → word ≤ all.view.peers → ((n : ℕ) → word ≡ n + 1 → has n all.view.marks ≡ true → is_marked n all.view.marks ≡ true) → AgreesWith word all.view.noted → Settles word seats
  settles word rest all g none le marked noted = let h = subst (λ l. Joining bell seats l all) none g in record {
    noted = subst (All (λ (k : Known). AgreesWith word k.view.noted)) h.split (h.notes word noted);
    rung = λ p is.
        let lt : p < length seats = let q = h.peers in let c = all_are.count in omega arith in
        let m = subst (All (λ (k : Known). is_marked p k.view.marks ≡ true)) h.split (h.marks p (marked p is (h.holds p (omega arith) lt))) in
        ⊎_elim (λ (y : (x : Known) × (p < length seats) × (slice_get seats p ≡ Some x) × (get_or seats p x ≡ x)). (y.0, y.2, subst (λ (k : Known). is_marked p k.view.marks ≡ true) y.3 (m p y.0 lt)))
        (λ (y : (length seats ≤ p) × (slice_get seats p ≡ None)). absurd (let n = y.0 in omega arith)) (slice_get_cases seats p).1;
  }

  -- no peer, no seat
  pub settles_none : seats ≡ [] → Settles 0 seats
  settles_none e = record { noted = subst (All (λ (k : Known). AgreesWith 0 k.view.noted)) (sym e) (All-nil (λ (k : Known). AgreesWith 0 k.view.noted)); rung = λ p is. let no : 0 ≡ p + 1 = is in absurd (omega arith) }
