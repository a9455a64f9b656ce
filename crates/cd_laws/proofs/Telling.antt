-- Who is told of a loss elsewhere has a notice on its way.
use Rattle.std.proofs.Common.{◌≡◌, ℕ, ◌+◌, ◌<◌, ◌≤◌, Bool, true, false, ◌&&◌, not, cond, eqb, List, [], ◌∷◌, arith, refl, ap, sym, ◌∙◌, subst, inl, inr, ◌⊎◌}
use Rattle.std.specs.Prelude.{remove, Option, Some, None}
use Rattle.std.proofs.lemmas.Bool.Decides.{nat_tests}
use Rattle.cd_ledger.specs.declared.letters.Body.TheVariants as body
use Rattle.cd_names.specs.declared.names.Name.{Name}
use Rattle.cd_names.specs.declared.How.{How}
use Rattle.cd_contract.specs.declared.held.Hit.{Hit}
use Rattle.cd_ledger.specs.declared.items.Item.{Item}
use Rattle.cd_ledger.specs.declared.records.Record.{Record}
use Rattle.cd_ledger.specs.declared.records.Known.{Known}
use Rattle.cd_ledger.specs.declared.items.Outcome.{Outcome}
use Rattle.cd_ledger.specs.declared.items.Outcome.TheVariants.{Named, Subsumed, Trivial}
use Rattle.cd_ledger.specs.declared.letters.Body.{Body}
use Rattle.cd_ledger.specs.declared.letters.Letter.{Letter}
use Rattle.cd_ledger.specs.declared.events.Act.{Act}
use Rattle.cd_ledger.specs.declared.events.Act.TheVariants.{Admit, Declare, End, Keep, Pass, Receive, Reject, Rewrite, Work}
use Rattle.cd_ledger.specs.declared.local.Local.{Local}
use Rattle.cd_list.specs.Lists.{tally}
use Rattle.std.specs.List.{AllByRecursion as Each}
use Rattle.std.specs.List.{cons_option}
use Rattle.std.specs.Prelude.{is_some}
use Rattle.cd_read.specs.declared.problem.Problem.{Problem}
use Rattle.cd_names.specs.Names.{name_eq}
use Rattle.cd_ledger.specs.Records.{equations_of, is_of}
use Rattle.cd_machine.specs.Arrivals.{held, new_record, next_name}
use Rattle.cd_ledger.specs.Statuses.{is_held}
use Rattle.cd_machine.specs.Contraction.{hit_on, loss, lost, named_hit, notice, notice_of, notices, strike_one, struck, struck_by}
use Rattle.cd_machine.specs.Acts.{admitted_body, body_letters, broadcast, keep_letters, kept, resolution, taken, unshelved}
use Rattle.cd_machine.specs.Tokens.{passed}
use Rattle.cd_machine.specs.Events.{Found, acted, sent_by}
use Rattle.cd_machine.specs.Fits.{Fits, body_ready}
use Rattle.cd_laws.specs.Premises.{Premises}
use Rattle.cd_machine.specs.Spread.{known_times}
use Rattle.cd_laws.specs.Sound.{body_tells, status_told, tells, tells_to, unheld_times}
use Rattle.cd_laws.proofs.Lists.{Each_both, Each_map, Each_push, Each_weaker, and_true, some_of_tally, tally_append, tally_le, tally_map, tally_push, tally_put, tally_remove, tally_same}
use Rattle.cd_laws.proofs.Steps.{name_eq_refl, name_eq_true, received}
use Rattle.cd_laws.proofs.Strikes.{loss_told, resolution_held, resolution_told, resolve_each_case, resolve_entry, resolve_held, resolved_each, resolved_tally, strike_entry, strike_held}
use Rattle.cd_laws.proofs.Closure.{Keeps, acts_keep}
use Rattle.cd_laws.proofs.Spread.{IsNoReject}
use Rattle.cd_kbo.specs.declared.order.Order.{Order}

-- what isn't held stays so
unheld_strike : (n : Name) (me : ℕ) (hit : Known → Option How) (d : Name) (es : List Known) → tally (λ e. is_of n e && not (is_held e)) es ≤ tally (λ e. is_of n e && not (is_held e)) (struck me hit d es)
unheld_strike n me hit d es =
    let m = tally_map (λ e. is_of n e && not (is_held e)) (strike_one me hit d) es in
    let l = tally_le (λ e. is_of n e && not (is_held e)) (λ e. is_of n (strike_one me hit d e) && not (is_held (strike_one me hit d e)))
    (λ e g. rw (strike_held me hit d e, strike_entry me hit d e) (go (is_of n e) (is_held e) (is_some (hit_on hit e)) g)) es in
    omega (arith, m, l)
  where
    go : (a b c : Bool) → (a && not b) ≡ true → (a && not (b && not c)) ≡ true
    go true true c h = cc
    go true false c h = refl
    go false b c h = h

unheld_keeps : (order : Order) → (n : Name) (u : ℕ) → Keeps order (λ s. u ≤ unheld_times n s)
unheld_keeps order n u = record {
  frame = λ s w t x k m l v j h. h;
  taken = λ s place i o there h. (let e = resolved_tally (λ e. is_of n e && not (is_held e)) i.origin (resolution o (equations_of i.steps))
      (λ m e. rw (resolve_entry m (resolution o (equations_of i.steps)) e, resolve_held m (resolution o (equations_of i.steps)) e (resolution_held o (equations_of i.steps))) refl) s.known in omega (arith, e, h));
  lost = λ s hit d h. omega (arith, h, unheld_strike n s.me hit d s.known);
  joined = λ s r fresh calm h. omega (arith, h, tally_append (λ e. is_of n e && not (is_held e)) s.known (held r ∷ []));
  shelved = λ s r d w fresh h. omega (arith, h, tally_append (λ e. is_of n e && not (is_held e)) s.known (record { entry = r; status = loss s.me d w r } ∷ []));
  replaced = λ s place i j there same h. h;
  worked = λ s task y is h. h;
}

-- a notice strikes its name
unheld_noticed : (n : Name) (me : ℕ) (w : How) (d : Name) (es : List Known) → 0 < tally (is_of n) es → 0 < tally (λ e. is_of n e && not (is_held e)) (struck me (named_hit n w) d es)
unheld_noticed n me w d es h =
    let m = tally_map (λ e. is_of n e && not (is_held e)) (strike_one me (named_hit n w) d) es in
    let s = tally_same (λ e. is_of n (strike_one me (named_hit n w) d e) && not (is_held (strike_one me (named_hit n w) d e))) (is_of n)
    (λ e. rw (strike_held me (named_hit n w) d e, strike_entry me (named_hit n w) d e) (go (is_of n e) (is_held e))) es in
    omega (arith, m, s, h)
  where
    go : (a b : Bool) → (a && not (b && not (is_some (cond b (cond a (Some w) None) None)))) ≡ a
    go true true = refl
    go true false = refl
    go false b = refl

module _ (order : Order) (q : Premises order) (p : Problem) where
  -- at the owner: a notice that waits or comes is heard
  pub heard_here : (n : Name) (s : Local) (a : Act) (f : Found a) → Fits order p s a f → IsNoReject a → known_times (next_name s) s ≡ 0
      → 0 < tally (tells n) s.waiting + unheld_times n s + received (tells n) a → 0 < tally (tells n) (acted s a f).waiting + unheld_times n (acted s a f)
  heard_here n s a f fits fine fresh h = go a f fits fine h (acts_keep order q (λ t. unheld_times n s ≤ unheld_times n t) (unheld_keeps order n (unheld_times n s)) p s a f fits fresh (omega arith))
    where
      go : (a : Act) (f : Found a) → Fits order p s a f → IsNoReject a → 0 < tally (tells n) s.waiting + unheld_times n s + received (tells n) a → unheld_times n s ≤ unheld_times n (acted s a f)
          → 0 < tally (tells n) (acted s a f).waiting + unheld_times n (acted s a f)
      go (Rewrite k) f fits fine h u = omega (arith, h, u)
      go (Keep k) f fits fine h u = let w = same f.outcome in omega (arith, h, u, w)
        where
          same : (o : Outcome) → tally (tells n) (kept s k f.item o f.hit).waiting ≡ tally (tells n) s.waiting
          same (Named m) = refl
          same Trivial = refl
          same (Subsumed d) = refl
      go (Receive l) f fits fine h u = omega (arith, h, u, tally_push (tells n) s.waiting l)
      go (Admit k) f fits fine h u = gob f.letter.body f.forward fits.ready (tally_remove (tells n) s.waiting k f.letter fits.there) u
        where
          gob : (b : Body) (o : Option Hit) → body_ready s.known b ≡ true → tally (tells n) s.waiting ≡ tally (tells n) (remove s.waiting k) + cond (body_tells n b) 1 0
              → unheld_times n s ≤ unheld_times n (admitted_body (unshelved s k) b o f.hit) → 0 < tally (tells n) (admitted_body (unshelved s k) b o f.hit).waiting + unheld_times n (admitted_body (unshelved s k) b o f.hit)
          gob (body.Kept r) None y c u = omega (arith, h, c, u)
          gob (body.Kept r) (Some x) y c u = omega (arith, h, c, u)
          gob (body.Token t) o y c u = omega (arith, h, c, u)
          gob (body.Notice of by w) o y c u = told (name_eq of n) refl
            where
              told : (v : Bool) → name_eq of n ≡ v → 0 < tally (tells n) (remove s.waiting k) + unheld_times n (lost (unshelved s k) (named_hit of w) by)
              told true e =
                  let known = some_of_tally (is_of of) s.known (and_true _ _ y).0 in
                  let z = unheld_noticed of s.me w by s.known known in
                  let z' : 0 < tally (λ x. is_of n x && not (is_held x)) (struck s.me (named_hit of w) by s.known) = subst (λ (m : Name). 0 < tally (λ x. is_of m x && not (is_held x)) (struck s.me (named_hit of w) by s.known)) (name_eq_true of n e) z in
                  omega (arith, z')
              told false e = let c' : tally (tells n) s.waiting ≡ tally (tells n) (remove s.waiting k) + 0 = c ∙ rw e refl in omega (arith, c', u, h)
      go (Reject k) f fits fine h u = absurd fine
      go (Work t) f fits fine h u = omega (arith, h, u)
      go Pass f fits fine h u = let w = same (eqb s.peers 1) in omega (arith, h, u, w)
        where
          same : (b : Bool) → tally (tells n) (cond b (record s { token = Some (passed s.peers s.count f) }) (record s { token = None })).waiting ≡ tally (tells n) s.waiting
          same true = refl
          same false = refl
      go Declare f fits fine h u = omega (arith, h, u)
      go (End v) f fits fine h u = omega (arith, h, u)

-- a strike that tells sends the notice
strike_tells : (me time : ℕ) (hit : Known → Option How) (d : Name) (es : List Known)
    → Each (λ e. status_told (strike_one me hit d e).status ≡ true → (status_told e.status ≡ true) ⊎ (0 < tally (tells_to e.entry.name e.entry.owner) (notices me time hit d es))) es
strike_tells me time hit d [] = tt
strike_tells me time hit d (e ∷ es) = (go (hit_on hit e), Each_weaker _ _ (λ x f g. more x (f g)) es (strike_tells me time hit d es))
  where
    more : (x : Known) → (status_told x.status ≡ true) ⊎ (0 < tally (tells_to x.entry.name x.entry.owner) (notices me time hit d es)) → (status_told x.status ≡ true) ⊎ (0 < tally (tells_to x.entry.name x.entry.owner) (notices me time hit d (e ∷ es)))
    more x (inl a) = inl a
    more x (inr b) = inr (let t = tally_put (tells_to x.entry.name x.entry.owner) (notice_of me time d e.entry (hit_on hit e)) (notices me time hit d es) in omega (arith, b, t))

    go : (o : Option How) → status_told (struck_by me d e o).status ≡ true → (status_told e.status ≡ true) ⊎ (0 < tally (tells_to e.entry.name e.entry.owner) (cons_option (notice_of me time d e.entry o) (notices me time hit d es)))
    go None x = inl x
    go (Some h) x = inr (by (eqb e.entry.owner me) refl (sym (loss_told me d h e.entry) ∙ x))
      where
        by : (c : Bool) → eqb e.entry.owner me ≡ c → not (eqb e.entry.owner me) ≡ true → 0 < tally (tells_to e.entry.name e.entry.owner) (cons_option (cond c None (Some (notice me time d h e.entry))) (notices me time hit d es))
        by true y z = absurd (let f : not true ≡ true = ap not (sym y) ∙ z in let g : false ≡ true = f in cc)
        by false y z = let t : eqb e.entry.owner e.entry.owner ≡ true = grind (arith, nat_tests) in rw (t, name_eq_refl e.entry.name) (omega arith)

module _ (G : Name → ℕ → Type 0) where
  abbrev Tells : Known → Type 0
  Tells e = status_told e.status ≡ true → G e.entry.name e.entry.owner

  told_struck : (me time : ℕ) (hit : Known → Option How) (d : Name) (es : List Known) → Each Tells es
      → ((n : Name) (o : ℕ) → 0 < tally (tells_to n o) (notices me time hit d es) → G n o) → Each Tells (struck me hit d es)
  told_struck me time hit d es h g =
      Each_map Tells (strike_one me hit d) es
      (Each_weaker _ (λ e. Tells (strike_one me hit d e)) (λ e f x. rw (strike_entry me hit d e) (pick e (f.1 x) f.0)) es (Each_both Tells _ es h (strike_tells me time hit d es)))
    where
      pick : (e : Known) → (status_told e.status ≡ true) ⊎ (0 < tally (tells_to e.entry.name e.entry.owner) (notices me time hit d es)) → Tells e → G e.entry.name e.entry.owner
      pick e (inl a) t = t a
      pick e (inr b) t = g e.entry.name e.entry.owner b

  no_tell : (r : Record) → Tells (held r)
  no_tell r x = cc

  told_taken : (s : Local) (place : ℕ) (i : Item) (o : Outcome) → Each Tells s.known → Each Tells (taken s place i o).known
  told_taken s place i o h =
      let st = resolution o (equations_of i.steps) in
      resolved_each Tells i.origin st (λ m e f. resolve_each_case Tells m st e f (λ z x. absurd (let g : false ≡ true = sym (resolution_told o (equations_of i.steps)) ∙ x in cc))) s.known h

  told_keep : (s : Local) (k time : ℕ) (i : Item) (o : Outcome) (hit : Known → Option How) → Each Tells s.known → ((n : Name) (q : ℕ) → 0 < tally (tells_to n q) (keep_letters s time k i o hit) → G n q) → Each Tells (kept s k i o hit).known
  told_keep s k time i (Named m) hit h g =
      Each_push Tells (struck s.me hit (next_name s) (taken s k i (Named m)).known) (held (new_record s i))
      (told_struck s.me time hit (next_name s) (taken s k i (Named m)).known (told_taken s k i (Named m) h)
      (λ n q x. g n q (omega (arith, x, tally_append (tells_to n q) (broadcast s.me time (new_record s i) s.peers) (notices s.me time hit (next_name s) (taken s k i (Named m)).known))))) (no_tell (new_record s i))
  told_keep s k time i Trivial hit h g = told_taken s k i Trivial h
  told_keep s k time i (Subsumed d) hit h g = told_taken s k i (Subsumed d) h

  told_body : (s : Local) (time : ℕ) (b : Body) (o : Option Hit) (hit : Known → Option How) → Each Tells s.known → ((n : Name) (q : ℕ) → 0 < tally (tells_to n q) (body_letters s time b o hit) → G n q) → Each Tells (admitted_body s b o hit).known
  told_body s time (body.Kept r) None hit h g = Each_push Tells (struck s.me hit r.name s.known) (held r) (told_struck s.me time hit r.name s.known h g) (no_tell r)
  told_body s time (body.Kept r) (Some x) hit h g = Each_push Tells s.known (record { entry = r; status = loss s.me x.by x.how r }) h (one (eqb r.owner s.me) refl g)
    where
      one : (c : Bool) → eqb r.owner s.me ≡ c → ((n : Name) (q : ℕ) → 0 < tally (tells_to n q) (cons_option (cond c None (Some (notice s.me time x.by x.how r))) []) → G n q) → Tells (record { entry = r; status = loss s.me x.by x.how r })
      one true e g y = absurd (let f : not true ≡ true = ap not (sym e) ∙ sym (loss_told s.me x.by x.how r) ∙ y in let g : false ≡ true = f in cc)
      one false e g y = g r.name r.owner (let t : eqb r.owner r.owner ≡ true = grind (arith, nat_tests) in rw (t, name_eq_refl r.name) (omega arith))
  told_body s time (body.Notice of by w) o hit h g = told_struck s.me time (named_hit of w) by s.known h g
  told_body s time (body.Token t) o hit h g = h

  pub told_acted : (s : Local) (time : ℕ) (a : Act) (f : Found a) → Each Tells s.known → ((n : Name) (q : ℕ) → 0 < tally (tells_to n q) (sent_by s time a f) → G n q) → Each Tells (acted s a f).known
  told_acted s time (Rewrite k) f h g = h
  told_acted s time (Keep k) f h g = told_keep s k time f.item f.outcome f.hit h g
  told_acted s time (Receive l) f h g = h
  told_acted s time (Admit k) f h g = told_body (unshelved s k) time f.letter.body f.forward f.hit h (λ n q x. g n q (subst (λ (m : ℕ). 0 < m) (sym (same n q)) x))
    where
      same : (n : Name) (q : ℕ) → tally (tells_to n q) (body_letters s time f.letter.body f.forward f.hit) ≡ tally (tells_to n q) (body_letters (unshelved s k) time f.letter.body f.forward f.hit)
      same n q = gob f.letter.body f.forward
        where
          gob : (b : Body) (o : Option Hit) → tally (tells_to n q) (body_letters s time b o f.hit) ≡ tally (tells_to n q) (body_letters (unshelved s k) time b o f.hit)
          gob (body.Kept r) None = refl
          gob (body.Kept r) (Some x) = refl
          gob (body.Notice a b w) o = refl
          gob (body.Token t) o = refl
  told_acted s time (Reject k) f h g = h
  told_acted s time (Work t) f h g = h
  told_acted s time Pass f h g = elim (eqb s.peers 1) as (λ b. Each Tells (cond b (record s { token = Some (passed s.peers s.count f) }) (record s { token = None })).known) [ true ↦ h | false ↦ h ]
  told_acted s time Declare f h g = h
  told_acted s time (End v) f h g = h

pub sends_or_takes : (t : Letter → Bool) (s : Local) (time : ℕ) (a : Act) (f : Found a) → 0 < tally t (sent_by s time a f) → received t a ≡ 0
sends_or_takes t s time (Rewrite k) f h = refl
sends_or_takes t s time (Keep k) f h = refl
sends_or_takes t s time (Receive l) f h = absurd (omega (arith, h))
sends_or_takes t s time (Admit k) f h = refl
sends_or_takes t s time (Reject k) f h = refl
sends_or_takes t s time (Work u) f h = refl
sends_or_takes t s time Pass f h = refl
sends_or_takes t s time Declare f h = refl
sends_or_takes t s time (End v) f h = refl
