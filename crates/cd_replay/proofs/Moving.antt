-- An act on the first item of a state that owes nothing is the act on the item in a place of one that owes tasks.
use Rattle.std.proofs.Common.{◌≡◌, ℕ, zero, suc, ◌+◌, true, false, cond, eqb, List, [], ◌∷◌, ◌++◌, filter, refl, ap, sym, ◌∙◌, subst}
use Rattle.std.specs.Prelude.{Option, Some, None, insert, remove, slice_get, slice_set}
use Rattle.std.specs.List.{AllByRecursion as Each}
use Rattle.std.proofs.lemmas.List.{append-nil}
use Rattle.cd_acts.specs.Acts.{Does}
use Rattle.cd_alone.specs.Ready.{AreOnce}
use Rattle.cd_contract.specs.declared.held.Hit.{Hit}
use Rattle.cd_kbo.specs.declared.order.Order.{Order}
use Rattle.cd_laws.proofs.Strikes.{resolution_held}
use Rattle.cd_ledger.specs.Records.{equations_of}
use Rattle.cd_ledger.specs.declared.events.Act.TheVariants.{Admit, Keep, Reject, Rewrite}
use Rattle.cd_ledger.specs.declared.items.Item.{Item}
use Rattle.cd_ledger.specs.declared.items.Outcome.{Outcome}
use Rattle.cd_ledger.specs.declared.items.Outcome.TheVariants.{Named, Subsumed, Trivial}
use Rattle.cd_ledger.specs.declared.letters.Body.{Body}
use Rattle.cd_ledger.specs.declared.letters.Body.TheVariants as body
use Rattle.cd_ledger.specs.declared.letters.Letter.{Letter}
use Rattle.cd_ledger.specs.declared.local.Local.{Local}
use Rattle.cd_ledger.specs.declared.records.Known.{Known}
use Rattle.cd_list.proofs.Lists.{filter_all}
use Rattle.cd_machine.specs.Acts.{admitted_body, body_letters, keep_letters, kept, resolution, resolved, reworked, taken, unshelved}
use Rattle.cd_machine.specs.Arrivals.{held, new_record, next_name, tasks_of}
use Rattle.cd_machine.specs.Contraction.{loss, named_hit, struck}
use Rattle.cd_machine.specs.Fits.{BodyFine, BodyHits, IsAcceptable, KeepFits, KeepHits, OutcomeFits, RewriteFits}
use Rattle.cd_machine.specs.Tokens.{passed, passed_by}
use Rattle.cd_names.specs.declared.How.{How}
use Rattle.cd_names.specs.declared.waves.Token.{Token}
use Rattle.cd_read.specs.declared.problem.Problem.{Problem}
use Rattle.cd_tasks.specs.declared.Task.{Task}
use Rattle.cd_replay.specs.Replayed.{IsLiving, is_living, rejoined}
use Rattle.cd_replay.proofs.Living.{fresh_tasks, owed_left, owed_resolved, owed_struck}

-- the item in a place is first, and nothing is owed
abbrev pub brought : Local → ℕ → Item → Local
brought s place i = record s { pending = i ∷ remove s.pending place; owed = [] }

abbrev pub bare : Local → Local
bare s = record s { owed = [] }

-- ---- keep

abbrev settled_known : Local → Item → Outcome → List Known
settled_known s j o = resolved j.origin (resolution o (equations_of j.steps)) s.known

settled_living : (s : Local) (j : Item) (o : Outcome) → Each (IsLiving s.known) s.owed → Each (IsLiving (settled_known s j o)) s.owed
settled_living s j o living = owed_resolved j.origin (resolution o (equations_of j.steps)) (resolution_held o (equations_of j.steps)) s.known s.owed living

-- all of the tasks are still owed
all_owed : (es : List Known) (ts : List Task) → Each (IsLiving es) ts → filter (is_living es) ts ++ [] ≡ ts
all_owed es ts are = append-nil (filter (is_living es) ts) ∙ filter_all (is_living es) ts are

module _ (s : Local) (place : ℕ) (i : Item) where
  kept_rejoined : (j : Item) (o : Outcome) (hit : Known → Option How) → AreOnce (kept (brought s place i) 0 j o hit).known → Each (IsLiving s.known) s.owed
      → rejoined (kept (brought s place i) 0 j o hit) s.owed ≡ kept s place j o hit
  kept_rejoined j (Named n) hit once living =
      ap (λ (ts : List Task). record (kept s place j (Named n) hit) { owed = ts ++ tasks_of s.me (new_record s j) (struck s.me hit (next_name s) (settled_known s j (Named n))) })
      (owed_struck s.me hit (next_name s) (held (new_record s j) ∷ []) (settled_known s j (Named n)) s.owed once (settled_living s j (Named n) living))
  kept_rejoined j Trivial hit once living =
      ap (λ (ts : List Task). record (taken s place j Trivial) { owed = ts }) (all_owed (settled_known s j Trivial) s.owed (settled_living s j Trivial living))
  kept_rejoined j (Subsumed d) hit once living =
      ap (λ (ts : List Task). record (taken s place j (Subsumed d)) { owed = ts }) (all_owed (settled_known s j (Subsumed d)) s.owed (settled_living s j (Subsumed d) living))

  fresh_kept : (j : Item) (o : Outcome) (hit : Known → Option How) → Each (IsLiving (kept (brought s place i) 0 j o hit).known) (kept (brought s place i) 0 j o hit).owed
  fresh_kept j (Named n) hit = fresh_tasks s.me (new_record s j) (struck s.me hit (next_name s) (settled_known s j (Named n)))
  fresh_kept j Trivial hit = tt
  fresh_kept j (Subsumed d) hit = tt

  outcome_moves : (j : Item) (o : Outcome) → OutcomeFits (brought s place i) j o → OutcomeFits s j o
  outcome_moves j (Named n) h = h
  outcome_moves j Trivial h = h
  outcome_moves j (Subsumed d) h = h

  hits_move : (order : Order) (j : Item) (o : Outcome) (hit : Known → Option How) → KeepHits order (brought s place i) 0 j o hit → KeepHits order s place j o hit
  hits_move order j (Named n) hit h = h
  hits_move order j Trivial hit h = tt
  hits_move order j (Subsumed d) hit h = tt

  letters_move : (time : ℕ) (j : Item) (o : Outcome) (hit : Known → Option How) → keep_letters (brought s place i) time 0 j o hit ≡ keep_letters s time place j o hit
  letters_move time j (Named n) hit = refl
  letters_move time j Trivial hit = refl
  letters_move time j (Subsumed d) hit = refl

  module _ (there : slice_get s.pending place ≡ Some i) (order : Order) (p : Problem) (next : Local) (time : ℕ) (letters : List Letter) (d : Does order p (brought s place i) time (Keep 0) next letters) where
    keep_fits : KeepFits order s place d.found
    keep_fits = record {
      there = there ∙ d.fits.there;
      free = d.fits.free;
      irreducible = d.fits.irreducible;
      outcome = outcome_moves d.found.item d.found.outcome d.fits.outcome;
      hits = hits_move order d.found.item d.found.outcome d.found.hit d.fits.hits;
    }

    pub keep_moves : AreOnce next.known → Each (IsLiving s.known) s.owed → Does order p s time (Keep place) (rejoined next s.owed) letters
    keep_moves once living = record {
      found = d.found;
      fits = keep_fits;
      effect = ap (λ (t : Local). rejoined t s.owed) d.effect ∙ kept_rejoined d.found.item d.found.outcome d.found.hit (subst (λ (t : Local). AreOnce t.known) d.effect once) living;
      sends = d.sends ∙ letters_move time d.found.item d.found.outcome d.found.hit;
    }

    pub keep_fresh : Each (IsLiving next.known) next.owed
    keep_fresh = subst (λ (t : Local). Each (IsLiving t.known) t.owed) (sym d.effect) (fresh_kept d.found.item d.found.outcome d.found.hit)

-- ---- admit and reject

body_owed : (order : Order) (p : Problem) (s : Local) (owed : List Task) (sender : ℕ) (b : Body) → BodyFine order p s sender b → BodyFine order p (record s { owed = owed }) sender b
body_owed order p s owed sender (body.Kept r) h = record {
  unknown = h.unknown;
  issuer = h.issuer;
  owner = h.owner;
  shape = h.shape;
  behind_copy = h.behind_copy;
  cites = h.cites;
  share = h.share;
  leads = h.leads;
  tidy = h.tidy;
  fit = h.fit;
  no_tautology = h.no_tautology;
}
body_owed order p s owed sender (body.Notice of by w) h = h
body_owed order p s owed sender (body.Token t) h = h

pub fine_owed : (order : Order) (p : Problem) (s : Local) (owed : List Task) (l : Letter) → IsAcceptable order p s l → IsAcceptable order p (record s { owed = owed }) l
fine_owed order p s owed l h = (h.0, h.1, h.2, body_owed order p s owed l.sender l.body h.3)

module _ (s : Local) (place : ℕ) where
  admitted_rejoined : (b : Body) (f : Option Hit) (hit : Known → Option How) → AreOnce (admitted_body (unshelved (bare s) place) b f hit).known → Each (IsLiving s.known) s.owed
      → rejoined (admitted_body (unshelved (bare s) place) b f hit) s.owed ≡ admitted_body (unshelved s place) b f hit
  admitted_rejoined (body.Kept r) None hit once living =
      ap (λ (ts : List Task). record (admitted_body (unshelved s place) (body.Kept r) None hit) { owed = ts ++ tasks_of s.me r (struck s.me hit r.name s.known) })
      (owed_struck s.me hit r.name (held r ∷ []) s.known s.owed once living)
  admitted_rejoined (body.Kept r) (Some h) hit once living =
      ap (λ (ts : List Task). record (admitted_body (unshelved s place) (body.Kept r) (Some h) hit) { owed = ts })
      (all_owed (s.known ++ record { entry = r; status = loss s.me h.by h.how r } ∷ []) s.owed (owed_left s.known (record { entry = r; status = loss s.me h.by h.how r } ∷ []) s.owed living))
  admitted_rejoined (body.Notice of by h) f hit once living =
      ap (λ (ts : List Task). record (admitted_body (unshelved s place) (body.Notice of by h) f hit) { owed = ts })
      (append-nil (filter (is_living (struck s.me (named_hit of h) by s.known)) s.owed)
      ∙ ap (λ (es : List Known). filter (is_living es) s.owed) (sym (append-nil (struck s.me (named_hit of h) by s.known)))
      ∙ owed_struck s.me (named_hit of h) by [] s.known s.owed (subst AreOnce (sym (append-nil (struck s.me (named_hit of h) by s.known))) once) living)
  admitted_rejoined (body.Token t) f hit once living =
      ap (λ (ts : List Task). record (admitted_body (unshelved s place) (body.Token t) f hit) { owed = ts }) (all_owed s.known s.owed living)

  fresh_admitted : (b : Body) (f : Option Hit) (hit : Known → Option How) → Each (IsLiving (admitted_body (unshelved (bare s) place) b f hit).known) (admitted_body (unshelved (bare s) place) b f hit).owed
  fresh_admitted (body.Kept r) None hit = fresh_tasks s.me r (struck s.me hit r.name s.known)
  fresh_admitted (body.Kept r) (Some h) hit = tt
  fresh_admitted (body.Notice of by h) f hit = tt
  fresh_admitted (body.Token t) f hit = tt

  hits_same : (order : Order) (b : Body) (f : Option Hit) (hit : Known → Option How) → BodyHits order (bare s) b f hit → BodyHits order s b f hit
  hits_same order (body.Kept r) f hit h = h
  hits_same order (body.Notice of by w) f hit h = h
  hits_same order (body.Token t) f hit h = h

  letters_same : (time : ℕ) (b : Body) (f : Option Hit) (hit : Known → Option How) → body_letters (bare s) time b f hit ≡ body_letters s time b f hit
  letters_same time (body.Kept r) None hit = refl
  letters_same time (body.Kept r) (Some h) hit = refl
  letters_same time (body.Notice of by h) f hit = refl
  letters_same time (body.Token t) f hit = refl

  module _ (order : Order) (p : Problem) (next : Local) (time : ℕ) (letters : List Letter) (d : Does order p (bare s) time (Admit place) next letters) where
    pub admit_moves : AreOnce next.known → Each (IsLiving s.known) s.owed → Does order p s time (Admit place) (rejoined next s.owed) letters
    admit_moves once living = record {
      found = d.found;
      fits = record {
        there = d.fits.there;
        ready = d.fits.ready;
        fine = fine_owed order p (bare s) s.owed d.found.letter d.fits.fine;
        hits = hits_same order d.found.letter.body d.found.forward d.found.hit d.fits.hits;
      };
      effect = ap (λ (t : Local). rejoined t s.owed) d.effect ∙ admitted_rejoined d.found.letter.body d.found.forward d.found.hit (subst (λ (t : Local). AreOnce t.known) d.effect once) living;
      sends = d.sends ∙ letters_same time d.found.letter.body d.found.forward d.found.hit;
    }

    pub admit_fresh : Each (IsLiving next.known) next.owed
    admit_fresh = subst (λ (t : Local). Each (IsLiving t.known) t.owed) (sym d.effect) (fresh_admitted d.found.letter.body d.found.forward d.found.hit)

  pub reject_moves : (order : Order) (p : Problem) (next : Local) (time : ℕ) (letters : List Letter) → Does order p (bare s) time (Reject place) next letters → Does order p s time (Reject place) (record next { owed = s.owed }) letters
  reject_moves order p next time letters d = record {
    found = d.found;
    fits = record { there = d.fits.there; ready = d.fits.ready; bad = λ h. d.fits.bad (fine_owed order p s [] d.found h) };
    effect = ap (λ (t : Local). record t { owed = s.owed }) d.effect;
    sends = d.sends;
  }

-- ---- rewrite

insert_removed : {A : Type 0} (xs : List A) (k : ℕ) (x y : A) → slice_get xs k ≡ Some x → insert (remove xs k) k y ≡ slice_set xs k y
insert_removed [] k x y h = absurd cc
insert_removed (z ∷ xs) zero x y h = refl
insert_removed {A} (z ∷ xs) (suc k) x y h = ap (λ (ys : List A). z ∷ ys) (insert_removed xs k x y h)

module _ (s : Local) (place : ℕ) (i : Item) (there : slice_get s.pending place ≡ Some i) (order : Order) (p : Problem) (next : Local) (time : ℕ) (letters : List Letter)
    (d : Does order p (brought s place i) time (Rewrite 0) next letters) where
  rewrite_fits : RewriteFits order s place d.found
  rewrite_fits = record { there = there ∙ d.fits.there; rewriter = d.fits.rewriter; reduces = d.fits.reduces; within = d.fits.within; tidy = d.fits.tidy; left = d.fits.left }

  pub rewritten_first : next.pending ≡ reworked d.found ∷ remove s.pending place
  rewritten_first = ap (λ (t : Local). t.pending) d.effect

  pub rewrite_moves : Does order p s time (Rewrite place) (record next { pending = insert (remove s.pending place) place (reworked d.found); owed = s.owed }) letters
  rewrite_moves = record {
    found = d.found;
    fits = rewrite_fits;
    effect = ap (λ (t : Local). record t { pending = insert (remove s.pending place) place (reworked d.found); owed = s.owed }) d.effect
        ∙ ap (λ (is : List Item). record s { pending = is; units = s.units + 1 }) (insert_removed s.pending place i (reworked d.found) there);
    sends = d.sends;
  }

-- ---- pass

pub passed_owed : (s : Local) (t : Token) → ((passed_by s t).owed ≡ s.owed) × ((passed_by s t).known ≡ s.known)
passed_owed s t =
    elim (eqb s.peers 1) as (λ b. ((cond b (record s { token = Some (passed s.peers s.count t) }) (record s { token = None })).owed ≡ s.owed)
    × ((cond b (record s { token = Some (passed s.peers s.count t) }) (record s { token = None })).known ≡ s.known)) [ true ↦ (refl, refl) | false ↦ (refl, refl) ]
